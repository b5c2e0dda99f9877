-- What holds of a reader and the form that it reads.
use Rattle.std.proofs.Common.{◌≡◌, ℕ, Bool, true, List, [], ◌∷◌, ◌++◌, length, refl, sym, ap, ◌∙◌, subst, append_assoc}
use Rattle.std.specs.Prelude.{Ok, Err}
use Rattle.std.proofs.lemmas.List.{append_cancel_right}
use Rattle.cql_tokens.specs.Tokens.{Meaning}
use Rattle.cql_parser.specs.Forms.{Terminal}
use Rattle.cql_parser.specs.Reading.{Read, ◌>>=◌, starts}
use Rattle.cql_parser.proofs.Splits.{Split, split, cons_head}
use Rattle.cql_parser.proofs.Splits.Split.{Same, FirstLonger, SecondLonger}

-- at the end, or at one of these tokens
abbrev pub follows : List Terminal → List Meaning → Bool
follows terminals [] = true
follows terminals (t ∷ ts) = starts terminals (t ∷ ts)

-- nothing goes on with the next token
abbrev pub Stuck : {A : Type 0} → (List Meaning → A → Type 0) → List Meaning → List Meaning → Type 0
Stuck {A} Is front rest = (t : Meaning) (tail more : List Meaning) (v : A) → rest ≡ t ∷ tail → Is (front ++ t ∷ more) v → ⊥

pub record Good {A : Type 0} (Is : List Meaning → A → Type 0) (ts : List Meaning) (v : A) (rest : List Meaning) : Type 0 where
  pub front : List Meaning
  pub cut : ts ≡ front ++ rest
  pub has : Is front v
  pub stuck : Stuck Is front rest

pub record Bad {A : Type 0} (Is : List Meaning → A → Type 0) (ts : List Meaning) (left : ℕ) : Type 0 where
  pub front : List Meaning
  pub rest : List Meaning
  pub cut : ts ≡ front ++ rest
  pub count : length rest ≡ left
  pub more : List Meaning
  pub value : A
  pub viable : Is (front ++ more) value
  pub stuck : Stuck Is front rest

abbrev pub Outcome : {A : Type 0} → (List Meaning → A → Type 0) → List Meaning → Read A → Type 0
Outcome Is ts (Ok x) = Good Is ts x.0 x.1
Outcome Is ts (Err left) = Bad Is ts left

pub record Law {A : Type 0} (Is : List Meaning → A → Type 0) (reader : List Meaning → Read A) (after : List Terminal) : Type 0 where
  pub complete : (front rest : List Meaning) (v : A) → Is front v → follows after rest ≡ true → reader (front ++ rest) ≡ Ok (v, rest)
  pub outcome : (ts : List Meaning) → Outcome Is ts (reader ts)

-- what is read stops where it does
pub stuck_at : {A : Type 0} {Is : List Meaning → A → Type 0} {reader : List Meaning → Read A} {after : List Terminal} → Law Is reader after
    → (front rest : List Meaning) (v : A) → Is front v → follows after rest ≡ true → Stuck Is front rest
stuck_at {A} {Is} {reader} {after} law front rest v is ok =
    let good : Good Is (front ++ rest) v rest = subst (λ (r : Read A). Outcome Is (front ++ rest) r) (law.complete front rest v is ok) (law.outcome (front ++ rest)) in
    subst (λ (l : List Meaning). Stuck Is l rest) (sym (append_cancel_right front good.front rest good.cut)) good.stuck

-- ---- one and then another

abbrev pub Both : {A B : Type 0} → (List Meaning → A → Type 0) → (List Meaning → B → Type 0) → List Meaning → A × B → Type 0
Both P Q ts v = (front : List Meaning) × (rest : List Meaning) × (ts ≡ front ++ rest) × P front v.0 × Q rest v.1

-- a token that begins a list behind the same front
same_head : (front more tail w : List Meaning) (t h : Meaning) → front ++ t ∷ more ≡ h ∷ w → (rest : List Meaning) × (front ++ t ∷ tail ≡ h ∷ rest)
same_head [] more tail w t h e = (tail, ap (λ (m : Meaning). m ∷ tail) (cons_head e))
same_head (x ∷ front) more tail w t h e = (front ++ t ∷ tail, ap (λ (m : Meaning). m ∷ (front ++ t ∷ tail)) (cons_head e))

shift : (a : List Meaning) (h : Meaning) (c w : List Meaning) → (a ++ h ∷ c) ++ w ≡ a ++ h ∷ (c ++ w)
shift a h c w = append_assoc a (h ∷ c) w

module _ {A B : Type 0} (P : List Meaning → A → Type 0) (Q : List Meaning → B → Type 0) (reader : List Meaning → Read A) (after : List Terminal)
    (law : Law P reader after) (heads : (h : Meaning) (x y : List Meaning) (v : B) → Q (h ∷ x) v → starts after (h ∷ y) ≡ true) where
  pub stuck_behind : (front us rest rest1 : List Meaning) (v : A) → P front v → Stuck P front rest1 → rest1 ≡ us ++ rest → Stuck Q us rest
      → Stuck (Both P Q) (front ++ us) rest
  stuck_behind front us rest rest1 v is stuck cut later t tail more w at d =
      go (split front (us ++ t ∷ more) d.0 d.1 (sym (append_assoc front us (t ∷ more)) ∙ d.2))
    where
      go : Split front (us ++ t ∷ more) d.0 d.1 → ⊥
      go (Same p q) = later t tail more w.1 at (subst (λ (l : List Meaning). Q l w.1) (sym q) d.4)
      go (FirstLonger h c p q) =
          stuck_at law d.0 (h ∷ (c ++ (us ++ t ∷ more))) w.0 d.3 (heads h (c ++ (us ++ t ∷ more)) (c ++ (us ++ t ∷ more)) w.1 (subst (λ (l : List Meaning). Q l w.1) q d.4))
          h (c ++ (us ++ t ∷ more)) c v refl (subst (λ (l : List Meaning). P l v) p is)
      go (SecondLonger h c p q) =
          let same = same_head us more tail (c ++ d.1) t h q in
          stuck h same.0 c w.0 (cut ∙ ap (λ (l : List Meaning). us ++ l) at ∙ same.1) (subst (λ (l : List Meaning). P l w.0) p d.3)

  pub stuck_within : (front rest more1 : List Meaning) (v : A) (left : ℕ) → reader (front ++ rest) ≡ Err left → P (front ++ more1) v → Stuck P front rest
      → Stuck (Both P Q) front rest
  stuck_within front rest more1 v left bad viable stuck t tail more w at d =
      go (split front (t ∷ more) d.0 d.1 d.2)
    where
      go : Split front (t ∷ more) d.0 d.1 → ⊥
      go (Same p q) =
          let is : P front w.0 = subst (λ (l : List Meaning). P l w.0) (sym p) d.3 in
          let ok : follows after rest ≡ true = ap (follows after) at ∙ heads t more tail w.1 (subst (λ (l : List Meaning). Q l w.1) (sym q) d.4) in
          absurd (cc (law.complete front rest w.0 is ok, bad))
      go (FirstLonger h c p q) =
          stuck_at law d.0 (h ∷ (c ++ t ∷ more)) w.0 d.3 (heads h (c ++ t ∷ more) (c ++ t ∷ more) w.1 (subst (λ (l : List Meaning). Q l w.1) q d.4))
          h (c ++ t ∷ more) (c ++ more1) v refl
          (subst (λ (l : List Meaning). P l v) (ap (λ (l : List Meaning). l ++ more1) p ∙ shift d.0 h c more1) viable)
      go (SecondLonger h c p q) =
          stuck t tail c w.0 at (subst (λ (l : List Meaning). P l w.0) (p ∙ ap (λ (m : Meaning). front ++ m ∷ c) (sym (cons_head q))) d.3)

  pub both_outcome : (next : List Meaning → Read B) (ts sample : List Meaning) (sv : B) → Q sample sv
      → ((us front : List Meaning) (v : A) → ts ≡ front ++ us → P front v → Outcome Q us (next us))
      → Outcome (Both P Q) ts (reader ts >>= λ x. next x.1 >>= λ y. Ok ((x.0, y.0), y.1))
  both_outcome next ts sample sv sq later = go (reader ts) refl (law.outcome ts)
    where
      second : (x : A × List Meaning) → Good P ts x.0 x.1 → (r : Read B) → Outcome Q x.1 r → Outcome (Both P Q) ts (r >>= λ y. Ok ((x.0, y.0), y.1))
      second x good (Ok y) ok = record {
        front = good.front ++ ok.front;
        cut = good.cut ∙ ap (λ (l : List Meaning). good.front ++ l) ok.cut ∙ sym (append_assoc good.front ok.front y.1);
        has = (good.front, ok.front, refl, good.has, ok.has);
        stuck = stuck_behind good.front ok.front y.1 x.1 x.0 good.has good.stuck ok.cut ok.stuck;
      }
      second x good (Err left) bad = record {
        front = good.front ++ bad.front;
        rest = bad.rest;
        cut = good.cut ∙ ap (λ (l : List Meaning). good.front ++ l) bad.cut ∙ sym (append_assoc good.front bad.front bad.rest);
        count = bad.count;
        more = bad.more;
        value = (x.0, bad.value);
        viable = (good.front, bad.front ++ bad.more, append_assoc good.front bad.front bad.more, good.has, bad.viable);
        stuck = stuck_behind good.front bad.front bad.rest x.1 x.0 good.has good.stuck bad.cut bad.stuck;
      }

      go : (r : Read A) → reader ts ≡ r → Outcome P ts r → Outcome (Both P Q) ts (r >>= λ x. next x.1 >>= λ y. Ok ((x.0, y.0), y.1))
      go (Ok x) e good = second x good (next x.1) (later x.1 good.front x.0 good.cut good.has)
      go (Err left) e bad = record {
        front = bad.front;
        rest = bad.rest;
        cut = bad.cut;
        count = bad.count;
        more = bad.more ++ sample;
        value = (bad.value, sv);
        viable = (bad.front ++ bad.more, sample, sym (append_assoc bad.front bad.more sample), bad.viable, sq);
        stuck = stuck_within bad.front bad.rest bad.more bad.value left (ap reader (sym bad.cut) ∙ e) bad.viable bad.stuck;
      }

-- ---- what is made of another value

abbrev pub MadeOf : {A B : Type 0} → (A → B) → (List Meaning → A → Type 0) → List Meaning → B → Type 0
MadeOf {A} made P ts v = (part : A) × P ts part × (v ≡ made part)

pub made_outcome : {A B : Type 0} (made : A → B) (P : List Meaning → A → Type 0) (ts : List Meaning) (r : Read A)
    → Outcome P ts r → Outcome (MadeOf made P) ts (r >>= λ x. Ok (made x.0, x.1))
made_outcome made P ts (Ok x) good = record {
  front = good.front;
  cut = good.cut;
  has = (x.0, good.has, refl);
  stuck = λ t tail more v at d. good.stuck t tail more d.0 at d.1;
}
made_outcome made P ts (Err left) bad = record {
  front = bad.front;
  rest = bad.rest;
  cut = bad.cut;
  count = bad.count;
  more = bad.more;
  value = made bad.value;
  viable = (bad.value, bad.viable, refl);
  stuck = λ t tail more v at d. bad.stuck t tail more d.0 at d.1;
}

-- ---- the same under another name, where it has tokens

pub same_outcome : {A : Type 0} (P Q : List Meaning → A → Type 0) (ts : List Meaning) (r : Read A)
    → ((us : List Meaning) (v : A) → P us v → Q us v)
    → ((front : List Meaning) (t : Meaning) (tail more : List Meaning) (v : A) → ts ≡ front ++ t ∷ tail → Q (front ++ t ∷ more) v → P (front ++ t ∷ more) v)
    → Outcome P ts r → Outcome Q ts r
same_outcome P Q ts (Ok x) to back good = record {
  front = good.front;
  cut = good.cut;
  has = to good.front x.0 good.has;
  stuck = λ t tail more v at d. good.stuck t tail more v at (back good.front t tail more v (good.cut ∙ ap (λ (l : List Meaning). good.front ++ l) at) d);
}
same_outcome P Q ts (Err left) to back bad = record {
  front = bad.front;
  rest = bad.rest;
  cut = bad.cut;
  count = bad.count;
  more = bad.more;
  value = bad.value;
  viable = to (bad.front ++ bad.more) bad.value bad.viable;
  stuck = λ t tail more v at d. bad.stuck t tail more v at (back bad.front t tail more v (bad.cut ∙ ap (λ (l : List Meaning). bad.front ++ l) at) d);
}
