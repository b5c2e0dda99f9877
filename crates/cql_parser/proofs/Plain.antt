-- Forms that one token ahead tells apart, and that their reading is right.
use Rattle.std.proofs.Common.{◌≡◌, inl, inr, ℕ, zero, suc, ◌≤◌, Bool, true, false, cond, not, ◌&&◌, eq-eqb, List, [], ◌∷◌, ◌++◌, length, map, refl, sym, ap, ◌∙◌, subst, append_assoc, length-append, arith}
use Rattle.std.specs.Prelude.{Ok, Err, codes}
use Rattle.std.specs.Char.{to_ascii_lowercase}
use Rattle.std.proofs.lemmas.Slice.Eq.{bytes_eq-Decides}
use Rattle.cql_tokens.specs.Tokens.{Meaning}
use Rattle.cql_tokens.specs.declared.token.TokenKind.TheVariants as kinds
use Rattle.cql_parser.specs.Forms.{Terminal, Form, Derives, AreMany, accepts}
use Rattle.cql_parser.specs.Forms.Terminal.{Word, Symbol, Name, NameBut, TypeWord}
use Rattle.cql_parser.specs.Forms.Form.{Token, Nothing, Then, Or, Many, Made}
use Rattle.cql_parser.specs.Reading.{Read, ◌>>=◌, read, token_at, mapped, starts, firsts, is_nullable, many_at}
use Rattle.cql_parser.proofs.Splits.{cons_head, cons_tail, no_cons}
use Rattle.cql_parser.proofs.Heads.{both_left, both_right, is_false, not_both, starts_nothing, starts_front, starts_behind, nothing_derives, first_derives, many_first}
use Rattle.cql_parser.proofs.Rules.{follows, Outcome, Law, Both, both_outcome, MadeOf, made_outcome, same_outcome}
use Rattle.cql_parser.proofs.Apart.{all_apart, lists_apart, no_start}

-- what may stand where a form and then something begins
abbrev pub firsts_then : {A : Type 0} → Form A → List Terminal → List Terminal
firsts_then f after = firsts f ++ cond (is_nullable f) after []

-- one token ahead tells what to read
abbrev pub plain : {A : Type 0} → Form A → List Terminal → Bool
plain (Token terminal) after = true
plain Nothing after = true
plain (Then f g) after = plain f (firsts g ++ cond (is_nullable g) after []) && plain g after
plain (Or f g) after = (not (is_nullable f) && all_apart (firsts f) (firsts g ++ cond (is_nullable g) after [])) && (plain f after && plain g after)
plain (Many f) after = (not (is_nullable f) && all_apart (firsts f) after) && plain f (firsts f ++ after)
plain (Made made f) after = plain f after

pub follows_form : {A : Type 0} (f : Form A) (after : List Terminal) (front rest : List Meaning) (v : A) → Derives f front v → follows after rest ≡ true
    → follows (firsts_then f after) (front ++ rest) ≡ true
follows_form f after [] [] v d h = refl
follows_form f after [] (t ∷ rest) v d h =
    ap (λ (b : Bool). starts (firsts f ++ cond b after []) (t ∷ rest)) (nothing_derives f v d) ∙ starts_behind (firsts f) after (t ∷ rest) h
follows_form f after (t ∷ front) rest v d h = starts_front (firsts f) (cond (is_nullable f) after []) (t ∷ (front ++ rest)) (first_derives f t front (front ++ rest) v d)

-- ---- each form has tokens

sample_token : (terminal : Terminal) → (t : Meaning) × (accepts terminal t ≡ true)
sample_token (Word w) = (record { kind = kinds.Word; word = w }, (bytes_eq-Decides (map to_ascii_lowercase w) (map to_ascii_lowercase w)).1 refl)
sample_token (Symbol kind) = (record { kind = kind; word = [] }, eq-eqb _ _ refl)
sample_token Name = (record { kind = kinds.QuotedName; word = [] }, refl)
sample_token (NameBut w) = (record { kind = kinds.QuotedName; word = [] }, refl)
sample_token TypeWord = (record { kind = kinds.Word; word = codes "int" }, refl)

pub sample : {A : Type 0} (f : Form A) → (ts : List Meaning) × (v : A) × Derives f ts v
sample (Token terminal) = let t = sample_token terminal in (t.0 ∷ [], t.0, (refl, t.1))
sample Nothing = ([], tt, refl)
sample (Then f g) = let a = sample f in let b = sample g in (a.0 ++ b.0, (a.1, b.1), (a.0, b.0, refl, a.2, b.2))
sample (Or f g) = let a = sample f in (a.0, a.1, inl a.2)
sample (Many f) = ([], [], refl)
sample (Made made f) = let a = sample f in (a.0, made a.1, (a.1, a.2, refl))

-- ---- one token

token_law : (terminal : Terminal) (after : List Terminal) → Law (λ ts v. Derives (Token terminal) ts v) (token_at terminal) after
token_law terminal after = record { complete = complete; outcome = outcome }
  where
    found : (t : Meaning) (ts : List Meaning) → accepts terminal t ≡ true → token_at terminal (t ∷ ts) ≡ Ok (t, ts)
    found t ts e = ap (λ (b : Bool). cond b (Ok (t, ts)) (Err (suc (length ts)))) e

    complete : (front rest : List Meaning) (v : Meaning) → Derives (Token terminal) front v → follows after rest ≡ true → token_at terminal (front ++ rest) ≡ Ok (v, rest)
    complete front rest v d h = ap (λ (l : List Meaning). token_at terminal (l ++ rest)) d.0 ∙ found v rest d.1

    nothing_more : (t : Meaning) (tail more : List Meaning) (v : Meaning) → [] ≡ t ∷ tail → ⊥
    nothing_more t tail more v e = no_cons (sym e)

    outcome : (ts : List Meaning) → Outcome (λ us v. Derives (Token terminal) us v) ts (token_at terminal ts)
    outcome [] = let t = sample_token terminal in record {
      front = [];
      rest = [];
      cut = refl;
      count = refl;
      more = t.0 ∷ [];
      value = t.0;
      viable = (refl, t.1);
      stuck = λ t tail more v at d. no_cons (sym at);
    }
    outcome (t ∷ ts) = go (accepts terminal t) refl
      where
        go : (b : Bool) → accepts terminal t ≡ b → Outcome (λ us v. Derives (Token terminal) us v) (t ∷ ts) (cond b (Ok (t, ts)) (Err (suc (length ts))))
        go true e = record {
          front = t ∷ [];
          cut = refl;
          has = (refl, e);
          stuck = λ u tail more v at d. no_cons (cons_tail d.0);
        }
        go false e = let s = sample_token terminal in record {
          front = [];
          rest = t ∷ ts;
          cut = refl;
          count = refl;
          more = s.0 ∷ [];
          value = s.0;
          viable = (refl, s.1);
          stuck = λ u tail more v at d. not_both (accepts terminal t) (ap (accepts terminal) (cons_head at ∙ cons_head d.0) ∙ d.1) e;
        }

nothing_law : (after : List Terminal) → Law (λ ts v. Derives Nothing ts v) (read Nothing) after
nothing_law after = record {
  complete = λ front rest v d h. ap (λ (l : List Meaning). read Nothing (l ++ rest)) d;
  outcome = λ ts. record { front = []; cut = refl; has = refl; stuck = λ t tail more v at d. no_cons d };
}

-- ---- one form and then another

then_law : {A B : Type 0} (f : Form A) (g : Form B) (after : List Terminal) → Law (Derives f) (read f) (firsts_then g after) → Law (Derives g) (read g) after
    → Law (λ ts v. Derives (Then f g) ts v) (read (Then f g)) after
then_law {A} {B} f g after first second = record { complete = complete; outcome = outcome }
  where
    heads : (h : Meaning) (x y : List Meaning) (v : B) → Derives g (h ∷ x) v → starts (firsts_then g after) (h ∷ y) ≡ true
    heads h x y v d = starts_front (firsts g) (cond (is_nullable g) after []) (h ∷ y) (first_derives g h x y v d)

    complete : (front rest : List Meaning) (v : A × B) → Derives (Then f g) front v → follows after rest ≡ true → read (Then f g) (front ++ rest) ≡ Ok (v, rest)
    complete front rest v d h =
        ap (read (Then f g)) (ap (λ (l : List Meaning). l ++ rest) d.2 ∙ append_assoc d.0 d.1 rest)
        ∙ ap (λ (r : Read A). r >>= λ x. read g x.1 >>= λ y. Ok ((x.0, y.0), y.1)) (first.complete d.0 (d.1 ++ rest) v.0 d.3 (follows_form g after d.1 rest v.1 d.4 h))
        ∙ ap (λ (r : Read B). r >>= λ y. Ok ((v.0, y.0), y.1)) (second.complete d.1 rest v.1 d.4 h)

    outcome : (ts : List Meaning) → Outcome (λ us v. Derives (Then f g) us v) ts (read (Then f g) ts)
    outcome ts = let s = sample g in
        both_outcome (Derives f) (Derives g) (read f) (firsts_then g after) first heads (read g) ts s.0 s.1 s.2 (λ us front v cut is. second.outcome us)

-- ---- one form or another

first_any : {A : Type 0} (f : Form A) (front : List Meaning) (t : Meaning) (tail more : List Meaning) (v : A) → Derives f (front ++ t ∷ more) v
    → starts (firsts f) (front ++ t ∷ tail) ≡ true
first_any f [] t tail more v d = first_derives f t more tail v d
first_any f (x ∷ front) t tail more v d = first_derives f x (front ++ t ∷ more) (front ++ t ∷ tail) v d

any_apart : (xs ys : List Terminal) (ts : List Meaning) → all_apart xs ys ≡ true → starts xs ts ≡ true → starts ys ts ≡ true → ⊥
any_apart xs ys [] p e f = not_both _ e (starts_nothing xs)
any_apart xs ys (t ∷ ts) p e f = lists_apart xs ys t ts p e f

or_law : {A : Type 0} (f g : Form A) (after : List Terminal) → is_nullable f ≡ false → all_apart (firsts f) (firsts_then g after) ≡ true
    → Law (Derives f) (read f) after → Law (Derives g) (read g) after → Law (λ ts v. Derives (Or f g) ts v) (read (Or f g)) after
or_law {A} f g after some free first second = record { complete = complete; outcome = outcome }
  where
    left : (ts : List Meaning) → starts (firsts f) ts ≡ true → read (Or f g) ts ≡ read f ts
    left ts e = ap (λ (b : Bool). cond b (read f ts) (read g ts)) e

    right : (ts : List Meaning) → starts (firsts f) ts ≡ false → read (Or f g) ts ≡ read g ts
    right ts e = ap (λ (b : Bool). cond b (read f ts) (read g ts)) e

    by_first : (front rest : List Meaning) (v : A) → Derives f front v → follows after rest ≡ true → read (Or f g) (front ++ rest) ≡ Ok (v, rest)
    by_first [] rest v d h = absurd (not_both _ (nothing_derives f v d) some)
    by_first (t ∷ front) rest v d h = left (t ∷ (front ++ rest)) (first_derives f t front (front ++ rest) v d) ∙ first.complete (t ∷ front) rest v d h

    complete : (front rest : List Meaning) (v : A) → Derives (Or f g) front v → follows after rest ≡ true → read (Or f g) (front ++ rest) ≡ Ok (v, rest)
    complete front rest v (inl d) h = by_first front rest v d h
    complete front rest v (inr d) h =
        right (front ++ rest) (no_start (firsts f) (firsts_then g after) (front ++ rest) free (follows_form g after front rest v d h))
        ∙ second.complete front rest v d h

    outcome : (ts : List Meaning) → Outcome (λ us v. Derives (Or f g) us v) ts (read (Or f g) ts)
    outcome ts = go (starts (firsts f) ts) refl
      where
        go : (b : Bool) → starts (firsts f) ts ≡ b → Outcome (λ us v. Derives (Or f g) us v) ts (cond b (read f ts) (read g ts))
        go true e = same_outcome (Derives f) (λ us v. Derives (Or f g) us v) ts (read f ts) (λ us v d. inl d)
            (λ front t tail more v at d. elim d [
              | inl is ↦ is
              | inr other ↦ absurd (any_apart (firsts f) (firsts_then g after) (front ++ t ∷ tail) free (ap (starts (firsts f)) (sym at) ∙ e)
                  (starts_front (firsts g) (cond (is_nullable g) after []) (front ++ t ∷ tail) (first_any g front t tail more v other)))
            ])
            (first.outcome ts)
        go false e = same_outcome (Derives g) (λ us v. Derives (Or f g) us v) ts (read g ts) (λ us v d. inr d)
            (λ front t tail more v at d. elim d [
              | inl other ↦ absurd (not_both (starts (firsts f) ts) (ap (starts (firsts f)) at ∙ first_any f front t tail more v other) e)
              | inr is ↦ is
            ])
            (second.outcome ts)

-- ---- any number of a form

-- a value put before those of a list
abbrev paired : {A : Type 0} → Read A → (List Meaning → Read (List A)) → Read (A × List A)
paired r q = r >>= λ x. q x.1 >>= λ y. Ok ((x.0, y.0), y.1)

abbrev put : {A : Type 0} → A → Read (List A) → Read (A × List A)
put v p = p >>= λ y. Ok ((v, y.0), y.1)

regroup : {A : Type 0} (r : Read A) (q : List Meaning → Read (List A))
    → mapped {A = A × List A} (λ p. p.0 ∷ p.1) (paired r q) ≡ (r >>= λ x. q x.1 >>= λ y. Ok (x.0 ∷ y.0, y.1))
regroup {A} (Ok x) q = go (q x.1)
  where
    go : (p : Read (List A)) → mapped {A = A × List A} (λ w. w.0 ∷ w.1) (put x.0 p) ≡ (p >>= λ y. Ok (x.0 ∷ y.0, y.1))
    go (Ok y) = refl
    go (Err left) = refl
regroup (Err left) q = refl

filled : {A : Type 0} (xs ys : List A) (x : A) → xs ++ x ∷ ys ≡ [] → ⊥
filled [] ys x e = no_cons e
filled (z ∷ xs) ys x e = no_cons e

no_room : (front rest : List Meaning) (t : Meaning) (xs : List Meaning) → front ≡ t ∷ xs → length (front ++ rest) ≤ 0 → ⊥
no_room front rest t xs e fits = let l = ap length e in let m = length-append front rest in omega arith

shorter : (ts front us : List Meaning) (t : Meaning) (xs : List Meaning) (n : ℕ) → ts ≡ front ++ us → front ≡ t ∷ xs → length ts ≤ suc n → length us ≤ n
shorter ts front us t xs n cut e fits = let l = ap length e in let m = length-append front us in let k = ap length cut in omega arith

tokens_of : {A : Type 0} (f : Form A) (front : List Meaning) (v : A) → is_nullable f ≡ false → Derives f front v → (t : Meaning) × (xs : List Meaning) × (front ≡ t ∷ xs)
tokens_of f [] v some d = absurd (not_both _ (nothing_derives f v d) some)
tokens_of f (t ∷ xs) v some d = (t, xs, refl)

module _ {A : Type 0} (f : Form A) (after : List Terminal) (some : is_nullable f ≡ false) (free : all_apart (firsts f) after ≡ true)
    (each : Law (Derives f) (read f) (firsts f ++ after)) where
  many_heads : (h : Meaning) (x y : List Meaning) (vs : List A) → AreMany (Derives f) (h ∷ x) vs → starts (firsts f ++ after) (h ∷ y) ≡ true
  many_heads h x y vs d = starts_front (firsts f) after (h ∷ y) (many_first (Derives f) (firsts f) h y (λ us v is. first_derives f h us y v is) vs x d)

  follows_many : (front rest : List Meaning) (vs : List A) → AreMany (Derives f) front vs → follows after rest ≡ true → follows (firsts f ++ after) (front ++ rest) ≡ true
  follows_many [] [] vs d h = refl
  follows_many [] (t ∷ rest) vs d h = starts_behind (firsts f) after (t ∷ rest) h
  follows_many (t ∷ front) rest vs d h = many_heads t front (front ++ rest) vs d

  many_stop : (n : ℕ) (rest : List Meaning) → follows after rest ≡ true → many_at (starts (firsts f)) (read f) n rest ≡ Ok ([], rest)
  many_stop zero rest h = refl
  many_stop (suc n) rest h =
      ap (λ (b : Bool). cond b (read f rest >>= λ x. many_at (starts (firsts f)) (read f) n x.1 >>= λ y. Ok (x.0 ∷ y.0, y.1)) (Ok ([], rest))) (no_start (firsts f) after rest free h)

  many_complete : (vs : List A) (n : ℕ) (front rest : List Meaning) → length (front ++ rest) ≤ n → AreMany (Derives f) front vs → follows after rest ≡ true
      → many_at (starts (firsts f)) (read f) n (front ++ rest) ≡ Ok (vs, rest)
  many_complete [] n front rest fits d h = ap (λ (l : List Meaning). many_at (starts (firsts f)) (read f) n (l ++ rest)) d ∙ many_stop n rest h
  many_complete (v ∷ vs) zero front rest fits d h =
      let t = tokens_of f d.0 v some d.3 in
      absurd (no_room front rest t.0 (t.1 ++ d.1) (d.2 ∙ ap (λ (l : List Meaning). l ++ d.1) t.2) fits)
  many_complete (v ∷ vs) (suc n) front rest fits d h =
      let t = tokens_of f d.0 v some d.3 in
      let cut : front ++ rest ≡ d.0 ++ (d.1 ++ rest) = ap (λ (l : List Meaning). l ++ rest) d.2 ∙ append_assoc d.0 d.1 rest in
      let begun : starts (firsts f) (front ++ rest) ≡ true =
      ap (starts (firsts f)) (cut ∙ ap (λ (l : List Meaning). l ++ (d.1 ++ rest)) t.2)
      ∙ first_derives f t.0 t.1 (t.1 ++ (d.1 ++ rest)) v (subst (λ (l : List Meaning). Derives f l v) t.2 d.3) in
      ap (λ (b : Bool). cond b (read f (front ++ rest) >>= λ x. many_at (starts (firsts f)) (read f) n x.1 >>= λ y. Ok (x.0 ∷ y.0, y.1)) (Ok ([], front ++ rest))) begun
      ∙ ap (λ (l : List Meaning). read f l >>= λ x. many_at (starts (firsts f)) (read f) n x.1 >>= λ y. Ok (x.0 ∷ y.0, y.1)) cut
      ∙ ap (λ (r : Read A). r >>= λ x. many_at (starts (firsts f)) (read f) n x.1 >>= λ y. Ok (x.0 ∷ y.0, y.1))
      (each.complete d.0 (d.1 ++ rest) v d.3 (follows_many d.1 rest vs d.4 h))
      ∙ ap (λ (r : Read (List A)). r >>= λ y. Ok (v ∷ y.0, y.1))
      (many_complete vs n d.1 rest (shorter (front ++ rest) d.0 (d.1 ++ rest) t.0 t.1 n cut t.2 fits) d.4 h)

  as_many : (us : List Meaning) (vs : List A) → MadeOf (λ p. p.0 ∷ p.1) (Both (Derives f) (AreMany (Derives f))) us vs → AreMany (Derives f) us vs
  as_many us vs d = subst (λ (l : List A). AreMany (Derives f) us l) (sym d.2) d.1

  as_both : (vs : List A) (front : List Meaning) (t : Meaning) (more : List Meaning) → AreMany (Derives f) (front ++ t ∷ more) vs
      → MadeOf (λ p. p.0 ∷ p.1) (Both (Derives f) (AreMany (Derives f))) (front ++ t ∷ more) vs
  as_both [] front t more d = absurd (filled front more t d)
  as_both (v ∷ vs) front t more d = ((v, vs), d, refl)

  many_outcome : (n : ℕ) (ts : List Meaning) → length ts ≤ n → Outcome (AreMany (Derives f)) ts (many_at (starts (firsts f)) (read f) n ts)
  many_outcome zero ts fits = record {
    front = [];
    cut = refl;
    has = refl;
    stuck = λ t tail more vs at d. let l = ap length at in absurd (omega arith);
  }
  many_outcome (suc n) ts fits = go (starts (firsts f) ts) refl (λ us short. many_outcome n us short)
    where
      go : (b : Bool) → starts (firsts f) ts ≡ b
          → ((us : List Meaning) → length us ≤ n → Outcome (AreMany (Derives f)) us (many_at (starts (firsts f)) (read f) n us))
          → Outcome (AreMany (Derives f)) ts (cond b (read f ts >>= λ x. many_at (starts (firsts f)) (read f) n x.1 >>= λ y. Ok (x.0 ∷ y.0, y.1)) (Ok ([], ts)))
      go false e ih = record {
        front = [];
        cut = refl;
        has = refl;
        stuck = λ t tail more vs at d. not_both (starts (firsts f) ts)
            (ap (starts (firsts f)) at ∙ many_first (Derives f) (firsts f) t tail (λ us v is. first_derives f t us tail v is) vs more d) e;
      }
      go true e ih =
          same_outcome (MadeOf (λ p. p.0 ∷ p.1) (Both (Derives f) (AreMany (Derives f)))) (AreMany (Derives f)) ts _
          as_many (λ front t tail more vs at d. as_both vs front t more d)
          (subst (λ (r : Read (List A)). Outcome (MadeOf (λ p. p.0 ∷ p.1) (Both (Derives f) (AreMany (Derives f)))) ts r)
          (regroup (read f ts) (many_at (starts (firsts f)) (read f) n))
          (made_outcome (λ p. p.0 ∷ p.1) (Both (Derives f) (AreMany (Derives f))) ts _
          (both_outcome (Derives f) (AreMany (Derives f)) (read f) (firsts f ++ after) each many_heads (many_at (starts (firsts f)) (read f) n) ts [] [] refl
          (λ us front v cut is. let t = tokens_of f front v some is in ih us (shorter ts front us t.0 t.1 n cut t.2 fits)))))

  pub many_law : Law (λ ts v. Derives (Many f) ts v) (read (Many f)) after
  many_law = record {
    complete = λ front rest v d h. many_complete v (length (front ++ rest)) front rest (omega arith) d h;
    outcome = λ ts. many_outcome (length ts) ts (omega arith);
  }

-- ---- each plain form

pub plain_law : {A : Type 0} (f : Form A) (after : List Terminal) → plain f after ≡ true → Law (Derives f) (read f) after
plain_law (Token terminal) after p = token_law terminal after
plain_law Nothing after p = nothing_law after
plain_law (Then f g) after p = then_law f g after (plain_law f (firsts_then g after) (both_left _ _ p)) (plain_law g after (both_right _ _ p))
plain_law (Or f g) after p =
    or_law f g after (is_false _ (both_left _ _ (both_left _ _ p))) (both_right _ _ (both_left _ _ p))
    (plain_law f after (both_left _ _ (both_right _ _ p))) (plain_law g after (both_right _ _ (both_right _ _ p)))
plain_law (Many f) after p =
    many_law f after (is_false _ (both_left _ _ (both_left _ _ p))) (both_right _ _ (both_left _ _ p)) (plain_law f (firsts f ++ after) (both_right _ _ p))
plain_law (Made {A = A} made f) after p = let law = plain_law f after p in record {
  complete = λ front rest v d h. ap (mapped made) (law.complete front rest d.0 d.1 h) ∙ ap (λ w. Ok (w, rest)) (sym d.2);
  outcome = λ ts. made_outcome made (Derives f) ts (read f ts) (law.outcome ts);
}
