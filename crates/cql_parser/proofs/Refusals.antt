-- A text has one refusal, or it is a statement.
use Rattle.std.proofs.Common.{◌≡◌, ◌⊎◌, inl, inr, ℕ, suc, Bool, true, false, cond, ◌&&◌, eqb, List, [], ◌∷◌, ◌++◌, length, Option, Some, None, refl, sym, ap, ◌∙◌, subst, append_assoc, append-nil, arith, nat_lt}
use Rattle.std.specs.Prelude.{Result, Ok, Err, is_none}
use Rattle.std.proofs.lemmas.Bool.{lt-ltb, ne_eqb}
use Rattle.cql_tokens.specs.Laws.{OneScan}
use Rattle.cql_tokens.specs.Tokens.{IsScan, Meaning, meaning_of}
use Rattle.cql_tokens.specs.declared.token.Token.{Token}
use Rattle.cql_tokens.specs.declared.token.Stop.{Stop}
use Rattle.cql_tokens.specs.declared.token.Stop.TheVariants as stops
use Rattle.cql_tokens.specs.declared.token.Scanned.{Scanned}
use Rattle.cql_statement.specs.declared.statement.Statement.{Statement}
use Rattle.cql_parser.specs.Forms.{Derives}
use Rattle.cql_parser.specs.Grammar.{statement}
use Rattle.cql_parser.specs.Reading.{Read, read}
use Rattle.cql_parser.specs.Parsing.{meanings, most_tokens, Begins, IsFault, IsRefused, stop_fault, fault_at, fault_of, answer_to, answer_of, OneRefusal, NoRefusal}
use Rattle.cql_parser.specs.declared.error.ParseError.{ParseError}
use Rattle.cql_parser.specs.declared.error.ParseError.TheVariants as errors
use Rattle.cql_parser.proofs.Splits.{Split, split, cons_head}
use Rattle.cql_parser.proofs.Splits.Split.{Same, FirstLonger, SecondLonger}
use Rattle.cql_parser.proofs.Rules.{Stuck, Good, Bad, Outcome}
use Rattle.cql_parser.proofs.Faults.{law, read_all, map_length, map_append, left_tokens, answer_only}

-- the place of a reading that stops
record Place (ts : List Meaning) (left : ℕ) : Type 0 where
  pub front : List Meaning
  pub rest : List Meaning
  pub cut : ts ≡ front ++ rest
  pub count : length rest ≡ left
  pub begins : Begins front
  pub stuck : Stuck (Derives statement) front rest

of_bad : (ts : List Meaning) (left : ℕ) → Bad (Derives statement) ts left → Place ts left
of_bad ts left bad = record {
  front = bad.front;
  rest = bad.rest;
  cut = bad.cut;
  count = bad.count;
  begins = (bad.more, bad.value, bad.viable);
  stuck = bad.stuck;
}

of_good : (ts : List Meaning) (x : Statement × List Meaning) → Good (Derives statement) ts x.0 x.1 → Place ts (length x.1)
of_good ts x good = record {
  front = good.front;
  rest = x.1;
  cut = good.cut;
  count = refl;
  begins = ([], x.0, subst (λ (l : List Meaning). Derives statement l x.0) (sym (append-nil good.front)) good.has);
  stuck = good.stuck;
}

-- all of them begin a statement: none is left
none_left : (ts : List Meaning) (left : ℕ) → Place ts left → Begins ts → left ≡ 0
none_left ts left p b = go p.rest refl
  where
    go : (rest : List Meaning) → p.rest ≡ rest → left ≡ 0
    go [] e = sym p.count ∙ ap length e
    go (t ∷ tail) e = absurd (p.stuck t tail (tail ++ b.0) b.1 e
        (subst (λ (l : List Meaning). Derives statement l b.1)
        (ap (λ (l : List Meaning). l ++ b.0) (p.cut ∙ ap (λ (l : List Meaning). p.front ++ l) e) ∙ append_assoc p.front (t ∷ tail) b.0) b.2))

-- the place is that of the first token that begins no statement
same_place : (front rest : List Meaning) (t : Meaning) (left : ℕ) → Place (front ++ t ∷ rest) left → Begins front → (Begins (front ++ t ∷ []) → ⊥) → left ≡ suc (length rest)
same_place front rest t left p b none_such = go (split front (t ∷ rest) p.front p.rest p.cut)
  where
    go : Split front (t ∷ rest) p.front p.rest → left ≡ suc (length rest)
    go (Same e f) = sym p.count ∙ ap length (sym f)
    go (FirstLonger h c e f) = absurd (p.stuck h (c ++ t ∷ rest) (c ++ b.0) b.1 f
        (subst (λ (l : List Meaning). Derives statement l b.1) (ap (λ (l : List Meaning). l ++ b.0) e ∙ append_assoc p.front (h ∷ c) b.0) b.2))
    go (SecondLonger h c e f) = absurd (none_such (
      c ++ p.begins.0,
      p.begins.1,
      subst (λ (l : List Meaning). Derives statement l p.begins.1)
          (ap (λ (l : List Meaning). l ++ p.begins.0) (e ∙ ap (λ (m : Meaning). front ++ m ∷ c) (sym (cons_head f))) ∙ append_assoc front (t ∷ c) p.begins.0
          ∙ sym (append_assoc front (t ∷ []) (c ++ p.begins.0)))
          p.begins.2,
    ))

-- what is answered where so many tokens are left
answer_left : (text : List ℕ) (scanned : Scanned) → Outcome (Derives statement) (meanings text scanned.tokens) (read statement (meanings text scanned.tokens))
    → (left : ℕ) × Place (meanings text scanned.tokens) left
    × ((read statement (meanings text scanned.tokens) ≡ Err left) ⊎ ((s : Statement) × (ts : List Meaning) × (read statement (meanings text scanned.tokens) ≡ Ok (s, ts)) × (length ts ≡ left)))
answer_left text scanned = go (read statement (meanings text scanned.tokens)) refl
  where
    go : (r : Read Statement) → read statement (meanings text scanned.tokens) ≡ r → Outcome (Derives statement) (meanings text scanned.tokens) r
        → (left : ℕ) × Place (meanings text scanned.tokens) left
        × ((read statement (meanings text scanned.tokens) ≡ Err left) ⊎ ((s : Statement) × (ts : List Meaning) × (read statement (meanings text scanned.tokens) ≡ Ok (s, ts)) × (length ts ≡ left)))
    go (Err left) e bad = (left, of_bad _ left bad, inl e)
    go (Ok x) e good = (length x.1, of_good _ x good, inr (x.0, x.1, e, refl))

-- the answer, where it is no statement
faulty : (text : List ℕ) (scanned : Scanned) (left : ℕ)
    → (read statement (meanings text scanned.tokens) ≡ Err left) ⊎ ((s : Statement) × (ts : List Meaning) × (read statement (meanings text scanned.tokens) ≡ Ok (s, ts)) × (length ts ≡ left))
    → ((eqb left 0 && is_none scanned.stop) ≡ false) ⊎ (((s : Statement) (ts : List Meaning) → read statement (meanings text scanned.tokens) ≡ Ok (s, ts) → ⊥))
    → answer_of text scanned ≡ Err (fault_of text scanned left)
faulty text scanned left (inl e) none_such = ap (answer_to text scanned) e
faulty text scanned left (inr r) (inr none_such) = absurd (none_such r.0 r.1 r.2)
faulty text scanned left (inr r) (inl off) =
    ap (answer_to text scanned) r.2
    ∙ ap (λ (b : Bool). cond b (cond (nat_lt most_tokens (length scanned.tokens)) (Err errors.TooLong) (Ok r.0)) (Err (fault_of text scanned (length r.1))))
    (ap (λ (n : ℕ). eqb n 0 && is_none scanned.stop) r.3 ∙ off)
    ∙ ap (λ (n : ℕ). Err (fault_of text scanned n)) r.3

-- behind all tokens
at_stop : (text : List ℕ) (scanned : Scanned) (left : ℕ) → left ≡ 0 → fault_of text scanned left ≡ stop_fault text scanned.stop
at_stop text scanned left e = ap (fault_at text scanned.stop) (left_tokens scanned.tokens scanned.tokens [] left (sym (append-nil scanned.tokens)) (sym e))

stopped : (text : List ℕ) (scanned : Scanned) (stop : Stop) → scanned.stop ≡ Some stop → Begins (meanings text scanned.tokens)
    → answer_of text scanned ≡ Err (stop_fault text (Some stop))
stopped text scanned stop e b =
    let a = answer_left text scanned (law.outcome (meanings text scanned.tokens)) in
    let zero_left = none_left _ a.0 a.1 b in
    faulty text scanned a.0 a.2 (inl (ap (λ (o : Option Stop). eqb a.0 0 && is_none o) e ∙ never (eqb a.0 0)))
    ∙ ap Err (at_stop text scanned a.0 zero_left ∙ ap (stop_fault text) e)
  where
    never : (b : Bool) → (b && false) ≡ false
    never true = refl
    never false = refl

pub fault_answer : (text : List ℕ) (scanned : Scanned) (e : ParseError) → IsFault text scanned e → answer_of text scanned ≡ Err e
fault_answer text scanned (errors.Char at) f = stopped text scanned (stops.Char at) f.0 f.1
fault_answer text scanned (errors.Unclosed at) f = stopped text scanned (stops.Unclosed at) f.0 f.1
fault_answer text scanned (errors.Unexpected at) (inl f) =
    let m = meaning_of text f.1 in
    let cut : meanings text scanned.tokens ≡ meanings text f.0 ++ m ∷ meanings text f.2 = ap (meanings text) f.3 ∙ map_append (meaning_of text) f.0 (f.1 ∷ f.2) in
    let a = answer_left text scanned (law.outcome (meanings text scanned.tokens)) in
    let left : a.0 ≡ suc (length (meanings text f.2)) =
    same_place (meanings text f.0) (meanings text f.2) m a.0 (subst (λ (l : List Meaning). Place l a.0) cut a.1) f.4
    (λ b. f.5 (subst Begins (sym (map_append (meaning_of text) f.0 (f.1 ∷ []))) b)) in
    let some : (eqb a.0 0 && is_none scanned.stop) ≡ false = ap (λ (n : ℕ). eqb n 0 && is_none scanned.stop) left ∙ ap (λ (b : Bool). b && is_none scanned.stop) (ne_eqb (suc (length (meanings text f.2))) 0 (λ z. omega arith)) in
    faulty text scanned a.0 a.2 (inl some)
    ∙ ap (λ (l : List Token). Err (fault_at text scanned.stop l))
    (left_tokens scanned.tokens f.0 (f.1 ∷ f.2) a.0 f.3 (ap suc (sym (map_length (meaning_of text) f.2)) ∙ sym left))
    ∙ ap (λ (n : ℕ). Err (errors.Unexpected n)) (sym f.6)
fault_answer text scanned (errors.Unexpected at) (inr f) =
    let a = answer_left text scanned (law.outcome (meanings text scanned.tokens)) in
    let zero_left = none_left _ a.0 a.1 f.1 in
    faulty text scanned a.0 a.2 (inr (λ s ts e. none s ts e))
    ∙ ap Err (at_stop text scanned a.0 zero_left ∙ ap (stop_fault text) f.0 ∙ ap errors.Unexpected (sym f.3))
  where
    rest_of : (s : Statement) (ts : List Meaning) → Good (Derives statement) (meanings text scanned.tokens) s ts → length ts ≡ 0 → ⊥
    rest_of s [] good z = f.2 s (subst (λ (l : List Meaning). Derives statement l s) (sym (good.cut ∙ append-nil good.front)) good.has)
    rest_of s (t ∷ ts) good z = absurd (omega arith)

    none : (s : Statement) (ts : List Meaning) → read statement (meanings text scanned.tokens) ≡ Ok (s, ts) → ⊥
    none s ts e =
        let good : Good (Derives statement) (meanings text scanned.tokens) s ts =
        subst (λ (r : Read Statement). Outcome (Derives statement) (meanings text scanned.tokens) r) e (law.outcome (meanings text scanned.tokens)) in
        rest_of s ts good (none_left (meanings text scanned.tokens) (length ts) (of_good (meanings text scanned.tokens) (s, ts) good) f.1)
fault_answer text scanned errors.TooLong f =
    ap (answer_to text scanned) (read_all (meanings text scanned.tokens) f.1 f.2)
    ∙ ap (λ (o : Option Stop). cond (is_none o) (cond (nat_lt most_tokens (length scanned.tokens)) (Err errors.TooLong) (Ok f.1)) (Err (fault_of text scanned 0))) f.0
    ∙ ap (λ (b : Bool). cond b (Err errors.TooLong) (Ok f.1)) (lt-ltb most_tokens (length scanned.tokens) f.3)
fault_answer text scanned errors.NoMemory f = absurd f

-- ---- the laws

abbrev Refusal : List ℕ → ParseError → Type 0
Refusal text e = (scanned : Scanned) × IsScan text scanned × IsFault text scanned e

as_refusal : (text : List ℕ) (e : ParseError) → (e ≡ errors.NoMemory → ⊥) → IsRefused text e → Refusal text e
as_refusal text (errors.Char at) some r = r
as_refusal text (errors.Unexpected at) some r = r
as_refusal text (errors.Unclosed at) some r = r
as_refusal text errors.TooLong some r = r
as_refusal text errors.NoMemory some r = absurd (some refl)

same_error : (d e : ParseError) → (let r : Result Statement ParseError = Err d in r) ≡ Err e → d ≡ e
same_error d e h = cc

pub one_refusal : OneScan → OneRefusal
one_refusal one text d e p q some_d some_e =
    let a = as_refusal text d some_d p in
    let b = as_refusal text e some_e q in
    same_error d e (sym (fault_answer text a.0 d a.2) ∙ ap (answer_of text) (one text a.0 b.0 a.1 b.1) ∙ fault_answer text b.0 e b.2)

no_both : (s : Statement) (e : ParseError) → (let r : Result Statement ParseError = Ok s in r) ≡ Err e → ⊥
no_both s e h = absurd (cc)

pub no_refusal : OneScan → NoRefusal
no_refusal one text tokens s e is short p some =
    let a = as_refusal text e some p in
    let all : Scanned = record { tokens = tokens; stop = None } in
    no_both s e (sym (answer_only text all s refl is.1 short) ∙ ap (answer_of text) (one text all a.0 is.0 a.1) ∙ fault_answer text a.0 e a.2)
