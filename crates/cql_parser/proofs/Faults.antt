-- From what is read to what the grammar says.
use Rattle.std.proofs.Common.{◌≡◌, inl, inr, ℕ, suc, ◌-◌, ◌≤◌, ◌<◌, Bool, true, false, cond, ◌&&◌, eqb, List, [], ◌∷◌, ◌++◌, length, map, drop, Option, Some, None, refl, sym, ap, ◌∙◌, subst, append_assoc, append-nil, length-append, arith, nat_lt}
use Rattle.std.specs.Prelude.{Result, Ok, Err, is_none, IfOk, IfErr}
use Rattle.std.proofs.Math.Seq.{drop-append_seam}
use Rattle.std.proofs.lemmas.Bool.{eqb-true, ltb-true, ltb-false, le-ltb}
use Rattle.cql_tokens.specs.Laws.{OneScan}
use Rattle.cql_tokens.specs.Tokens.{IsScan, IsScanFrom, Meaning, meaning_of}
use Rattle.cql_tokens.specs.declared.token.Token.{Token}
use Rattle.cql_tokens.specs.declared.token.Stop.{Stop}
use Rattle.cql_tokens.specs.declared.token.Stop.TheVariants as stops
use Rattle.cql_tokens.specs.declared.token.Scanned.{Scanned}
use Rattle.cql_statement.specs.declared.statement.Statement.{Statement}
use Rattle.cql_parser.specs.Forms.{Derives}
use Rattle.cql_parser.specs.Grammar.{statement}
use Rattle.cql_parser.specs.Reading.{Read, read}
use Rattle.cql_parser.specs.Parsing.{meanings, most_tokens, IsTokens, IsStatement, Begins, IsFault, IsRefused, Answers, stop_fault, fault_at, fault_of, answer_to, answer_of, tokens_of, OneReading}
use Rattle.cql_parser.specs.declared.error.ParseError.{ParseError}
use Rattle.cql_parser.specs.declared.error.ParseError.TheVariants as errors
use Rattle.cql_parser.proofs.Splits.{no_cons, cons_tail, cons_head}
use Rattle.cql_parser.proofs.Heads.{not_both}
use Rattle.cql_parser.proofs.Rules.{Stuck, Good, Bad, Outcome, Law}
use Rattle.cql_parser.proofs.Plain.{plain_law}
use Rattle.cql_parser.proofs.Whole.{statement_plain}

pub law : Law (Derives statement) (read statement) []
law = plain_law statement [] statement_plain

-- a statement is read
pub read_all : (ts : List Meaning) (s : Statement) → Derives statement ts s → read statement ts ≡ Ok (s, [])
read_all ts s d = ap (read statement) (sym (append-nil ts)) ∙ law.complete ts [] s d refl

-- a list whose images are cut in two
pub record Cut {A B : Type 0} (f : A → B) (xs : List A) (front rest : List B) : Type 0 where
  pub first : List A
  pub second : List A
  pub cut : xs ≡ first ++ second
  pub firsts : map f first ≡ front
  pub seconds : map f second ≡ rest

pub cut_map : {A B : Type 0} (f : A → B) (xs : List A) (front rest : List B) → map f xs ≡ front ++ rest → Cut f xs front rest
cut_map f xs [] rest e = record { first = []; second = xs; cut = refl; firsts = refl; seconds = e }
cut_map f [] (y ∷ front) rest e = absurd (no_cons (sym e))
cut_map {A} f (x ∷ xs) (y ∷ front) rest e = let c = cut_map f xs front rest (cons_tail e) in record {
  first = x ∷ c.first;
  second = c.second;
  cut = ap (λ (l : List A). x ∷ l) c.cut;
  firsts = ap (λ l. f x ∷ l) c.firsts ∙ ap (λ z. z ∷ front) (cons_head e);
  seconds = c.seconds;
}

pub map_length : {A B : Type 0} (f : A → B) (xs : List A) → length (map f xs) ≡ length xs
map_length f [] = refl
map_length f (x ∷ xs) = ap suc (map_length f xs)

pub map_append : {A B : Type 0} (f : A → B) (xs ys : List A) → map f (xs ++ ys) ≡ map f xs ++ map f ys
map_append f [] ys = refl
map_append f (x ∷ xs) ys = ap (λ l. f x ∷ l) (map_append f xs ys)

-- what is left
pub left_tokens : (tokens first second : List Token) (left : ℕ) → tokens ≡ first ++ second → length second ≡ left → drop (length tokens - left) tokens ≡ second
left_tokens tokens first second left cut count =
    let at : length tokens - left ≡ length first = let k = ap length cut in let m = length-append first second in omega arith in
    ap (λ (n : ℕ). drop n tokens) at ∙ ap (drop (length first)) cut ∙ drop-append_seam first second

-- a fault, where tokens begin a statement and the next is stuck
pub fault_is : (text : List ℕ) (scanned : Scanned) (first second : List Token) → scanned.tokens ≡ first ++ second
    → Begins (meanings text first) → Stuck (Derives statement) (meanings text first) (meanings text second)
    → (second ≡ [] → scanned.stop ≡ None → (s : Statement) → Derives statement (meanings text scanned.tokens) s → ⊥)
    → IsFault text scanned (fault_at text scanned.stop second)
fault_is text scanned first (t ∷ rest) cut begins stuck unfinished =
    inl (
      first,
      t,
      rest,
      cut,
      begins,
      (λ b. stuck (meaning_of text t) (meanings text rest) b.0 b.1 refl
          (subst (λ (l : List Meaning). Derives statement l b.1)
          (ap (λ (l : List Meaning). l ++ b.0) (map_append (meaning_of text) first (t ∷ [])) ∙ append_assoc (meanings text first) (meaning_of text t ∷ []) b.0)
          b.2)),
      refl,
    )
fault_is text scanned first [] cut begins stuck unfinished = go scanned.stop refl
  where
    whole : Begins (meanings text scanned.tokens)
    whole = subst (λ (l : List Token). Begins (meanings text l)) (sym (cut ∙ append-nil first)) begins

    go : (stop : Option Stop) → scanned.stop ≡ stop → IsFault text scanned (stop_fault text stop)
    go None e = inr (e, whole, unfinished refl e, refl)
    go (Some (stops.Char at)) e = (e, whole)
    go (Some (stops.Unclosed at)) e = (e, whole)

pub stop_at : (text : List ℕ) (scanned : Scanned) (left : ℕ) (first second : List Token) → scanned.tokens ≡ first ++ second → length second ≡ left
    → IsFault text scanned (fault_at text scanned.stop second) → IsFault text scanned (fault_of text scanned left)
stop_at text scanned left first second cut count fault =
    subst (λ (l : List Token). IsFault text scanned (fault_at text scanned.stop l)) (sym (left_tokens scanned.tokens first second left cut count)) fault

-- ---- what an answer says

pub record Said (text : List ℕ) (scanned : Scanned) (s : Statement) : Type 0 where
  pub whole : scanned.stop ≡ None
  pub form : Derives statement (meanings text scanned.tokens) s
  pub short : length scanned.tokens ≤ most_tokens

abbrev Says : List ℕ → Scanned → Result Statement ParseError → Type 0
Says text scanned (Ok s) = Said text scanned s
Says text scanned (Err e) = IsFault text scanned e

no_stop : {A : Type 0} (o : Option A) → is_none o ≡ true → o ≡ None
no_stop None e = refl
no_stop (Some x) e = absurd (cc)

nothing_left : (xs : List Meaning) → eqb (length xs) 0 ≡ true → xs ≡ []
nothing_left [] e = refl
nothing_left (x ∷ xs) e = let z = eqb-true (suc (length xs)) 0 e in absurd (omega arith)

bad_says : (text : List ℕ) (scanned : Scanned) (left : ℕ) → read statement (meanings text scanned.tokens) ≡ Err left
    → Bad (Derives statement) (meanings text scanned.tokens) left → IsFault text scanned (fault_of text scanned left)
bad_says text scanned left e bad =
    let c = cut_map (meaning_of text) scanned.tokens bad.front bad.rest bad.cut in
    let count : length c.second ≡ left = sym (map_length (meaning_of text) c.second) ∙ ap length c.seconds ∙ bad.count in
    stop_at text scanned left c.first c.second c.cut count
    (fault_is text scanned c.first c.second c.cut
    (subst Begins (sym c.firsts) (bad.more, bad.value, bad.viable))
    (subst (λ (l : List Meaning). Stuck (Derives statement) l (meanings text c.second)) (sym c.firsts) (subst (λ (l : List Meaning). Stuck (Derives statement) bad.front l) (sym c.seconds) bad.stuck))
    (λ none stop s d. absurd (cc (read_all (meanings text scanned.tokens) s d, e))))

good_says : (text : List ℕ) (scanned : Scanned) (x : Statement × List Meaning)
    → Good (Derives statement) (meanings text scanned.tokens) x.0 x.1
    → ((x.1 ≡ []) → scanned.stop ≡ None → ⊥) → IsFault text scanned (fault_of text scanned (length x.1))
good_says text scanned x good unfinished =
    let c = cut_map (meaning_of text) scanned.tokens good.front x.1 good.cut in
    let count : length c.second ≡ length x.1 = sym (map_length (meaning_of text) c.second) ∙ ap length c.seconds in
    stop_at text scanned (length x.1) c.first c.second c.cut count
    (fault_is text scanned c.first c.second c.cut
    (subst Begins (sym c.firsts) ([], x.0, subst (λ (l : List Meaning). Derives statement l x.0) (sym (append-nil good.front)) good.has))
    (subst (λ (l : List Meaning). Stuck (Derives statement) l (meanings text c.second)) (sym c.firsts) (subst (λ (l : List Meaning). Stuck (Derives statement) good.front l) (sym c.seconds) good.stuck))
    (λ none stop s d. absurd (unfinished (sym c.seconds ∙ ap (meanings text) none) stop)))

pub answer_says : (text : List ℕ) (scanned : Scanned) → Says text scanned (answer_of text scanned)
answer_says text scanned = go (read statement (meanings text scanned.tokens)) refl (law.outcome (meanings text scanned.tokens))
  where
    short : (n : ℕ) → nat_lt most_tokens n ≡ false → n ≤ most_tokens
    short n e = ltb-false most_tokens n e

    long : (n : ℕ) → nat_lt most_tokens n ≡ true → most_tokens < n
    long n e = ltb-true most_tokens n e

    go : (r : Read Statement) → read statement (meanings text scanned.tokens) ≡ r → Outcome (Derives statement) (meanings text scanned.tokens) r → Says text scanned (answer_to text scanned r)
    go (Err left) e bad = bad_says text scanned left e bad
    go (Ok x) e good = ends (eqb (length x.1) 0) (is_none scanned.stop) refl refl
      where
        size : (b : Bool) → nat_lt most_tokens (length scanned.tokens) ≡ b → scanned.stop ≡ None → Derives statement (meanings text scanned.tokens) x.0
            → Says text scanned (cond b (Err errors.TooLong) (Ok x.0))
        size true h stop d = (stop, x.0, d, long _ h)
        size false h stop d = record { whole = stop; form = d; short = short _ h }

        ends : (a b : Bool) → eqb (length x.1) 0 ≡ a → is_none scanned.stop ≡ b
            → Says text scanned (cond (a && b) (cond (nat_lt most_tokens (length scanned.tokens)) (Err errors.TooLong) (Ok x.0)) (Err (fault_of text scanned (length x.1))))
        ends true true p q =
            let none = nothing_left x.1 p in
            size (nat_lt most_tokens (length scanned.tokens)) refl (no_stop scanned.stop q)
            (subst (λ (l : List Meaning). Derives statement l x.0) (sym (good.cut ∙ ap (λ (l : List Meaning). good.front ++ l) none ∙ append-nil good.front)) good.has)
        ends true false p q = good_says text scanned x good (λ none stop. not_both (is_none scanned.stop) (ap is_none stop) q)
        ends false b p q = good_says text scanned x good (λ none stop. not_both (eqb (length x.1) 0) (ap (λ (l : List Meaning). eqb (length l) 0) none) p)

-- a statement's answer
pub answer_only : (text : List ℕ) (scanned : Scanned) (s : Statement) → scanned.stop ≡ None → Derives statement (meanings text scanned.tokens) s
    → length scanned.tokens ≤ most_tokens → answer_of text scanned ≡ Ok s
answer_only text scanned s stop d short =
    ap (answer_to text scanned) (read_all (meanings text scanned.tokens) s d)
    ∙ ap (λ (o : Option Stop). cond (is_none o) (cond (nat_lt most_tokens (length scanned.tokens)) (Err errors.TooLong) (Ok s)) (Err (fault_of text scanned 0))) stop
    ∙ ap (λ (b : Bool). cond b (Err errors.TooLong) (Ok s)) (small (length scanned.tokens) short)
  where
    small : (n : ℕ) → n ≤ most_tokens → nat_lt most_tokens n ≡ false
    small n h = le-ltb most_tokens n h

-- ---- the clauses

as_tokens : (text : List ℕ) (scanned : Scanned) → IsScan text scanned → scanned.stop ≡ None → IsTokens text scanned.tokens
as_tokens text scanned scan stop = subst (λ (o : Option Stop). IsScanFrom 0 text scanned.tokens o) stop scan

pub found : (text : List ℕ) (scanned : Scanned) (r : Result Statement ParseError) → IsScan text scanned → Answers r (answer_of text scanned)
    → IfOk r (λ s. (tokens : List Token) × IsStatement text tokens s × (length tokens ≤ most_tokens))
found text scanned (Err e) scan answers = tt
found text scanned (Ok s) scan answers =
    let said : Said text scanned s = subst (Says text scanned) answers (answer_says text scanned) in
    (scanned.tokens, (as_tokens text scanned scan said.whole, said.form), said.short)

pub only : OneScan → (text : List ℕ) (scanned : Scanned) (r : Result Statement ParseError) → IsScan text scanned → Answers r (answer_of text scanned)
    → (tokens : List Token) (s : Statement) → IsStatement text tokens s → length tokens ≤ most_tokens → Answers r (Ok s)
only one text scanned r scan answers tokens s is short =
    let same : scanned ≡ record { tokens = tokens; stop = None } = one text scanned (record { tokens = tokens; stop = None }) scan is.0 in
    subst (λ (a : Result Statement ParseError). Answers r a)
    (ap (answer_of text) same ∙ answer_only text (record { tokens = tokens; stop = None }) s refl is.1 short)
    answers

pub refused : (text : List ℕ) (scanned : Scanned) (r : Result Statement ParseError) → IsScan text scanned → Answers r (answer_of text scanned)
    → IfErr r (λ e. IsRefused text e)
refused text scanned (Ok s) scan answers = tt
refused text scanned (Err (errors.Char at)) scan answers = (scanned, scan, subst (Says text scanned) answers (answer_says text scanned))
refused text scanned (Err (errors.Unexpected at)) scan answers = (scanned, scan, subst (Says text scanned) answers (answer_says text scanned))
refused text scanned (Err (errors.Unclosed at)) scan answers = (scanned, scan, subst (Says text scanned) answers (answer_says text scanned))
refused text scanned (Err errors.TooLong) scan answers = (scanned, scan, subst (Says text scanned) answers (answer_says text scanned))
refused text scanned (Err errors.NoMemory) scan answers = tt

-- the answer of one scan is that of each
pub tokens_exact : OneScan → (text : List ℕ) (scanned : Scanned) (r : Result (List Token) ParseError) → IsScan text scanned → Answers r (tokens_of scanned)
    → (other : Scanned) → IsScan text other → Answers r (tokens_of other)
tokens_exact one text scanned r scan answers other is =
    subst (λ (s : Scanned). Answers r (tokens_of s)) (one text scanned other scan is) answers

pub answers_same : {A : Type 0} (r a : Result A ParseError) → r ≡ a → Answers r a
answers_same (Ok v) a e = sym e
answers_same (Err (errors.Char at)) a e = sym e
answers_same (Err (errors.Unexpected at)) a e = sym e
answers_same (Err (errors.Unclosed at)) a e = sym e
answers_same (Err errors.TooLong) a e = sym e
answers_same (Err errors.NoMemory) a e = tt

-- a text is one statement
pub one_reading : OneScan → OneReading
one_reading one text a b s t p q =
    let same : record { tokens = a; stop = None } ≡ record { tokens = b; stop = None } = one text (record { tokens = a; stop = None }) (record { tokens = b; stop = None }) p.0 q.0 in
    let tokens : meanings text a ≡ meanings text b = ap (λ (x : Scanned). meanings text x.tokens) same in
    let both : Ok (s, []) ≡ Ok (t, []) = sym (read_all (meanings text a) s p.1) ∙ ap (read statement) tokens ∙ read_all (meanings text b) t q.1 in
    ap {A = Statement × List Meaning} (λ x. x.0) (same_ok (s, []) (t, []) both)
  where
    same_ok : (x y : Statement × List Meaning) → (let r : Read Statement = Ok x in r) ≡ Ok y → x ≡ y
    same_ok x y e = cc
