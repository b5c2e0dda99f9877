-- One step of a loop that reads any number of parts.
use Rattle.std.proofs.Common.{◌≡◌, ℕ, suc, ◌+◌, ◌-◌, ◌<◌, Bool, true, cond, List, [], ◌∷◌, ◌++◌, refl, sym, ap, ◌∙◌, append_assoc, arith}
use Rattle.std.specs.Prelude.{Ok, Err}
use Rattle.cql_tokens.specs.Tokens.{Meaning}
use Rattle.cql_parser.specs.Forms.{Form}
use Rattle.cql_parser.specs.Reading.{Read, read, behind, ◌>>=◌, many_at, prefixed, mapped}

pub one_more : {A : Type 0} (begins : List Meaning → Bool) (part : List Meaning → Read A) (parts : List A) (v : A) (k : ℕ) (ts rest : List Meaning)
    → begins ts ≡ true → part ts ≡ Ok (v, rest) → prefixed (parts ++ v ∷ []) (many_at begins part k rest) ≡ prefixed parts (many_at begins part (suc k) ts)
one_more {A} begins part parts v k ts rest b p =
    go (many_at begins part k rest)
    ∙ sym (ap (λ (r : Read A). prefixed parts (r >>= λ x. many_at begins part k x.1 >>= λ y. Ok (x.0 ∷ y.0, y.1))) p)
    ∙ sym (ap (λ (t : Bool). prefixed parts (cond t (part ts >>= λ x. many_at begins part k x.1 >>= λ y. Ok (x.0 ∷ y.0, y.1)) (Ok ([], ts)))) b)
  where
    go : (r : Read (List A)) → prefixed (parts ++ v ∷ []) r ≡ prefixed parts (r >>= λ y. Ok (v ∷ y.0, y.1))
    go (Ok x) = ap (λ (l : List A). Ok (l, x.1)) (append_assoc parts (v ∷ []) x.0)
    go (Err n) = refl

pub step : {A : Type 0} (begins : List Meaning → Bool) (part : List Meaning → Read A) (parts new : List A) (v : A) (most counter : ℕ) (ts rest : List Meaning) (all : Read (List A))
    → counter < most → begins ts ≡ true → part ts ≡ Ok (v, rest) → new ≡ parts ++ v ∷ []
    → prefixed parts (many_at begins part (most - counter) ts) ≡ all → prefixed new (many_at begins part (most - (counter + 1)) rest) ≡ all
step {A} begins part parts new v most counter ts rest all below b p e h =
    let k = most - (counter + 1) in
    let left : most - counter ≡ suc k = omega arith in
    ap (λ (l : List A). prefixed l (many_at begins part k rest)) e
    ∙ one_more begins part parts v k ts rest b p
    ∙ sym (ap (λ (n : ℕ). prefixed parts (many_at begins part n ts)) left)
    ∙ h

-- a separator and a part
pub behind_both : {A : Type 0} (separator : Form (Unit {0})) (part : List Meaning → Read A) (ts middle rest : List Meaning) (v : A)
    → read separator ts ≡ Ok (tt, middle) → part middle ≡ Ok (v, rest) → behind separator part ts ≡ Ok (v, rest)
behind_both {A} separator part ts middle rest v e p =
    ap (λ (r : Read (Unit {0})). mapped {A = Unit {0} × A} (λ w. w.1) (r >>= λ x. part x.1 >>= λ y. Ok ((x.0, y.0), y.1))) e
    ∙ ap (λ (r : Read A). mapped {A = Unit {0} × A} (λ w. w.1) (r >>= λ y. Ok ((tt, y.0), y.1))) p
