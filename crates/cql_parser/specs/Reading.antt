-- Reading the front of a list of tokens by a form, one token ahead.
use Rattle.std.specs.Prelude.{ℕ, zero, suc, ◌&&◌, ◌||◌, Bool, true, false, List, [], ◌∷◌, ◌++◌, length, if◌then◌else◌, Result, Ok, Err}
use Rattle.cql_tokens.specs.Tokens.{Meaning}
use Rattle.cql_parser.specs.Forms.{Terminal, accepts, Form}
use Rattle.cql_parser.specs.Forms.Form.{Token, Nothing, Then, Or, Many, Made}

-- a value and the tokens behind it, or how many tokens are left where none can stand
abbrev pub Read : Type 0 → Type 0
Read A = Result (A × List Meaning) ℕ

infixl 10 ◌>>=◌
abbrev pub ◌>>=◌ : {A B : Type 0} → Read A → (A × List Meaning → Read B) → Read B
(Ok x) >>= next = next x
(Err left) >>= next = Err left

abbrev pub next_is : Terminal → List Meaning → Bool
next_is terminal [] = false
next_is terminal (t ∷ ts) = accepts terminal t

abbrev pub token_at : Terminal → List Meaning → Read Meaning
token_at terminal [] = Err 0
token_at terminal (t ∷ ts) = if accepts terminal t then Ok (t, ts) else Err (suc (length ts))

abbrev pub mapped : {A B : Type 0} → (A → B) → Read A → Read B
mapped made read = read >>= λ x. Ok (made x.0, x.1)

-- whether nothing has the form
abbrev pub is_nullable : {A : Type 0} → Form A → Bool
is_nullable (Token terminal) = false
is_nullable Nothing = true
is_nullable (Then f g) = is_nullable f && is_nullable g
is_nullable (Or f g) = is_nullable f || is_nullable g
is_nullable (Many f) = true
is_nullable (Made made f) = is_nullable f

-- what a form may begin with
abbrev pub firsts : {A : Type 0} → Form A → List Terminal
firsts (Token terminal) = terminal ∷ []
firsts Nothing = []
firsts (Then f g) = firsts f ++ (if is_nullable f then firsts g else [])
firsts (Or f g) = firsts f ++ firsts g
firsts (Many f) = firsts f
firsts (Made made f) = firsts f

abbrev pub starts : List Terminal → List Meaning → Bool
starts [] ts = false
starts (terminal ∷ []) ts = next_is terminal ts
starts (terminal ∷ other ∷ terminals) ts = next_is terminal ts || starts (other ∷ terminals) ts

-- at most so many, each begun by a token that the test passes
abbrev pub many_at : {A : Type 0} → (List Meaning → Bool) → (List Meaning → Read A) → ℕ → List Meaning → Read (List A)
many_at begins read zero ts = Ok ([], ts)
many_at begins read (suc most) ts =
    if begins ts then (read ts >>= λ x. many_at begins read most x.1 >>= λ y. Ok (x.0 ∷ y.0, y.1)) else Ok ([], ts)

abbrev pub read : {A : Type 0} → Form A → List Meaning → Read A
read (Token terminal) ts = token_at terminal ts
read Nothing ts = Ok (tt, ts)
read (Then f g) ts = read f ts >>= λ x. read g x.1 >>= λ y. Ok ((x.0, y.0), y.1)
read (Or f g) ts = if starts (firsts f) ts then read f ts else read g ts
read (Many f) ts = many_at (starts (firsts f)) (read f) (length ts) ts
read (Made made f) ts = mapped made (read f ts)

-- ---- lists

-- a reader, and then another number of the same behind separators
abbrev pub behind : {A : Type 0} → Form (Unit {0}) → (List Meaning → Read A) → List Meaning → Read A
behind {A = A} separator part ts = mapped {A = Unit {0} × A} (λ v. v.1) (read separator ts >>= λ x. part x.1 >>= λ y. Ok ((x.0, y.0), y.1))

abbrev pub more_at : {A : Type 0} → Form (Unit {0}) → (List Meaning → Read A) → ℕ → List Meaning → Read (List A)
more_at separator part most ts = many_at (starts (firsts separator)) (behind separator part) most ts

abbrev pub separated_at : {A : Type 0} → Form (Unit {0}) → (List Meaning → Read A) → List Meaning → Read (List A)
separated_at {A = A} separator part ts = mapped {A = A × List A} (λ v. v.0 ∷ v.1) (part ts >>= λ x. more_at separator part (length x.1) x.1 >>= λ y. Ok ((x.0, y.0), y.1))

abbrev pub prefixed : {A : Type 0} → List A → Read (List A) → Read (List A)
prefixed front read = mapped (λ v. front ++ v) read
