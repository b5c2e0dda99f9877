-- Jobs and what was done of them, at the same places of two lists.
use Rattle.std.proofs.Common.{◌≡◌, ℕ, suc, min, ◌+◌, ◌-◌, ◌^◌, ◌≤◌, ◌<◌, inl, inr, Bool, List, [], ◌∷◌, ◌++◌, map, refl, sym, ◌∙◌, ap, append_assoc, append-nil, length, arith}
use Rattle.std.specs.List.{AllZip}
use Rattle.std.proofs.lemmas.Bool.Decides.{leb_tells}
use Rattle.cs_base.specs.Faults.{HasRisen}
use Rattle.cs_runtime.specs.Jobs.{next_start, is_listed, marked, starts_after, Ends, EndsMarked}

pub map-snoc : {X Y : Type 0} (f : X → Y) (xs : List X) (x : X) → map f (xs ++ x ∷ []) ≡ map f xs ++ f x ∷ []
map-snoc f [] x = refl
map-snoc f (y ∷ xs) x = ap (λ rest. f y ∷ rest) (map-snoc f xs x)

pub marked-snoc : {J : Type 0} (failing : List ℕ) (starts : ℕ) (jobs : List J) (job : J) → marked failing starts (jobs ++ job ∷ []) ≡ marked failing starts jobs ++ (job, is_listed failing (next_start (starts_after starts jobs))) ∷ []
marked-snoc failing starts [] job = refl
marked-snoc failing starts (j ∷ jobs) job = ap (λ rest. (j, is_listed failing (next_start starts)) ∷ rest) (marked-snoc failing (next_start starts) jobs job)

pub starts_after-snoc : {J : Type 0} (starts : ℕ) (jobs : List J) (job : J) → starts_after starts (jobs ++ job ∷ []) ≡ next_start (starts_after starts jobs)
starts_after-snoc starts [] job = refl
starts_after-snoc starts (j ∷ jobs) job = starts_after-snoc (next_start starts) jobs job

-- a count that rose has risen later on, too
pub risen-later : (a b c : ℕ) → b ≤ c → HasRisen a b → HasRisen a c
risen-later a b c le (inl lt) = inl (omega (arith, le, lt))
risen-later a b c le (inr top) = inr top

-- a count that rose late has risen since before, too
pub risen-since : (a b c : ℕ) → a ≤ b → b ≤ c → HasRisen b c → HasRisen a c
risen-since a b c le later (inl lt) = inl (omega (arith, le, lt))
risen-since a b c le later (inr top) =
    elim (leb_tells b a) [
      | inl same ↦ (let high = same.1 in inr (let e : a ≡ b = omega (arith, le, high) in e ∙ top))
      | inr below ↦ (let lt = below.1 in inl (omega (arith, lt, later)))
    ]

module _ {J D : Type 0} (ends works unstarts : J → D → Type 0) where
  pub ends-later : (counted counted' : Type 0) → (counted → counted') → (job : J × Bool) (done : D) → EndsMarked ends works unstarts counted job done → EndsMarked ends works unstarts counted' job done
  ends-later counted counted' up job done (e, inl worked) = (e, inl worked)
  ends-later counted counted' up job done (e, inr not) = (e, inr (not.0, up not.1))

  pub each-later : (counted counted' : Type 0) → (counted → counted') → (jobs : List (J × Bool)) (dones : List D) → AllZip (EndsMarked ends works unstarts counted) jobs dones → AllZip (EndsMarked ends works unstarts counted') jobs dones
  each-later counted counted' up [] [] h = h
  each-later counted counted' up [] (done ∷ dones) h = h
  each-later counted counted' up (job ∷ jobs) [] h = h
  each-later counted counted' up (job ∷ jobs) (done ∷ dones) h = (ends-later counted counted' up job done h.0, each-later counted counted' up jobs dones h.1)

  plain : (counted : Type 0) (job : J) (listed : Bool) (done : D) → EndsMarked ends works unstarts counted (job, listed) done → Ends ends works unstarts counted job done
  plain counted job listed done (e, inl worked) = (e, inl worked.1)
  plain counted job listed done (e, inr not) = (e, inr not)

  -- what is done of marked jobs is done of the jobs
  pub each-plain : (counted : Type 0) (failing : List ℕ) (starts : ℕ) (jobs : List J) (dones : List D) → AllZip (EndsMarked ends works unstarts counted) (marked failing starts jobs) dones → AllZip (Ends ends works unstarts counted) jobs dones
  each-plain counted failing starts [] [] h = h
  each-plain counted failing starts [] (done ∷ dones) h = h
  each-plain counted failing starts (job ∷ jobs) [] h = h
  each-plain counted failing starts (job ∷ jobs) (done ∷ dones) h =
      (plain counted job (is_listed failing (next_start starts)) done h.0, each-plain counted failing (next_start starts) jobs dones h.1)

-- one more job is begun
pub begins-one :
    {B J : Type 0} (f : B → J × Bool) (failing : List ℕ) (starts number number' : ℕ) (all all' : List B) (one : B) (jobs : List J) (job : J) (listed : Bool)
    → map f all ≡ marked failing starts jobs
    → number ≡ starts_after starts jobs
    → number' ≡ next_start number
    → listed ≡ is_listed failing number'
    → f one ≡ (job, listed)
    → all' ≡ all ++ one ∷ []
    → map f all' ≡ marked failing starts (jobs ++ job ∷ [])
begins-one {J = J} f failing starts number number' all all' one jobs job listed was at next is begun after =
    ap (map f) after
    ∙ map-snoc f all one
    ∙ ap (λ (front : List (J × Bool)). front ++ f one ∷ []) was
    ∙ ap (λ (last : J × Bool). marked failing starts jobs ++ last ∷ []) (begun ∙ ap (λ (b : Bool). (job, b)) (is ∙ ap (is_listed failing) (next ∙ ap next_start at)))
    ∙ sym (marked-snoc failing starts jobs job)

pub goes-on : {X : Type 0} (front rest rest' all : List X) (x : X) → front ++ rest ≡ all → rest ≡ x ∷ rest' → (front ++ x ∷ []) ++ rest' ≡ all
goes-on {X} front rest rest' all x was step = append_assoc front (x ∷ []) rest' ∙ ap (λ (more : List X). front ++ more) (sym step) ∙ was

pub is-empty : {X : Type 0} (xs : List X) → length xs ≡ 0 → xs ≡ []
is-empty [] none = refl
is-empty (x ∷ xs) none = absurd (omega (arith, none))

-- where nothing is left, the front is all
pub comes-to-end : {X : Type 0} (front rest all : List X) → front ++ rest ≡ all → length rest ≡ 0 → front ≡ all
comes-to-end {X} front rest all was none = sym (append-nil front) ∙ ap (λ (more : List X). front ++ more) (sym (is-empty rest none)) ∙ was

-- how many starts there are after one for each job
pub starts_after-sum : {J : Type 0} (starts : ℕ) (jobs : List J) → starts < 2 ^ 64 → starts_after starts jobs ≡ min (starts + length jobs) (2 ^ 64 - 1)
starts_after-sum starts [] small = omega (arith, small)
starts_after-sum starts (job ∷ jobs) small =
    let low : next_start starts < 2 ^ 64 = omega (arith, small) in
    starts_after-sum (next_start starts) jobs low ∙ sums starts (length jobs) small
  where
    sums : (s n : ℕ) → s < 2 ^ 64 → min (min (s + 1) (2 ^ 64 - 1) + n) (2 ^ 64 - 1) ≡ min (s + suc n) (2 ^ 64 - 1)
    sums s n small = omega (arith, small)
