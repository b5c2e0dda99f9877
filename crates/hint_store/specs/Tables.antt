-- A table of hints: by place, which is the peer and the hint's place in the sequence in which hints came; and beside it by number and by age.
use Rattle.std.specs.Prelude.{◌≡◌, ℕ, ◌<◌, ◌+◌, ◌==◌, ◌&&◌, Bool, true, false, if◌then◌else◌, List, [], ◌∷◌, ◌++◌, Contains, filter, length}
use Rattle.std.specs.declared.cmp.Ordering.{Ordering}
use Rattle.std.specs.Ordering.{nat_cmp, ordering_then}
use Rattle.std.specs.List.{list_any}
use Rattle.std.specs.List.Sorted.{IsStrictlySortedBy}
use Rattle.std.specs.Map.{keys_of, values_of}
use Rattle.row_change.specs.declared.entry.Hint.{Hint}
use Rattle.durable_state.specs.State.{hints_of}

-- hints by place, and the place in the sequence that the next one gets
pub record Filed : Type 0 where
  pub entries : List ((ℕ × ℕ) × Hint)
  pub next : ℕ

abbrev pub place_cmp : ℕ × ℕ → ℕ × ℕ → Ordering
place_cmp x y = ordering_then (nat_cmp x.0 y.0) (nat_cmp x.1 y.1)

abbrev pub number_cmp : ℕ × ℕ × ℕ → ℕ × ℕ × ℕ → Ordering
number_cmp x y = ordering_then (ordering_then (nat_cmp x.0 y.0) (nat_cmp x.1 y.1)) (nat_cmp x.2 y.2)

abbrev pub age_cmp : ℕ × ℕ × ℕ × ℕ → ℕ × ℕ × ℕ × ℕ → Ordering
age_cmp x y = ordering_then (ordering_then (ordering_then (nat_cmp x.0 y.0) (nat_cmp x.1 y.1)) (nat_cmp x.2 y.2)) (nat_cmp x.3 y.3)

abbrev pub is_place : ℕ × ℕ → ℕ × ℕ → Bool
is_place x y = (y.0 == x.0) && (y.1 == x.1)

-- the hint is the peer's of this number
abbrev pub is_hint : ℕ → ℕ → Hint → Bool
is_hint peer number h = (h.peer == peer) && (h.number == number)

abbrev pub number_key : (ℕ × ℕ) × Hint → ℕ × ℕ × ℕ
number_key e = (e.1.peer, e.1.number, e.0.1)

abbrev pub age_key : (ℕ × ℕ) × Hint → ℕ × ℕ × ℕ × ℕ
age_key e = (e.1.born, e.1.peer, e.1.number, e.0.1)

-- each hint has a place of its peer, before the next one in the sequence
abbrev pub AreFiled : ℕ → List ((ℕ × ℕ) × Hint) → Type 0
AreFiled next [] = Unit {0}
AreFiled next (e ∷ es) = (e.0.0 ≡ e.1.peer) × (e.0.1 < next) × AreFiled next es

-- how many pass a test
abbrev pub passing : {X : Type 0} → (X → Bool) → List X → ℕ
passing q xs = length (filter q xs)

-- the keys are those of the entries, each as often
abbrev pub Indexes : {K : Type 0} → ((ℕ × ℕ) × Hint → K) → List ((ℕ × ℕ) × Hint) → List K → Type 0
Indexes {K} key es ks = (q : K → Bool) → passing q ks ≡ passing (λ e. q (key e)) es

pub record IsTable (es : List ((ℕ × ℕ) × Hint)) (numbers : List (ℕ × ℕ × ℕ)) (ages : List (ℕ × ℕ × ℕ × ℕ)) (next : ℕ) : Type 0 where
  pub sorted : IsStrictlySortedBy place_cmp (keys_of es)
  pub filed : AreFiled next es
  pub by_number : Indexes number_key es numbers
  pub by_age : Indexes age_key es ages

-- one for a key that passes
abbrev pub one_if : Bool → ℕ
one_if b = if b then 1 else 0

-- the key comes to those that are there
abbrev pub Gains : {K : Type 0} → K → List K → List K → Type 0
Gains {K} k ks ks' = (q : K → Bool) → passing q ks' ≡ one_if (q k) + passing q ks

-- the same keys are there
abbrev pub HaveSame : {K : Type 0} → List K → List K → Type 0
HaveSame {K} ks ks' = (q : K → Bool) → passing q ks' ≡ passing q ks

-- no hint has this place
abbrev pub IsVacant : ℕ × ℕ → List ((ℕ × ℕ) × Hint) → Type 0
IsVacant place es = list_any (λ e. is_place place e.0) es ≡ false

-- of those that pass a test, a hint that passes comes behind those of its peer; to those that pass one that it does not, nothing comes
pub record IsPushed (es : List ((ℕ × ℕ) × Hint)) (place : ℕ × ℕ) (h : Hint) (es' : List ((ℕ × ℕ) × Hint)) : Type 0 where
  pub behind : (q : (ℕ × ℕ) × Hint → Bool) (peer : ℕ) → hints_of (values_of (filter q es')) peer ≡ hints_of (values_of (filter q es)) peer ++ hints_of (values_of (filter q ((place, h) ∷ []))) peer
  pub others : (q : (ℕ × ℕ) × Hint → Bool) → q (place, h) ≡ false → filter q es' ≡ filter q es

-- all that has the place is the peer's hint of this number, and there is one
pub record IsAt (peer number sequence : ℕ) (es : List ((ℕ × ℕ) × Hint)) : Type 0 where
  pub some : list_any (λ e. is_place (peer, sequence) e.0) es ≡ true
  pub only : (e : (ℕ × ℕ) × Hint) → Contains es e → is_place (peer, sequence) e.0 ≡ true → is_hint peer number e.1 ≡ true
