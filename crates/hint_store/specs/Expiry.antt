-- Which hints are too old, the oldest first.
use Rattle.std.specs.Prelude.{◌≡◌, ℕ, ◌+◌, ◌≤◌, ◌==◌, ◌&&◌, ◌||◌, if◌then◌else◌, Bool, false, Option, Some, None, List, [], ◌∷◌, Contains}
use Rattle.std.specs.declared.cmp.Ordering.{Ordering}
use Rattle.std.specs.declared.cmp.Ordering.TheVariants.{Less}
use Rattle.std.specs.Ordering.{nat_cmp, ordering_then}
use Rattle.row_change.specs.declared.entry.Hint.{Hint}
use Rattle.hint_store.specs.declared.aging.Expired.{Expired}
use Rattle.hint_store.specs.Stores.{is_added}

-- at this time a hint that was born then is past its age
abbrev pub IsExpired : ℕ → ℕ → Hint → Type 0
IsExpired expiry time h = h.born + expiry + 1 ≤ time

abbrev pub expired_of : Hint → Expired
expired_of h = record { born = h.born; peer = h.peer; number = h.number }

abbrev pub expired_cmp : Expired → Expired → Ordering
expired_cmp a b = ordering_then (nat_cmp a.born b.born) (ordering_then (nat_cmp a.peer b.peer) (nat_cmp a.number b.number))

abbrev pub AreOldestFirst : List Expired → Type 0
AreOldestFirst [] = Unit {0}
AreOldestFirst (x ∷ xs) = ((y : Expired) → Contains xs y → expired_cmp x y ≡ Less) × AreOldestFirst xs

-- ---- the keys of hints by age: birth, peer, number, and place in the sequence

abbrev pub expired_at : ℕ × ℕ × ℕ × ℕ → Expired
expired_at k = record { born = k.0; peer = k.1; number = k.2 }

abbrev pub is_last : Option Expired → ℕ × ℕ × ℕ × ℕ → Bool
is_last None k = false
is_last (Some x) k = ((x.born == k.0) && (x.peer == k.1)) && (x.number == k.2)

-- those that are not gone, where several in a row are of one hint but once
abbrev pub expired_in : List (ℕ × ℕ) → Option Expired → List (ℕ × ℕ × ℕ × ℕ) → List Expired
expired_in gone last [] = []
expired_in gone last (k ∷ ks) =
    if is_added gone (k.1, k.2) || is_last last k then expired_in gone last ks else expired_at k ∷ expired_in gone (Some (expired_at k)) ks
