-- Which drafts are kept of all that a statement asks for: of two changes of one place the one that beats the other. Where
-- one has a timestamp of its own and the other gets the start time of its request, which of them beats is seen when
-- that request starts, and both are kept.
use Rattle.std.specs.Prelude.{◌≡◌, ◌≢◌, ℤ, List, Contains, Option, Some, None, is_none, is_some}
use Rattle.std.specs.Option.{option_cmp}
use Rattle.std.specs.Ordering.{bool_cmp, int_cmp, ordering_then}
use Rattle.std.specs.List.Sorted.{IsStrictlySortedBy}
use Rattle.std.specs.declared.cmp.Ordering.{Ordering}
use Rattle.std.specs.declared.cmp.Ordering.TheVariants.{Less, Equal}
use Rattle.changes.specs.declared.Draft.{Draft}
use Rattle.changes.specs.Order.{value_cmp}
use Rattle.changes.specs.Places.{place_cmp}

-- a draft with a timestamp of its own stands before one that gets the start time of its request
abbrev pub clock_cmp : Option ℤ → Option ℤ → Ordering
clock_cmp a b = bool_cmp (is_none a) (is_none b)

abbrev pub draft_order : Draft → Draft → Ordering
draft_order x y = ordering_then (place_cmp x.place y.place) (clock_cmp x.timestamp y.timestamp)

abbrev pub timestamp_cmp : Option ℤ → Option ℤ → Ordering
timestamp_cmp None None = Equal
timestamp_cmp None (Some b) = Equal
timestamp_cmp (Some a) None = Equal
timestamp_cmp (Some a) (Some b) = int_cmp a b

-- the later timestamp, then a deletion above a value, and the greater value
abbrev pub rank_cmp : Draft → Draft → Ordering
rank_cmp x y = ordering_then (timestamp_cmp x.timestamp y.timestamp) (value_cmp x.value y.value)

-- both change one place, and their timestamps come from one clock
abbrev pub AreRivals : Draft → Draft → Type 0
AreRivals x y = (x.place ≡ y.place) × (is_some x.timestamp ≡ is_some y.timestamp)

-- x does so too, and y does not beat it
abbrev pub Stands : Draft → Draft → Type 0
Stands x y = AreRivals x y × (rank_cmp x y ≢ Less)

pub record IsKept (kept all : List Draft) : Type 0 where
  pub within : (x : Draft) → Contains kept x → Contains all x
  pub reached : (y : Draft) → Contains all y → (x : Draft) × Contains kept x × Stands x y
  pub sorted : IsStrictlySortedBy draft_order kept

-- ---- as they are sorted

-- the later timestamp first, then a deletion, then the greater value
abbrev pub best_first : Draft → Draft → Ordering
best_first x y = ordering_then (option_cmp int_cmp y.timestamp x.timestamp) (value_cmp y.value x.value)

abbrev pub sorting_cmp : Draft → Draft → Ordering
sorting_cmp x y = ordering_then (draft_order x y) (best_first x y)
