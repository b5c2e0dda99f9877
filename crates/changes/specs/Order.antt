-- Which change outranks which: at one place the later, and a deletion what lies in it.
-- After Cassandra's storage engine ("Write timestamps", "Tombstones"): the higher timestamp wins, a deletion at an equal one.
use Rattle.std.specs.Prelude.{◌≡◌, ◌≢◌, ℕ, ◌⊎◌, Option, Some, None, ◌≤ℤ◌, List, [], ◌∷◌, map, Bool, true, false, ◌++◌}
use Rattle.std.specs.Ordering.{nat_cmp, int_cmp, ordering_then}
use Rattle.std.specs.Cmp.Lexicographic.{slice_cmp}
use Rattle.std.specs.declared.cmp.Ordering.{Ordering}
use Rattle.std.specs.declared.cmp.Ordering.TheVariants.{Less, Equal, Greater}
use Rattle.cs_base.specs.Requests.{request_cmp}
use Rattle.changes.specs.declared.Partition.{Partition}
use Rattle.changes.specs.declared.Bound.{Bound}
use Rattle.changes.specs.declared.Place.{Place}
use Rattle.changes.specs.declared.Place.TheVariants.{Cell, Marker, RowGone, RangeGone, PartGone}
use Rattle.changes.specs.declared.Held.{Held}

-- Rows and bounds have one order. Each is its bytes and an end sign: before a row is the least sign, then the row, then
-- the bytes, and behind a row is the greatest. A sign is its class and the byte
abbrev pub byte_sign : ℕ → ℕ × ℕ
byte_sign b = (2, b)

abbrev pub signs : List ℕ → ℕ → List (ℕ × ℕ)
signs bytes last = map byte_sign bytes ++ (last, 0) ∷ []

abbrev pub end_of : Bool → ℕ
end_of false = 0
end_of true = 3

abbrev pub row_signs : List ℕ → List (ℕ × ℕ)
row_signs row = signs row 1

abbrev pub bound_signs : Bound → List (ℕ × ℕ)
bound_signs b = signs b.at (end_of b.after)

abbrev pub sign_cmp : ℕ × ℕ → ℕ × ℕ → Ordering
sign_cmp a b = ordering_then (nat_cmp a.0 b.0) (nat_cmp a.1 b.1)

abbrev pub signs_cmp : List (ℕ × ℕ) → List (ℕ × ℕ) → Ordering
signs_cmp a b = slice_cmp sign_cmp a b

-- the first stands before the second
abbrev pub StandsBelow : List (ℕ × ℕ) → List (ℕ × ℕ) → Type 0
StandsBelow a b = signs_cmp a b ≡ Less

abbrev pub NotAbove : List (ℕ × ℕ) → List (ℕ × ℕ) → Type 0
NotAbove a b = signs_cmp a b ≢ Greater

abbrev pub IsBetween : Bound → Bound → List ℕ → Type 0
IsBetween from upto row = StandsBelow (bound_signs from) (row_signs row) × StandsBelow (row_signs row) (bound_signs upto)

-- the row of a place that is in one row
abbrev pub row_of : Place → Option (List ℕ)
row_of (Cell row column) = Some row
row_of (Marker row) = Some row
row_of (RowGone row) = Some row
row_of (RangeGone from upto) = None
row_of PartGone = None

-- q lies in p, and is not p
abbrev pub Encloses : Place → Place → Type 0
Encloses PartGone (Cell row column) = Unit {0}
Encloses PartGone (Marker row) = Unit {0}
Encloses PartGone (RowGone row) = Unit {0}
Encloses PartGone (RangeGone from upto) = Unit {0}
Encloses PartGone PartGone = ⊥
Encloses (RangeGone from upto) (Cell row column) = IsBetween from upto row
Encloses (RangeGone from upto) (Marker row) = IsBetween from upto row
Encloses (RangeGone from upto) (RowGone row) = IsBetween from upto row
Encloses (RangeGone from upto) (RangeGone a b) =
    NotAbove (bound_signs from) (bound_signs a) × NotAbove (bound_signs b) (bound_signs upto) × (RangeGone a b ≢ RangeGone from upto)
Encloses (RangeGone from upto) PartGone = ⊥
Encloses (RowGone r) (Cell row column) = r ≡ row
Encloses (RowGone r) (Marker row) = r ≡ row
Encloses (RowGone r) (RowGone row) = ⊥
Encloses (RowGone r) (RangeGone a b) = ⊥
Encloses (RowGone r) PartGone = ⊥
Encloses (Cell r c) q = ⊥
Encloses (Marker r) q = ⊥

abbrev pub LiesIn : Place → Place → Type 0
LiesIn q p = (p ≡ q) ⊎ Encloses p q

abbrev pub IsDeletionAt : Place → Option (List ℕ) → Type 0
IsDeletionAt (Cell row column) value = value ≡ None
IsDeletionAt (Marker row) value = ⊥
IsDeletionAt (RowGone row) value = Unit {0}
IsDeletionAt (RangeGone from upto) value = Unit {0}
IsDeletionAt PartGone value = Unit {0}

abbrev pub IsDeletion : Held → Type 0
IsDeletion x = IsDeletionAt x.place x.value

-- a deletion is above a value, and the greater value above the lesser
abbrev pub value_cmp : Option (List ℕ) → Option (List ℕ) → Ordering
value_cmp None None = Equal
value_cmp None (Some y) = Greater
value_cmp (Some x) None = Less
value_cmp (Some x) (Some y) = slice_cmp nat_cmp x y

-- the later timestamp, then the value, then the later submission, then the request
abbrev pub rank_cmp : Held → Held → Ordering
rank_cmp a b =
    ordering_then
    (int_cmp a.timestamp b.timestamp)
    (ordering_then (value_cmp a.value b.value) (ordering_then (nat_cmp a.submitted b.submitted) (request_cmp a.request b.request)))

abbrev pub Beats : Held → Held → Type 0
Beats x y = (x.place ≡ y.place) × (rank_cmp x y ≡ Greater)

-- a deletion covers what lies in its place, is not later, and doesn't beat it
abbrev pub Covers : Held → Held → Type 0
Covers x y = IsDeletion x × LiesIn y.place x.place × (y.timestamp ≤ℤ x.timestamp) × (Beats y x → ⊥)

-- x beats y, or is another change that covers it
abbrev pub Outranks : Held → Held → Type 0
Outranks x y = Beats x y ⊎ (Covers x y × (x ≢ y))

-- both changes are of one row, or they are one change
abbrev pub IsBeside : Held → Held → Type 0
IsBeside x y = (x ≡ y) ⊎ ((row : List ℕ) × (row_of x.place ≡ Some row) × (row_of y.place ≡ Some row))

-- partitions by token, then table, then key
abbrev pub partition_cmp : Partition → Partition → Ordering
partition_cmp a b = ordering_then (int_cmp a.token b.token) (ordering_then (nat_cmp a.table b.table) (slice_cmp nat_cmp a.key b.key))
