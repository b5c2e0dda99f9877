-- What is wrong with the relations of a WHERE (CQL reference, "WHERE": partition key columns want an equality, and
-- clustering columns are restricted from the first on).
use Rattle.std.specs.Prelude.{ℕ, ◌+◌, ◌&&◌, ◌||◌, nat_lt, not, Bool, true, false, List, [], ◌∷◌, count_by}
use Rattle.std.specs.List.{list_any}
use Rattle.schema_book.specs.declared.table.ColumnDef.{ColumnDef}
use Rattle.key_restrictions.specs.declared.restriction.Restriction.{Restriction}
use Rattle.key_restrictions.specs.Operators.{is_equal}
use Rattle.key_restrictions.specs.Places.{is_key, is_partition_at, is_clustering_at, is_key_at, fixes, bounds_below, bounds_above, open_place}

-- ---- what is left open

abbrev pub bounds_partition : {V : Type 0} → List ColumnDef → Restriction V → Bool
bounds_partition columns r = is_partition_at columns r.column && not (is_equal r.operator)

abbrev pub bounds_key : {V : Type 0} → List ColumnDef → Restriction V → Bool
bounds_key columns r = is_key_at columns r.column && not (is_equal r.operator)

-- a key column behind one that is not fixed
abbrev pub is_behind : {V : Type 0} → List ColumnDef → ℕ → Restriction V → Bool
is_behind columns first r = is_key_at columns r.column && nat_lt first r.column

-- each key column is fixed
abbrev pub is_whole : {V : Type 0} → List ColumnDef → List (Restriction V) → Bool
is_whole columns rs = not (is_key_at columns (open_place columns rs))

-- where one row is named, each key column is fixed, and none is bounded
abbrev pub misses_whole : {V : Type 0} → List ColumnDef → List (Restriction V) → Bool
misses_whole columns rs = not (is_whole columns rs) || list_any (bounds_key columns) rs

-- Where rows of a partition are named, its key is fixed and not bounded, and the clustering columns are fixed from the
-- first on; the first that is not fixed may be bounded, and those behind it are free
abbrev pub misses_slice : {V : Type 0} → List ColumnDef → List (Restriction V) → Bool
misses_slice columns rs =
    is_partition_at columns (open_place columns rs)
    || (list_any (bounds_partition columns) rs || list_any (is_behind columns (open_place columns rs)) rs)

-- ---- what is said twice

abbrev pub fixed_times : {V : Type 0} → List (Restriction V) → ℕ → ℕ
fixed_times rs place = count_by (fixes place) rs

abbrev pub lower_times : {V : Type 0} → List (Restriction V) → ℕ → ℕ
lower_times rs place = count_by (bounds_below place) rs

abbrev pub upper_times : {V : Type 0} → List (Restriction V) → ℕ → ℕ
upper_times rs place = count_by (bounds_above place) rs

-- it is fixed twice, or fixed and bounded
abbrev pub is_fixed_twice : ℕ → ℕ → ℕ → Bool
is_fixed_twice fixed lower upper = nat_lt 1 fixed || (nat_lt 0 fixed && (nat_lt 0 lower || nat_lt 0 upper))

-- or bounded twice from one side
abbrev pub is_twice_at : {V : Type 0} → List (Restriction V) → ℕ → Bool
is_twice_at rs place =
    is_fixed_twice (fixed_times rs place) (lower_times rs place) (upper_times rs place)
    || (nat_lt 1 (lower_times rs place) || nat_lt 1 (upper_times rs place))

abbrev pub is_twice_from : {V : Type 0} → List (Restriction V) → ℕ → List ColumnDef → Bool
is_twice_from rs place [] = false
is_twice_from rs place (d ∷ ds) = is_key d.kind && is_twice_at rs place || is_twice_from rs (place + 1) ds

-- some key column
abbrev pub is_twice : {V : Type 0} → List ColumnDef → List (Restriction V) → Bool
is_twice columns rs = is_twice_from rs 0 columns

-- ---- other columns

abbrev pub is_other : {V : Type 0} → List ColumnDef → Restriction V → Bool
is_other columns r = not (is_key_at columns r.column)

-- a column is restricted that is not of the key
abbrev pub filters : {V : Type 0} → List ColumnDef → List (Restriction V) → Bool
filters columns rs = list_any (is_other columns) rs

abbrev pub is_on_row : {V : Type 0} → List ColumnDef → Restriction V → Bool
is_on_row columns r = is_clustering_at columns r.column

-- a clustering column is restricted, so that it is about some rows of the partition
abbrev pub names_rows : {V : Type 0} → List ColumnDef → List (Restriction V) → Bool
names_rows columns rs = list_any (is_on_row columns) rs
