-- Which key columns relations fix, and which they bound.
use Rattle.std.specs.Prelude.{ℕ, ◌+◌, ◌==◌, ◌&&◌, Bool, true, false, List, [], ◌∷◌, Option, Some, None, if◌then◌else◌, slice_get}
use Rattle.std.specs.List.{list_any, find}
use Rattle.schema_book.specs.declared.table.ColumnDef.{ColumnDef}
use Rattle.schema_book.specs.declared.table.ColumnKind.{ColumnKind}
use Rattle.schema_book.specs.declared.table.ColumnKind.TheVariants.{Partition, Clustering, Regular}
use Rattle.key_restrictions.specs.declared.restriction.Restriction.{Restriction}
use Rattle.key_restrictions.specs.Operators.{is_equal, is_lower, is_upper}

-- ---- columns

abbrev pub is_partition : ColumnKind → Bool
is_partition Partition = true
is_partition Clustering = false
is_partition Regular = false

abbrev pub is_clustering : ColumnKind → Bool
is_clustering Partition = false
is_clustering Clustering = true
is_clustering Regular = false

abbrev pub is_key : ColumnKind → Bool
is_key Partition = true
is_key Clustering = true
is_key Regular = false

-- there is a column of such a kind
abbrev pub is_of_kind : (ColumnKind → Bool) → Option ColumnDef → Bool
is_of_kind is_such None = false
is_of_kind is_such (Some d) = is_such d.kind

abbrev pub is_partition_at : List ColumnDef → ℕ → Bool
is_partition_at columns place = is_of_kind is_partition (slice_get columns place)

abbrev pub is_clustering_at : List ColumnDef → ℕ → Bool
is_clustering_at columns place = is_of_kind is_clustering (slice_get columns place)

abbrev pub is_key_at : List ColumnDef → ℕ → Bool
is_key_at columns place = is_of_kind is_key (slice_get columns place)

-- ---- relations on a column

abbrev pub fixes : {V : Type 0} → ℕ → Restriction V → Bool
fixes place r = r.column == place && is_equal r.operator

abbrev pub bounds_below : {V : Type 0} → ℕ → Restriction V → Bool
bounds_below place r = r.column == place && is_lower r.operator

abbrev pub bounds_above : {V : Type 0} → ℕ → Restriction V → Bool
bounds_above place r = r.column == place && is_upper r.operator

-- a column is fixed where some relation says what it equals
abbrev pub is_fixed : {V : Type 0} → List (Restriction V) → ℕ → Bool
is_fixed rs place = list_any (fixes place) rs

-- the relation that fixes it, or bounds it
abbrev pub fixing : {V : Type 0} → List (Restriction V) → ℕ → Option (Restriction V)
fixing rs place = find (fixes place) rs

abbrev pub lower_bound : {V : Type 0} → List (Restriction V) → ℕ → Option (Restriction V)
lower_bound rs place = find (bounds_below place) rs

abbrev pub upper_bound : {V : Type 0} → List (Restriction V) → ℕ → Option (Restriction V)
upper_bound rs place = find (bounds_above place) rs

-- the first of the columns from this place on that is not a fixed column of the key
abbrev pub open_from : {V : Type 0} → List (Restriction V) → ℕ → List ColumnDef → ℕ
open_from rs place [] = place
open_from rs place (d ∷ ds) = if is_key d.kind && is_fixed rs place then open_from rs (place + 1) ds else place

-- the place of the first column that is not a fixed column of the key
abbrev pub open_place : {V : Type 0} → List ColumnDef → List (Restriction V) → ℕ
open_place columns rs = open_from rs 0 columns
