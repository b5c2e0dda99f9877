-- The rows that relations name (CQL reference, "WHERE"): a partition by the bytes of its key, and its rows between two
-- bounds. The bytes of a key of several columns are as Cassandra's partitioner takes them ("CompositeType").
use Rattle.std.specs.Prelude.{ℕ, ◌+◌, ◌&&◌, ◌||◌, nat_lt, not, Bool, true, false, List, [], ◌∷◌, ◌++◌, Option, Some, None, if◌then◌else◌, slice_get, length, flat_map}
use Rattle.std.specs.Int.{w16, to_be_bytes}
use Rattle.cql_values.specs.Protocol.{value_bytes}
use Rattle.cql_values.specs.Order.{order_word}
use Rattle.token_ring.specs.Murmur.{token_of}
use Rattle.changes.specs.declared.Bound.{Bound}
use Rattle.changes.specs.declared.Partition.{Partition}
use Rattle.schema_book.specs.declared.table.ColumnDef.{ColumnDef}
use Rattle.cql_values.specs.declared.value.CqlValue.{CqlValue}
use Rattle.key_restrictions.specs.declared.restriction.Restriction.{Restriction}
use Rattle.key_restrictions.specs.declared.rows.RowBounds.{RowBounds}
use Rattle.key_restrictions.specs.Operators.{is_strict}
use Rattle.key_restrictions.specs.Places.{is_partition, is_clustering, is_fixed, fixing, lower_bound, upper_bound, open_place}

-- ---- the partition

abbrev pub bytes_in : Option (Restriction CqlValue) → List ℕ
bytes_in None = []
bytes_in (Some r) = value_bytes r.value

-- the bytes of each column of the partition key, from this place on
abbrev pub parts_from : List (Restriction CqlValue) → ℕ → List ColumnDef → List (List ℕ)
parts_from rs place [] = []
parts_from rs place (d ∷ ds) = if is_partition d.kind then bytes_in (fixing rs place) ∷ parts_from rs (place + 1) ds else []

abbrev pub key_parts : List ColumnDef → List (Restriction CqlValue) → List (List ℕ)
key_parts columns rs = parts_from rs 0 columns

-- of several columns each has its length before it, in two bytes, and a zero byte behind it
abbrev pub framed : List ℕ → List ℕ
framed part = to_be_bytes w16 (length part) ++ (part ++ 0 ∷ [])

-- one column's bytes are the key's
abbrev pub joined : List (List ℕ) → List ℕ
joined [] = []
joined (part ∷ []) = part
joined (part ∷ next ∷ parts) = flat_map framed (part ∷ next ∷ parts)

abbrev pub key_bytes : List ColumnDef → List (Restriction CqlValue) → List ℕ
key_bytes columns rs = joined (key_parts columns rs)

abbrev pub partition_of : ℕ → List ColumnDef → List (Restriction CqlValue) → Partition
partition_of table columns rs =
    record { table = table; token = token_of (key_bytes columns rs); key = key_bytes columns rs }

-- ---- the rows

abbrev pub word_in : Bool → Option (Restriction CqlValue) → List ℕ
word_in falls None = []
word_in falls (Some r) = order_word falls r.value

-- the order bytes of the clustering columns that are fixed, from this place on up to the first that is not
abbrev pub prefix_from : List (Restriction CqlValue) → ℕ → List ColumnDef → List ℕ
prefix_from rs place [] = []
prefix_from rs place (d ∷ ds) =
    if is_partition d.kind then prefix_from rs (place + 1) ds
    else if is_clustering d.kind && is_fixed rs place then word_in d.is_descending (fixing rs place) ++ prefix_from rs (place + 1) ds
    else []

abbrev pub prefix_bytes : List ColumnDef → List (Restriction CqlValue) → List ℕ
prefix_bytes columns rs = prefix_from rs 0 columns

abbrev pub falls_at : Option ColumnDef → Bool
falls_at None = false
falls_at (Some d) = d.is_descending

-- whether the rows of a partition stand by falling values of the first column that is not fixed
abbrev pub falls_open : List ColumnDef → List (Restriction CqlValue) → Bool
falls_open columns rs = falls_at (slice_get columns (open_place columns rs))

-- in falling order the upper bound comes first
abbrev pub first_bound : Bool → List (Restriction CqlValue) → ℕ → Option (Restriction CqlValue)
first_bound falls rs place = if falls then upper_bound rs place else lower_bound rs place

abbrev pub last_bound : Bool → List (Restriction CqlValue) → ℕ → Option (Restriction CqlValue)
last_bound falls rs place = if falls then lower_bound rs place else upper_bound rs place

-- The rows begin before those with the bytes of the bound, or behind them where the bound is strict
abbrev pub begin_at : List ℕ → Bool → Option (Restriction CqlValue) → Bound
begin_at prefix falls None = record { at = prefix; after = false }
begin_at prefix falls (Some r) = record { at = prefix ++ order_word falls r.value; after = is_strict r.operator }

-- and end behind them, or before them
abbrev pub end_at : List ℕ → Bool → Option (Restriction CqlValue) → Bound
end_at prefix falls None = record { at = prefix; after = true }
end_at prefix falls (Some r) = record { at = prefix ++ order_word falls r.value; after = not (is_strict r.operator) }

abbrev pub from_of : List ColumnDef → List (Restriction CqlValue) → Bound
from_of columns rs =
    begin_at (prefix_bytes columns rs) (falls_open columns rs) (first_bound (falls_open columns rs) rs (open_place columns rs))

abbrev pub upto_of : List ColumnDef → List (Restriction CqlValue) → Bound
upto_of columns rs =
    end_at (prefix_bytes columns rs) (falls_open columns rs) (last_bound (falls_open columns rs) rs (open_place columns rs))

abbrev pub bounds_of : List ColumnDef → List (Restriction CqlValue) → RowBounds
bounds_of columns rs = record { from = from_of columns rs; upto = upto_of columns rs }

-- ---- sizes

abbrev pub most_key_bytes : ℕ
most_key_bytes = 65535

abbrev pub is_long : List ℕ → Bool
is_long bytes = nat_lt most_key_bytes (length bytes)
