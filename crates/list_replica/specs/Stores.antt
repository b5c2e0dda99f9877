-- The contents of partitions, as the list of all that is stored.
use Rattle.std.specs.Prelude.{ℕ, List, [], ◌∷◌, map, filter, flat_map, Bool, true, false, ◌&&◌, Option, None, Some, IsSomeAnd}
use Rattle.std.specs.Map.{keys_of}
use Rattle.std.specs.BTreeMap.{BTreeMap, get}
use Rattle.cs_base.specs.declared.range.Range.{Range}
use Rattle.cs_base.specs.Ring.{in_range}
use Rattle.changes.specs.declared.Held.{Held}
use Rattle.changes.specs.declared.Mutation.{Mutation}
use Rattle.changes.specs.declared.Partition.{Partition}
use Rattle.changes.specs.Order.{partition_cmp}
use Rattle.partition_content.specs.declared.Arrived.{Arrived}
use Rattle.partition_content.specs.Partition.{Partition as Content, IsReadyFor}
use Rattle.durable_state.specs.State.{Stored, changes_of}
use Rattle.durable_state.specs.Taking.{TakesIn, ArriveAt}

abbrev pub stored : Partition → Arrived → Stored
stored p x = record { partition = p; held = x.held; arrival = x.arrival }

abbrev pub stored_all : Partition × Content → List Stored
stored_all e = map (stored e.0) e.1.stored

abbrev pub all_of : List (Partition × Content) → List Stored
all_of entries = flat_map stored_all entries

-- what is stored of a partition that may not be there
abbrev pub stored_if : Option Content → List Arrived
stored_if None = []
stored_if (Some content) = content.stored

abbrev pub stored_at : BTreeMap Partition Content → Partition → List Arrived
stored_at m p = stored_if (get partition_cmp m p)

-- there is memory for these changes of the partition
abbrev pub IsReadyAt : BTreeMap Partition Content → Partition → List Held → Type 0
IsReadyAt m p incoming = IsSomeAnd (get partition_cmp m p) (λ content. IsReadyFor content incoming)

-- the changes of a mutation came at this time
abbrev pub TakesData : ℕ → Mutation → BTreeMap Partition Content → BTreeMap Partition Content → Type 0
TakesData time m old new =
    TakesIn (changes_of (all_of old.entries)) m.partition m.changes (changes_of (all_of new.entries)) × ArriveAt time (all_of old.entries) (all_of new.entries)

-- ---- partitions

abbrev pub has_any : List Arrived → Bool
has_any [] = false
has_any (x ∷ xs) = true

-- something is stored of the partition, and its token is in the range
abbrev pub is_listed : Range → Partition × Content → Bool
is_listed range e = has_any e.1.stored && in_range range e.0.token

abbrev pub listed : Range → List (Partition × Content) → List Partition
listed range entries = keys_of (filter (is_listed range) entries)
