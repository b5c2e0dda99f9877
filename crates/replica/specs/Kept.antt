-- What a load tells of what is kept beside the contents, and which entries are committed.
use Rattle.std.specs.Prelude.{◌≡◌, ◌↔◌, ℕ, List, Contains}
use Rattle.std.specs.List.{AllByRecursion}
use Rattle.std.specs.List.Sorted.{IsStrictlySortedBy}
use Rattle.std.specs.Ordering.{nat_cmp}
use Rattle.std.specs.declared.cmp.Ordering.{Ordering}
use Rattle.changes.specs.declared.Partition.{Partition}
use Rattle.changes.specs.Order.{partition_cmp}
use Rattle.row_change.specs.declared.entry.LogItem.{LogItem}
use Rattle.row_change.specs.declared.entry.LogItem.TheVariants.{Data, Purge}
use Rattle.row_change.specs.declared.entry.Mark as mark
use Rattle.durable_state.specs.declared.parts.LastNumber.{LastNumber}
use Rattle.durable_state.specs.declared.parts.RowAt.{RowAt}
use Rattle.durable_state.specs.State.{Durable, row_at, hints_of, last_of}
use Rattle.durable_state.specs.Keeping.{Commits}
use Rattle.replica.specs.declared.kept.Kept.{Kept}

-- this is what is kept beside the contents
pub record IsKeptOf (d : Durable) (kept : Kept) : Type 0 where
  pub ceiling : kept.ceiling ≡ d.ceiling
  pub rows : (p : Partition) → row_at kept.rows p ≡ row_at d.rows p
  pub hints : (peer : ℕ) → hints_of kept.hints peer ≡ hints_of d.hints peer
  pub numbers : (peer : ℕ) → last_of kept.numbers peer ≡ last_of d.numbers peer
  pub marks : (m : mark.Mark) → Contains kept.marks m ↔ Contains d.marks m

abbrev pub by_partition : RowAt → RowAt → Ordering
by_partition a b = partition_cmp a.partition b.partition

abbrev pub by_peer : LastNumber → LastNumber → Ordering
by_peer a b = nat_cmp a.peer b.peer

-- rows are in the order of partitions, and last numbers in that of peers, each once
pub record IsInOrder (kept : Kept) : Type 0 where
  pub rows : IsStrictlySortedBy by_partition kept.rows
  pub numbers : IsStrictlySortedBy by_peer kept.numbers

-- it is what is kept behind the items
abbrev pub IsKeptAfter : List LogItem → Durable → Kept → Type 0
IsKeptAfter items before kept = (after : Durable) → Commits items before after → IsKeptOf after kept

abbrev pub ArrivesAt : ℕ → LogItem → Type 0
ArrivesAt time (Data arrival m) = arrival ≡ time
ArrivesAt time i = Unit {0}

-- each of the changes came at this time
abbrev pub ArriveAllAt : ℕ → List LogItem → Type 0
ArriveAllAt time items = AllByRecursion (ArrivesAt time) items

-- they came at one time
abbrev pub ArriveAtOnce : List LogItem → Type 0
ArriveAtOnce items = (time : ℕ) × ArriveAllAt time items

abbrev pub IsNoPurge : LogItem → Type 0
IsNoPurge (Purge x) = ⊥
IsNoPurge i = Unit {0}

-- no change is let go of
abbrev pub PurgeNothing : List LogItem → Type 0
PurgeNothing items = AllByRecursion IsNoPurge items
