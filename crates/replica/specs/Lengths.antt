-- When an entry is refused for its length, and when a flush is due.
use Rattle.std.specs.Prelude.{◌≡◌, ℕ, ◌+◌, ◌^◌, ◌<◌, ◌≤◌, Bool, ◌&&◌, not, false, nat_lt, Option, Some, None, List, ◌∷◌, ◌++◌, Contains}
use Rattle.changes.specs.declared.Held.{Held}
use Rattle.changes.specs.declared.Mutation.{Mutation}
use Rattle.changes.specs.declared.Partition.{Partition}
use Rattle.changes.specs.Lengths.{changes_length}
use Rattle.changes.specs.Places.{AreInOrder}
use Rattle.row_change.specs.declared.entry.LogEntry.{LogEntry}
use Rattle.row_change.specs.declared.entry.LogItem.{LogItem}
use Rattle.row_change.specs.declared.entry.LogItem.TheVariants.{Data}
use Rattle.row_change.specs.Lengths.{entry_length}
use Rattle.durable_state.specs.State.{Durable, changes_of}
use Rattle.durable_state.specs.Taking.{IsHeldOf}
use Rattle.durable_state.specs.Keeping.{Commits}

-- ---- of the log

-- how many bytes an entry adds to the log: its own, its length in four, and a gate
abbrev pub added_length : LogEntry → ℕ
added_length entry = entry_length entry + 5

-- with the entry the log would pass 64 MiB
abbrev pub PassesLog : ℕ → LogEntry → Type 0
PassesLog log_end entry = 2 ^ 26 < log_end + added_length entry

-- a flush was made since the load, and less than 1 MiB was added to the log since then
abbrev pub is_flushed : Option ℕ → Bool
is_flushed None = false
is_flushed (Some added) = nat_lt added (2 ^ 20)

-- the log is longer than 32 MiB, and was not flushed lately
abbrev pub is_flush_due : ℕ → Option ℕ → Bool
is_flush_due log_end since_flush = nat_lt (2 ^ 25) log_end && not (is_flushed since_flush)

-- what was added since the last flush, once this is added
abbrev pub with_added : Option ℕ → ℕ → Option ℕ
with_added None n = None
with_added (Some added) n = Some (added + n)

-- ---- of a partition

-- all that is held of the partition, in order
abbrev pub IsListOf : Durable → Partition → List Held → Type 0
IsListOf d p part = IsHeldOf (changes_of d.content) p part × AreInOrder part

-- the items have changes of the partition
abbrev pub IsOf : List LogItem → Partition → Type 0
IsOf items p = (arrival : ℕ) × (m : Mutation) × Contains items (Data arrival m) × (m.partition ≡ p)

-- behind the items, what is held of the partition passes 16 MiB as it is stored
abbrev pub GrowsTooLarge : List LogItem → Durable → Partition → Type 0
GrowsTooLarge items before p = (after : Durable) (part : List Held) → Commits items before after → IsListOf after p part → 2 ^ 24 < changes_length part

-- or it stays within
abbrev pub StaysSmall : List LogItem → Durable → Partition → Type 0
StaysSmall items before p = (after : Durable) (part : List Held) → Commits items before after → IsListOf after p part → changes_length part ≤ 2 ^ 24

-- each partition of which some of the items have changes stays within
abbrev pub AllStaySmall : List LogItem → List LogItem → Durable → Type 0
AllStaySmall some items before = (p : Partition) → IsOf some p → StaysSmall items before p

-- of the partitions of which the items have changes, it is the first that grows too large
pub record IsFirstTooLarge (items : List LogItem) (before : Durable) (p : Partition) : Type 0 where
  pub front : List LogItem
  pub arrival : ℕ
  pub mutation : Mutation
  pub rest : List LogItem
  pub split : items ≡ front ++ Data arrival mutation ∷ rest
  pub of : mutation.partition ≡ p
  pub large : GrowsTooLarge items before p
  pub first : AllStaySmall front items before
