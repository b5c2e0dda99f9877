-- The rows of a node as they were kept last, and as its step has them now.
use Rattle.std.specs.Prelude.{◌≡◌, Bool, false, if◌then◌else◌, Option, Some, None, List, [], ◌∷◌, ◌++◌, is_some}
use Rattle.std.specs.List.{list_any}
use Rattle.std.specs.BTreeMap.{is_at}
use Rattle.std.specs.Map.{lookup}
use Rattle.changes.specs.declared.Partition.{Partition}
use Rattle.changes.specs.Order.{partition_cmp}
use Rattle.row_change.specs.declared.entry.LogItem.{LogItem}
use Rattle.row_change.specs.declared.entry.LogItem.TheVariants as item
use Rattle.row_change.specs.declared.entry.PaxosRow.{PaxosRow}
use Rattle.durable_state.specs.declared.parts.RowAt.{RowAt}
use Rattle.durable_state.specs.State.{row_at}
use Rattle.paxos_acceptor.specs.Acceptor.{fresh_row}
use Rattle.row_store.specs.declared.slot.Slot.{Slot}
use Rattle.row_store.specs.Slots.{settled_in, staged_in, current_in}

-- what is in memory of each partition; and the partitions whose rows the step has set, each once, in the order in which it set them
-- first
pub record Staged : Type 0 where
  pub slots : List (Partition × Slot)
  pub set : List Partition

abbrev pub slot_at : List (Partition × Slot) → Partition → Option Slot
slot_at es p = lookup (is_at (partition_cmp p)) es

abbrev pub row_before : List (Partition × Slot) → Partition → Option PaxosRow
row_before es p = settled_in (slot_at es p)

abbrev pub row_now : List (Partition × Slot) → Partition → Option PaxosRow
row_now es p = current_in (slot_at es p)

-- a partition's row as it was kept last, and as the step has it now
abbrev pub before : Staged → Partition → Option PaxosRow
before s p = row_before s.slots p

abbrev pub now : Staged → Partition → Option PaxosRow
now s p = row_now s.slots p

-- the same row of each partition
abbrev pub AreSameRows : (Partition → Option PaxosRow) → (Partition → Option PaxosRow) → Type 0
AreSameRows rows rows' = (p : Partition) → rows' p ≡ rows p

-- the partition has this row now, and each other one has its own still
abbrev pub IsSetAt : Partition → PaxosRow → (Partition → Option PaxosRow) → (Partition → Option PaxosRow) → Type 0
IsSetAt p row rows rows' = (q : Partition) → rows' q ≡ (if is_at (partition_cmp p) q then Some row else rows q)

-- a partition of which nothing was heard has a fresh row
abbrev pub row_or_fresh : Option PaxosRow → PaxosRow
row_or_fresh None = fresh_row
row_or_fresh (Some row) = row

-- ---- what a step keeps

abbrev pub item_of : (Partition → Option PaxosRow) → Partition → LogItem
item_of rows p = item.Paxos p (row_or_fresh (rows p))

-- ---- of what a store is made

abbrev pub staged_at : List (Partition × Slot) → Partition → Option PaxosRow
staged_at es p = staged_in (slot_at es p)

abbrev pub is_noted : List Partition → Partition → Bool
is_noted set p = list_any (is_at (partition_cmp p)) set

-- what the step has set, and no more, is noted
abbrev pub AreNoted : List (Partition × Slot) → List Partition → Type 0
AreNoted es set = (p : Partition) → is_some (staged_at es p) ≡ is_noted set p

-- ---- what its moves make

-- all look-ups are the same
pub record AreSameSlots (es es' : List (Partition × Slot)) : Type 0 where
  pub before : (p : Partition) → row_before es' p ≡ row_before es p
  pub staged : (p : Partition) → staged_at es' p ≡ staged_at es p
  pub now : (p : Partition) → row_now es' p ≡ row_now es p

-- a move at one partition: there it makes this of what was kept and of what was set, and of no other anything
pub record IsMovedAt (p : Partition) (before staged now : Option PaxosRow) (es es' : List (Partition × Slot)) : Type 0 where
  pub before_here : row_before es' p ≡ before
  pub staged_here : staged_at es' p ≡ staged
  pub now_here : row_now es' p ≡ now
  pub before_others : (q : Partition) → is_at (partition_cmp p) q ≡ false → row_before es' q ≡ row_before es q
  pub staged_others : (q : Partition) → is_at (partition_cmp p) q ≡ false → staged_at es' q ≡ staged_at es q
  pub now_others : (q : Partition) → is_at (partition_cmp p) q ≡ false → row_now es' q ≡ row_now es q

abbrev pub IsSetIn : Partition → PaxosRow → List (Partition × Slot) → List (Partition × Slot) → Type 0
IsSetIn p row es es' = IsMovedAt p (row_before es p) (Some row) (Some row) es es'

abbrev pub IsSettledIn : Partition → List (Partition × Slot) → List (Partition × Slot) → Type 0
IsSettledIn p es es' = IsMovedAt p (row_now es p) None (row_now es p) es es'

abbrev pub IsUnsetIn : Partition → List (Partition × Slot) → List (Partition × Slot) → Type 0
IsUnsetIn p es es' = IsMovedAt p (row_before es p) None (row_before es p) es es'

-- of these partitions what was set is kept, or undone
pub record AreSettledIn (set : List Partition) (es es' : List (Partition × Slot)) : Type 0 where
  pub now : (q : Partition) → row_now es' q ≡ row_now es q
  pub staged : (q : Partition) → staged_at es' q ≡ (if is_noted set q then None else staged_at es q)

pub record AreUnsetIn (set : List Partition) (es es' : List (Partition × Slot)) : Type 0 where
  pub before : (q : Partition) → row_before es' q ≡ row_before es q
  pub staged : (q : Partition) → staged_at es' q ≡ (if is_noted set q then None else staged_at es q)

abbrev pub kept_slot : PaxosRow → Slot
kept_slot row = record { settled = Some row; staged = None }

-- a row that was kept is put in
abbrev pub IsPutIn : RowAt → List (Partition × Slot) → List (Partition × Slot) → Type 0
IsPutIn x es es' = (q : Partition) → slot_at es' q ≡ (if is_at (partition_cmp x.partition) q then Some (kept_slot x.row) else slot_at es q)

-- these rows were kept, and nothing is set
pub record AreSlotsOf (rows : List RowAt) (es : List (Partition × Slot)) : Type 0 where
  pub before : (q : Partition) → row_before es q ≡ row_at rows q
  pub staged : (q : Partition) → staged_at es q ≡ None

-- the partition is noted, at the end if it was not yet
abbrev pub with_noted : List Partition → Partition → List Partition
with_noted set p = if is_noted set p then set else set ++ p ∷ []
