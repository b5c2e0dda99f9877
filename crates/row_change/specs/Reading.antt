-- A log's entries at the front of bytes, from left to right: a value and the bytes behind it, or the first fault.
use Rattle.std.specs.Prelude.{ℕ, ◌==◌, ◌&&◌, List, [], ◌∷◌, length, None, Result, Ok, Err, nat_lt, nat_le, if◌then◌else◌}
use Rattle.stored_fields.specs.Reading.{◌>>=◌, Read, u8_at, u32_at, u64_at, i64_at, node_at, request_at, optional_at, items_at, whole}
use Rattle.stored_fields.specs.declared.fault.Fault.{Fault}
use Rattle.stored_fields.specs.declared.fault.Fault.TheVariants.{Tag, Order}
use Rattle.stored_fields.specs.declared.fault.CodecError.{CodecError}
use Rattle.stored_changes.specs.Reading.{change_at, changes_at, partition_at, mutation_at}
use Rattle.row_change.specs.declared.entry.Stamped.{Stamped}
use Rattle.row_change.specs.declared.entry.PaxosRow.{PaxosRow}
use Rattle.row_change.specs.declared.entry.Hint.{Hint}
use Rattle.row_change.specs.declared.entry.Mark as mark
use Rattle.row_change.specs.declared.entry.LogEntry.{LogEntry}
use Rattle.row_change.specs.declared.entry.LogItem.{LogItem}
use Rattle.row_change.specs.declared.entry.LogItem.TheVariants.{Data, Paxos, HintAdd, HintGone, Ceiling, Mark, Purge}
use Rattle.row_change.specs.Grammar.{kind_of}

unfoldable pub stamped_at : List ℕ → Read Stamped
stamped_at bytes = do
  ballot ← u64_at bytes
  request ← request_at ballot.1
  base ← u64_at request.1
  changes ← changes_at base.1
  Ok (record { ballot = ballot.0; update = record { request = request.0; base = base.0; changes = changes.0 } }, changes.1)

unfoldable pub seven_at : List ℕ → Read (List ℕ)
seven_at bytes = do
  a ← u64_at bytes
  b ← u64_at a.1
  c ← u64_at b.1
  d ← u64_at c.1
  e ← u64_at d.1
  f ← u64_at e.1
  g ← u64_at f.1
  Ok (a.0 ∷ b.0 ∷ c.0 ∷ d.0 ∷ e.0 ∷ f.0 ∷ g.0 ∷ [], g.1)

unfoldable pub row_at : List ℕ → Read PaxosRow
row_at bytes = do
  promised ← u64_at bytes
  took ← seven_at promised.1
  accepted ← optional_at stamped_at took.1
  commit ← optional_at stamped_at accepted.1
  Ok (record { promised = promised.0; took = took.0; accepted = accepted.0; commit = commit.0 }, commit.1)

unfoldable pub hint_at : List ℕ → Read Hint
hint_at bytes = do
  peer ← node_at bytes
  number ← u64_at peer.1
  born ← u64_at number.1
  mutation ← mutation_at born.1
  Ok (record { peer = peer.0; number = number.0; born = born.0; mutation = mutation.0 }, mutation.1)

unfoldable pub mark_at : List ℕ → Read mark.Mark
mark_at bytes = do
  after ← i64_at bytes
  upto ← i64_at after.1
  snapshot ← u64_at upto.1
  sent ← u64_at snapshot.1
  Ok (record { range = record { after = after.0; upto = upto.0 }; snapshot = snapshot.0; sent = sent.0 }, sent.1)

-- ---- items

unfoldable pub data_item_at : List ℕ → Read LogItem
data_item_at bytes = do
  arrival ← u64_at bytes
  mutation ← mutation_at arrival.1
  Ok (Data arrival.0 mutation.0, mutation.1)

unfoldable pub paxos_item_at : List ℕ → Read LogItem
paxos_item_at bytes = do
  partition ← partition_at bytes
  row ← row_at partition.1
  Ok (Paxos partition.0 row.0, row.1)

abbrev pub hint_item_at : List ℕ → Read LogItem
hint_item_at bytes = hint_at bytes >>= λ hint. Ok (HintAdd hint.0, hint.1)

unfoldable pub gone_item_at : List ℕ → Read LogItem
gone_item_at bytes = do
  peer ← node_at bytes
  number ← u64_at peer.1
  Ok (HintGone peer.0 number.0, number.1)

abbrev pub ceiling_item_at : List ℕ → Read LogItem
ceiling_item_at bytes = u64_at bytes >>= λ time. Ok (Ceiling time.0, time.1)

abbrev pub mark_item_at : List ℕ → Read LogItem
mark_item_at bytes = mark_at bytes >>= λ m. Ok (Mark m.0, m.1)

unfoldable pub purge_item_at : List ℕ → Read LogItem
purge_item_at bytes = do
  partition ← partition_at bytes
  held ← change_at None partition.1
  Ok (Purge (record { partition = partition.0; held = held.0 }), held.1)

-- behind a kind that stood where so many bytes were left
abbrev pub item_fields_of : ℕ → ℕ → List ℕ → Read LogItem
item_fields_of left kind bytes =
    if kind == 1 then data_item_at bytes
    else (if kind == 2 then paxos_item_at bytes
    else (if kind == 3 then hint_item_at bytes
    else (if kind == 4 then gone_item_at bytes
    else (if kind == 5 then ceiling_item_at bytes
    else (if kind == 6 then mark_item_at bytes
    else (if kind == 7 then purge_item_at bytes
    else Err (Tag left)))))))

-- A byte that is no kind is told before one that falls behind the kind before it.
abbrev pub kind_in : ℕ → ℕ → ℕ → Result ℕ Fault
kind_in before left kind =
    if nat_le 1 kind && nat_le kind 7 then (if nat_lt kind before then Err (Order left) else Ok kind)
    else Err (Tag left)

unfoldable pub item_at : ℕ → List ℕ → Read LogItem
item_at before bytes = do
  byte ← u8_at bytes
  kind ← kind_in before (length bytes) byte.0
  item_fields_of (length bytes) kind byte.1

-- ---- entries

abbrev pub counted_items_at : ℕ → List ℕ → Read (List LogItem)
counted_items_at count bytes = items_at item_at kind_of 0 count bytes

unfoldable pub entry_at : List ℕ → Read LogEntry
entry_at bytes = do
  count ← u32_at bytes
  items ← counted_items_at count.0 count.1
  Ok (record { items = items.0 }, items.1)

-- the entry of which the bytes are the word, or why they are none
abbrev pub entry_in : List ℕ → Result LogEntry CodecError
entry_in bytes = whole (length bytes) (entry_at bytes)
