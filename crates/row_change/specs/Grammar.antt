-- The stored form of a log's entries. Each says of bytes, a value and a rest that a word with that value stands at the front
-- of the bytes, and that the rest follows it.
use Rattle.std.specs.Prelude.{◌≡◌, ℕ, List, length}
use Rattle.std.specs.List.Sorted.{IsNonDecreasingBy}
use Rattle.stored_fields.specs.Fields.{IsU8, IsU32, IsU64, IsI64, IsNode, IsRequest, IsOptional, AreWords}
use Rattle.stored_changes.specs.Grammar.{IsChange, AreChanges, IsPartition, IsMutation}
use Rattle.row_change.specs.declared.entry.Stamped.{Stamped}
use Rattle.row_change.specs.declared.entry.PaxosRow.{PaxosRow}
use Rattle.row_change.specs.declared.entry.Hint.{Hint}
use Rattle.row_change.specs.declared.entry.Mark as mark
use Rattle.row_change.specs.declared.entry.LogEntry.{LogEntry}
use Rattle.row_change.specs.declared.entry.LogItem.{LogItem}
use Rattle.row_change.specs.declared.entry.LogItem.TheVariants.{Data, Paxos, HintAdd, HintGone, Ceiling, Mark, Purge}

-- the ballot, and the update's request, base and changes
pub record IsStamped (bytes : List ℕ) (s : Stamped) (rest : List ℕ) : Type 0 where
  pub behind_ballot : List ℕ
  pub behind_request : List ℕ
  pub behind_base : List ℕ
  pub ballot : IsU64 bytes s.ballot behind_ballot
  pub request : IsRequest behind_ballot s.update.request behind_request
  pub base : IsU64 behind_request s.update.base behind_base
  pub changes : AreChanges behind_base s.update.changes rest

-- seven numbers
pub record AreSeven (bytes : List ℕ) (ballots : List ℕ) (rest : List ℕ) : Type 0 where
  pub count : length ballots ≡ 7
  pub numbers : AreWords IsU64 bytes ballots rest

pub record IsPaxosRow (bytes : List ℕ) (r : PaxosRow) (rest : List ℕ) : Type 0 where
  pub behind_promised : List ℕ
  pub behind_took : List ℕ
  pub behind_accepted : List ℕ
  pub promised : IsU64 bytes r.promised behind_promised
  pub took : AreSeven behind_promised r.took behind_took
  pub accepted : IsOptional IsStamped behind_took r.accepted behind_accepted
  pub commit : IsOptional IsStamped behind_accepted r.commit rest

pub record IsHint (bytes : List ℕ) (h : Hint) (rest : List ℕ) : Type 0 where
  pub behind_peer : List ℕ
  pub behind_number : List ℕ
  pub behind_born : List ℕ
  pub peer : IsNode bytes h.peer behind_peer
  pub number : IsU64 behind_peer h.number behind_number
  pub born : IsU64 behind_number h.born behind_born
  pub mutation : IsMutation behind_born h.mutation rest

-- the ends of the range, and two times
pub record IsMark (bytes : List ℕ) (m : mark.Mark) (rest : List ℕ) : Type 0 where
  pub behind_after : List ℕ
  pub behind_upto : List ℕ
  pub behind_snapshot : List ℕ
  pub after : IsI64 bytes m.range.after behind_after
  pub upto : IsI64 behind_after m.range.upto behind_upto
  pub snapshot : IsU64 behind_upto m.snapshot behind_snapshot
  pub sent : IsU64 behind_snapshot m.sent rest

-- ---- items

-- the byte of an item's kind
abbrev pub kind_of : LogItem → ℕ
kind_of (Data arrival mutation) = 1
kind_of (Paxos partition row) = 2
kind_of (HintAdd hint) = 3
kind_of (HintGone peer number) = 4
kind_of (Ceiling time) = 5
kind_of (Mark m) = 6
kind_of (Purge c) = 7

abbrev pub AreItemFields : List ℕ → LogItem → List ℕ → Type 0
AreItemFields bytes (Data arrival mutation) rest = (behind_arrival : List ℕ) × IsU64 bytes arrival behind_arrival × IsMutation behind_arrival mutation rest
AreItemFields bytes (Paxos partition row) rest = (behind_partition : List ℕ) × IsPartition bytes partition behind_partition × IsPaxosRow behind_partition row rest
AreItemFields bytes (HintAdd hint) rest = IsHint bytes hint rest
AreItemFields bytes (HintGone peer number) rest = (behind_peer : List ℕ) × IsNode bytes peer behind_peer × IsU64 behind_peer number rest
AreItemFields bytes (Ceiling time) rest = IsU64 bytes time rest
AreItemFields bytes (Mark m) rest = IsMark bytes m rest
AreItemFields bytes (Purge c) rest = (behind_partition : List ℕ) × IsPartition bytes c.partition behind_partition × IsChange behind_partition c.held rest

abbrev pub IsItem : List ℕ → LogItem → List ℕ → Type 0
IsItem bytes item rest = (behind_kind : List ℕ) × IsU8 bytes (kind_of item) behind_kind × AreItemFields behind_kind item rest

-- ---- entries

abbrev pub AreByKind : List LogItem → Type 0
AreByKind items = IsNonDecreasingBy kind_of items

-- a count in four bytes and so many items, in the order of their kinds
pub record IsEntry (bytes : List ℕ) (e : LogEntry) (rest : List ℕ) : Type 0 where
  pub behind_count : List ℕ
  pub count : IsU32 bytes (length e.items) behind_count
  pub items : AreWords IsItem behind_count e.items rest
  pub order : AreByKind e.items
