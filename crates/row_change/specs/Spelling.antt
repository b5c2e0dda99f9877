-- How a log's entries are written, and which have a word.
use Rattle.std.specs.Prelude.{◌≡◌, ℕ, ◌<◌, ◌≤◌, ◌^◌, List, ◌++◌, length, Option, Some, None, FitsSigned}
use Rattle.std.specs.Int.{w64}
use Rattle.std.specs.List.{flat_map, AllByRecursion}
use Rattle.stored_fields.specs.Spelling.{u8, u32, u64, i64, request, optional, FitsField, RequestInRange}
use Rattle.stored_changes.specs.Spelling.{change, changes, partition, mutation, ChangeFits, ChangesFit, MutationFits, ChangeInRange, ChangesInRange, PartitionInRange, MutationInRange}
use Rattle.row_change.specs.declared.entry.Stamped.{Stamped}
use Rattle.row_change.specs.declared.entry.PaxosRow.{PaxosRow}
use Rattle.row_change.specs.declared.entry.Hint.{Hint}
use Rattle.row_change.specs.declared.entry.Mark as mark
use Rattle.row_change.specs.declared.entry.LogEntry.{LogEntry}
use Rattle.row_change.specs.declared.entry.LogItem.{LogItem}
use Rattle.row_change.specs.declared.entry.LogItem.TheVariants.{Data, Paxos, HintAdd, HintGone, Ceiling, Mark, Purge}
use Rattle.row_change.specs.Grammar.{kind_of, AreByKind}

abbrev pub stamped : Stamped → List ℕ
stamped s = u64 s.ballot ++ request s.update.request ++ u64 s.update.base ++ changes s.update.changes

abbrev pub numbers : List ℕ → List ℕ
numbers ns = flat_map u64 ns

abbrev pub row : PaxosRow → List ℕ
row r = u64 r.promised ++ numbers r.took ++ optional stamped r.accepted ++ optional stamped r.commit

abbrev pub hint : Hint → List ℕ
hint h = u8 h.peer ++ u64 h.number ++ u64 h.born ++ mutation h.mutation

abbrev pub mark_bytes : mark.Mark → List ℕ
mark_bytes m = i64 m.range.after ++ i64 m.range.upto ++ u64 m.snapshot ++ u64 m.sent

abbrev pub item_fields : LogItem → List ℕ
item_fields (Data arrival m) = u64 arrival ++ mutation m
item_fields (Paxos p r) = partition p ++ row r
item_fields (HintAdd h) = hint h
item_fields (HintGone peer number) = u8 peer ++ u64 number
item_fields (Ceiling time) = u64 time
item_fields (Mark m) = mark_bytes m
item_fields (Purge c) = partition c.partition ++ change c.held

abbrev pub item : LogItem → List ℕ
item i = u8 (kind_of i) ++ item_fields i

abbrev pub entry : LogEntry → List ℕ
entry e = u32 (length e.items) ++ flat_map item e.items

-- ---- what has a word

abbrev pub StampedFits : Option Stamped → Type 0
StampedFits None = Unit {0}
StampedFits (Some s) = ChangesFit s.update.changes

pub record RowFits (r : PaxosRow) : Type 0 where
  pub accepted : StampedFits r.accepted
  pub commit : StampedFits r.commit

abbrev pub ItemFits : LogItem → Type 0
ItemFits (Data arrival m) = MutationFits m
ItemFits (Paxos p r) = FitsField p.key × RowFits r
ItemFits (HintAdd h) = MutationFits h.mutation
ItemFits (HintGone peer number) = Unit {0}
ItemFits (Ceiling time) = Unit {0}
ItemFits (Mark m) = Unit {0}
ItemFits (Purge c) = FitsField c.partition.key × ChangeFits c.held

pub record EntryFits (e : LogEntry) : Type 0 where
  pub count : length e.items < 2 ^ 32
  pub each : AllByRecursion ItemFits e.items
  pub order : AreByKind e.items

-- ---- the numbers are what they are in a program

abbrev pub IsWide : ℕ → Type 0
IsWide n = n < 2 ^ 64

pub record StampedInRange (s : Stamped) : Type 0 where
  pub ballot : IsWide s.ballot
  pub request : RequestInRange s.update.request
  pub base : IsWide s.update.base
  pub changes : ChangesInRange s.update.changes

abbrev pub OptionInRange : Option Stamped → Type 0
OptionInRange None = Unit {0}
OptionInRange (Some s) = StampedInRange s

pub record RowInRange (r : PaxosRow) : Type 0 where
  pub promised : IsWide r.promised
  pub count : length r.took ≡ 7
  pub took : AllByRecursion IsWide r.took
  pub accepted : OptionInRange r.accepted
  pub commit : OptionInRange r.commit

pub record HintInRange (h : Hint) : Type 0 where
  pub peer : h.peer ≤ 6
  pub number : IsWide h.number
  pub born : IsWide h.born
  pub mutation : MutationInRange h.mutation

pub record MarkInRange (m : mark.Mark) : Type 0 where
  pub after : FitsSigned w64 m.range.after
  pub upto : FitsSigned w64 m.range.upto
  pub snapshot : IsWide m.snapshot
  pub sent : IsWide m.sent

abbrev pub ItemInRange : LogItem → Type 0
ItemInRange (Data arrival m) = IsWide arrival × MutationInRange m
ItemInRange (Paxos p r) = PartitionInRange p × RowInRange r
ItemInRange (HintAdd h) = HintInRange h
ItemInRange (HintGone peer number) = (peer ≤ 6) × IsWide number
ItemInRange (Ceiling time) = IsWide time
ItemInRange (Mark m) = MarkInRange m
ItemInRange (Purge c) = PartitionInRange c.partition × ChangeInRange c.held

abbrev pub EntryInRange : LogEntry → Type 0
EntryInRange e = AllByRecursion ItemInRange e.items

-- ---- both

abbrev pub EntryHasWord : LogEntry → Type 0
EntryHasWord e = EntryFits e × EntryInRange e
