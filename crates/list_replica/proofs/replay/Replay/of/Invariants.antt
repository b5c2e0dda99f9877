use Rattle.std.proofs.Common.{take}
use Rattle.std.specs.List.{AllByRecursion}
use Rattle.row_change.specs.Spelling.{EntryFits}
use Rattle.commit_log.specs.Format.{AreEntries}
use Rattle.list_replica.specs.Keeping.{kept_by, entries_of}
use Rattle.list_replica.specs.Replays.{Shows, replayed}
use Rattle.list_replica.proofs.replay.Replay.of.Given as goal

-- the entries so far are taken in
abbrev pub invariant-loop-i : goal.invariant-loop-i
invariant-loop-i l = record {
  shows : Shows l.replay (kept_by (replayed l.replay));
  each : AreEntries (take l.i l.reading.gates.entries) (entries_of (replayed l.replay));
  fit : AllByRecursion EntryFits (entries_of (replayed l.replay));
}
