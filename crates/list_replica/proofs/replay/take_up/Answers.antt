use Rattle.std.proofs.Common.{◌≡◌, Err, List, ap, sym, subst}
use Rattle.std.specs.List.{AllByRecursion}
use Rattle.row_change.specs.Spelling.{EntryFits}
use Rattle.commit_log.specs.Format.{AreEntries}
use Rattle.list_replica.specs.Keeping.{Entered, entries_of}
use Rattle.list_replica.proofs.Replaying.{sound_from, kept_from_all}
use Rattle.list_replica.proofs.replay.take_up.Goals as goal

pub returns-clause-sound : goal.returns-clause-sound
returns-clause-sound c = sound_from c.in_ok-replay.replay c.in_ok-memtable.memtable c.in_ok-memtable.ensures.ordered c.in_ok-memtable.ensures.contents c.in_ok-memtable.ensures.committed c.in_ok-replay.ensures.shows

pub returns-clause-entries : goal.returns-clause-entries
returns-clause-entries c = subst (λ (es : List Entered). AreEntries c.args.reading.now.gates.entries (entries_of es)) (sym c.in_ok-memtable.ensures.committed) c.in_ok-replay.ensures.entries

pub returns-clause-fit : goal.returns-clause-fit
returns-clause-fit c = subst (λ (es : List Entered). AllByRecursion EntryFits (entries_of es)) (sym c.in_ok-memtable.ensures.committed) c.in_ok-replay.ensures.fit

pub returns-clause-kept : goal.returns-clause-kept
returns-clause-kept c = kept_from_all c.in_ok-replay.replay c.in_ok-memtable.memtable c.in_ok-memtable.kept c.in_ok-memtable.ensures.committed c.in_ok-replay.ensures.shows c.in_ok-memtable.ensures.kept
