use Rattle.std.proofs.Common.{◌≡◌, ◌+◌, Err, take, ap}
use Rattle.std.proofs.lemmas.Result.{err_from_is_err_and}
use Rattle.commit_log.specs.declared.error.LogError.{LogError}
use Rattle.commit_log.specs.declared.error.LogError.TheVariants.{Damaged}
use Rattle.list_replica.specs.Keeping.{entries_of}
use Rattle.list_replica.specs.Replays.{replayed}
use Rattle.list_replica.proofs.Replaying.{begins, goes_on, each_none, fit_none, each_on, fit_on}
use Rattle.list_replica.proofs.replay.Replay.of.Goals as goal

pub loop-i-init : goal.loop-i-init
loop-i-init c = record {
  shows = begins c.new-replay.result c.new-replay.ensures.shows c.new-replay.ensures.none;
  each = each_none c.args.reading.now.gates.entries (replayed c.new-replay.result) c.new-replay.ensures.none;
  fit = fit_none (replayed c.new-replay.result) c.new-replay.ensures.none;
}

pub loop-i-preserved : goal.loop-i-preserved
loop-i-preserved c = record {
  shows = goes_on c.loop-i.replay c.take_entry.new.self c.in_ok-entry.entry c.loop-i.invariant.shows c.in_ok-take_entry.ensures.shows c.in_ok-take_entry.ensures.replayed;
  each = each_on (take (c.loop-i.i + 1) c.args.reading.now.gates.entries) (replayed c.loop-i.replay) (replayed c.take_entry.new.self) c.in_ok-entry.entry (c.in_ok-entry.ensures.next (entries_of (replayed c.loop-i.replay)) c.loop-i.invariant.each) c.in_ok-take_entry.ensures.replayed;
  fit = fit_on (replayed c.loop-i.replay) (replayed c.take_entry.new.self) c.in_ok-entry.entry c.loop-i.invariant.fit c.in_ok-entry.ensures.fits c.in_ok-take_entry.ensures.replayed;
}

pub take_entry-requires : goal.take_entry-requires
take_entry-requires c = c.loop-i.invariant.shows.ordered

pub returns-in_err-entry-clause-damaged : goal.returns-in_err-entry-clause-damaged
returns-in_err-entry-clause-damaged c file found p is =
    let e = err_from_is_err_and c.from_residual.result c.from_residual.ensures.1 in
    let error : c.in_err-entry.field-0.0 ≡ Damaged p = cc (e.1, e.2, is) in
    c.in_err-entry.ensures.damaged file (entries_of (replayed c.loop-i.replay)) found c.loop-i.invariant.each p (ap (λ (x : LogError). Err x) error)
