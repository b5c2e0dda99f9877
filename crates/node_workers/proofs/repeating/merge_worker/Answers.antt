use Rattle.node_lock.specs.Passes.{view_of, start_of}
use Rattle.node_workers.proofs.CallChains.{calls_leave}
use Rattle.node_workers.proofs.repeating.merge_worker.Goals as goal

pub returns-clause-pass : goal.returns-clause-pass
returns-clause-pass g c =
    let leaves =
    calls_leave g.N.Stepper.steps g.N.Stepper.event_of g.N.Stepper.reply_of g.N.Stepper.refuses (start_of c.args.lock.now)
    (view_of c.args.pass.now) (view_of c.repeat.new.pass) c.repeat.ensures.repeats.1.calls c.repeat.ensures.repeats.1.made in
    leaves.pass
