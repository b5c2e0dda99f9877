use Rattle.std.proofs.Common.{rules, ◌<◌, ◌∙◌, length}
use Rattle.cluster_model.proofs.Stores.{tell_step}
use Rattle.cluster_model.proofs.told.tell_all.Goals as goal

pub loop-fault-preserved : goal.loop-fault-preserved
loop-fault-preserved c =
    let within : c.loop-fault.fault-index < length c.args.told.now = search rules in (
      tell_step c.args.told.now c.loop-fault.fault-index _ _ _ _ within c.loop-fault.invariant.0 c.tell.ensures.plan,
      (c.tell.ensures.disk.0 ∙ c.loop-fault.invariant.1.0, c.tell.ensures.disk.1 ∙ c.loop-fault.invariant.1.1),
      c.tell.ensures.stopped ∙ c.loop-fault.invariant.2,
    )
