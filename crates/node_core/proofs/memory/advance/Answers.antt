use Rattle.node_core.specs.Memory.{core_of}
use Rattle.node_core.proofs.Stepping.{still_leaves}
use Rattle.node_core.proofs.memory.advance.Goals as goal

pub returns-in_default-clause-any_moment : goal.returns-in_default-clause-any_moment
returns-in_default-clause-any_moment g c = λ honest.
    still_leaves g.R.Replica.stands_for (core_of c.args.memory.now) (g.R.Replica.durable c.args.replica.now) c.args.event.now (g.R.Disk.Store.disk (g.R.Replica.disk c.args.replica.now)) (g.met.R.Replica.is_safe c.args.replica.now honest c.requires.whole)
