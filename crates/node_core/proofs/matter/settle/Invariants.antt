use Rattle.std.proofs.Common.{◌≡◌}
use Rattle.node_core.specs.Hinting.{at}
use Rattle.node_core.specs.Moving.{GoesAlong, Peeks}
use Rattle.node_core.specs.Working.{weight}
use Rattle.node_core.proofs.matter.settle.Given as goal

abbrev pub invariant-loop-sent : goal.invariant-loop-sent
invariant-loop-sent g l = record {
  along : GoesAlong l.base g.R.Disk.Store.is_honest (g.R.Replica.durable l.fn.replica) (at l.fn.work l.fn.hints.now) (at l.work l.hints.now);
  peeks : Peeks g.R.Replica.stands_for (λ r. g.R.Disk.Store.disk (g.R.Replica.disk r)) g.R.Replica.durable g.R.Replica.log_end g.R.Replica.since_flush (λ r. g.R.Disk.Store.faults (g.R.Replica.disk r)) (λ r n. g.R.Disk.Store.spares (g.R.Replica.disk r) n) g.R.Disk.Store.is_honest l.fn.replica l.replica;
  whole : g.R.Replica.is_whole l.replica;
  before : l.hints.before ≡ l.fn.hints.before;
}

abbrev pub decreases-loop-sent : goal.decreases-loop-sent
decreases-loop-sent g l = weight l.work.queue.items
