use Rattle.node_core.specs.Working.{IsSent}
use Rattle.node_core.proofs.work.Work.send_all.Given as goal

abbrev pub invariant-loop-sent : goal.invariant-loop-sent
invariant-loop-sent l = IsSent l.me l.yielded l.fn.self l.self
