use Rattle.std.proofs.lemmas.Result.{IfOk-weaker}
use Rattle.node_core.specs.Hinting.{at}
use Rattle.node_core.proofs.memory.Made.work_out.Goals as goal

pub returns-clause-ok : goal.returns-clause-ok
returns-clause-ok g c = IfOk-weaker c.work_out.result _ _ (λ done worked. record { mid = at c.take_due.new.work c.take_due.new.hints.now; due = c.in_ok-take_due.ensures.ok; worked = worked }) c.work_out.ensures.ok

pub returns-clause-cut : goal.returns-clause-cut
returns-clause-cut g c = λ failed honest. record { mid = at c.take_due.new.work c.take_due.new.hints.now; due = c.in_ok-take_due.ensures.ok; cuts = c.work_out.ensures.cut failed honest }
