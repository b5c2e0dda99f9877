use Rattle.std.proofs.Common.{sym}
use Rattle.node_core.proofs.DueMatters.{open_counts, open_waits}
use Rattle.node_core.proofs.work.Work.end_request.Goals as goal

pub end_write-requires-clause-waits : goal.end_write-requires-clause-waits
end_write-requires-clause-waits c = λ unsaid. open_waits c.args.base.now c.args.self.now c.args.request c.in-Some.write.now c.requires.sound c.requires.next (sym c.in-Some.ensures.value) unsaid

pub end_read-requires-clause-open : goal.end_read-requires-clause-open
end_read-requires-clause-open c = open_counts c.args.base.now c.args.self.now c.args.request c.in-Some-get.read.now c.requires.sound c.requires.next (sym c.in-Some-get.ensures.value)
