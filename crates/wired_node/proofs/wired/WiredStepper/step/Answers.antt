use Rattle.std.proofs.Common.{◌∙◌}
use Rattle.wired_node.specs.Answers.{joined}
use Rattle.wired_node.proofs.Since.{step_since}
use Rattle.wired_node.proofs.wired.WiredStepper.step.Goals as goal

pub returns-clause-ok : goal.returns-clause-ok
returns-clause-ok g c =
    step_since g.R.Replica.is_whole g.R.Disk.Store.is_honest g.R.Replica.stands_for g.R.Replica.durable g.R.Replica.log_end g.R.Replica.since_flush (λ r. g.R.Disk.Store.disk (g.R.Replica.disk r)) (λ r. g.R.Disk.Store.faults (g.R.Replica.disk r))
    c.self.inside.linked.node.core c.self.inside.left.value c.self.inside.linked.node.replica c.self.inside.linked.senders.items (joined c.self.inside.linked.answers.items) c.args.self.now _ c.step-told.new.self.node.replica c.args.call c.step-told.result c.self.view_is c.self.invariant.0 c.step-told.ensures.faults (λ ok. c.note.ensures.made (c.is_ok.ensures.value ∙ ok)) c.step-told.ensures.ok c.step-told.ensures.entry
