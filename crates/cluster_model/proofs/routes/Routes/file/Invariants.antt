use Rattle.std.proofs.Common.{◌-◌, length}
use Rattle.cluster_model.specs.Mails.{AreFiled}
use Rattle.cluster_model.proofs.routes.Routes.file.Given as goal

abbrev pub invariant-loop-self : goal.invariant-loop-self
invariant-loop-self l = AreFiled l.self l.fn.sent

abbrev pub decreases-loop-self : goal.decreases-loop-self
decreases-loop-self l = length l.sent - l.self.filed
