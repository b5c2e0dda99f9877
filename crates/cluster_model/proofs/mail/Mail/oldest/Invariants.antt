use Rattle.std.proofs.Common.{◌≡◌, ◌-◌, length}
use Rattle.cluster_model.specs.Mails.{HoldsMail, post_of}
use Rattle.cluster_model.proofs.mail.Mail.oldest.Given as goal

abbrev pub invariant-loop-self : goal.invariant-loop-self
invariant-loop-self l = HoldsMail l.self × (post_of l.self ≡ post_of l.fn.self) × (l.self.news ≡ l.fn.self.news)

abbrev pub decreases-loop-self : goal.decreases-loop-self
decreases-loop-self l = length l.self.passed.items - l.self.oldest
