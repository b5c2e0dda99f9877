use Rattle.std.proofs.Common.{ap}
use Rattle.node_steps.specs.State.{OpenRead}
use Rattle.read_coord.proofs.Replies.{now_kept}
use Rattle.read_coord.proofs.ReadCoord.push_other.Goals as goal

pub invariant_of-self-2 : goal.invariant_of-self-2
invariant_of-self-2 c =
    now_kept c.args.merged c.self.inside.replies.items c.push.new.self.items c.args.from c.args.content c.args.self.now
    (ap (λ (r : OpenRead). r.replies) c.self.view_is) c.in_ok-push.ensures.items c.requires
