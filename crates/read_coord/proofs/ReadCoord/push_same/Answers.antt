use Rattle.std.proofs.Common.{rules, ap}
use Rattle.cell_merge.specs.Settled.{IsSettled}
use Rattle.node_steps.specs.State.{OpenRead}
use Rattle.read_coord.proofs.Replies.{keeps_same, still_kept}
use Rattle.read_coord.proofs.ReadCoord.push_same.Goals as goal

pub invariant_of-self-2 : goal.invariant_of-self-2
invariant_of-self-2 c =
    still_kept c.self.inside.merged c.self.inside.replies.items c.push.new.self.items c.args.from c.args.content c.args.self.now
    (ap (λ (r : OpenRead). r.replies) c.self.view_is) c.in_ok-push.ensures.items c.self.invariant c.requires

pub returns-clause-ok : goal.returns-clause-ok
returns-clause-ok c =
    let settled : IsSettled c.args.content = search rules in
    keeps_same c.self.inside.level c.self.inside.query c.self.inside.merged c.self.inside.replies.items c.push.new.self.items c.self.inside.mending c.args.from c.args.content c.args.self.now
    c.self.view_is c.in_ok-push.ensures.items c.self.invariant c.requires settled
