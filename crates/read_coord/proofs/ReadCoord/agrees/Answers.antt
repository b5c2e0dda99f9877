use Rattle.std.proofs.Common.{List, ap, ◌∙◌}
use Rattle.node_steps.specs.State.{OpenRead, Replied}
use Rattle.read_coord.specs.Merges.{begins_with}
use Rattle.read_coord.proofs.Replies.{agrees_by_first}
use Rattle.read_coord.proofs.ReadCoord.agrees.Goals as goal

pub returns-in-None : goal.returns-in-None
returns-in-None c =
    agrees_by_first c.self.inside.merged c.self.inside.replies.items c.args.self.now c.args.content.now c.begins_with.result
    (ap (λ (r : OpenRead). r.replies) c.self.view_is) c.self.invariant c.in-None.is
    (c.begins_with.ensures ∙ ap (λ (xs : List Replied). begins_with xs c.args.content.now) c.deref.ensures.value)
