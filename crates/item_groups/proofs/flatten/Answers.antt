use Rattle.std.proofs.Common.{◌++◌, sym, ◌∙◌, ap}
use Rattle.item_groups.proofs.GroupLaws.{flat-push, goes-on}
use Rattle.item_groups.proofs.flatten.Goals as goal

pub loop-group-preserved : goal.loop-group-preserved
loop-group-preserved g c =
    let was = c.loop-group.invariant in
    let step = c.in-Some.ensures.steps in
    (c.in_ok-append.ensures.items ∙ ap (λ l. l ++ c.in-Some.group.items) was.0 ∙ sym (flat-push c.loop-group.yielded c.in-Some.group), goes-on c.loop-group.yielded _ _ _ c.in-Some.group was.1 step.0)
