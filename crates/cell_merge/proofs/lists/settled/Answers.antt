use Rattle.std.proofs.Common.{sym, subst, List}
use Rattle.changes.specs.declared.Held.{Held}
use Rattle.changes.specs.Laws.{AreBestInOrder}
use Rattle.changes.specs.Places.{AreInOrder}
use Rattle.changes.proofs.Best.{best_of_each_place}
use Rattle.cell_merge.specs.Parts.{IsRidOf}
use Rattle.cell_merge.proofs.MergeLaws.{AreDeletionsOf, deletions_ordered, rid_settled, rid_content}
use Rattle.cell_merge.proofs.lists.settled.Goals as goal

pub remove_outranked-requires : goal.remove_outranked-requires
remove_outranked-requires c =
    let best = subst (λ (l : List Held). AreBestInOrder l c.args.changes.items) (sym c.in_order-changes.ensures) (best_of_each_place c.args.changes.items) in
    let taken = subst (λ (l : List Held). AreDeletionsOf l c.in_ok-deletions.deletions.items) c.deref.ensures.value c.in_ok-deletions.ensures in
    subst AreInOrder (sym c.deref-2.ensures.value) (deletions_ordered c.args.changes.items c.in_order-changes.result.items c.in_ok-deletions.deletions.items best taken)

pub returns-clause-settled : goal.returns-clause-settled
returns-clause-settled c =
    let best = subst (λ (l : List Held). AreBestInOrder l c.args.changes.items) (sym c.in_order-changes.ensures) (best_of_each_place c.args.changes.items) in
    let taken = subst (λ (l : List Held). AreDeletionsOf l c.in_ok-deletions.deletions.items) c.deref.ensures.value c.in_ok-deletions.ensures in
    let rid = subst (λ (l : List Held). IsRidOf l c.in_order-changes.result.items c.remove_outranked.new.changes.items) c.deref-2.ensures.value c.in_ok-remove_outranked.ensures in
    rid_settled c.args.changes.items c.in_order-changes.result.items c.in_ok-deletions.deletions.items c.remove_outranked.new.changes.items best taken rid

pub returns-clause-content : goal.returns-clause-content
returns-clause-content c =
    let best = subst (λ (l : List Held). AreBestInOrder l c.args.changes.items) (sym c.in_order-changes.ensures) (best_of_each_place c.args.changes.items) in
    let taken = subst (λ (l : List Held). AreDeletionsOf l c.in_ok-deletions.deletions.items) c.deref.ensures.value c.in_ok-deletions.ensures in
    let rid = subst (λ (l : List Held). IsRidOf l c.in_order-changes.result.items c.remove_outranked.new.changes.items) c.deref-2.ensures.value c.in_ok-remove_outranked.ensures in
    rid_content c.args.changes.items c.in_order-changes.result.items c.in_ok-deletions.deletions.items c.remove_outranked.new.changes.items best taken rid
