use Rattle.std.proofs.Common.{sym, subst, List}
use Rattle.changes.specs.declared.Held.{Held}
use Rattle.changes.specs.Places.{AreInOrder, stored_cmp}
use Rattle.cell_merge.specs.Parts.{IsRidOf, IsUnrivalled, IsOutrankedBy}
use Rattle.cell_merge.proofs.Parts.{sorted_parted}
use Rattle.cell_merge.proofs.MergeLaws.{both_apart, merge_of, merge_settled}
use Rattle.cell_merge.proofs.lists.merged.Goals as goal

pub remove_outranked-requires-2 : goal.remove_outranked-requires-2
remove_outranked-requires-2 c =
    let gone = subst (λ (l : List Held). IsRidOf l c.args.first.items c.remove_outranked.new.changes.items) c.deref.ensures.value c.in_ok-remove_outranked.ensures in
    subst AreInOrder (sym c.deref-2.ensures.value)
    (sorted_parted (IsUnrivalled c.args.second.items) (IsOutrankedBy c.args.second.items) stored_cmp c.args.first.items c.remove_outranked.new.changes.items gone c.requires.first.ordered)

pub in_one-requires : goal.in_one-requires
in_one-requires c =
    let gone = subst (λ (l : List Held). IsRidOf l c.args.first.items c.remove_outranked.new.changes.items) c.deref.ensures.value c.in_ok-remove_outranked.ensures in
    let lost = subst (λ (l : List Held). IsRidOf l c.args.second.items c.remove_outranked-2.new.changes.items) c.deref-2.ensures.value c.in_ok-remove_outranked-2.ensures in
    both_apart c.args.first.items c.args.second.items c.remove_outranked.new.changes.items c.remove_outranked-2.new.changes.items c.requires.first.apart c.requires.second.apart gone lost

pub returns-clause-settled : goal.returns-clause-settled
returns-clause-settled c =
    let gone = subst (λ (l : List Held). IsRidOf l c.args.first.items c.remove_outranked.new.changes.items) c.deref.ensures.value c.in_ok-remove_outranked.ensures in
    let lost = subst (λ (l : List Held). IsRidOf l c.args.second.items c.remove_outranked-2.new.changes.items) c.deref-2.ensures.value c.in_ok-remove_outranked-2.ensures in
    merge_settled c.args.first.items c.args.second.items c.remove_outranked.new.changes.items c.remove_outranked-2.new.changes.items c.in_ok-all.all.items c.requires.first c.requires.second gone lost c.in_ok-all.ensures.ordered c.in_ok-all.ensures.all

pub returns-clause-merge : goal.returns-clause-merge
returns-clause-merge c =
    let gone = subst (λ (l : List Held). IsRidOf l c.args.first.items c.remove_outranked.new.changes.items) c.deref.ensures.value c.in_ok-remove_outranked.ensures in
    let lost = subst (λ (l : List Held). IsRidOf l c.args.second.items c.remove_outranked-2.new.changes.items) c.deref-2.ensures.value c.in_ok-remove_outranked-2.ensures in
    merge_of c.args.first.items c.args.second.items c.remove_outranked.new.changes.items c.remove_outranked-2.new.changes.items c.in_ok-all.all.items c.requires.first.apart c.requires.second.apart gone lost c.in_ok-all.ensures.all
