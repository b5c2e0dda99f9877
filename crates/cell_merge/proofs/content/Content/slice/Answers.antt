use Rattle.std.proofs.Common.{sym, subst, List, ◌∙◌, ◌++◌, ap}
use Rattle.changes.specs.declared.Held.{Held}
use Rattle.changes.specs.Places.{AreInOrder, stored_cmp}
use Rattle.changes.specs.Queries.{IsSlice}
use Rattle.cell_merge.proofs.InOrder.{sorted_back}
use Rattle.cell_merge.proofs.SliceLaws.{part_slice, part_settled}
use Rattle.cell_merge.proofs.content.Content.slice.Goals as goal

pub rows_between-requires : goal.rows_between-requires
rows_between-requires c =
    sorted_back stored_cmp c.split_rows.result.0.now c.split_rows.result.1.now (subst AreInOrder (sym (c.split_rows.ensures.whole ∙ c.deref.ensures.value)) c.self.invariant.ordered)

pub invariant_of-result : goal.invariant_of-result
invariant_of-result c =
    part_settled c.args.from.now c.args.upto.now c.self.inside.changes.items c.split_rows.result.0.now c.split_rows.result.1.now c.in_ok-changes.changes.items (c.split_rows.ensures.whole ∙ c.deref.ensures.value) c.split_rows.ensures.rows c.in_ok-changes.ensures
    c.copy_onto.new.copies.items (c.in_ok-copy_onto.ensures ∙ ap (λ (l : List Held). c.in_ok-changes.changes.items ++ l) c.rows_between.ensures) c.self.invariant

pub returns : goal.returns
returns c =
    subst (λ (l : List Held). IsSlice c.args.from.now c.args.upto.now l c.copy_onto.new.copies.items) c.self.view_is
    (part_slice c.args.from.now c.args.upto.now c.self.inside.changes.items c.split_rows.result.0.now c.split_rows.result.1.now c.in_ok-changes.changes.items (c.split_rows.ensures.whole ∙ c.deref.ensures.value) c.split_rows.ensures.rows c.in_ok-changes.ensures
    c.copy_onto.new.copies.items (c.in_ok-copy_onto.ensures ∙ ap (λ (l : List Held). c.in_ok-changes.changes.items ++ l) c.rows_between.ensures))
