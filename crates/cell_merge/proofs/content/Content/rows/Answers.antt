use Rattle.std.proofs.Common.{sym, subst, List, filter, ◌∙◌, ap}
use Rattle.changes.specs.declared.Held.{Held}
use Rattle.changes.specs.Contents.{AreApart}
use Rattle.cell_merge.specs.Walks.{AreOfRows, IsWalkOver, by_rows, in_direction}
use Rattle.cell_merge.proofs.SliceLaws.{is_between}
use Rattle.cell_merge.proofs.WalkLaws.{between_of_rows, rows_are_between}
use Rattle.cell_merge.proofs.content.Content.rows.Goals as goal

pub new-requires : goal.new-requires
new-requires c =
    subst AreOfRows (sym c.rows_between.ensures)
    (subst (λ (l : List Held). AreOfRows (filter (is_between c.args.from.now c.args.upto.now) l)) (sym c.deref.ensures.value) (between_of_rows c.args.from.now c.args.upto.now c.self.inside.changes.items c.self.invariant.ordered))

pub returns-clause-rows : goal.returns-clause-rows
returns-clause-rows c =
    subst (λ (l : List Held). IsWalkOver c.args.from.now c.args.upto.now l c.args.reversed c.new.result) c.self.view_is (
      by_rows (filter (is_between c.args.from.now c.args.upto.now) c.self.inside.changes.items),
      rows_are_between c.args.from.now c.args.upto.now c.self.inside.changes.items c.self.invariant.ordered,
      c.new.ensures ∙ ap (λ (l : List Held). in_direction c.args.reversed (by_rows l)) (c.rows_between.ensures ∙ ap (λ (l : List Held). filter (is_between c.args.from.now c.args.upto.now) l) c.deref.ensures.value),
    )

pub returns-clause-apart : goal.returns-clause-apart
returns-clause-apart c = subst AreApart c.self.view_is c.self.invariant.apart
