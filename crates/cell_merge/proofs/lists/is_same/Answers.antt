use Rattle.std.proofs.Common.{sym, ◌∙◌, ap}
use Rattle.std.specs.Ordering.{is_eq}
use Rattle.cell_merge.proofs.Decided.{same_by_rank, other_place}
use Rattle.cell_merge.proofs.lists.is_same.Goals as goal

pub returns-then-eq : goal.returns-then-eq
returns-then-eq c = same_by_rank c.args.x.now c.args.y.now c.is_eq.result (sym c.eq.ensures ∙ c.if-eq.true) (c.is_eq.ensures ∙ ap is_eq c.rank.ensures)

pub returns-else-eq : goal.returns-else-eq
returns-else-eq c = other_place c.args.x.now c.args.y.now c.eq.result (sym c.eq.ensures ∙ c.if-eq.false) c.if-eq.false
