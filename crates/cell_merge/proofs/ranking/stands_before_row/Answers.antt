use Rattle.std.proofs.Common.{sym, ◌∙◌}
use Rattle.cell_merge.proofs.PlaceOrder.{before_row_of}
use Rattle.cell_merge.proofs.ranking.stands_before_row.Goals as goal

pub returns-in-Some : goal.returns-in-Some
returns-in-Some c = c.lt.ensures ∙ sym (before_row_of c.args.place.now c.in-Some.own.now c.args.row.now (sym c.in-Some.ensures))
