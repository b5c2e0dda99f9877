use Rattle.cell_merge.proofs.WalkLaws.{first_told}
use Rattle.cell_merge.proofs.walk.first_row.Goals as goal

pub returns-clause-some : goal.returns-clause-some
returns-clause-some c =
    first_told c.args.changes.now c.split_at.result.0.now c.split_at.result.1.now c.in_ok-first.first.now c.in_ok-row.row.now c.row_end.result c.requires c.in_ok-first.ensures.value c.in_ok-row.ensures c.row_end.ensures.bound c.row_end.ensures.front
    c.row_end.ensures.next c.split_at.ensures.front c.split_at.ensures.back
