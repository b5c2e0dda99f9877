use Rattle.cell_merge.proofs.WalkLaws.{last_told}
use Rattle.cell_merge.proofs.walk.last_row.Goals as goal

pub returns-clause-some : goal.returns-clause-some
returns-clause-some c =
    last_told c.args.changes.now c.split_at.result.1.now c.split_at.result.0.now c.in_ok-last.last.now c.in_ok-row.row.now c.row_start.result c.requires c.in_ok-last.ensures.value c.in_ok-row.ensures c.row_start.ensures.bound c.row_start.ensures.back
    c.row_start.ensures.before c.split_at.ensures.front c.split_at.ensures.back
