use Rattle.cell_merge.proofs.RangeLaws.{wide_front, rows_back}
use Rattle.cell_merge.proofs.ranking.split_rows.Goals as goal

pub returns-clause-wide : goal.returns-clause-wide
returns-clause-wide c = wide_front c.args.changes.now c.split_at.result.0.now c.wide_count.result c.wide_count.ensures.bound c.wide_count.ensures.point c.split_at.ensures.front

pub returns-clause-rows : goal.returns-clause-rows
returns-clause-rows c = rows_back c.args.changes.now c.split_at.result.1.now c.wide_count.result c.wide_count.ensures.bound c.wide_count.ensures.point c.split_at.ensures.back
