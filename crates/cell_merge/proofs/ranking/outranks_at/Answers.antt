use Rattle.cell_merge.proofs.RankingLaws.{at_some, at_none}
use Rattle.cell_merge.proofs.ranking.outranks_at.Goals as goal

pub returns-in-Some : goal.returns-in-Some
returns-in-Some c =
    at_some c.args.changes.now c.args.at c.args.x.now c.in-Some.y.now c.outranks.result c.in-Some.ensures.lookup.3.0 c.in-Some.ensures.lookup.1 c.outranks.ensures

pub returns-in-None : goal.returns-in-None
returns-in-None c = at_none c.args.changes.now c.args.at c.args.x.now c.in-None.ensures.lookup.3
