use Rattle.std.proofs.Common.{subst, ◌↔◌, IsTrue, List}
use Rattle.changes.specs.declared.Held.{Held}
use Rattle.changes.specs.Places.{stored_cmp}
use Rattle.cell_merge.specs.Parts.{IsOutrankedBy}
use Rattle.cell_merge.proofs.InOrder.{sorted_front, sorted_back}
use Rattle.cell_merge.proofs.RankingLaws.{outranked_in_front, outranked_in_both}
use Rattle.cell_merge.proofs.ranking.Ranking.outranks.Goals as goal

pub outranks-requires-clause-ordered : goal.outranks-requires-clause-ordered
outranks-requires-clause-ordered c = sorted_front stored_cmp c.self.inside.wide.now c.self.inside.rows.now c.self.invariant.ordered

pub outranks_in_row-requires-clause-ordered : goal.outranks_in_row-requires-clause-ordered
outranks_in_row-requires-clause-ordered c = sorted_back stored_cmp c.self.inside.wide.now c.self.inside.rows.now c.self.invariant.ordered

pub returns-then-outranks : goal.returns-then-outranks
returns-then-outranks c =
    subst (λ (l : List Held). IsTrue c.outranks.result ↔ IsOutrankedBy l c.args.x.now) c.self.view_is
    (λ t. outranked_in_front c.self.inside.wide.now c.self.inside.rows.now c.args.x.now (c.outranks.ensures.0 t), λ out. c.if-outranks.true)

pub returns-else-outranks : goal.returns-else-outranks
returns-else-outranks c =
    subst (λ (l : List Held). IsTrue c.outranks_in_row.result ↔ IsOutrankedBy l c.args.x.now) c.self.view_is
    (outranked_in_both c.self.inside.wide.now c.self.inside.rows.now c.args.x.now c.outranks.result c.outranks_in_row.result c.outranks.ensures c.outranks_in_row.ensures c.if-outranks.false)
