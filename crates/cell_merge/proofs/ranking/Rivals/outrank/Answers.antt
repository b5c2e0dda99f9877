use Rattle.std.proofs.Common.{subst, ◌↔◌, IsTrue, List}
use Rattle.changes.specs.declared.Held.{Held}
use Rattle.changes.specs.Places.{stored_cmp}
use Rattle.cell_merge.specs.Parts.{IsOutrankedBy}
use Rattle.cell_merge.proofs.InOrder.{sorted_back}
use Rattle.cell_merge.proofs.RankingLaws.{outranked_in_front, outranked_in_both}
use Rattle.cell_merge.proofs.ranking.Rivals.outrank.Goals as goal

pub outranks_in_row-requires-clause-ordered : goal.outranks_in_row-requires-clause-ordered
outranks_in_row-requires-clause-ordered c = sorted_back stored_cmp c.self.inside.wide.now c.self.inside.rows.now c.self.invariant.ordered

pub returns-then-is_outranked_by : goal.returns-then-is_outranked_by
returns-then-is_outranked_by c =
    subst (λ (l : List Held). IsTrue c.is_outranked_by.result ↔ IsOutrankedBy l c.args.x.now) c.self.view_is
    (λ t. outranked_in_front c.self.inside.wide.now c.self.inside.rows.now c.args.x.now (c.is_outranked_by.ensures.0 t), λ out. c.if-is_outranked_by.true)

pub returns-else-is_outranked_by : goal.returns-else-is_outranked_by
returns-else-is_outranked_by c =
    subst (λ (l : List Held). IsTrue c.outranks_in_row.result ↔ IsOutrankedBy l c.args.x.now) c.self.view_is
    (outranked_in_both c.self.inside.wide.now c.self.inside.rows.now c.args.x.now c.is_outranked_by.result c.outranks_in_row.result c.is_outranked_by.ensures c.outranks_in_row.ensures c.if-is_outranked_by.false)
