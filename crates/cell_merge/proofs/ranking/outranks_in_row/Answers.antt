use Rattle.std.proofs.Common.{sym, refl}
use Rattle.std.specs.Prelude.{slice_get}
use Rattle.cell_merge.proofs.RankingLaws.{found_outranks, row_search}
use Rattle.cell_merge.proofs.ranking.outranks_in_row.Goals as goal

pub returns-then-outranks_at : goal.returns-then-outranks_at
returns-then-outranks_at c =
    (λ t. found_outranks c.args.rows.now c.row_start.result c.args.x.now (slice_get c.args.rows.now c.row_start.result) refl (c.outranks_at.ensures.0 c.if-outranks_at.true), λ out. c.if-outranks_at.true)

pub returns-else-outranks_at : goal.returns-else-outranks_at
returns-else-outranks_at c =
    row_search c.args.rows.now c.args.x.now c.in-Some.row.now c.row_start.result c.place_start.result c.outranks_at.result c.outranks_at-else-outranks_at.result c.requires.ordered c.requires.rows (sym c.in-Some.ensures) c.row_start.ensures.bound c.place_start.ensures.bound
    c.row_start.ensures.point c.place_start.ensures.point c.outranks_at.ensures c.if-outranks_at.false c.outranks_at-else-outranks_at.ensures
