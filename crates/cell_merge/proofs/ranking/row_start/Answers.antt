use Rattle.std.proofs.Common.{rules}
use Rattle.std.proofs.lemmas.List.Sorted.{IsPartitionPoint-from_clause}
use Rattle.changes.specs.declared.Held.{Held}
use Rattle.changes.specs.Places.{stored_cmp}
use Rattle.changes.specs.declared.Place.TheVariants.{RowGone}
use Rattle.cell_merge.specs.Tests.{is_before_row}
use Rattle.cell_merge.proofs.InOrder.{partitioned}
use Rattle.cell_merge.proofs.PlaceOrder.{before_place_down}
use Rattle.cell_merge.proofs.ranking.row_start.Goals as goal

pub returns-clause-point : goal.returns-clause-point
returns-clause-point c =
    IsPartitionPoint-from_clause (λ (y : Held). is_before_row c.args.row.now y.place) c.args.rows.now c.partition_point.result c.partition_point.ensures.partitioned
    (partitioned stored_cmp (λ (y : Held). is_before_row c.args.row.now y.place) c.args.rows.now (λ x y. before_place_down (RowGone c.args.row.now) x.place y.place) c.requires) (λ a r f' k. search rules)
