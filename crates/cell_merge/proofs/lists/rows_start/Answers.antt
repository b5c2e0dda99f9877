use Rattle.std.proofs.Common.{rules, not}
use Rattle.std.proofs.lemmas.List.Sorted.{IsPartitionPoint-from_clause}
use Rattle.changes.specs.declared.Held.{Held}
use Rattle.changes.specs.Places.{stored_cmp}
use Rattle.cell_merge.specs.Tests.{is_behind_bound}
use Rattle.cell_merge.proofs.InOrder.{partitioned, point_of_not}
use Rattle.cell_merge.proofs.PlaceOrder.{not_behind_down}
use Rattle.cell_merge.proofs.lists.rows_start.Goals as goal

pub returns-clause-point : goal.returns-clause-point
returns-clause-point c =
    point_of_not (λ (y : Held). is_behind_bound c.args.from.now y.place) c.args.changes.now c.partition_point.result
    (IsPartitionPoint-from_clause (λ (y : Held). not (is_behind_bound c.args.from.now y.place)) c.args.changes.now c.partition_point.result c.partition_point.ensures.partitioned
    (partitioned stored_cmp (λ (y : Held). not (is_behind_bound c.args.from.now y.place)) c.args.changes.now (λ x y. not_behind_down c.args.from.now x.place y.place) c.requires) (λ a r f' k. search rules))
