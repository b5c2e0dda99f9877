use Rattle.std.proofs.Common.{rules}
use Rattle.std.proofs.lemmas.List.Sorted.{IsPartitionPoint-from_clause}
use Rattle.changes.specs.declared.Held.{Held}
use Rattle.changes.specs.Places.{stored_cmp}
use Rattle.cell_merge.specs.Tests.{begins_by}
use Rattle.cell_merge.proofs.InOrder.{partitioned}
use Rattle.cell_merge.proofs.PlaceOrder.{begins_down}
use Rattle.cell_merge.proofs.ranges.beginnings.Goals as goal

pub returns-clause-point : goal.returns-clause-point
returns-clause-point c =
    IsPartitionPoint-from_clause (λ (y : Held). begins_by y.place c.args.place.now) c.args.wide.now c.partition_point.result c.partition_point.ensures.partitioned
    (partitioned stored_cmp (λ (y : Held). begins_by y.place c.args.place.now) c.args.wide.now (λ x y. begins_down c.args.place.now x.place y.place) c.requires) (λ a r f' k. search rules)
