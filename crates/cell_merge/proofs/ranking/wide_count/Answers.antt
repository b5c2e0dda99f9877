use Rattle.std.proofs.Common.{rules, get_or}
use Rattle.std.specs.Prelude.{is_none}
use Rattle.std.proofs.lemmas.List.Sorted.{IsPartitionPoint-from_clause}
use Rattle.changes.specs.declared.Held.{Held}
use Rattle.changes.specs.Order.{row_of}
use Rattle.changes.specs.Places.{stored_cmp}
use Rattle.cell_merge.proofs.InOrder.{partitioned}
use Rattle.cell_merge.proofs.PlaceOrder.{wide_down, none_is, some_is}
use Rattle.cell_merge.proofs.ranking.wide_count.Goals as goal

pub returns-clause-point : goal.returns-clause-point
returns-clause-point c =
    let point = IsPartitionPoint-from_clause (λ (y : Held). is_none (row_of y.place)) c.args.changes.now c.partition_point.result c.partition_point.ensures.partitioned
    (partitioned stored_cmp (λ (y : Held). is_none (row_of y.place)) c.args.changes.now (λ x y. wide_down x.place y.place) c.requires) (λ a r f' k. search rules) in
    (λ k d low b. none_is (row_of (get_or c.args.changes.now k d).place) (point.0 k d low b), λ k d low b. some_is (row_of (get_or c.args.changes.now k d).place) (point.1 k d low b))
