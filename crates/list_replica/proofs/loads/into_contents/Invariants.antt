use Rattle.std.specs.BTreeMap.{IsOrdered}
use Rattle.changes.specs.Order.{partition_cmp}
use Rattle.list_replica.proofs.Loading.{IsMade}
use Rattle.list_replica.proofs.loads.into_contents.Given as goal

abbrev pub invariant-loop-partition : goal.invariant-loop-partition
invariant-loop-partition l = record {
  made : IsMade l.contents.entries l.partition-iterator l.fn.loads.entries;
  ordered : IsOrdered partition_cmp l.contents;
}
