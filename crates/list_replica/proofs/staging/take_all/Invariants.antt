use Rattle.std.proofs.Common.{◌≡◌, ◌++◌}
use Rattle.std.specs.BTreeMap.{IsOrdered}
use Rattle.std.specs.Vec.Iter.{into_iter_items}
use Rattle.changes.specs.Order.{partition_cmp}
use Rattle.list_replica.specs.Staging.{AllCome, AreReady}
use Rattle.list_replica.proofs.staging.take_all.Given as goal

-- those so far came, and there is memory for those to come
abbrev pub invariant-loop-changes : goal.invariant-loop-changes
invariant-loop-changes l = record {
  split : l.yielded ++ into_iter_items l.changes-iterator ≡ l.fn.staged.items;
  come : AllCome l.at l.fn.contents l.contents l.yielded;
  ready : AreReady l.contents (into_iter_items l.changes-iterator);
  ordered : IsOrdered partition_cmp l.contents;
}
