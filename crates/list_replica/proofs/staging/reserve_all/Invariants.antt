use Rattle.std.proofs.Common.{◌≡◌, take, IsTrue}
use Rattle.std.specs.BTreeMap.{IsOrdered}
use Rattle.changes.specs.Order.{partition_cmp}
use Rattle.list_replica.specs.Staging.{AreReady, AllFit}
use Rattle.list_replica.specs.Stores.{all_of}
use Rattle.list_replica.proofs.staging.reserve_all.Given as goal

-- memory is taken for those so far, and where all of these fit that is known
abbrev pub invariant-loop-changes : goal.invariant-loop-changes
invariant-loop-changes l = record {
  ready : AreReady l.contents (take l.changes-index l.staged);
  within : IsTrue l.within → AllFit l.contents (take l.changes-index l.staged);
  stored : all_of l.contents.entries ≡ all_of l.fn.contents.entries;
  ordered : IsOrdered partition_cmp l.contents;
}
