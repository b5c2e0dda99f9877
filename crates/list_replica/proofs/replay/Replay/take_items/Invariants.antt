use Rattle.std.proofs.Common.{◌≡◌, ◌++◌}
use Rattle.std.specs.BTreeMap.{IsOrdered}
use Rattle.std.specs.Vec.Iter.{into_iter_items}
use Rattle.changes.specs.Order.{partition_cmp}
use Rattle.list_replica.specs.Replays.{ShowsItems, replayed}
use Rattle.list_replica.proofs.replay.Replay.take_items.Given as goal

-- the items so far are taken in
abbrev pub invariant-loop-item : goal.invariant-loop-item
invariant-loop-item l = record {
  split : l.yielded ++ into_iter_items l.item-iterator ≡ l.fn.items.items;
  shows : ShowsItems l.yielded l.fn.self l.self;
  ordered : IsOrdered partition_cmp l.self.contents;
  replayed : replayed l.self ≡ replayed l.fn.self;
}
