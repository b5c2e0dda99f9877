use Rattle.std.proofs.Common.{◌≡◌, ◌++◌, length}
use Rattle.std.specs.Vec.Iter.{into_iter_items}
use Rattle.cluster_model.specs.Sites.{keeper}
use Rattle.cluster_model.specs.Beginning.{AreSeated}
use Rattle.cluster_model.proofs.cluster.all_seats.Given as goal

-- the nodes of the stores so far
abbrev pub invariant-loop-store : goal.invariant-loop-store
invariant-loop-store g l = record {
  split : l.yielded ++ into_iter_items l.store-iterator ≡ l.fn.stores.items;
  count : l.number ≡ length l.yielded;
  seated : AreSeated (keeper g.R.Replica.stands_for g.R.Replica.durable g.R.Replica.disk g.R.Replica.is_whole) l.fn.setting 0 l.yielded l.seats.items;
}
