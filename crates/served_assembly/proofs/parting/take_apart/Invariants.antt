use Rattle.std.proofs.Common.{◌≡◌, ◌+◌, length, vec_len}
use Rattle.std.specs.Prelude.{vec_capacity}
use Rattle.std.specs.List.{AllByRecursion}
use Rattle.std.specs.Vec.Iter.{into_iter_items}
use Rattle.item_groups.proofs.ZipLaws.{Makes2}
use Rattle.served_assembly.specs.Parting.{HasLinksFirst, IsApart}
use Rattle.served_assembly.proofs.parting.take_apart.Given as goal

-- the nodes so far are apart, and those that are left can be taken apart
abbrev pub invariant-loop-one : goal.invariant-loop-one
invariant-loop-one g l = record {
  makes : Makes2 (IsApart g.R.Replica.is_whole g.R.Replica.durable g.R.Replica.log_end g.R.Replica.since_flush (λ r. g.R.Disk.Store.faults (g.R.Replica.disk r)) g.R.Disk.Store.is_honest) l.fn.left.items (into_iter_items l.one-iterator) l.aparts.items;
  led : AllByRecursion HasLinksFirst (into_iter_items l.one-iterator);
  room : vec_len l.aparts + length (into_iter_items l.one-iterator) ≡ vec_capacity l.aparts;
}
