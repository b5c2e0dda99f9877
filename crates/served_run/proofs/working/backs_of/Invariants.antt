use Rattle.std.proofs.Common.{◌≡◌, length, vec_items}
use Rattle.std.specs.Vec.Iter.{into_iter_items}
use Rattle.item_groups.proofs.ZipLaws.{Makes3}
use Rattle.served_run.specs.Works.{IsBackOf}
use Rattle.served_run.proofs.working.backs_of.Given as goal

-- the nodes so far are back, and as many groups are left as nodes
abbrev pub invariant-loop-node : goal.invariant-loop-node
invariant-loop-node g l = record {
  made : Makes3 IsBackOf (vec_items l.fn.nodes) (vec_items l.fn.groups) (into_iter_items l.node-iterator) (into_iter_items l.groups) (vec_items l.backs);
  same : length (into_iter_items l.groups) ≡ length (into_iter_items l.node-iterator);
}
