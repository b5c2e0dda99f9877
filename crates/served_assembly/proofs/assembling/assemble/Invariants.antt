use Rattle.std.proofs.Common.{◌≡◌, vec_len}
use Rattle.std.specs.Prelude.{vec_capacity}
use Rattle.std.specs.List.{AllByRecursion}
use Rattle.std.specs.Vec.Iter.{into_iter_items}
use Rattle.served_links.specs.declared.ends.NodeLinks.{NodeLinks}
use Rattle.wired_node.specs.Sending.{AreDistinct}
use Rattle.served_assembly.specs.Assembling.{IsAssembled, Runs}
use Rattle.served_assembly.proofs.Places.{HaveMade}
use Rattle.served_assembly.proofs.assembling.assemble.Given as goal

-- the nodes so far are assembled, and those that are left can be
abbrev pub invariant-loop-node : goal.invariant-loop-node
invariant-loop-node g l = record {
  have : HaveMade IsAssembled l.fn.nodes.items l.fn.links.items l.fn.doors.items (into_iter_items l.node-iterator) (into_iter_items l.links) (into_iter_items l.doors) l.parts.items;
  runs : AllByRecursion (Runs g.R.Replica.is_whole g.R.Replica.durable g.R.Disk.Store.is_honest) (into_iter_items l.node-iterator);
  distinct : AllByRecursion (λ (a : NodeLinks). AreDistinct a.senders.items) (into_iter_items l.links);
  room : vec_capacity l.parts ≡ vec_len l.fn.nodes;
}
