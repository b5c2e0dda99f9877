use Rattle.std.proofs.Common.{map}
use Rattle.std.specs.Vec.Iter.{into_iter_items}
use Rattle.served_links.specs.Nodes.{AreFreshEnds, ends_of, upto_of}
use Rattle.served_links.proofs.Meeting.{HaveMet}
use Rattle.served_links.proofs.spreading.with_node.Given as goal

abbrev pub invariant-loop-other : goal.invariant-loop-other
invariant-loop-other l =
    HaveMet upto_of AreFreshEnds (map ends_of l.fn.before.items) l.node (map ends_of (into_iter_items l.other-iterator)) (map ends_of l.all.items) l.senders.items l.receivers.items
