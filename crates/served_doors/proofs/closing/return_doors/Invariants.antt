use Rattle.std.proofs.Common.{◌≡◌, ◌++◌, length}
use Rattle.std.specs.Vec.Iter.{into_iter_items}
use Rattle.served_doors.specs.Ledger.{TakesBack, by_node, ledger}
use Rattle.served_doors.proofs.closing.return_doors.Given as goal

-- the doors of the nodes so far are back
abbrev pub invariant-loop-of_node : goal.invariant-loop-of_node
invariant-loop-of_node g l = record {
  split : l.yielded ++ into_iter_items l.of_node-iterator ≡ l.fn.of_nodes.items;
  count : l.number ≡ length l.yielded;
  back : TakesBack g.L.Door.Door.faults (by_node 0 l.yielded) (ledger g.L.Doors.given g.L.Doors.returned g.L.Doors.faults l.fn.doors) (ledger g.L.Doors.given g.L.Doors.returned g.L.Doors.faults l.doors);
}
