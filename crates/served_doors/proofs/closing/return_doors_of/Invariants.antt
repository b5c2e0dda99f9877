use Rattle.std.proofs.Common.{◌≡◌, ◌++◌}
use Rattle.std.specs.Vec.Iter.{into_iter_items}
use Rattle.served_doors.specs.Ledger.{TakesBack, ledger, with_node}
use Rattle.served_doors.proofs.closing.return_doors_of.Given as goal

-- the doors so far are back
abbrev pub invariant-loop-door : goal.invariant-loop-door
invariant-loop-door g l = record {
  split : l.yielded ++ into_iter_items l.door-iterator ≡ l.fn.of_node.items;
  back : TakesBack g.L.Door.Door.faults (with_node l.node l.yielded) (ledger g.L.Doors.given g.L.Doors.returned g.L.Doors.faults l.fn.doors) (ledger g.L.Doors.given g.L.Doors.returned g.L.Doors.faults l.doors);
}
