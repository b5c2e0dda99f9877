use Rattle.std.proofs.Common.{◌≡◌, ◌≤◌, ◌++◌, length, vec_len}
use Rattle.std.specs.Prelude.{vec_capacity}
use Rattle.std.specs.List.{AllByRecursion}
use Rattle.std.specs.Vec.Iter.{into_iter_items}
use Rattle.served_doors.specs.Ledger.{GivesMore, by_node, ledger}
use Rattle.served_doors.specs.Opening.{AreOpen, HasRoom, IsFresh}
use Rattle.served_doors.proofs.opening.fill_all.Given as goal

-- the doors of the nodes so far are open
abbrev pub invariant-loop-room : goal.invariant-loop-room
invariant-loop-room g l = record {
  split : l.yielded ++ into_iter_items l.room-iterator ≡ l.fn.rooms.items;
  count : l.number ≡ length l.yielded;
  opened : vec_len l.opened ≡ length l.yielded;
  room : length l.fn.rooms.items ≤ vec_capacity l.opened;
  left : AllByRecursion (HasRoom l.each) (into_iter_items l.room-iterator);
  all : AllByRecursion (AreOpen (IsFresh g.L.Door.Door.given g.L.Door.Door.returned g.L.Door.Door.faults) l.each) l.opened.items;
  gives : GivesMore (length (by_node 0 l.opened.items)) (ledger g.L.Doors.given g.L.Doors.returned g.L.Doors.faults l.fn.doors) (ledger g.L.Doors.given g.L.Doors.returned g.L.Doors.faults l.doors);
}
