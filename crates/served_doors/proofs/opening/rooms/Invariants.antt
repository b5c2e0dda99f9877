use Rattle.std.proofs.Common.{◌≡◌, ◌≤◌, vec_len}
use Rattle.std.specs.Prelude.{vec_capacity}
use Rattle.std.specs.List.{AllByRecursion}
use Rattle.served_doors.specs.Opening.{HasRoom}
use Rattle.served_doors.proofs.opening.rooms.Given as goal

-- the lists so far
abbrev pub invariant-loop-node : goal.invariant-loop-node
invariant-loop-node g l = record {
  count : vec_len l.rooms ≡ l._node;
  room : l.nodes ≤ vec_capacity l.rooms;
  empty : AllByRecursion (HasRoom l.each) l.rooms.items;
}
