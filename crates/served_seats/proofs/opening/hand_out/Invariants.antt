use Rattle.std.proofs.Common.{◌≡◌, ◌+◌, ◌-◌, ◌≤◌, map, vec_len, vec_capacity}
use Rattle.std.specs.List.{All}
use Rattle.node_lock.specs.Passes.{IsPassOf, view_of}
use Rattle.served_seats.specs.Seats.{fresh_from, ranging}
use Rattle.served_seats.proofs.opening.hand_out.Given as goal

abbrev pub invariant-loop-number : goal.invariant-loop-number
invariant-loop-number g l = record {
  last : IsPassOf l.lock l.last;
  ranges : view_of l.last ≡ ranging l.number (l.count - l.number + 1);
  passes : All (IsPassOf l.lock) l.passes.items;
  fresh : map view_of l.passes.items ≡ fresh_from 1 (l.number - 1);
  counted : vec_len l.passes + 1 ≡ l.number;
  room : l.count ≤ vec_capacity l.passes;
}
