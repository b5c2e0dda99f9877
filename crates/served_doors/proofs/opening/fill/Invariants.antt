use Rattle.std.proofs.Common.{◌≡◌, ◌≤◌, vec_len}
use Rattle.std.specs.Prelude.{vec_capacity}
use Rattle.std.specs.List.{AllByRecursion}
use Rattle.served_doors.specs.Ledger.{GivesMore, ledger}
use Rattle.served_doors.specs.Opening.{IsFresh}
use Rattle.served_doors.proofs.opening.fill.Given as goal

-- the doors so far
abbrev pub invariant-loop-at : goal.invariant-loop-at
invariant-loop-at g l = record {
  count : vec_len l.opened ≡ l._at;
  room : l.each ≤ vec_capacity l.opened;
  fresh : AllByRecursion (IsFresh g.L.Door.Door.given g.L.Door.Door.returned g.L.Door.Door.faults) l.opened.items;
  gives : GivesMore (vec_len l.opened) (ledger g.L.Doors.given g.L.Doors.returned g.L.Doors.faults l.fn.doors) (ledger g.L.Doors.given g.L.Doors.returned g.L.Doors.faults l.doors);
}
