use Rattle.std.proofs.Common.{map}
use Rattle.std.specs.List.{All, AllByRecursion}
use Rattle.std.specs.Vec.Iter.{into_iter_items}
use Rattle.node_lock.specs.Passes.{IsPassOf, view_of}
use Rattle.served_seats.proofs.Turns.{HaveStepped}
use Rattle.served_seats.proofs.tests.add_each.Given as goal

abbrev pub invariant-loop-pass : goal.invariant-loop-pass
invariant-loop-pass g l = record {
  rest : AllByRecursion (IsPassOf l.lock) (into_iter_items l.pass-iterator);
  lock : All (IsPassOf l.lock) l.stepped.items;
  turns : HaveStepped (map view_of l.fn.passes.items) (map view_of l.stepped.items) (map view_of (into_iter_items l.pass-iterator));
}
