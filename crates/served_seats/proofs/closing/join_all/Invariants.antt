use Rattle.std.proofs.Common.{◌∷◌, map}
use Rattle.std.specs.List.{AllByRecursion}
use Rattle.std.specs.Vec.Iter.{into_iter_items}
use Rattle.node_lock.specs.Passes.{IsPassOf, view_of}
use Rattle.served_seats.proofs.Joined.{HasJoined}
use Rattle.served_seats.proofs.closing.join_all.Given as goal

abbrev pub invariant-loop-other : goal.invariant-loop-other
invariant-loop-other g l = record {
  pass : IsPassOf l.lock l.whole;
  rest : AllByRecursion (IsPassOf l.lock) (into_iter_items l.other-iterator);
  joined : HasJoined (map view_of (l.fn.first ∷ l.fn.others.items)) (view_of l.whole) (map view_of (into_iter_items l.other-iterator));
}
