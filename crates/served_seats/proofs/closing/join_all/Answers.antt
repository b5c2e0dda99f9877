use Rattle.std.proofs.Common.{◌∷◌, map, subst, rules}
use Rattle.std.specs.List.{AllByRecursion}
use Rattle.std.specs.Vec.Iter.{into_iter_items}
use Rattle.node_lock.specs.Passes.{IsPassOf, view_of}
use Rattle.served_seats.proofs.Joined.{HasJoined, joins_next, joins_all}
use Rattle.served_seats.proofs.closing.join_all.Goals as goal

pub loop-other-preserved : goal.loop-other-preserved
loop-other-preserved g c =
    let was = c.loop-other.invariant in
    let step = c.in-Some.ensures.steps in
    let all = map view_of (c.args.first ∷ c.args.others.items) in
    record {
      pass = c.join.ensures.lock;
      rest = (subst (λ xs. AllByRecursion (IsPassOf c.args.lock.now) xs) step.0 was.rest).1;
      joined = joins_next all (view_of c.loop-other.whole) (view_of c.in-Some.other) (view_of c.join.new.pass) (map view_of (into_iter_items c.next.new.self))
          (subst (λ xs. HasJoined all (view_of c.loop-other.whole) (map view_of xs)) step.0 was.joined) c.join.ensures.both c.join.ensures.seen c.join.ensures.told;
    }

pub returns-clause-seen : goal.returns-clause-seen
returns-clause-seen g c = joins_all view_of (map view_of (c.args.first ∷ c.args.others.items)) (view_of c.loop-other.whole) (into_iter_items c.loop-other.other-iterator) c.loop-other.invariant.joined (search rules)
