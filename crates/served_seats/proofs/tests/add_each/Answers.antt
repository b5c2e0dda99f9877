use Rattle.std.proofs.Common.{map, rules}
use Rattle.std.specs.Vec.Iter.{into_iter_items}
use Rattle.node_lock.specs.Passes.{view_of}
use Rattle.served_seats.proofs.Turns.{steps_all}
use Rattle.served_seats.proofs.tests.add_each.Goals as goal

pub returns-clause-same : goal.returns-clause-same
returns-clause-same g c =
    (steps_all view_of (map view_of c.args.passes.items) (map view_of c.loop-pass.stepped.items) (into_iter_items c.loop-pass.pass-iterator) c.loop-pass.invariant.turns (search rules)).0
