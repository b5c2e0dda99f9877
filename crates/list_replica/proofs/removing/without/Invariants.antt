use Rattle.std.proofs.Common.{◌≡◌, ◌++◌, filter}
use Rattle.std.specs.Vec.Iter.{into_iter_items}
use Rattle.list_replica.specs.Removing.{is_other}
use Rattle.list_replica.proofs.Leaving.{AreAll}
use Rattle.list_replica.proofs.removing.without.Given as goal

-- those so far are put in
abbrev pub invariant-loop-arrived : goal.invariant-loop-arrived
invariant-loop-arrived l = record {
  split : l.yielded ++ into_iter_items l.arrived-iterator ≡ filter (is_other l.held) l.content.stored;
  left : AreAll l.yielded l.rest.stored;
}
