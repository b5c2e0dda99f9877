use Rattle.std.proofs.Common.{◌≡◌, take}
use Rattle.prepared_statement.specs.Markers.{numbers_behind}
use Rattle.prepared_statement.proofs.markers.numbers_behind.Given as goal

abbrev pub invariant-loop-slot : goal.invariant-loop-slot
invariant-loop-slot l = l.number ≡ numbers_behind 0 (take l.slot-index l.slots)
