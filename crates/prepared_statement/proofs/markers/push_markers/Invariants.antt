use Rattle.std.proofs.Common.{◌≡◌, ◌++◌, take}
use Rattle.prepared_statement.specs.Markers.{markers_of}
use Rattle.prepared_statement.proofs.markers.push_markers.Given as goal

abbrev pub invariant-loop-slot : goal.invariant-loop-slot
invariant-loop-slot l = l.list ≡ l.fn.list ++ markers_of (take l.slot-index l.slots)
