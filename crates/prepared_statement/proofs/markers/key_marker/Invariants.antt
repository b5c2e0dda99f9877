use Rattle.std.proofs.Common.{◌≡◌, drop}
use Rattle.prepared_statement.specs.Markers.{key_marker}
use Rattle.prepared_statement.proofs.markers.key_marker.Given as goal

-- what is left to look at
abbrev pub invariant-loop-slot : goal.invariant-loop-slot
invariant-loop-slot l = key_marker l.place l.first l.slots ≡ key_marker l.place l.number (drop l.slot-index l.slots)
