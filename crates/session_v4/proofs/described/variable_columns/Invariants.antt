use Rattle.std.proofs.Common.{◌≡◌, map, take}
use Rattle.session_v4.specs.Described.{variable_of}
use Rattle.session_v4.proofs.described.variable_columns.Given as goal

abbrev pub invariant-loop-marker : goal.invariant-loop-marker
invariant-loop-marker l = l.columns ≡ map variable_of (take l.marker-index l.markers)
