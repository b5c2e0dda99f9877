use Rattle.std.proofs.Common.{◌≡◌, drop}
use Rattle.prepared_statement.specs.Markers.{key_from}
use Rattle.prepared_statement.proofs.MarkerNumbers.{behind_numbers}
use Rattle.prepared_statement.proofs.markers.key_of.Given as goal

-- those so far and those of what is left
abbrev pub invariant-loop-place : goal.invariant-loop-place
invariant-loop-place l = key_from l.first l.slots 0 l.columns ≡ behind_numbers l.numbers (key_from l.first l.slots l.place (drop l.place l.columns))
