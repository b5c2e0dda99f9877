use Rattle.std.proofs.Common.{◌≡◌, map, take}
use Rattle.prepared_statement.specs.Names.{column_number}
use Rattle.prepared_statement.proofs.names.numbers_of.Given as goal

abbrev pub invariant-loop-place : goal.invariant-loop-place
invariant-loop-place l = l.numbers ≡ map column_number (take l.place-index l.places)
