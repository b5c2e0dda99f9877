use Rattle.std.proofs.Common.{◌≡◌, map, take}
use Rattle.prepared_statement.specs.Names.{place_of}
use Rattle.prepared_statement.proofs.names.places_of.Given as goal

abbrev pub invariant-loop-name : goal.invariant-loop-name
invariant-loop-name l = l.places ≡ map (place_of l.columns) (take l.name-index l.names)
