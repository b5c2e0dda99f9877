use Rattle.std.proofs.Common.{◌≡◌, take}
use Rattle.prepared_statement.specs.Structure.{keys_of}
use Rattle.prepared_statement.proofs.structure.keys_of.Given as goal

abbrev pub invariant-loop-slot : goal.invariant-loop-slot
invariant-loop-slot l = l.keys ≡ keys_of (take l.slot-index l.slots)
