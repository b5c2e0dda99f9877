use Rattle.std.proofs.Common.{◌≡◌, take}
use Rattle.prepared_statement.specs.Structure.{tested_numbers}
use Rattle.prepared_statement.proofs.structure.tested_numbers.Given as goal

abbrev pub invariant-loop-slot : goal.invariant-loop-slot
invariant-loop-slot l = l.numbers ≡ tested_numbers (take l.slot-index l.slots)
