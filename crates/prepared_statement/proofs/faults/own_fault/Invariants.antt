use Rattle.std.proofs.Common.{◌≡◌, take}
use Rattle.prepared_statement.specs.Faults.{own_fault}
use Rattle.prepared_statement.proofs.faults.own_fault.Given as goal

abbrev pub invariant-loop-slot : goal.invariant-loop-slot
invariant-loop-slot l = l.fault ≡ own_fault (take l.slot-index l.slots)
