use Rattle.std.proofs.Common.{◌≡◌, ◌++◌, map, take}
use Rattle.prepared_statement.specs.Slots.{assignment_slot}
use Rattle.prepared_statement.proofs.slots.push_assignments.Given as goal

abbrev pub invariant-loop-assignment : goal.invariant-loop-assignment
invariant-loop-assignment l = l.slots ≡ l.fn.slots ++ map (assignment_slot l.columns) (take l.assignment-index l.assignments)
