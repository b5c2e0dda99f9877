use Rattle.std.proofs.Common.{◌≡◌, ◌++◌, map, take}
use Rattle.prepared_statement.specs.Slots.{unfilled_slot}
use Rattle.prepared_statement.proofs.slots.push_unfilled.Given as goal

abbrev pub invariant-loop-name : goal.invariant-loop-name
invariant-loop-name l = l.slots ≡ l.fn.slots ++ map (unfilled_slot l.columns) (take l.name-index l.names)
