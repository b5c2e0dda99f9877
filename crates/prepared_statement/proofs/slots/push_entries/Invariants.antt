use Rattle.std.proofs.Common.{◌≡◌, ◌++◌, drop}
use Rattle.prepared_statement.specs.Slots.{entry_slots}
use Rattle.prepared_statement.proofs.slots.push_entries.Given as goal

-- the slots so far and those of what is left are all
abbrev pub invariant-loop-term : goal.invariant-loop-term
invariant-loop-term l = l.slots ++ entry_slots l.columns l.left (drop l.term-index l.terms) ≡ l.fn.slots ++ entry_slots l.columns l.names l.terms
