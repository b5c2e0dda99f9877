use Rattle.std.proofs.Common.{◌≡◌, ◌++◌}
use Rattle.partition_content.specs.Slots.{stored_of}
use Rattle.partition_content.proofs.reading.copy_stored.Given as goal

-- what is copied so far, and what is to come
abbrev pub invariant-loop-slot : goal.invariant-loop-slot
invariant-loop-slot l = l.all.items ++ stored_of l.slot-iterator ≡ stored_of l.slots.entries
