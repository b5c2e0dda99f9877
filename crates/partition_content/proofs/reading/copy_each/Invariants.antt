use Rattle.std.proofs.Common.{◌≡◌, ◌++◌}
use Rattle.partition_content.specs.Slots.{changes_of, helds_in}
use Rattle.partition_content.proofs.reading.copy_each.Given as goal

-- the changes so far, and those to come
abbrev pub invariant-loop-slot : goal.invariant-loop-slot
invariant-loop-slot l = l.onto.items ++ changes_of (helds_in l.slot-iterator) ≡ l.fn.onto.items ++ changes_of (helds_in l.fn.walk)
