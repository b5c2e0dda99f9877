use Rattle.std.proofs.Common.{◌≡◌, ◌++◌}
use Rattle.std.specs.Map.{keys_of}
use Rattle.partition_content.specs.Slots.{helds_in}
use Rattle.partition_content.proofs.inside.copy_keys.Given as goal

-- the keys so far, and those to come
abbrev pub invariant-loop-at : goal.invariant-loop-at
invariant-loop-at l = l.onto.items ++ keys_of (helds_in l.at-iterator) ≡ l.fn.onto.items ++ keys_of (helds_in l.fn.walk)
