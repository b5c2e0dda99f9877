use Rattle.std.proofs.Common.{◌≡◌, take}
use Rattle.session_v4.proofs.batches.copied_slots.Given as goal

abbrev pub invariant-loop-slot : goal.invariant-loop-slot
invariant-loop-slot l = l.copies ≡ take l.slot-index l.slots
