use Rattle.std.proofs.Common.{◌≡◌, drop}
use Rattle.statement_values.specs.Sources.{left_in}
use Rattle.statement_binder.specs.Filled.{filled_from, left_after}
use Rattle.statement_binder.proofs.filled.add_slots.Given as goal

-- those so far and those of what is left are all
abbrev pub invariant-loop-slot : goal.invariant-loop-slot
invariant-loop-slot l = record {
  values : filled_from l.filled (left_in l.supplier) (drop l.slot-index l.slots) ≡ filled_from l.fn.filled (left_in l.fn.supplier) l.slots;
  left : left_after (left_in l.supplier) (drop l.slot-index l.slots) ≡ left_after (left_in l.fn.supplier) l.slots;
}
