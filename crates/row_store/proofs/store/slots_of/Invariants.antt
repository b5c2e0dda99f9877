use Rattle.std.proofs.Common.{◌≡◌, ◌++◌, List, length}
use Rattle.durable_state.specs.declared.parts.RowAt.{RowAt}
use Rattle.row_store.specs.Stores.{AreSlotsOf}
use Rattle.row_store.proofs.store.slots_of.Given as goal

-- the last ones are there
abbrev pub invariant-loop-at : goal.invariant-loop-at
invariant-loop-at l = (done : List RowAt) × (l.left.items ++ done ≡ l.fn.rows.items) × AreSlotsOf done l.slots.entries

abbrev pub decreases-loop-at : goal.decreases-loop-at
decreases-loop-at l = length l.left.items
