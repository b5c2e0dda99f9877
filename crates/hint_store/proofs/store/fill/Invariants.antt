use Rattle.std.proofs.Common.{◌≡◌, ◌++◌, ℕ, length}
use Rattle.std.specs.Prelude.{slice_index_or}
use Rattle.std.specs.Map.{values_of}
use Rattle.std.specs.Vec.Iter.{into_iter_items}
use Rattle.durable_state.specs.State.{hints_of}
use Rattle.hint_store.proofs.store.fill.Given as goal

-- the hints so far are in the table, and are counted
abbrev pub invariant-loop-hint : goal.invariant-loop-hint
invariant-loop-hint l = record {
  split : l.yielded ++ into_iter_items l.hint-iterator ≡ l.fn.hints.items;
  own : (peer : ℕ) → hints_of (values_of l.table.entries) peer ≡ hints_of l.yielded peer;
  count : (peer : ℕ) → slice_index_or l.tally.count peer 0 ≡ length (hints_of l.yielded peer);
  last : l.tally.last ≡ l.fn.tally.last;
}
