use Rattle.std.proofs.Common.{◌≡◌, ◌-◌, ℕ, length, drop}
use Rattle.std.specs.Prelude.{slice_index_or}
use Rattle.durable_state.specs.State.{last_of}
use Rattle.hint_store.proofs.tally.Tally.of_numbers.Given as goal

-- the numbers from behind so far are told
abbrev pub invariant-loop-done : goal.invariant-loop-done
invariant-loop-done l = record {
  last : (peer : ℕ) → slice_index_or l.tally.last peer 0 ≡ last_of (drop (length l.numbers - l.done) l.numbers) peer;
  count : (peer : ℕ) → slice_index_or l.tally.count peer 0 ≡ 0;
}
