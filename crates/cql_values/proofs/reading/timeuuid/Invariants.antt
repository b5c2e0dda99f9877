use Rattle.std.proofs.Common.{◌≡◌, ◌<◌, ◌≤◌, ℕ, true, length}
use Rattle.cql_values.specs.Order.{ascending_bytes, is_time_byte}
use Rattle.cql_values.proofs.reading.timeuuid.Given as goal

-- the bytes below the index are there, and are those that a word asks for
abbrev pub invariant-loop-at : goal.invariant-loop-at
invariant-loop-at l =
    (l.at ≤ length l.bytes) × ((k : ℕ) → k < l.at → is_time_byte (ascending_bytes l.desc l.bytes) k ≡ true)
