use Rattle.std.proofs.Common.{◌≡◌, ◌<◌, ℕ, length, get_or}
use Rattle.cql_values.specs.Order.{ascending_bytes}
use Rattle.cql_values.proofs.reading.front.Given as goal

-- the places below the index have their bytes
abbrev pub invariant-loop-at : goal.invariant-loop-at
invariant-loop-at g l =
    (length l.front ≡ g.row.N) × ((k : ℕ) → k < l.at → get_or l.front k 0 ≡ get_or (ascending_bytes l.desc l.bytes) k 0)
