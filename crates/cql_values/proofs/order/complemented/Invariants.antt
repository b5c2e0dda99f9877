use Rattle.std.proofs.Common.{◌≡◌, ◌-◌, ◌++◌, map, take, drop}
use Rattle.cql_values.proofs.order.complemented.Given as goal

-- the bytes below the index are complemented
abbrev pub invariant-loop-byte : goal.invariant-loop-byte
invariant-loop-byte l = l.byte-items ≡ map (λ b. 255 - b) (take l.byte-index l.fn.bytes.items) ++ drop l.byte-index l.fn.bytes.items
