use Rattle.std.proofs.Common.{◌≡◌, ◌++◌, drop}
use Rattle.cql_values.specs.Order.{escaped}
use Rattle.cql_values.proofs.order.escaped.Given as goal

-- what is written and what is still to come
abbrev pub invariant-loop-byte : goal.invariant-loop-byte
invariant-loop-byte l = l.word.items ++ escaped (drop l.byte-index l.bytes) ≡ escaped l.bytes
