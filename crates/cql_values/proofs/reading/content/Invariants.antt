use Rattle.std.proofs.Common.{take}
use Rattle.cql_values.specs.Order.{ascending_bytes}
use Rattle.cql_values.proofs.Scanning.{Scanned}
use Rattle.cql_values.proofs.reading.content.Given as goal

abbrev pub invariant-loop-at : goal.invariant-loop-at
invariant-loop-at l = Scanned l.ty (take l.at (ascending_bytes l.desc l.bytes)) l.content.items l.expected
