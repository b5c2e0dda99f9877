-- All places have their bytes.
use Rattle.std.proofs.Common.{arith}
use Rattle.cql_values.specs.Order.{ascending_bytes}
use Rattle.cql_values.proofs.Columns.{front_read, length-ascending}
use Rattle.cql_values.proofs.reading.front.Goals as goal

pub returns : goal.returns
returns g c =
    let all = ascending_bytes c.args.desc c.args.bytes.now in
    let long = length-ascending c.args.desc c.args.bytes.now in
    front_read g.row.N c.loop-at.front all c.loop-at.invariant.0 (omega arith) (λ k l. c.loop-at.invariant.1 k (omega arith))
