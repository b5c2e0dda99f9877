-- What is read of the complements is read of the bytes, and what was written is read again.
use Rattle.std.proofs.Common.{arith}
use Rattle.cql_values.proofs.Columns.{reads_directed}
use Rattle.cql_values.proofs.ReadingLaws.{written_again}
use Rattle.cql_values.proofs.reading.read_order.Goals as goal

pub returns-clause-reads : goal.returns-clause-reads
returns-clause-reads c = reads_directed c.args.ty c.args.desc c.args.bytes.now c.value.result (λ i. omega (arith, c.type_inv.bytes i)) c.value.ensures

pub returns-clause-only : goal.returns-clause-only
returns-clause-only c =
    λ v rest is value e.
    written_again c.args.ty c.args.desc c.args.bytes.now rest v c.value.result is c.requires value e
    (reads_directed c.args.ty c.args.desc c.args.bytes.now c.value.result (λ i. omega (arith, c.type_inv.bytes i)) c.value.ensures)
