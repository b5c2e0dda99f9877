use Rattle.cql_tokens.proofs.Printing.{ok_slices}
use Rattle.cql_tokens.proofs.Scans.{ok_in_order}
use Rattle.cql_tokens.proofs.scanning.scan.Goals as goal

pub returns-clause-slices : goal.returns-clause-slices
returns-clause-slices c = ok_slices c.as_bytes.result.now c.args.text.now c.scan_bytes.result c.utf8.text c.as_bytes.ensures.value c.scan_bytes.ensures

pub returns-clause-in_order : goal.returns-clause-in_order
returns-clause-in_order c = ok_in_order c.as_bytes.result.now c.args.text.now c.scan_bytes.result c.as_bytes.ensures.value c.scan_bytes.ensures
