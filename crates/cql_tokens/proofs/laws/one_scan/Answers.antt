use Rattle.cql_tokens.proofs.Printing.{one_scan}
use Rattle.cql_tokens.proofs.laws.one_scan.Goals as goal

pub returns : goal.returns
returns c = one_scan
