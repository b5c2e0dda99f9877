use Rattle.cql_parser.proofs.Faults.{one_reading}
use Rattle.cql_parser.proofs.laws.one_reading.Goals as goal

pub returns : goal.returns
returns c = one_reading c.one_scan.ensures
