use Rattle.cql_parser.proofs.Refusals.{one_refusal}
use Rattle.cql_parser.proofs.laws.one_refusal.Goals as goal

pub returns : goal.returns
returns c = one_refusal c.one_scan.ensures
