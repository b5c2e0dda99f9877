use Rattle.cql_parser.proofs.Refusals.{no_refusal}
use Rattle.cql_parser.proofs.laws.no_refusal.Goals as goal

pub returns : goal.returns
returns c = no_refusal c.one_scan.ensures
