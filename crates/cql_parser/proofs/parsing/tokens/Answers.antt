use Rattle.cql_parser.proofs.Faults.{answers_same, tokens_exact}
use Rattle.cql_parser.proofs.parsing.tokens.Goals as goal

pub returns-clause-exact : goal.returns-clause-exact
returns-clause-exact c = tokens_exact c.one_scan.ensures _ c.in_ok-scanned.scanned _ c.in_ok-scanned.ensures.scanned (answers_same _ _ c.only_tokens.ensures)
