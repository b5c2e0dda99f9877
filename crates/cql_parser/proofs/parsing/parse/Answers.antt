use Rattle.cql_parser.proofs.Faults.{found, only, refused}
use Rattle.cql_parser.proofs.parsing.parse.Goals as goal

pub returns-clause-found : goal.returns-clause-found
returns-clause-found c = found _ c.in_ok-scanned.scanned _ c.in_ok-scanned.ensures.scanned c.statement_of.ensures

pub returns-clause-only : goal.returns-clause-only
returns-clause-only c = only c.one_scan.ensures _ c.in_ok-scanned.scanned _ c.in_ok-scanned.ensures.scanned c.statement_of.ensures

pub returns-clause-refused : goal.returns-clause-refused
returns-clause-refused c = refused _ c.in_ok-scanned.scanned _ c.in_ok-scanned.ensures.scanned c.statement_of.ensures
