use Rattle.cql_tokens.proofs.Printing.{each_text_has_a_scan}
use Rattle.cql_tokens.proofs.laws.each_text_has_a_scan.Goals as goal

pub returns : goal.returns
returns c = each_text_has_a_scan
