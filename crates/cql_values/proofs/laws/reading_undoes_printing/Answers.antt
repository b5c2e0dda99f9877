use Rattle.cql_values.proofs.LiteralLaws.{printed_is_literal, printed_is_read}
use Rattle.cql_values.proofs.laws.reading_undoes_printing.Goals as goal

pub returns-clause-literal : goal.returns-clause-literal
returns-clause-literal c = printed_is_literal

pub returns-clause-value : goal.returns-clause-value
returns-clause-value c = printed_is_read
