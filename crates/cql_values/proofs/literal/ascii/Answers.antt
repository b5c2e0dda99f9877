-- A string whose content is ASCII.
use Rattle.cql_values.specs.Literals.{unquoted}
use Rattle.cql_values.proofs.LiteralWords.{ascii_read, ascii_refused}
use Rattle.cql_values.proofs.literal.ascii.Goals as goal

pub returns-then-is_ascii : goal.returns-then-is_ascii
returns-then-is_ascii c = ascii_read (unquoted c.args.text.now) c.in_ok-content.content _ c.in_ok-content.ensures c.as_str.ensures c.if-is_ascii.ensures.cases

pub returns-else-is_ascii : goal.returns-else-is_ascii
returns-else-is_ascii c = ascii_refused (unquoted c.args.text.now) c.in_ok-content.content _ c.in_ok-content.ensures c.as_str.ensures c.if-is_ascii.ensures.cases
