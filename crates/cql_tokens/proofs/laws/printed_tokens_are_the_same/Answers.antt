use Rattle.cql_tokens.proofs.Printing.{printed_tokens_are_the_same}
use Rattle.cql_tokens.proofs.laws.printed_tokens_are_the_same.Goals as goal

pub returns : goal.returns
returns c = printed_tokens_are_the_same
