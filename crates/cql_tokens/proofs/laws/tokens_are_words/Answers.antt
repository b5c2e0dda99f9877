use Rattle.cql_tokens.proofs.Printing.{tokens_are_words}
use Rattle.cql_tokens.proofs.laws.tokens_are_words.Goals as goal

pub returns : goal.returns
returns c = tokens_are_words
