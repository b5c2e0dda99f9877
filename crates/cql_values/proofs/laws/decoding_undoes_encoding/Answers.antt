use Rattle.cql_values.specs.Value.{type_of}
use Rattle.cql_values.specs.Protocol.{value_bytes}
use Rattle.cql_values.proofs.Words.{written_word, word_is_decoded}
use Rattle.cql_values.proofs.laws.decoding_undoes_encoding.Goals as goal

pub returns-clause-word : goal.returns-clause-word
returns-clause-word c = written_word

pub returns-clause-value : goal.returns-clause-value
returns-clause-value c = λ v value. word_is_decoded (type_of v) (value_bytes v) v (written_word v value)
