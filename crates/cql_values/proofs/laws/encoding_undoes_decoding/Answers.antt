use Rattle.cql_values.proofs.Words.{written_back}
use Rattle.cql_values.proofs.laws.encoding_undoes_decoding.Goals as goal

pub returns : goal.returns
returns c = written_back
