use Rattle.session_v4.proofs.Moves.{keyspace_is_told}
use Rattle.session_v4.proofs.laws.keyspaces_are_told.Goals as goal

pub returns : goal.returns
returns c = keyspace_is_told
