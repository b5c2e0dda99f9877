use Rattle.token_ring.proofs.Ranges.{first_replica_owns}
use Rattle.token_ring.proofs.laws.first_replica_owns_the_token.Goals as goal

pub returns : goal.returns
returns c = first_replica_owns
