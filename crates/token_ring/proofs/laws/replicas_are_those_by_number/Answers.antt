use Rattle.token_ring.proofs.Numbered.{numbered_count, numbered_members, numbered_counts}
use Rattle.token_ring.proofs.laws.replicas_are_those_by_number.Goals as goal

pub returns : goal.returns
returns c = record { count = numbered_count; members = numbered_members; counts = numbered_counts }
