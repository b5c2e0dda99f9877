use Rattle.cs_base.proofs.Quorums.{shared}
use Rattle.cs_base.proofs.level.meeting_nodes_share_a_replica.Goals as goal

pub returns : goal.returns
returns c = shared
