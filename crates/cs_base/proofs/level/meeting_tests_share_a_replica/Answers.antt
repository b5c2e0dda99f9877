use Rattle.cs_base.proofs.Quorums.{both_pass}
use Rattle.cs_base.proofs.level.meeting_tests_share_a_replica.Goals as goal

pub returns : goal.returns
returns c = both_pass
