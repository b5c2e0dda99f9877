use Rattle.commit_log.proofs.Readings.{one_way}
use Rattle.commit_log.proofs.laws.reads_as_one_list.Goals as goal

pub returns : goal.returns
returns c file = one_way file
