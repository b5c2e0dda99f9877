use Rattle.gate_log.proofs.Readings.{one_reading}
use Rattle.gate_log.proofs.format.reads_in_one_way.Goals as goal

pub returns : goal.returns
returns c file = one_reading file
