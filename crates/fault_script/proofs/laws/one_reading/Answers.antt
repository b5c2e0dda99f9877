use Rattle.fault_script.proofs.OneWay.{read_one}
use Rattle.fault_script.proofs.laws.one_reading.Goals as goal

pub returns : goal.returns
returns c = read_one (record { reading = c.one_reading.ensures; refusal = c.one_refusal.ensures; none = c.no_refusal.ensures })
