use Rattle.paxos_history.proofs.ChosenOrder.{serial_right}
use Rattle.paxos_history.proofs.histories_are_serial.Goals as goal

pub returns : goal.returns
returns c = λ w h ok. serial_right w h ok
