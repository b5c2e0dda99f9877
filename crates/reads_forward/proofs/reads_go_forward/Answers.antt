use Rattle.reads_forward.proofs.Traces.{run_forward}
use Rattle.reads_forward.proofs.reads_go_forward.Goals as goal

pub returns : goal.returns
returns c = run_forward
