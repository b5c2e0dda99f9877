use Rattle.replica.proofs.Fronts.{crashes_leave_a_front as fronts}
use Rattle.replica.proofs.laws.crashes_leave_a_front.Goals as goal

pub returns : goal.returns
returns c start = fronts _ _ _
