use Rattle.client_desk.proofs.AskLaws.{calls_go_on}
use Rattle.client_desk.proofs.laws.calls_go_on.Goals as goal

pub returns : goal.returns
returns c = calls_go_on
