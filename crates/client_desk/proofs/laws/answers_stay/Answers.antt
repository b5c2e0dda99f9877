use Rattle.client_desk.proofs.AskLaws.{answers_stay}
use Rattle.client_desk.proofs.laws.answers_stay.Goals as goal

pub returns : goal.returns
returns c = answers_stay
