use Rattle.statement_binder.proofs.LastingLaws.{lasting_refusals_hold}
use Rattle.statement_binder.proofs.laws.lasting_refusals_hold.Goals as goal

pub returns : goal.returns
returns c = lasting_refusals_hold
