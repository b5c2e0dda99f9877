use Rattle.statement_binder.proofs.LastingLaws.{preparing_tells_lowest}
use Rattle.statement_binder.proofs.laws.preparing_tells_lowest.Goals as goal

pub returns : goal.returns
returns c = preparing_tells_lowest
