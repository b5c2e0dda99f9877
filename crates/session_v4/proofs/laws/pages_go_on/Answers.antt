use Rattle.session_v4.proofs.PageRuns.{pages_go_on}
use Rattle.session_v4.proofs.laws.pages_go_on.Goals as goal

pub returns : goal.returns
returns c = pages_go_on
