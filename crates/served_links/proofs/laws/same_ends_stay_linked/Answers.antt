use Rattle.served_links.proofs.Linked.{same_ends}
use Rattle.served_links.proofs.laws.same_ends_stay_linked.Goals as goal

pub returns : goal.returns
returns c = same_ends
