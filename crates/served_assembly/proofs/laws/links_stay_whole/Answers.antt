use Rattle.served_assembly.proofs.Moving.{stay_whole}
use Rattle.served_assembly.proofs.laws.links_stay_whole.Goals as goal

pub returns : goal.returns
returns g c = stay_whole _ _ _ _ _ _ _ _ c.messages_are_put.ensures c.same_ends_stay_linked.ensures
