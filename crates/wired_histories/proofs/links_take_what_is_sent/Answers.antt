use Rattle.wired_histories.proofs.Links.{all_given, fresh_given}
use Rattle.wired_histories.proofs.links_take_what_is_sent.Goals as goal

pub returns-clause-links : goal.returns-clause-links
returns-clause-links g c = all_given _ _ _ _ _ _ _ c.messages_are_put.ensures

pub returns-clause-fresh : goal.returns-clause-fresh
returns-clause-fresh g c = fresh_given _ _ _ _ _ _ _ c.messages_are_put.ensures
