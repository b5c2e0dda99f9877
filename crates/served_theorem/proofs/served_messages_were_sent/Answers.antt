use Rattle.served_theorem.proofs.Sent.{all_were_sent}
use Rattle.served_theorem.proofs.served_messages_were_sent.Goals as goal

pub returns : goal.returns
returns g c = λ host desk before now c' old new result full served.
    all_were_sent _ _ _ _ host desk _ served.nodes served.served.doors served.out new result full c.links_take_what_is_sent.ensures.links c.links_take_what_is_sent.ensures.fresh served.served.served served.served.count
