use Rattle.std.proofs.Common.{List, subst, length, ◌<◌, set}
use Rattle.node_links.specs.declared.ends.Receiver.{Receiver}
use Rattle.peer_messages.specs.declared.message.Message.{Message}
use Rattle.node_workers.specs.Taking.{Take, taken_at}
use Rattle.node_workers.proofs.LinkTakes.{takes_at}
use Rattle.node_workers.proofs.receivers.Receivers.take.Goals as goal

pub returns-clause-taken : goal.returns-clause-taken
returns-clause-taken c =
    subst (λ (rs : List (Receiver Message)). c.args.place < length rs → Take rs (taken_at c.args.place c.take.result) (set c.self.inside.receivers.items c.args.place c.take.new.self)) c.self.view_is
    (λ within. takes_at c.self.inside.receivers.items c.args.place c.take.result c.index_mut-receiver.result.now c.take.new.self c.index_mut-receiver.result.now within c.index_mut-receiver.ensures.value c.take.ensures.end c.take.ensures.taken c.take.ensures.none)
    c.requires
