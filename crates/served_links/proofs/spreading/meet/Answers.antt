use Rattle.std.proofs.Common.{List, [], ◌∷◌, ◌++◌, ap, ◌∙◌}
use Rattle.peer_messages.specs.declared.message.Message.{Message}
use Rattle.node_links.specs.declared.ends.Receiver.{Receiver}
use Rattle.served_links.proofs.spreading.meet.Goals as goal

pub returns-clause-met : goal.returns-clause-met
returns-clause-met c =
    let there = c.in_ok-there.there in
    let back = c.in_ok-back.back in (
      record { upto = there.to; sender = there.sender },
      back.receiver,
      c.in_ok-push.ensures.items,
      c.from_vec.ensures ∙ (c.in_ok-push-2.ensures.items ∙ ap (λ (l : List (Receiver Message)). l ++ back.receiver ∷ []) c.into_vec-receivers.ensures),
      c.in_ok-there.ensures.fresh,
      c.in_ok-back.ensures.fresh,
    )
