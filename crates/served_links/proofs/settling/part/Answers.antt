use Rattle.std.proofs.Common.{◌≡◌, List, [], ◌∷◌, ◌++◌, ap, sym, ◌∙◌, rules}
use Rattle.peer_messages.specs.declared.message.Message.{Message}
use Rattle.node_links.specs.declared.ends.Receiver.{Receiver}
use Rattle.served_links.proofs.settling.part.Goals as goal

pub returns : goal.returns
returns c =
    let taken : c.into_vec-receivers.result.items ≡ c.pop-2.new.self.items ++ c.unwrap-from_other.result ∷ [] = search rules in (
      c.unwrap-to_other.result,
      c.unwrap-from_other.result,
      search rules,
      sym c.into_vec-receivers.ensures ∙ (taken ∙ ap (λ (l : List (Receiver Message)). l ++ c.unwrap-from_other.result ∷ []) (sym c.from_vec.ensures)),
      c.settle_one-2.ensures,
      c.settle_one.ensures,
    )
