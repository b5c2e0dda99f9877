use Rattle.std.proofs.Common.{[], ◌∷◌, Bool, sym, subst}
use Rattle.wired_node.specs.Sending.{IsPut}
use Rattle.wired_node.proofs.Puts.{is_put}
use Rattle.wired_node.proofs.senders.NodeSender.put.Goals as goal

pub returns : goal.returns
returns c =
    subst (λ (b : Bool). IsPut ((c.args.message, b) ∷ []) c.args.self.now (record c.args.self.now { sender = c.put.new.self })) (sym c.is_some.ensures)
    (is_put c.args.message c.args.self.now c.put.new.self c.put.result c.requires c.put.ensures.put c.put.ensures.back c.put.ensures.full c.put.ensures.known c.put.ensures.end)
