use Rattle.std.proofs.Common.{◌≡◌, ◌+◌, ℕ, suc, List, length, map, subst, sym, arith, rules}
use Rattle.std.specs.Vec.Iter.{into_iter_items}
use Rattle.peer_messages.specs.declared.message.Message.{Message}
use Rattle.node_links.specs.declared.ends.Receiver.{Receiver}
use Rattle.served_links.specs.Ends.{LeadToOthers}
use Rattle.served_links.specs.Nodes.{AreFreshEnds, ends_of, upto_of}
use Rattle.served_links.specs.declared.ends.NodeLinks.{NodeLinks}
use Rattle.served_links.proofs.Meeting.{HaveMet, met_all, met_next}
use Rattle.served_links.proofs.spreading.with_node.Goals as goal

pub loop-other-preserved : goal.loop-other-preserved
loop-other-preserved c =
    let was = c.loop-other in
    let met = c.in_ok-met.met in
    let leads : met.sender.upto ≡ length was.all.items = search rules in
    met_next upto_of AreFreshEnds (map ends_of c.args.before.items) c.args.node ends_of (into_iter_items was.other-iterator) (into_iter_items c.next.new.self) was.all.items c.push.new.self.items c.in-Some.other met.node
    was.senders.items c.push-in-loop-other.new.self.items was.receivers.items c.push-in-loop-other-2.new.self.items met.sender met.receiver was.invariant c.in-Some.ensures.steps.0
    c.in_ok-met.ensures.met c.in_ok-met.ensures.upto leads c.in_ok-push.ensures.items c.in_ok-push-2.ensures.items c.in_ok-push-3.ensures.items

pub returns-clause-all : goal.returns-clause-all
returns-clause-all c =
    let was = c.loop-other in
    let before = map ends_of c.args.before.items in
    let last : NodeLinks = record { senders = was.senders; receivers = c.from_vec.result } in
    let one_more : suc c.args.node ≡ c.args.node + 1 = omega arith in
    let met = subst (λ (rs : List (Receiver Message)). HaveMet upto_of AreFreshEnds before c.args.node (map ends_of (into_iter_items was.other-iterator)) (map ends_of was.all.items) was.senders.items rs) (sym c.from_vec.ensures) was.invariant in
    let whole = met_all upto_of AreFreshEnds before c.args.node ends_of (into_iter_items was.other-iterator) was.all.items c.push-2.new.self.items last met (search rules) c.requires.all c.requires.fresh c.in_ok-push-4.ensures.items in
    subst (λ (n : ℕ). LeadToOthers upto_of n (map ends_of c.push-2.new.self.items)) one_more whole.0

pub returns-clause-fresh : goal.returns-clause-fresh
returns-clause-fresh c =
    let was = c.loop-other in
    let before = map ends_of c.args.before.items in
    let last : NodeLinks = record { senders = was.senders; receivers = c.from_vec.result } in
    let met = subst (λ (rs : List (Receiver Message)). HaveMet upto_of AreFreshEnds before c.args.node (map ends_of (into_iter_items was.other-iterator)) (map ends_of was.all.items) was.senders.items rs) (sym c.from_vec.ensures) was.invariant in
    let whole = met_all upto_of AreFreshEnds before c.args.node ends_of (into_iter_items was.other-iterator) was.all.items c.push-2.new.self.items last met (search rules) c.requires.all c.requires.fresh c.in_ok-push-4.ensures.items in
    whole.1
