use Rattle.std.proofs.Common.{◌≡◌, [], ◌∷◌, ◌++◌, rules}
use Rattle.served_links.specs.Nodes.{AreEnds, AreSettled, ends_of}
use Rattle.served_links.proofs.Meeting.{met_off, met_on}
use Rattle.served_links.proofs.settling.+settle_with.Goals as goal

pub part-node-requires : goal.part-node-requires
part-node-requires t c =
    let senders : c.args.senders.items ≡ c.pop-2.new.self.items ++ c.unwrap-sender.result ∷ [] = search rules in
    let receivers : c.args.receivers.items ≡ c.pop-3.new.self.items ++ c.unwrap-receiver.result ∷ [] = search rules in
    let off = met_off ends_of AreEnds c.requires.0 c.args.before.items c.pop.new.self.items c.in-Some.node c.args.senders.items c.pop-2.new.self.items c.unwrap-sender.result c.args.receivers.items
    c.pop-3.new.self.items c.unwrap-receiver.result c.requires.1 c.in-Some.ensures.items senders receivers in
    off.2

pub settle_with-rest-requires : goal.settle_with-rest-requires
settle_with-rest-requires t c =
    let senders : c.args.senders.items ≡ c.pop-2.new.self.items ++ c.unwrap-sender.result ∷ [] = search rules in
    let receivers : c.args.receivers.items ≡ c.pop-3.new.self.items ++ c.unwrap-receiver.result ∷ [] = search rules in
    let off = met_off ends_of AreEnds c.requires.0 c.args.before.items c.pop.new.self.items c.in-Some.node c.args.senders.items c.pop-2.new.self.items c.unwrap-sender.result c.args.receivers.items
    c.pop-3.new.self.items c.unwrap-receiver.result c.requires.1 c.in-Some.ensures.items senders receivers in
    (search rules, (off.0, off.1))

pub returns-clause-settled : goal.returns-clause-settled
returns-clause-settled t c =
    let senders : c.args.senders.items ≡ c.pop-2.new.self.items ++ c.unwrap-sender.result ∷ [] = search rules in
    let receivers : c.args.receivers.items ≡ c.pop-3.new.self.items ++ c.unwrap-receiver.result ∷ [] = search rules in
    let rest = c.settle_with-rest.ensures.settled in
    met_on ends_of AreSettled rest.0 c.push_reserved.new.self.items c.settle_with-rest.result.items c.args.before.items c.pop.new.self.items c.part-node.result c.in-Some.node c.args.senders.items
    c.pop-2.new.self.items c.unwrap-sender.result c.args.receivers.items c.pop-3.new.self.items c.unwrap-receiver.result rest.1 rest.2 c.part-node.ensures c.push_reserved.ensures.items
    c.in-Some.ensures.items senders receivers
