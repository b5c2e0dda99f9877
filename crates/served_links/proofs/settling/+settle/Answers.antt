use Rattle.std.proofs.Common.{length, rules}
use Rattle.served_links.specs.Nodes.{AreEnds, AreSettled, ends_of}
use Rattle.served_links.proofs.Meeting.{last_off, last_on, left_off}
use Rattle.served_links.proofs.settling.+settle.Goals as goal

pub settle_with-requires : goal.settle_with-requires
settle_with-requires t c =
    last_off ends_of c.requires.even.0 c.args.all.items c.pop.new.self.items c.in-Some.last c.into_vec.result.items c.in-Some.ensures.items c.into_vec.ensures c.requires.even.1 AreEnds c.requires.links

pub settle-requires : goal.settle-requires
settle-requires t c =
    let with_last = c.settle_with.ensures.settled in
    let left = left_off ends_of c.requires.even.0 c.args.all.items c.pop.new.self.items c.in-Some.last c.into_vec.result.items c.in-Some.ensures.items c.into_vec.ensures c.requires.even.1 AreEnds
    AreSettled with_last.0 c.settle_with.result.items c.requires.links with_last.1 with_last.2 in
    (search rules, ((length c.settle_with.result.items, left.0), left.1))

pub returns-in-Some : goal.returns-in-Some
returns-in-Some t c =
    let with_last = c.settle_with.ensures.settled in
    last_on ends_of c.requires.even.0 c.args.all.items c.pop.new.self.items c.in-Some.last c.into_vec.result.items c.in-Some.ensures.items c.into_vec.ensures c.requires.even.1 AreSettled with_last.0
    c.settle_with.result.items with_last.1 with_last.2 c.settle.ensures
