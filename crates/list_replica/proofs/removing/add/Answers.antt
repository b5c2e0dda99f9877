use Rattle.list_replica.proofs.Leaving.{added}
use Rattle.list_replica.proofs.removing.add.Goals as goal

pub returns : goal.returns
returns c =
    added c.args.arrived c.args.rest.now.stored c.reserve.new.self.stored c.apply.new.self.stored c.push.new.self.items c.new-changes.result.items c.in_ok-incoming.incoming c.new-changes.ensures.items c.in_ok-push.ensures.items c.in_ok-incoming.ensures c.reserve.ensures.stored
    c.apply.ensures.content c.apply.ensures.arrivals
