use Rattle.std.proofs.Common.{sym}
use Rattle.node_lock.proofs.Seats.{opens}
use Rattle.node_lock.proofs.lock.NodeLock.new.Goals as goal

pub new-requires-2 : goal.new-requires-2
new-requires-2 g c = rw (c.push_reserved.ensures.items, c.in_ok-slots.ensures.items) (opens g.N.Stepper.steps c.of.result.value c.args.seats _ c.ranges.seats.fits (sym c.of.ensures) c.in_ok-history.ensures)
