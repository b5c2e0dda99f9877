use Rattle.std.proofs.Common.{Option, subst}
use Rattle.node_core.specs.declared.slot.Found.{Found}
use Rattle.node_steps.specs.State.{OpenRead}
use Rattle.node_core.specs.Slots.{IsFound}
use Rattle.node_core.specs.Working.{left_open}
use Rattle.node_core.proofs.Slots.{taken_opens, taken_gone}
use Rattle.node_core.proofs.LeftOpen.{left_removed}
use Rattle.node_core.proofs.hears.open_read.Goals as goal

pub returns-in-Some : goal.returns-in-Some
returns-in-Some c = taken_opens c.args.request.now (left_open c.args.ended.now c.args.reads.now.entries) c.args.slot.now c.take.new.self c.in-Some.found c.requires.slot (subst (λ (o : Option (Found OpenRead)). IsFound c.args.slot.now o c.take.new.self) c.in-Some.is c.take.ensures)

pub returns-then-is_gone : goal.returns-then-is_gone
returns-then-is_gone c = taken_gone c.args.request.now (left_open c.args.ended.now c.args.reads.now.entries) c.args.slot.now c.take.new.self (left_removed c.args.request.now c.args.ended.now c.args.reads.now c.requires.ordered) (subst (λ (o : Option (Found OpenRead)). IsFound c.args.slot.now o c.take.new.self) c.in_default.is c.take.ensures) (c.is_gone.ensures.0 c.if-is_gone.true)
