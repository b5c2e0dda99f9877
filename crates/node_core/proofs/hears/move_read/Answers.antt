use Rattle.std.proofs.Common.{Option, subst}
use Rattle.node_steps.specs.State.{OpenRead}
use Rattle.node_core.specs.declared.slot.Found.{Found}
use Rattle.node_core.specs.Hearing.{IsOpened}
use Rattle.node_core.specs.Working.{left_open}
use Rattle.node_core.proofs.Slots.{moves_none}
use Rattle.node_core.proofs.hears.move_read.Goals as goal

pub returns-in_default : goal.returns-in_default
returns-in_default c =
    let none = subst (λ (o : Option (Found OpenRead)). IsOpened c.args.request (left_open c.args.ended.now c.args.reads.now.entries) c.args.slot.now o c.open_read.new.slot) c.in_default.is c.in_ok-found.ensures in
    record { ok = moves_none _ c.args.request (left_open c.args.ended.now c.args.reads.now.entries) c.args.slot.now c.open_read.new.slot c.nothing.result none.0 none.1 c.requires.slot c.nothing.ensures.sends c.nothing.ensures.entries }
