use Rattle.std.proofs.Common.{Option, subst}
use Rattle.node_steps.specs.State.{OpenRead}
use Rattle.node_core.specs.declared.slot.Found.{Found}
use Rattle.node_core.specs.Hearing.{IsOpened}
use Rattle.node_core.specs.Working.{left_open}
use Rattle.node_core.proofs.Slots.{moves_made, moves_none}
use Rattle.node_core.proofs.hears.hear_mend_ack.Goals as goal

pub returns-in_default : goal.returns-in_default
returns-in_default c =
    let xs = left_open c.args.ended.now c.args.reads.now.entries in
    let none = subst (λ (o : Option (Found OpenRead)). IsOpened c.args.request xs c.args.slot.now o c.open_read.new.slot) c.in_default.is c.in_ok-found.ensures in
    record { ok = λ setting. moves_none _ c.args.request xs c.args.slot.now c.open_read.new.slot c.nothing.result none.0 none.1 c.requires.slot c.nothing.ensures.sends c.nothing.ensures.entries }

pub returns : goal.returns
returns c =
    let xs = left_open c.args.ended.now c.args.reads.now.entries in
    let opens = subst (λ (o : Option (Found OpenRead)). IsOpened c.args.request xs c.args.slot.now o c.open_read.new.slot) c.in-Some.is c.in_ok-found.ensures in
    record { ok = λ setting. moves_made _ c.args.request xs c.args.slot.now c.put_back.new.slot c.in-Some.found c.in_ok-turn.turn _ c.put_back.result opens (c.in_ok-turn.ensures.ok setting) c.put_back.ensures.slot c.put_back.ensures.sends c.put_back.ensures.entries }
