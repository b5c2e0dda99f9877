use Rattle.node_core.proofs.Slots.{moves_last}
use Rattle.node_core.proofs.hears.end_read.Goals as goal

pub returns : goal.returns
returns c = λ setting xs last.
    moves_last _ c.args.request xs c.args.slot.now _ c.in_ok-turn.turn c.args.read.now c.of.result last.untouched last.there (c.in_ok-turn.ensures.hears setting last.last) c.in_ok-turn.ensures.ended c.replace.ensures.after c.of.ensures.sends c.of.ensures.entries
