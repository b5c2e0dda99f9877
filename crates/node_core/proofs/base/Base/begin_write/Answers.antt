use Rattle.std.proofs.Common.{sym, subst}
use Rattle.node_steps.specs.State.{OpenWrite}
use Rattle.node_core.specs.declared.slot.Slot.{Slot}
use Rattle.node_core.specs.Slots.{IsNew}
use Rattle.node_core.proofs.Slots.{new_taken}
use Rattle.node_core.proofs.base.Base.begin_write.Goals as goal

pub insert_write-requires-clause-absent : goal.insert_write-requires-clause-absent
insert_write-requires-clause-absent c =
    c.requires.slot (subst (λ (s : Slot OpenWrite). IsNew s) (sym (new_taken c.args.slot.now c.take_new.new.self c.take_new.result c.in-Some.now c.take_new.ensures c.in-Some.is)) tt)
