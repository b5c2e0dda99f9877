use Rattle.std.proofs.Common.{refl}
use Rattle.node_core.proofs.Idle.{idle_told, never_idle}
use Rattle.node_core.proofs.node.NodeCore.is_idle.Goals as goal

pub returns-in-Some : goal.returns-in-Some
returns-in-Some c =
    idle_told c.self.inside.memory c.self.inside.runs c.args.self.now c.args.clock c.in-Some.time c.has_due.result c.self.view_is c.self.invariant.1 c.in-Some.ensures.value c.in-Some.ensures.within c.has_due.ensures.none c.has_due.ensures.some

pub returns-in-None : goal.returns-in-None
returns-in-None c = never_idle c.self.inside.memory c.self.inside.runs c.args.self.now c.args.clock c.self.view_is (c.in-None.ensures.none.0 refl)
