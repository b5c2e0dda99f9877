use Rattle.std.proofs.Common.{subst}
use Rattle.node_lock.specs.Passes.{view_of, start_of}
use Rattle.node_lock.specs.Stepped.{IsSamePass}
use Rattle.node_workers.specs.Desks.{lock_of, since_of, calls_of}
use Rattle.node_workers.specs.declared.parts.DeskParts.{DeskParts}
use Rattle.node_workers.proofs.CallChains.{calls_leave}
use Rattle.node_workers.proofs.desk.LockDesk.finish.Goals as goal

pub returns-clause-pass : goal.returns-clause-pass
returns-clause-pass g c =
    let leaves =
    calls_leave g.N.Stepper.steps g.N.Stepper.event_of g.N.Stepper.reply_of g.N.Stepper.refuses (start_of (lock_of c.self.inside.parts))
    (since_of c.self.inside.parts) (view_of c.self.inside.parts.pass) (calls_of c.self.inside.parts) c.self.invariant.made in
    subst (λ (d : DeskParts g.row.W.Denot g.row.N.Denot g.row.C.Denot g.row.N-Entry.Denot). IsSamePass (since_of d) (view_of c.self.inside.parts.pass)) c.self.view_is leaves.pass
