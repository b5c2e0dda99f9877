use Rattle.std.proofs.Common.{◌∙◌, [], ◌∷◌, ◌++◌, ap, subst}
use Rattle.client_desk.specs.Asks.{Submits}
use Rattle.node_calls.specs.declared.call.NodeCall.{NodeCall}
use Rattle.node_workers.specs.Calls.{called}
use Rattle.node_workers.specs.Desks.{asks_at, calls_of}
use Rattle.node_workers.specs.declared.parts.DeskParts.{DeskParts}
use Rattle.node_workers.proofs.AtLock.{submits_at}
use Rattle.node_workers.proofs.DeskLaws.{submitted_by}
use Rattle.node_workers.proofs.desk.LockDeskDesk.submit.Goals as goal

pub invariant_of-self : goal.invariant_of-self
invariant_of-self g c =
    submits_at g.N.Stepper.steps g.N.Stepper.event_of g.N.Stepper.reply_of g.N.Stepper.refuses g.C.Clock.gives
    c.self.inside.parts c.call.new.self c.now-clock.result c.args.ask c.new.result c.call.result
    c.self.invariant c.call.ensures.lock c.call.ensures.pass c.call.ensures.comes c.call.ensures.calls c.call.ensures.site c.call.ensures.since c.new.ensures c.now-clock.ensures

pub returns-clause-submits : goal.returns-clause-submits
returns-clause-submits g c =
    subst (λ (d : DeskParts g.row.W.Denot g.row.N.Denot g.row.C.Denot g.row.N-Entry.Denot). Submits (asks_at d) c.args.ask c.into_name.result (asks_at c.call.new.self)) c.self.view_is
    (submitted_by (calls_of c.self.inside.parts) (calls_of c.call.new.self) c.now-clock.result c.args.ask c.call.result c.into_name.result
    (c.call.ensures.calls ∙ ap (λ (k : NodeCall). calls_of c.self.inside.parts ++ called k c.call.result ∷ []) c.new.ensures) c.into_name.ensures)
