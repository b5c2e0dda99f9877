use Rattle.std.proofs.Common.{◌∙◌, [], ◌∷◌, ◌++◌, ap, sym, subst}
use Rattle.client_desk.specs.Asks.{IsAwaited, Collects}
use Rattle.node_calls.specs.declared.call.NodeCall.{NodeCall}
use Rattle.node_workers.specs.Calls.{called}
use Rattle.node_workers.specs.Desks.{asks_at, calls_of}
use Rattle.node_workers.specs.declared.parts.DeskParts.{DeskParts}
use Rattle.node_workers.proofs.AtLock.{collects_at}
use Rattle.node_workers.proofs.DeskLaws.{collected_by}
use Rattle.node_workers.proofs.desk.LockDeskDesk.collect.Goals as goal

pub invariant_of-self : goal.invariant_of-self
invariant_of-self g c =
    collects_at g.N.Stepper.steps g.N.Stepper.event_of g.N.Stepper.reply_of g.N.Stepper.refuses g.C.Clock.gives
    c.self.inside.parts c.call.new.self c.now-clock.result c.args.request c.optional.result c.call.result
    c.self.invariant c.call.ensures.lock c.call.ensures.pass c.call.ensures.comes c.call.ensures.calls c.call.ensures.site c.call.ensures.since c.optional.ensures c.now-clock.ensures
    (subst (λ (d : DeskParts g.row.W.Denot g.row.N.Denot g.row.C.Denot g.row.N-Entry.Denot). IsAwaited (asks_at d) c.args.request) (sym c.self.view_is) c.requires)

pub returns-clause-collects : goal.returns-clause-collects
returns-clause-collects g c =
    subst (λ (d : DeskParts g.row.W.Denot g.row.N.Denot g.row.C.Denot g.row.N-Entry.Denot). IsAwaited (asks_at d) c.args.request → Collects (asks_at d) c.args.request c.into_answer-answer.result (asks_at c.call.new.self)) c.self.view_is
    (collected_by (calls_of c.self.inside.parts) (calls_of c.call.new.self) c.now-clock.result c.args.request c.call.result c.into_answer-answer.result
    (c.call.ensures.calls ∙ ap (λ (k : NodeCall). calls_of c.self.inside.parts ++ called k c.call.result ∷ []) c.optional.ensures) c.into_answer-answer.ensures) c.requires
