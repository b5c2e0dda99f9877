use mir.Syntax.{w16}
use mir.Val.{SFits}
use Rattle.std.proofs.Common.{rules}
use Rattle.session_v4.proofs.Comings.{due_body, due_awaits, on_stream}
use Rattle.session_v4.specs.Sessions.{IsRequestDue, state_in}
use Rattle.session_v4.proofs.session.Session.step.Goals as goal

pub returns-in-Ok-clause-due : goal.returns-in-Ok-clause-due
returns-in-Ok-clause-due c =
    let s = state_in c.args.self.now in
    let s' = state_in c.take.new.self in
    let fits : SFits w16 c.args.frame.now.stream = search rules in
    due_body c.take.result s s' c.args.frame.now.stream c.in-Ok.request _ c.in-Ok.ensures.exact
    (on_stream c.take.result (λ z a. IsRequestDue s z c.in-Ok.request a s') c.args.frame.now.stream fits c.take.ensures.due)

pub returns-in-Ok-clause-awaited : goal.returns-in-Ok-clause-awaited
returns-in-Ok-clause-awaited c =
    let s = state_in c.args.self.now in
    let s' = state_in c.take.new.self in
    let fits : SFits w16 c.args.frame.now.stream = search rules in
    due_awaits c.take.result s s' c.args.frame.now
    (due_body c.take.result s s' c.args.frame.now.stream c.in-Ok.request _ c.in-Ok.ensures.exact
    (on_stream c.take.result (λ z a. IsRequestDue s z c.in-Ok.request a s') c.args.frame.now.stream fits c.take.ensures.due))
