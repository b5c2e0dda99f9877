use Rattle.std.proofs.Common.{ℕ, List, Option, ◌∙◌, ap}
use Rattle.prepared_statement.specs.Prepared.{outline_of}
use Rattle.session_v4.proofs.Comings.{due_statement, on_stream}
use Rattle.session_v4.specs.Sessions.{Takes, state_in}
use Rattle.session_v4.proofs.session.Session.run.Goals as goal

pub returns-clause-due : goal.returns-clause-due
returns-clause-due c =
    let s = state_in c.args.self.now in
    let s' = state_in c.come_to.new.self in
    due_statement c.come_to.result s s' c.args.stream c.args.parameters c.in_ok-prepared.prepared _ c.in_ok-outcome.field-0
    (c.in_ok-prepared.ensures ∙ ap (λ (used : Option (List ℕ)). outline_of c.args.self.now.schema.now used c.args.statement.now) c.used.ensures)
    c.in_ok-outcome.ensures
    (on_stream c.come_to.result (λ z a. Takes s z c.in_ok-outcome.field-0 a s') c.args.stream c.ranges.stream c.come_to.ensures.due)
