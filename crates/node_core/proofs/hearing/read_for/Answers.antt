use Rattle.std.proofs.Common.{Some, sym, subst, refl}
use Rattle.peer_messages.specs.declared.message.Body.{Body}
use Rattle.node_core.specs.Moving.{IsReadFor}
use Rattle.node_core.proofs.hearing.read_for.Goals as goal

pub returns-in_ok-answer-in-Read-clause-ok : goal.returns-in_ok-answer-in-Read-clause-ok
returns-in_ok-answer-in-Read-clause-ok g c = λ honest.
    subst (λ (b : Body). IsReadFor c.args.items.now (g.R.Replica.durable c.args.replica.now) b (Some c.in_ok-answer-in-Read.field-0)) (sym c.in-Read.is) (c.in_ok-answer-in-Read.field-0, refl, c.in_ok-answer-in-Read.ensures.ok honest)
