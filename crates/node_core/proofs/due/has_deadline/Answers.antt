use Rattle.std.proofs.Common.{sym, ap, ◌∙◌}
use Rattle.std.specs.Prelude.{not}
use Rattle.node_core.proofs.DueKeys.{first_due, first_own, none_due}
use Rattle.node_core.proofs.due.has_deadline.Goals as goal

pub returns-in-Some-clause-none : goal.returns-in-Some-clause-none
returns-in-Some-clause-none g c = λ early.
    none_due c.args.time c.args.me c.args.requests.now.entries c.in-Some.id.now c.requires (first_own c.args.me c.args.requests.now.entries c.in-Some.id.now c.in-Some.field-0-1.now c.requires c.in-Some.ensures.first)
    (ap not (sym c.is_before_deadline.ensures) ∙ early) c.in-Some.ensures.all_from

pub returns-in-Some-clause-some : goal.returns-in-Some-clause-some
returns-in-Some-clause-some g c = λ come.
    first_due c.args.time c.args.requests.now.entries c.in-Some.id.now c.in-Some.field-0-1.now c.in-Some.ensures.first (ap not (sym c.is_before_deadline.ensures) ∙ come)
