use Rattle.std.proofs.Common.{sym, subst, refl, inl, inr, Option, Some, None}
use Rattle.std.proofs.lemmas.Bool.{both_ways}
use Rattle.partition_content.specs.declared.Arrived.{Arrived}
use Rattle.partition_content.specs.Slots.{held_in, IsCleared}
use Rattle.partition_content.proofs.clearing.clear.Goals as goal

pub returns-then-outranks-clause-cleared : goal.returns-then-outranks-clause-cleared
returns-then-outranks-clause-cleared c =
    subst (λ (o : Option Arrived). IsCleared c.args.x.now (held_in c.args.slot.now) (held_in o)) (sym c.take.ensures.after)
    (subst (λ (o : Option Arrived). IsCleared c.args.x.now (held_in o) None) (sym c.in-Some.is) (inl (c.outranks.ensures.0 c.if-outranks.true, refl)))

pub returns-else-outranks-clause-cleared : goal.returns-else-outranks-clause-cleared
returns-else-outranks-clause-cleared c =
    subst (λ (o : Option Arrived). IsCleared c.args.x.now (held_in o) (Some c.in-Some.there.held)) (sym c.in-Some.is) (inr (λ over. both_ways c.outranks.result c.if-outranks.false (c.outranks.ensures.1 over), refl))
