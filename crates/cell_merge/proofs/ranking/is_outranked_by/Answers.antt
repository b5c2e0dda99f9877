use Rattle.std.proofs.Common.{arith, refl, sym, subst, List, take, inl, inr, Contains}
use Rattle.std.proofs.lemmas.Bool.{both_ways, false≢true}
use Rattle.std.proofs.lemmas.List.{take_all}
use Rattle.std.proofs.lemmas.List.Elements.{Contains-push_cases}
use Rattle.changes.specs.declared.Held.{Held}
use Rattle.changes.specs.Order.{Outranks}
use Rattle.cs_base.proofs.Members.{front_more, contains_at, contains_nil}
use Rattle.cell_merge.proofs.ranking.is_outranked_by.Goals as goal

pub loop-y-init : goal.loop-y-init
loop-y-init c = λ z h over. contains_nil z h

pub loop-y-preserved : goal.loop-y-preserved
loop-y-preserved c =
    λ z h over.
    elim (Contains-push_cases (take c.loop-y.y-index c.args.changes.now) c.y-item.result z (subst (λ (l : List Held). Contains l z) (front_more c.args.changes.now c.loop-y.y-index c.y-item.result (omega arith) c.y-item.is) h)) [
      | inl before ↦ c.loop-y.invariant z before over
      | inr same ↦ both_ways c.outranks.result c.if-outranks.false (c.outranks.ensures.1 (subst (λ (v : Held). Outranks v c.args.x.now) (sym same) over))
    ]

pub returns-then-outranks : goal.returns-then-outranks
returns-then-outranks c = (λ t. (c.y-item.result, contains_at c.args.changes.now c.loop-y.y-index c.y-item.result (omega arith) c.y-item.is, c.outranks.ensures.0 c.if-outranks.true), λ h. refl)

pub returns : goal.returns
returns c = (
  λ t. absurd (false≢true t),
  λ h. absurd (c.loop-y.invariant h.0 (subst (λ (l : List Held). Contains l h.0) (sym (take_all c.loop-y.y-index c.args.changes.now (omega arith))) h.1) h.2),
)
