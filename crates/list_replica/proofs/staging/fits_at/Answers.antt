use Rattle.std.proofs.Common.{◌∙◌, List, take, arith, sym, ap, subst, inl, inr, Contains}
use Rattle.std.proofs.lemmas.Bool.{both_ways}
use Rattle.std.proofs.lemmas.List.{take_all}
use Rattle.std.proofs.lemmas.List.Elements.{Contains-push_cases}
use Rattle.cs_base.proofs.Members.{front_more, contains_at, contains_nil}
use Rattle.list_replica.specs.declared.staging.Staged.{Staged}
use Rattle.list_replica.specs.Staging.{IsStagedAt}
use Rattle.list_replica.proofs.staging.fits_at.Goals as goal

pub loop-changes-init : goal.loop-changes-init
loop-changes-init c = λ h. contains_nil h.0 h.1

pub loop-changes-preserved : goal.loop-changes-preserved
loop-changes-preserved c =
    λ h.
    elim (Contains-push_cases (take c.loop-changes.changes-index c.args.staged.now) c.changes-item.result h.0
    (subst (λ (l : List Staged). Contains l h.0) (front_more c.args.staged.now c.loop-changes.changes-index c.changes-item.result (omega arith) c.changes-item.is) h.1)) [
      | inl before ↦ c.loop-changes.invariant (h.0, before, h.2)
      | inr same ↦ both_ways c.is_same.result c.if-is_same.false (c.is_same.ensures.1 (ap (λ (s : Staged). s.partition) same ∙ h.2))
    ]

pub fits-requires : goal.fits-requires
fits-requires c = c.requires.ready c.changes-item.result (contains_at c.args.staged.now c.loop-changes.changes-index c.changes-item.result (omega arith) c.changes-item.is)

pub returns-then-is_same-clause-within : goal.returns-then-is_same-clause-within
returns-then-is_same-clause-within c t = record {
  changes = c.changes-item.result;
  there = contains_at c.args.staged.now c.loop-changes.changes-index c.changes-item.result (omega arith) c.changes-item.is;
  of = c.is_same.ensures.0 c.if-is_same.true;
  within = c.fits.ensures.within t;
}

pub returns-then-is_same-clause-past : goal.returns-then-is_same-clause-past
returns-then-is_same-clause-past c f = record {
  changes = c.changes-item.result;
  there = contains_at c.args.staged.now c.loop-changes.changes-index c.changes-item.result (omega arith) c.changes-item.is;
  of = c.is_same.ensures.0 c.if-is_same.true;
  past = c.fits.ensures.past f;
}

pub returns-clause-within : goal.returns-clause-within
returns-clause-within c t =
    absurd (c.loop-changes.invariant (subst (λ (l : List Staged). IsStagedAt l c.args.partition.now) (sym (take_all c.loop-changes.changes-index c.args.staged.now (omega arith))) c.requires.there))
