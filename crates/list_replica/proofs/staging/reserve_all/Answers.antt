use Rattle.std.proofs.Common.{◌<◌, ◌++◌, ◌∷◌, List, length, take, drop, ◌+◌, ◌∙◌, arith, refl, sym, subst}
use Rattle.std.proofs.lemmas.List.{take_all}
use Rattle.cs_base.proofs.Members.{front_more, contains_nil}
use Rattle.list_replica.specs.declared.staging.Staged.{Staged}
use Rattle.list_replica.specs.Staging.{AreOnce, AreReady, AllFit}
use Rattle.list_replica.proofs.Gathering.{both_true, fit_more, ready_more, split_at}
use Rattle.list_replica.proofs.staging.reserve_all.Goals as goal

pub loop-changes-init : goal.loop-changes-init
loop-changes-init c = record { ready = λ s k. absurd (contains_nil s k); within = λ t s k. absurd (contains_nil s k); stored = refl; ordered = c.requires.ordered }

pub loop-changes-preserved : goal.loop-changes-preserved
loop-changes-preserved c =
    let s = c.changes-item.result in
    let i = c.loop-changes.changes-index in
    let below : c.loop-changes.changes-index < length c.args.staged.now = omega arith in
    let once : AreOnce (take i c.args.staged.now ++ s ∷ drop (i + 1) c.args.staged.now) = subst (λ (l : List Staged). AreOnce l) (sym (split_at c.args.staged.now i s below c.changes-item.is)) c.requires.once in
    record {
      ready = subst (λ (l : List Staged). AreReady c.reserve.new.contents l) (sym (front_more c.args.staged.now i s below c.changes-item.is))
          (ready_more c.loop-changes.contents c.reserve.new.contents (take i c.args.staged.now) s (drop (i + 1) c.args.staged.now) once c.loop-changes.invariant.ready c.in_ok-within.ensures.ready c.reserve.ensures.others);
      within = λ t.
          let both = both_true c.loop-changes.within c.in_ok-within.field-0 t in
          subst (λ (l : List Staged). AllFit c.reserve.new.contents l) (sym (front_more c.args.staged.now i s below c.changes-item.is))
          (fit_more c.loop-changes.contents c.reserve.new.contents (take i c.args.staged.now) s (drop (i + 1) c.args.staged.now) once (c.loop-changes.invariant.within both.0) (c.in_ok-within.ensures.within both.1) c.reserve.ensures.others);
      stored = c.reserve.ensures.stored ∙ c.loop-changes.invariant.stored;
      ordered = c.reserve.ensures.ordered;
    }

pub returns-in_err-within-clause-stored : goal.returns-in_err-within-clause-stored
returns-in_err-within-clause-stored c = c.reserve.ensures.stored ∙ c.loop-changes.invariant.stored

pub returns-clause-ready : goal.returns-clause-ready
returns-clause-ready c = subst (λ (l : List Staged). AreReady c.loop-changes.contents l) (take_all c.loop-changes.changes-index c.args.staged.now (omega arith)) c.loop-changes.invariant.ready

pub returns-clause-within : goal.returns-clause-within
returns-clause-within c = λ t. subst (λ (l : List Staged). AllFit c.loop-changes.contents l) (take_all c.loop-changes.changes-index c.args.staged.now (omega arith)) (c.loop-changes.invariant.within t)
