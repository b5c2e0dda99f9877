use Rattle.std.proofs.Common.{ℕ, ◌≤◌, List, [], ◌∷◌, ◌++◌, append-nil, refl, sym, ap, subst, ◌∙◌, Contains}
use Rattle.std.proofs.lemmas.List.{append_assoc}
use Rattle.node_core.specs.declared.due.DueKey.{DueKey}
use Rattle.node_core.specs.Due.{AreDueKeys}
use Rattle.node_core.specs.Hinting.{at}
use Rattle.node_core.proofs.Passing.{among, due_taken, key_moment, key_own, next_due, passed_more, passed_none}
use Rattle.node_core.proofs.deadlines.take_due.Goals as goal

pub returns-then-not-has_due-clause-ok : goal.returns-then-not-has_due-clause-ok
returns-then-not-has_due-clause-ok c =
    due_taken c.args.base.now (at c.args.work.now c.args.hints.now.now) (at c.args.work.now c.args.hints.now.now) [] (c.has_due.ensures.none c.if-not-has_due.true) (passed_none c.args.base.now (at c.args.work.now c.args.hints.now.now) c.requires.holding c.requires.fresh)

pub loop-key-init : goal.loop-key-init
loop-key-init c = record {
  due = subst (λ (keys : List DueKey). AreDueKeys c.args.base.now c.args.hints.now.now c.args.work.now.time keys) (sym c.into_iter-key-iterator.ensures.into_iter_gives.0) c.in_ok-due.ensures;
  passed = passed_none c.args.base.now (at c.args.work.now c.args.hints.now.now) c.requires.holding c.requires.fresh;
  before = refl;
}

pub end_due-requires-clause-due : goal.end_due-requires-clause-due
end_due-requires-clause-due c =
    let split = ap (λ (ks : List DueKey). c.loop-key.yielded ++ ks) c.in-Some.ensures.steps in
    subst (λ (n : ℕ). c.in-Some.key.moment ≤ n) (sym c.loop-key.invariant.passed.time)
    (key_moment c.args.base.now c.args.hints.now.now c.args.work.now.time (c.loop-key.yielded ++ c.loop-key.key-iterator) c.in-Some.key c.loop-key.invariant.due (subst (λ (ks : List DueKey). Contains ks c.in-Some.key) (sym split) (among c.loop-key.yielded c.in-Some.key c.next.new.self)))

pub end_due-requires-clause-key : goal.end_due-requires-clause-key
end_due-requires-clause-key c =
    let split = ap (λ (ks : List DueKey). c.loop-key.yielded ++ ks) c.in-Some.ensures.steps in
    λ own. key_own c.args.base.now c.args.hints.now.now c.args.work.now.time (c.loop-key.yielded ++ c.loop-key.key-iterator) c.in-Some.key c.loop-key.invariant.due (subst (λ (ks : List DueKey). Contains ks c.in-Some.key) (sym split) (among c.loop-key.yielded c.in-Some.key c.next.new.self)) own

pub end_due-requires-clause-next : goal.end_due-requires-clause-next
end_due-requires-clause-next c =
    let split = ap (λ (ks : List DueKey). c.loop-key.yielded ++ ks) c.in-Some.ensures.steps in
    next_due c.args.base.now c.args.hints.now.now c.args.work.now.time (c.loop-key.yielded ++ c.loop-key.key-iterator) c.loop-key.yielded c.next.new.self c.in-Some.key (at c.args.work.now c.args.hints.now.now) (at c.loop-key.work c.loop-key.hints.now) c.loop-key.invariant.due split c.loop-key.invariant.passed

pub loop-key-preserved : goal.loop-key-preserved
loop-key-preserved c =
    let split = ap (λ (ks : List DueKey). c.loop-key.yielded ++ ks) c.in-Some.ensures.steps in
    record {
      due = subst (λ (ks : List DueKey). AreDueKeys c.args.base.now c.args.hints.now.now c.args.work.now.time ks) (split ∙ sym (append_assoc c.loop-key.yielded (c.in-Some.key ∷ []) c.next.new.self)) c.loop-key.invariant.due;
      passed = passed_more c.args.base.now (at c.args.work.now c.args.hints.now.now) (at c.loop-key.work c.loop-key.hints.now) (at c.end_due.new.self c.end_due.new.hints.now) c.loop-key.yielded c.in-Some.key c.loop-key.invariant.passed c.in_ok-end_due.ensures.ok;
      before = c.end_due.ensures.before ∙ c.loop-key.invariant.before;
    }

pub returns-clause-ok : goal.returns-clause-ok
returns-clause-ok c =
    due_taken c.args.base.now (at c.args.work.now c.args.hints.now.now) (at c.loop-key.work c.loop-key.hints.now) c.loop-key.yielded
    (subst (λ (ks : List DueKey). AreDueKeys c.args.base.now c.args.hints.now.now c.args.work.now.time ks) (ap (λ (ks : List DueKey). c.loop-key.yielded ++ ks) c.in-None.ensures.steps.0 ∙ append-nil c.loop-key.yielded) c.loop-key.invariant.due) c.loop-key.invariant.passed
