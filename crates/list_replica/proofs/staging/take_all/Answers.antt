use Rattle.std.proofs.Common.{◌≡◌, ◌++◌, ◌∷◌, List, [], sym, subst}
use Rattle.std.specs.Vec.Iter.{into_iter_items, into_iter_len}
use Rattle.list_replica.specs.declared.staging.Staged.{Staged}
use Rattle.list_replica.specs.Staging.{AreOnce, AreReady, AllCome}
use Rattle.list_replica.proofs.Gathering.{none_come, come_more, ready_rest, split_more, split_next, nothing_left, all_taken}
use Rattle.cs_base.proofs.Members.{contains_here}
use Rattle.list_replica.proofs.staging.take_all.Goals as goal

pub loop-changes-init : goal.loop-changes-init
loop-changes-init c =
    let split : into_iter_items c.into_iter-changes-iterator.result ≡ c.args.staged.items = c.into_iter-changes-iterator.ensures.into_iter_gives.0 in
    record {
      split = split;
      come = none_come c.args.at c.args.contents.now;
      ready = subst (λ (l : List Staged). AreReady c.args.contents.now l) (sym split) c.requires.ready;
      ordered = c.requires.ordered;
    }

pub take_staged-requires-clause-ready : goal.take_staged-requires-clause-ready
take_staged-requires-clause-ready c =
    subst (λ (l : List Staged). AreReady c.loop-changes.contents l) c.in-Some.ensures.steps.0 c.loop-changes.invariant.ready c.in-Some.changes (contains_here c.in-Some.changes (into_iter_items c.next.new.self))

pub loop-changes-preserved : goal.loop-changes-preserved
loop-changes-preserved c =
    let s = c.in-Some.changes in
    let rest = into_iter_items c.next.new.self in
    let once : AreOnce (c.loop-changes.yielded ++ s ∷ rest) =
    subst (λ (l : List Staged). AreOnce l) (sym (split_next c.args.staged.items c.loop-changes.yielded (into_iter_items c.loop-changes.changes-iterator) rest s c.loop-changes.invariant.split c.in-Some.ensures.steps.0)) c.requires.once in
    record {
      split = split_more c.args.staged.items c.loop-changes.yielded (into_iter_items c.loop-changes.changes-iterator) rest s c.loop-changes.invariant.split c.in-Some.ensures.steps.0;
      come = come_more c.args.at c.args.contents.now c.loop-changes.contents c.take_staged.new.contents c.loop-changes.yielded s rest once c.loop-changes.invariant.come c.take_staged.ensures.comes c.take_staged.ensures.others;
      ready = ready_rest c.loop-changes.contents c.take_staged.new.contents c.loop-changes.yielded s rest once
          (subst (λ (l : List Staged). AreReady c.loop-changes.contents l) c.in-Some.ensures.steps.0 c.loop-changes.invariant.ready) c.take_staged.ensures.others;
      ordered = c.take_staged.ensures.ordered;
    }

pub returns-clause-comes : goal.returns-clause-comes
returns-clause-comes c =
    let none : into_iter_items c.loop-changes.changes-iterator ≡ [] = nothing_left (into_iter_items c.loop-changes.changes-iterator) (into_iter_len c.loop-changes.changes-iterator) c.loop-changes.changes-iterator.rest.ok.0 c.in-None.ensures.steps.0 in
    subst (λ (l : List Staged). AllCome c.args.at c.args.contents.now c.loop-changes.contents l) (all_taken c.args.staged.items c.loop-changes.yielded (into_iter_items c.loop-changes.changes-iterator) c.loop-changes.invariant.split none) c.loop-changes.invariant.come
