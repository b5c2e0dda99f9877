use Rattle.std.proofs.Common.{◌≡◌, ◌++◌, ◌∙◌, ap, sym, subst, map, List}
use Rattle.std.proofs.lemmas.Result.{on_ok_weaker}
use Rattle.changes.specs.declared.Held.{Held}
use Rattle.changes.specs.Contents.{IsMergeOf}
use Rattle.changes.specs.Places.{AreInOrder}
use Rattle.partition_content.specs.declared.Arrived.{Arrived}
use Rattle.partition_content.specs.Arrivals.{held_of, ComeAt}
use Rattle.partition_content.specs.Partition.{Partition, AreBare, changes_in}
use Rattle.partition_content.proofs.RunLemmas.{loaded_none, pushed_loaded, pushed_merge, pushed_come}
use Rattle.partition_content.proofs.loaded.LoadedContent.add.Goals as goal

pub invariant_of-self : goal.invariant_of-self
invariant_of-self c =
    let same : c.as_slice.result.now ≡ c.into_changes.result.items = c.as_slice.ensures.value ∙ sym c.into_changes.ensures.value in
    let ordered : AreInOrder (map held_of c.self.inside.run.items ++ c.into_changes.result.items) =
    subst (λ (l : List Arrived). AreInOrder (map held_of l ++ c.into_changes.result.items)) c.deref.ensures.value (subst (λ (l : List Held). AreInOrder (map held_of c.deref.result.now ++ l)) same (c.takes_on.ensures.ordered c.if-takes_on.true)) in
    pushed_loaded c.push_all.result c.self.inside.run.items c.push_all.new.run.items c.into_changes.result.items c.args.at c.self.inside.content c.self.invariant ordered (subst AreBare same (c.takes_on.ensures.bare c.if-takes_on.true)) (c.takes_on.ensures.alone c.if-takes_on.true)
    c.push_all.ensures.pushed c.push_all.ensures.kept

pub returns-then-takes_on-clause-content : goal.returns-then-takes_on-clause-content
returns-then-takes_on-clause-content c =
    let same : c.as_slice.result.now ≡ c.into_changes.result.items = c.as_slice.ensures.value ∙ sym c.into_changes.ensures.value in
    let ordered : AreInOrder (map held_of c.self.inside.run.items ++ c.into_changes.result.items) =
    subst (λ (l : List Arrived). AreInOrder (map held_of l ++ c.into_changes.result.items)) c.deref.ensures.value (subst (λ (l : List Held). AreInOrder (map held_of c.deref.result.now ++ l)) same (c.takes_on.ensures.ordered c.if-takes_on.true)) in
    on_ok_weaker c.push_all.result
    (λ pushed.
    subst (λ (p : Partition). IsMergeOf (map held_of (c.push_all.new.run.items ++ c.self.inside.content.stored)) (changes_in p) c.args.incoming) c.self.view_is
    (subst (λ (l : List Held). IsMergeOf (map held_of (c.push_all.new.run.items ++ c.self.inside.content.stored)) (map held_of (c.self.inside.run.items ++ c.self.inside.content.stored)) l) c.into_changes.ensures.value
    (pushed_merge c.self.inside.run.items c.push_all.new.run.items c.self.inside.content.stored c.into_changes.result.items c.args.at ordered c.self.invariant.bare (subst AreBare same (c.takes_on.ensures.bare c.if-takes_on.true)) (c.takes_on.ensures.alone c.if-takes_on.true) pushed)))
    c.push_all.ensures.pushed

pub returns-then-takes_on-clause-arrivals : goal.returns-then-takes_on-clause-arrivals
returns-then-takes_on-clause-arrivals c =
    let same : c.as_slice.result.now ≡ c.into_changes.result.items = c.as_slice.ensures.value ∙ sym c.into_changes.ensures.value in
    let ordered : AreInOrder (map held_of c.self.inside.run.items ++ c.into_changes.result.items) =
    subst (λ (l : List Arrived). AreInOrder (map held_of l ++ c.into_changes.result.items)) c.deref.ensures.value (subst (λ (l : List Held). AreInOrder (map held_of c.deref.result.now ++ l)) same (c.takes_on.ensures.ordered c.if-takes_on.true)) in
    on_ok_weaker c.push_all.result
    (λ pushed.
    subst (λ (p : Partition). ComeAt c.args.at p.stored (c.push_all.new.run.items ++ c.self.inside.content.stored)) c.self.view_is
    (pushed_come c.self.inside.run.items c.push_all.new.run.items c.self.inside.content.stored c.into_changes.result.items c.args.at ordered (c.takes_on.ensures.alone c.if-takes_on.true) pushed))
    c.push_all.ensures.pushed

pub invariant_of-self-in_err-settle : goal.invariant_of-self-in_err-settle
invariant_of-self-in_err-settle c = loaded_none c.settle.new.run.items c.settle.new.content c.settle.ensures.none

pub invariant_of-self-2 : goal.invariant_of-self-2
invariant_of-self-2 c = loaded_none c.settle.new.run.items c.take_in.new.content c.settle.ensures.none

pub returns-clause-arrivals : goal.returns-clause-arrivals
returns-clause-arrivals c =
    on_ok_weaker c.take_in.result
    (λ come.
    subst (λ (l : List Arrived). ComeAt c.args.at l (c.settle.new.run.items ++ c.take_in.new.content.stored)) (c.in_ok-settle.ensures.stored ∙ ap (λ (p : Partition). p.stored) c.self.view_is)
    (subst (λ (l : List Arrived). ComeAt c.args.at c.settle.new.content.stored (l ++ c.take_in.new.content.stored)) (sym c.settle.ensures.none) come))
    c.take_in.ensures.arrivals
