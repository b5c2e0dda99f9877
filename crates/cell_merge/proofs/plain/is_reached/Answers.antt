use Rattle.std.proofs.Common.{sym, ◌∙◌, refl, subst, inl, inr, Contains}
use Rattle.std.proofs.lemmas.Bool.{false≢true}
use Rattle.changes.specs.declared.Held.{Held}
use Rattle.changes.specs.Contents.{IsReachedBy}
use Rattle.cs_base.proofs.Members.{contains_at}
use Rattle.cell_merge.proofs.Decided.{none_more, none_of_all}
use Rattle.cell_merge.proofs.plain.is_reached.Goals.{then-is_same-via-then-is_same, then-is_same-via-else-is_same+then-outranks}
use Rattle.cell_merge.proofs.plain.is_reached.Goals as goal

pub returns-then-is_same : goal.returns-then-is_same
returns-then-is_same c =
    let at : Contains c.args.by.now c.y-item.result = contains_at c.args.by.now c.loop-y.y-index c.y-item.result c.loop-y-test.true c.y-item.is in
    let reached : IsReachedBy c.args.by.now c.args.x.now = elim c.then-is_same.branch [
      | then-is_same-via-then-is_same w ↦ inl (subst (λ (z : Held). Contains c.args.by.now z) (c.is_same.ensures.0 w.if-is_same.true) at)
      | then-is_same-via-else-is_same+then-outranks w ↦ inr (c.y-item.result, at, w.outranks.ensures.0 w.if-outranks.true)
    ] in
    (λ t. reached, λ r. refl)

pub loop-y-preserved : goal.loop-y-preserved
loop-y-preserved c =
    none_more c.args.by.now c.args.x.now c.y-item.result c.loop-y.y-index c.loop-y-test.true c.y-item.is c.loop-y.invariant (λ e. false≢true (sym c.if-is_same.false ∙ c.is_same.ensures.1 e))
    (λ over. false≢true (sym c.if-outranks.false ∙ c.outranks.ensures.1 over))

pub returns : goal.returns
returns c = (λ t. absurd (false≢true t), λ r. absurd (none_of_all c.args.by.now c.args.x.now c.loop-y.y-index c.loop-y-test.false c.loop-y.invariant r))
