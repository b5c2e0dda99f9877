use Rattle.std.proofs.Common.{sym, ◌∙◌, ap, Vec, Global}
use Rattle.std.proofs.lemmas.Bool.{false≢true}
use Rattle.changes.specs.declared.Held.{Held}
use Rattle.cell_merge.specs.Parts.{IsInnermost}
use Rattle.cell_merge.proofs.Parts.{parted_taken, parted_passed}
use Rattle.cell_merge.proofs.lists.copy_deletions.Goals.{then-not-is_innermost+in_ok-copy+in_ok-push, else-not-is_innermost}
use Rattle.cell_merge.proofs.lists.copy_deletions.Goals as goal

pub loop-x-preserved : goal.loop-x-preserved
loop-x-preserved c =
    elim c.if-not-is_innermost.branch [
      | then-not-is_innermost+in_ok-copy+in_ok-push w ↦
          parted_taken (λ (x : Held). IsInnermost x.place → ⊥) (λ (x : Held). IsInnermost x.place) c.args.changes.now c.loop-x.copies.items c.if-not-is_innermost.copies.items c.loop-x.x-index c.x-item.result w.in_ok-copy.field-0 c.loop-x-test.true c.x-item.is
          c.loop-x.invariant (λ m. false≢true (sym w.if-not-is_innermost.true ∙ c.is_innermost.ensures.1 m)) (ap (λ (v : Vec Held Global). v.items) w.copies-is ∙ w.in_ok-push.ensures.items) w.in_ok-copy.ensures
      | else-not-is_innermost w ↦
          parted_passed (λ (x : Held). IsInnermost x.place → ⊥) (λ (x : Held). IsInnermost x.place) c.args.changes.now c.loop-x.copies.items c.if-not-is_innermost.copies.items c.loop-x.x-index c.x-item.result c.loop-x-test.true c.x-item.is c.loop-x.invariant
          (c.is_innermost.ensures.0 w.if-not-is_innermost.false) (ap (λ (v : Vec Held Global). v.items) w.copies-is)
    ]
