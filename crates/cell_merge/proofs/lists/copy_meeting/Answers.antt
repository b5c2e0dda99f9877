use Rattle.std.proofs.Common.{sym, ◌∙◌, ap, Vec, Global}
use Rattle.std.proofs.lemmas.Bool.{false≢true}
use Rattle.changes.specs.declared.Held.{Held}
use Rattle.changes.specs.Queries.{MeetsBounds}
use Rattle.cell_merge.proofs.Parts.{parted_taken, parted_passed}
use Rattle.cell_merge.proofs.lists.copy_meeting.Goals.{then-meets+in_ok-copy+in_ok-push, else-meets}
use Rattle.cell_merge.proofs.lists.copy_meeting.Goals as goal

pub loop-x-preserved : goal.loop-x-preserved
loop-x-preserved c =
    elim c.if-meets.branch [
      | then-meets+in_ok-copy+in_ok-push w ↦
          parted_taken (λ (x : Held). MeetsBounds c.args.from.now c.args.upto.now x.place) (λ (x : Held). MeetsBounds c.args.from.now c.args.upto.now x.place → ⊥) c.args.changes.now c.loop-x.copies.items c.if-meets.copies.items c.loop-x.x-index c.x-item.result
          w.in_ok-copy.field-0 c.loop-x-test.true c.x-item.is c.loop-x.invariant (c.meets.ensures.0 w.if-meets.true) (ap (λ (v : Vec Held Global). v.items) w.copies-is ∙ w.in_ok-push.ensures.items) w.in_ok-copy.ensures
      | else-meets w ↦
          parted_passed (λ (x : Held). MeetsBounds c.args.from.now c.args.upto.now x.place) (λ (x : Held). MeetsBounds c.args.from.now c.args.upto.now x.place → ⊥) c.args.changes.now c.loop-x.copies.items c.if-meets.copies.items c.loop-x.x-index c.x-item.result
          c.loop-x-test.true c.x-item.is c.loop-x.invariant (λ m. false≢true (sym w.if-meets.false ∙ c.meets.ensures.1 m)) (ap (λ (v : Vec Held Global). v.items) w.copies-is)
    ]
