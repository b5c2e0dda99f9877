use Rattle.std.proofs.Common.{◌<◌, ◌∷◌, ◌++◌, List, [], length, take, arith, sym, subst, Vec, Global}
use Rattle.std.proofs.lemmas.List.{take_all}
use Rattle.cs_base.proofs.Members.{front_more, contains_at}
use Rattle.row_change.specs.declared.entry.LogItem.{LogItem}
use Rattle.list_replica.specs.declared.staging.Staged.{Staged}
use Rattle.list_replica.specs.Staging.{Stages}
use Rattle.list_replica.proofs.Gathering.{stages_none, stages_still, stages_more}
use Rattle.list_replica.proofs.staging.stage.Goals.{in-Some+in_ok-stage_at, in_default}
use Rattle.list_replica.proofs.staging.stage.Goals as goal

pub loop-item-init : goal.loop-item-init
loop-item-init c = subst (λ (l : List Staged). Stages c.args.items.now [] l) (sym c.new-staged.ensures.items) (stages_none c.args.items.now)

pub loop-item-preserved : goal.loop-item-preserved
loop-item-preserved c =
    let i = c.loop-item.item-index in
    let below : c.loop-item.item-index < length c.args.items.now = omega arith in
    subst (λ (l : List LogItem). Stages c.args.items.now l c.match-mutation_of.staged.items) (sym (front_more c.args.items.now i c.item-item.result below c.item-item.is))
    (elim c.match-mutation_of.branch [
      | in-Some+in_ok-stage_at w ↦
          subst (λ (v : Vec Staged Global). Stages c.args.items.now (take i c.args.items.now ++ c.item-item.result ∷ []) v.items) (sym w.staged-is)
          (stages_more c.args.items.now (take i c.args.items.now) c.item-item.result w.in-Some.mutation.now c.loop-item.staged.items w.stage_at.new.staged.items c.loop-item.invariant
          (contains_at c.args.items.now i c.item-item.result below c.item-item.is) (sym w.in-Some.ensures) w.in_ok-stage_at.ensures)
      | in_default w ↦
          subst (λ (v : Vec Staged Global). Stages c.args.items.now (take i c.args.items.now ++ c.item-item.result ∷ []) v.items) (sym w.staged-is)
          (stages_still c.args.items.now (take i c.args.items.now) c.item-item.result c.loop-item.staged.items c.loop-item.invariant (sym w.in_default.ensures))
    ])

pub returns : goal.returns
returns c = subst (λ (l : List LogItem). Stages c.args.items.now l c.loop-item.staged.items) (take_all c.loop-item.item-index c.args.items.now (omega arith)) c.loop-item.invariant
