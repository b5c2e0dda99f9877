use Rattle.std.proofs.Common.{List, subst, sym}
use Rattle.std.specs.Prelude.{take}
use Rattle.std.proofs.lemmas.List.{take_all}
use Rattle.cs_base.proofs.Members.{front_more}
use Rattle.changes.specs.declared.Held.{Held}
use Rattle.row_change.specs.declared.entry.LogItem.{LogItem}
use Rattle.node_core.specs.Moving.{AreBehind}
use Rattle.node_core.proofs.Reading.{behind_none, behind_more}
use Rattle.node_core.proofs.hearing.behind_all.Goals as goal

pub loop-item-init : goal.loop-item-init
loop-item-init c = behind_none c.args.query.now c.args.part

pub loop-item-preserved : goal.loop-item-preserved
loop-item-preserved c =
    subst (λ (xs : List LogItem). AreBehind xs c.args.query.now c.args.part c.in_ok-all.all) (sym (front_more c.args.items.now c.loop-item.item-index c.item-item.result c.loop-item-test.true c.item-item.is))
    (behind_more (take c.loop-item.item-index c.args.items.now) c.item-item.result c.args.query.now c.args.part c.loop-item.all c.in_ok-all.all c.loop-item.invariant c.in_ok-all.ensures)

pub returns-clause-ok : goal.returns-clause-ok
returns-clause-ok c =
    subst (λ (xs : List LogItem). AreBehind xs c.args.query.now c.args.part c.in_order.result) (take_all c.loop-item.item-index c.args.items.now c.loop-item-test.false)
    (subst (λ (part : List Held). AreBehind (take c.loop-item.item-index c.args.items.now) c.args.query.now c.args.part part) (sym c.in_order.ensures.same) c.loop-item.invariant)
