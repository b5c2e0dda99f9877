use Rattle.std.proofs.Common.{◌↔◌, List, [], take, arith, subst, sym, Contains}
use Rattle.std.proofs.lemmas.List.{take_all}
use Rattle.std.proofs.lemmas.Result.{IfOk-weaker}
use Rattle.changes.specs.declared.Held.{Held}
use Rattle.cs_base.proofs.Members.{front_more}
use Rattle.change_laws.proofs.Contents.{IsContent-same}
use Rattle.row_change.specs.declared.entry.LogItem.{LogItem}
use Rattle.durable_state.specs.Taking.{InOne}
use Rattle.list_replica.specs.Staging.{mutations}
use Rattle.list_replica.proofs.Gathering.{brought_more, none_brought}
use Rattle.list_replica.proofs.staging.gather.Goals as goal

pub loop-item-init : goal.loop-item-init
loop-item-init c = subst (λ (l : List Held). (x : Held) → Contains l x ↔ InOne (mutations []) c.args.partition.now x) (sym c.new-changes.ensures.items) (λ x. none_brought c.args.partition.now x)

pub loop-item-preserved : goal.loop-item-preserved
loop-item-preserved c =
    subst (λ (l : List LogItem). (x : Held) → Contains c.gather_from.new.changes.items x ↔ InOne (mutations l) c.args.partition.now x)
    (sym (front_more c.args.items.now c.loop-item.item-index c.item-item.result (omega arith) c.item-item.is))
    (brought_more (take c.loop-item.item-index c.args.items.now) c.item-item.result c.args.partition.now c.loop-item.changes.items c.gather_from.new.changes.items c.loop-item.invariant c.in_ok-gather_from.ensures)

pub returns : goal.returns
returns c =
    let all = take_all c.loop-item.item-index c.args.items.now (omega arith) in
    IfOk-weaker c.from_changes.result _ _
    (λ content is.
    IsContent-same content (Contains c.loop-item.changes.items) (InOne (mutations c.args.items.now) c.args.partition.now)
    (λ x k. subst (λ (l : List LogItem). InOne (mutations l) c.args.partition.now x) all ((c.loop-item.invariant x).0 k))
    (λ x h. (c.loop-item.invariant x).1 (subst (λ (l : List LogItem). InOne (mutations l) c.args.partition.now x) (sym all) h))
    is)
    c.from_changes.ensures
