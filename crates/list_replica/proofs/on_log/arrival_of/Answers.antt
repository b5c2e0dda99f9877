use Rattle.std.proofs.Common.{List, arith, ◌∙◌, subst}
use Rattle.std.proofs.lemmas.List.{take_all}
use Rattle.row_change.specs.declared.entry.LogItem.{LogItem}
use Rattle.list_replica.proofs.Arriving.{NoneArrives, none_at}
use Rattle.list_replica.proofs.on_log.arrival_of.Goals as goal

pub returns : goal.returns
returns c =
    λ once. none_at c.args.entry.now.items c.new.result
    (subst (λ (l : List LogItem). NoneArrives l) (take_all c.loop-item.item-index c.as_slice-item-items.result.now (omega arith) ∙ c.as_slice-item-items.ensures) c.loop-item.invariant)
