use Rattle.std.proofs.Common.{◌+◌, arith, take, subst, sym}
use Rattle.std.specs.List.{AllByRecursion}
use Rattle.cs_base.proofs.Members.{front_more}
use Rattle.stored_fields.proofs.Lists.{all_push}
use Rattle.row_change.specs.Spelling.{item, ItemInRange}
use Rattle.row_change.proofs.Written.{written_more}
use Rattle.row_change.proofs.item.write_items.Goals as goal

pub loop-item-preserved : goal.loop-item-preserved
loop-item-preserved c =
    let more = front_more c.args.items.now c.loop-item.item-index c.item-item.result (omega arith) c.item-item.is in
    let front = take c.loop-item.item-index c.args.items.now in (
      written_more item front (take (c.loop-item.item-index + 1) c.args.items.now) c.item-item.result c.args.out.now.items c.loop-item.out.items c.write_item.new.out.items more c.loop-item.invariant.0 c.in_ok-write_item.ensures.written,
      subst (AllByRecursion ItemInRange) (sym more) (all_push ItemInRange front c.item-item.result c.loop-item.invariant.1 c.in_ok-write_item.ensures.in_range),
    )
