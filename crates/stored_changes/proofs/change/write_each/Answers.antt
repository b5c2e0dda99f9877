use Rattle.std.proofs.Common.{◌+◌, arith, take, subst, sym}
use Rattle.std.specs.List.{AllByRecursion}
use Rattle.cs_base.proofs.Members.{front_more}
use Rattle.stored_fields.proofs.Lists.{all_push}
use Rattle.stored_changes.specs.Spelling.{change, ChangeInRange}
use Rattle.stored_changes.proofs.Written.{written_more}
use Rattle.stored_changes.proofs.change.write_each.Goals as goal

pub loop-change-preserved : goal.loop-change-preserved
loop-change-preserved c =
    let more = front_more c.args.changes.now c.loop-change.change-index c.change-item.result (omega arith) c.change-item.is in
    let front = take c.loop-change.change-index c.args.changes.now in (
      written_more change front (take (c.loop-change.change-index + 1) c.args.changes.now) c.change-item.result c.args.out.now.items c.loop-change.out.items c.write_change.new.out.items more c.loop-change.invariant.0 c.in_ok-write_change.ensures.written,
      subst (AllByRecursion ChangeInRange) (sym more) (all_push ChangeInRange front c.change-item.result c.loop-change.invariant.1 c.in_ok-write_change.ensures.in_range),
    )
