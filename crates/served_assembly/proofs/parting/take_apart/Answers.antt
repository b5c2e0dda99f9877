use Rattle.std.proofs.Common.{length, sym, ap, subst, ◌∙◌, arith}
use Rattle.std.specs.List.{AllByRecursion}
use Rattle.std.specs.Vec.Iter.{into_iter_items}
use Rattle.item_groups.proofs.ZipLaws.{end2, step2}
use Rattle.served_assembly.specs.Parting.{HasLinksFirst, IsApart}
use Rattle.served_assembly.proofs.Endings.{none_left}
use Rattle.served_assembly.proofs.parting.take_apart.Goals as goal

pub loop-one-preserved : goal.loop-one-preserved
loop-one-preserved g c =
    let was = c.loop-one.invariant in
    let next = c.in-Some.ensures.steps.0 in
    let pushed = c.push_reserved.ensures in
    let apart = IsApart g.R.Replica.is_whole g.R.Replica.durable g.R.Replica.log_end g.R.Replica.since_flush (λ r. g.R.Disk.Store.faults (g.R.Replica.disk r)) g.R.Disk.Store.is_honest in
    record {
      makes = step2 apart c.args.left.items (into_iter_items c.loop-one.one-iterator) (into_iter_items c.next.new.self) c.loop-one.aparts.items c.push_reserved.new.self.items c.in-Some.one c.in_ok-take_apart_one.field-0
          was.makes next pushed.items c.in_ok-take_apart_one.ensures;
      led = (subst (λ xs. AllByRecursion HasLinksFirst xs) next was.led).1;
      room = (let long = ap length next in let len = pushed.len in let capacity = pushed.capacity in let room = was.room in omega arith);
    }

pub returns : goal.returns
returns g c =
    let rest = into_iter_items c.loop-one.one-iterator in
    let apart = IsApart g.R.Replica.is_whole g.R.Replica.durable g.R.Replica.log_end g.R.Replica.since_flush (λ r. g.R.Disk.Store.faults (g.R.Replica.disk r)) g.R.Disk.Store.is_honest in
    end2 apart c.args.left.items rest c.loop-one.aparts.items c.loop-one.invariant.makes (none_left rest (sym c.loop-one.one-iterator.rest.ok.0 ∙ c.in-None.ensures.steps.0))
