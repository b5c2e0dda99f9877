use Rattle.row_store.proofs.Moving.{unset_more}
use Rattle.row_store.proofs.store.unset_all.Goals as goal

pub loop-partition-preserved : goal.loop-partition-preserved
loop-partition-preserved c =
    unset_more c.args.set.now c.loop-partition.partition-index c.partition-item.result c.args.slots.now.entries c.loop-partition.slots.entries c.unset_in.new.slots.entries
    c.loop-partition-test.true c.partition-item.is c.loop-partition.invariant c.unset_in.ensures
