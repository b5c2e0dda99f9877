use Rattle.row_store.proofs.Moving.{kept_more}
use Rattle.row_store.proofs.store.slots_of.Goals as goal

pub loop-at-preserved : goal.loop-at-preserved
loop-at-preserved c =
    kept_more c.args.rows.items c.loop-at.left.items c.pop.new.self.items c.in-Some.at c.loop-at.slots.entries c.put_kept.new.slots.entries c.loop-at.invariant c.in-Some.ensures.items c.in_ok-put_kept.ensures
