use Rattle.row_store.proofs.Moving.{added_same}
use Rattle.row_store.proofs.store.add_slot.Goals as goal

pub returns-clause-same : goal.returns-clause-same
returns-clause-same c = added_same c.args.partition c.args.slots.now.entries c.insert.new.self.entries c.empty.result c.empty.ensures c.requires (c.in_ok-insert.ensures.updates.0)
