use Rattle.node_lock.proofs.Receipts.{receipts_name}
use Rattle.node_lock.proofs.laws.receipts_name_their_entries.Goals as goal

pub returns : goal.returns
returns g c = receipts_name g.N.Stepper.steps g.N.Stepper.event_of g.N.Stepper.reply_of
