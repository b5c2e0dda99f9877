use Rattle.lawful_orders.proofs.Before.{sent_before, stays_lawful}
use Rattle.lawful_orders.proofs.lawful_is_sent_before.Goals as goal

pub returns-clause-just : goal.returns-clause-just
returns-clause-just c = sent_before

pub returns-clause-more : goal.returns-clause-more
returns-clause-more c = stays_lawful
