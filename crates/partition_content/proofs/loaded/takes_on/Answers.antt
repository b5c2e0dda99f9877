use Rattle.partition_content.proofs.RunLemmas.{stored_none}
use Rattle.partition_content.proofs.loaded.takes_on.Goals as goal

pub returns-clause-alone : goal.returns-clause-alone
returns-clause-alone c t = stored_none c.args.content.now.stored (c.is_empty.ensures.0 c.if-not-is_empty.false)
