use Rattle.list_replica.proofs.Gathering.{all_fit}
use Rattle.list_replica.proofs.staging.first_large.Goals as goal

pub returns-then-within-clause-none : goal.returns-then-within-clause-none
returns-then-within-clause-none c = all_fit c.args.contents.now c.args.items.now c.args.staged.now c.requires.staging (c.requires.within c.if-within.true)
