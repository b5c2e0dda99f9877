use Rattle.token_ring.proofs.Repeats.{padded}
use Rattle.token_ring.proofs.ring.Ring.of_tokens.Goals as goal

pub invariant_of-result : goal.invariant_of-result
invariant_of-result c = rw c.copy_from_slice.ensures.after (padded c.args.tokens.now c.requires)
