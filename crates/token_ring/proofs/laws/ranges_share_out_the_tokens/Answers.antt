use Rattle.token_ring.proofs.Ranges.{ranges_share_out}
use Rattle.token_ring.proofs.laws.ranges_share_out_the_tokens.Goals as goal

pub returns : goal.returns
returns c = ranges_share_out
