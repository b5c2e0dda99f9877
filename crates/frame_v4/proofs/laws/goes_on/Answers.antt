use Rattle.frame_v4.proofs.Streams.{goes_on}
use Rattle.frame_v4.proofs.laws.goes_on.Goals as goal

pub returns : goal.returns
returns c = goes_on
