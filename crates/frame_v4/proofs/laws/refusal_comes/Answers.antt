use Rattle.frame_v4.proofs.Streams.{refusal_comes}
use Rattle.frame_v4.proofs.laws.refusal_comes.Goals as goal

pub returns : goal.returns
returns c = refusal_comes
