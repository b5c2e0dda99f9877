use Rattle.frame_v4.proofs.Streams.{refusal_stands}
use Rattle.frame_v4.proofs.laws.refusal_stands.Goals as goal

pub returns : goal.returns
returns c = refusal_stands
