use Rattle.frame_v4.proofs.Streams.{first_frame}
use Rattle.frame_v4.proofs.laws.first_frame.Goals as goal

pub returns : goal.returns
returns c = first_frame
