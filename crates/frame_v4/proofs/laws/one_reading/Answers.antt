use Rattle.frame_v4.proofs.Streams.{one_reading}
use Rattle.frame_v4.proofs.laws.one_reading.Goals as goal

pub returns : goal.returns
returns c = one_reading
