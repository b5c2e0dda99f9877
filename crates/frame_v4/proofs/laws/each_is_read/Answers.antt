use Rattle.frame_v4.proofs.Totality.{each_is_read}
use Rattle.frame_v4.proofs.laws.each_is_read.Goals as goal

pub returns : goal.returns
returns c = each_is_read
