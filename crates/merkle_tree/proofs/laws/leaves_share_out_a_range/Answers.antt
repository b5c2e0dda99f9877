use Rattle.merkle_tree.proofs.Places.{shared_out, rises}
use Rattle.merkle_tree.proofs.laws.leaves_share_out_a_range.Goals as goal

pub returns : goal.returns
returns c = record { each = shared_out; rise = rises }
