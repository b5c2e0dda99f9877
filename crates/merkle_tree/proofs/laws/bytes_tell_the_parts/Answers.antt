use Rattle.merkle_tree.proofs.Hashed.{parts_told}
use Rattle.merkle_tree.proofs.laws.bytes_tell_the_parts.Goals as goal

pub returns : goal.returns
returns c = parts_told
