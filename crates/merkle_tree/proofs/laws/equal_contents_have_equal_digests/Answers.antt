use Rattle.merkle_tree.proofs.Hashed.{empty_leaves, equal_digests, order_kept}
use Rattle.merkle_tree.proofs.laws.equal_contents_have_equal_digests.Goals as goal

pub returns : goal.returns
returns c = record { equal = equal_digests; empty = empty_leaves; order = order_kept }
