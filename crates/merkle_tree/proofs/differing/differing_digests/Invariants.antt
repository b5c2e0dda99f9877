use Rattle.std.proofs.Common.{◌≡◌}
use Rattle.merkle_tree.specs.Digests.{differ_at}
use Rattle.merkle_tree.proofs.Differences.{passing_below}
use Rattle.merkle_tree.proofs.differing.differing_digests.Given as goal

abbrev pub invariant-loop-leaf : goal.invariant-loop-leaf
invariant-loop-leaf l = l.differing ≡ passing_below (differ_at l.a l.b) l.leaf
