use Rattle.std.proofs.Common.{◌≡◌, ◌++◌, length}
use Rattle.merged_histories.specs.Merging.{merged, key_of}
use Rattle.merged_histories.proofs.merging.merge.Given as goal

abbrev pub invariant-loop-next : goal.invariant-loop-next
invariant-loop-next l = l.both.items ++ merged key_of l.left.items l.right.items ≡ merged key_of l.fn.left.items l.fn.right.items

abbrev pub decreases-loop-next : goal.decreases-loop-next
decreases-loop-next l = length (merged key_of l.left.items l.right.items)
