use Rattle.std.proofs.Common.{◌≡◌, ◌≤◌, filter, length}
use Rattle.std.specs.List.{range_with_len}
use Rattle.cs_base.specs.Leaves.{is_leaf_of}
use Rattle.cs_base.proofs.leaves.LeafSet.len.Given as goal

abbrev pub invariant-loop-leaf : goal.invariant-loop-leaf
invariant-loop-leaf l = (l.count ≤ l.leaf) × (l.count ≡ length (filter (is_leaf_of l.bits) (range_with_len 0 l.leaf)))
