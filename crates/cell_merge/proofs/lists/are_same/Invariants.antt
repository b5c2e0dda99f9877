use Rattle.std.proofs.Common.{◌≡◌, take}
use Rattle.cell_merge.proofs.lists.are_same.Given as goal

-- the same so far
abbrev pub invariant-loop-i : goal.invariant-loop-i
invariant-loop-i l = take l.i l.xs ≡ take l.i l.ys
