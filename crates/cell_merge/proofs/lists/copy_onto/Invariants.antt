use Rattle.std.proofs.Common.{◌≡◌, ◌++◌, take}
use Rattle.cell_merge.proofs.lists.copy_onto.Given as goal

-- the changes so far, behind the others
abbrev pub invariant-loop-x : goal.invariant-loop-x
invariant-loop-x l = l.copies.items ≡ l.initial.copies.items ++ take l.x-index l.changes
