use Rattle.std.proofs.Common.{take}
use Rattle.cell_merge.specs.Parts.{IsInnermost, IsParted}
use Rattle.cell_merge.proofs.lists.copy_deletions.Given as goal

-- those of the changes so far
abbrev pub invariant-loop-x : goal.invariant-loop-x
invariant-loop-x l = IsParted (λ x. IsInnermost x.place → ⊥) (λ x. IsInnermost x.place) (take l.x-index l.changes) l.copies.items
