use Rattle.std.proofs.Common.{take}
use Rattle.changes.specs.Contents.{IsReachedBy}
use Rattle.cell_merge.proofs.plain.is_reached.Given as goal

-- none so far does
abbrev pub invariant-loop-y : goal.invariant-loop-y
invariant-loop-y l = IsReachedBy (take l.y-index l.by) l.x → ⊥
