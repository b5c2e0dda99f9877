use Rattle.std.proofs.Common.{take, Contains}
use Rattle.changes.specs.declared.Held.{Held}
use Rattle.changes.specs.Order.{Outranks}
use Rattle.cell_merge.proofs.ranking.is_outranked_by.Given as goal

-- none of those so far outranks it
abbrev pub invariant-loop-y : goal.invariant-loop-y
invariant-loop-y l = (z : Held) → Contains (take l.y-index l.changes) z → Outranks z l.x → ⊥
