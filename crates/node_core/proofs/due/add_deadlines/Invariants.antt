use Rattle.std.proofs.Common.{◌↔◌, ◌⊎◌, take, Contains}
use Rattle.node_core.specs.declared.due.DueKey.{DueKey}
use Rattle.node_core.specs.Due.{IsDeadlineKey}
use Rattle.node_core.proofs.due.add_deadlines.Given as goal

abbrev pub invariant-loop-id : goal.invariant-loop-id
invariant-loop-id l = (k : DueKey) → Contains l.due.keys k ↔ (Contains l.fn.due.keys k ⊎ IsDeadlineKey (take l.id-index l.ids) k)
