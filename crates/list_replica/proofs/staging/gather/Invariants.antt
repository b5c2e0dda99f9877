use Rattle.std.proofs.Common.{◌↔◌, take, Contains}
use Rattle.changes.specs.declared.Held.{Held}
use Rattle.durable_state.specs.Taking.{InOne}
use Rattle.list_replica.specs.Staging.{mutations}
use Rattle.list_replica.proofs.staging.gather.Given as goal

-- those that the items so far bring
abbrev pub invariant-loop-item : goal.invariant-loop-item
invariant-loop-item l = (x : Held) → Contains l.changes.items x ↔ InOne (mutations (take l.item-index l.items)) l.partition x
