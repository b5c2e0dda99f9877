use Rattle.std.proofs.Common.{◌↔◌, ◌⊎◌, take, Contains}
use Rattle.node_core.specs.declared.due.DueKey.{DueKey}
use Rattle.node_core.specs.Due.{IsExpiryKey}
use Rattle.node_core.proofs.due.add_expired.Given as goal

abbrev pub invariant-loop-hint : goal.invariant-loop-hint
invariant-loop-hint l = (k : DueKey) → Contains l.due.keys k ↔ (Contains l.fn.due.keys k ⊎ IsExpiryKey l.me l.expiry (take l.hint-index l.expired) k)
