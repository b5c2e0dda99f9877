use Rattle.std.proofs.Common.{take}
use Rattle.list_replica.proofs.Arriving.{NoneArrives}
use Rattle.list_replica.proofs.on_log.arrival_of.Given as goal

-- none of those so far comes at a time
abbrev pub invariant-loop-item : goal.invariant-loop-item
invariant-loop-item l = NoneArrives (take l.item-index l.item-items)
