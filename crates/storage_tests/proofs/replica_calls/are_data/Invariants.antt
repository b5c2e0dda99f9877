use Rattle.std.proofs.Common.{take}
use Rattle.storage_tests.specs.Entries.{AreData}
use Rattle.storage_tests.proofs.replica_calls.are_data.Given as goal

abbrev pub invariant-loop-item : goal.invariant-loop-item
invariant-loop-item l = AreData (take l.item-index l.item-items)
