use Rattle.std.proofs.Common.{◌≡◌, ◌++◌, map, take}
use Rattle.prepared_statement.specs.Slots.{test_slot}
use Rattle.prepared_statement.proofs.slots.push_tests.Given as goal

abbrev pub invariant-loop-test : goal.invariant-loop-test
invariant-loop-test l = l.slots ≡ l.fn.slots ++ map (test_slot l.columns) (take l.test-index l.tests)
