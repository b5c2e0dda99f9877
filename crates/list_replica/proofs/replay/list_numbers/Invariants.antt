use Rattle.std.proofs.Common.{◌≡◌, ◌++◌, map}
use Rattle.list_replica.specs.Rows.{number_entry}
use Rattle.list_replica.proofs.replay.list_numbers.Given as goal

-- the numbers so far, and those to come
abbrev pub invariant-loop-peer : goal.invariant-loop-peer
invariant-loop-peer l = l.list.items ++ map number_entry l.peer-iterator ≡ map number_entry l.fn.numbers.entries
