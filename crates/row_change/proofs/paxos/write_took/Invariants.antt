use Rattle.std.proofs.Common.{◌≡◌, ◌++◌, take}
use Rattle.std.specs.List.{AllByRecursion}
use Rattle.row_change.specs.Spelling.{numbers, IsWide}
use Rattle.row_change.proofs.paxos.write_took.Given as goal

abbrev pub invariant-loop-ballot : goal.invariant-loop-ballot
invariant-loop-ballot l =
    (l.out.items ≡ l.initial.out.items ++ numbers (take l.ballot-index l.took)) × AllByRecursion IsWide (take l.ballot-index l.took)
