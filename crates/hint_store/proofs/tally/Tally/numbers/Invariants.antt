use Rattle.std.proofs.Common.{◌≡◌, ◌++◌, drop}
use Rattle.hint_store.specs.Tallies.{numbers_from}
use Rattle.hint_store.proofs.tally.Tally.numbers.Given as goal

-- what is told so far, and what is to come
abbrev pub invariant-loop-peer : goal.invariant-loop-peer
invariant-loop-peer l = numbers_from 0 l.self.last ≡ l.numbers.items ++ numbers_from l.peer (drop l.peer l.self.last)
