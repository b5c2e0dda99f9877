use Rattle.std.proofs.Common.{◌≡◌, ◌++◌}
use Rattle.hint_store.specs.Stores.{hints_now}
use Rattle.hint_store.proofs.table.HintTable.hints.Given as goal

-- what is copied so far, and what is to come
abbrev pub invariant-loop-hint : goal.invariant-loop-hint
invariant-loop-hint l = hints_now l.gone.keys l.self.entries ≡ l.hints.items ++ hints_now l.gone.keys l.hint-iterator
