use Rattle.std.proofs.Common.{◌≡◌, None, fold, take}
use Rattle.prepared_statement.specs.Prepared.{lower_change}
use Rattle.prepared_statement.proofs.prepared.changes_refusal.Given as goal

abbrev pub invariant-loop-change : goal.invariant-loop-change
invariant-loop-change l = l.fault ≡ fold lower_change None (take l.change-index l.changes)
