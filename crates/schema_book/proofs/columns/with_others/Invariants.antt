use Rattle.std.proofs.Common.{◌≡◌, ◌++◌}
use Rattle.schema_book.proofs.columns.with_others.Given as goal

abbrev pub invariant-loop-def : goal.invariant-loop-def
invariant-loop-def l = l.defs ≡ l.fn.defs ++ l.yielded
