use Rattle.std.proofs.Common.{◌≡◌, ◌++◌}
use Rattle.statement_binder.specs.Plans.{drafts_of}
use Rattle.statement_binder.proofs.writes.add_drafts.Given as goal

abbrev pub invariant-loop-piece : goal.invariant-loop-piece
invariant-loop-piece l = l.drafts.items ≡ l.fn.drafts.items ++ drafts_of l.yielded
