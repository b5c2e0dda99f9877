use Rattle.std.proofs.Common.{◌≡◌, ◌++◌, drop}
use Rattle.statement_binder.specs.Plans.{pieces_of, behind_all}
use Rattle.statement_binder.specs.Supplies.{left_for}
use Rattle.statement_binder.proofs.writes.pieces.Given as goal

-- those so far and those of what is left are all
abbrev pub invariant-loop-change : goal.invariant-loop-change
invariant-loop-change l = record {
  values : l.pieces ++ pieces_of l.timestamp (left_for l.supply) (drop l.change-index l.changes) ≡ pieces_of l.timestamp (left_for l.fn.supply) l.changes;
  left : behind_all (left_for l.supply) (drop l.change-index l.changes) ≡ behind_all (left_for l.fn.supply) l.changes;
}
