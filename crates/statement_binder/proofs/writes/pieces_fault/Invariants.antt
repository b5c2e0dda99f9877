use Rattle.std.proofs.Common.{◌≡◌, None, fold, take}
use Rattle.statement_binder.specs.Plans.{lower_piece}
use Rattle.statement_binder.proofs.writes.pieces_fault.Given as goal

abbrev pub invariant-loop-piece : goal.invariant-loop-piece
invariant-loop-piece l = l.fault ≡ fold lower_piece None (take l.piece-index l.pieces)
