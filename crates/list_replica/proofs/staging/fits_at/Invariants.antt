use Rattle.std.proofs.Common.{take}
use Rattle.list_replica.specs.Staging.{IsStagedAt}
use Rattle.list_replica.proofs.staging.fits_at.Given as goal

-- it is not among those so far
abbrev pub invariant-loop-changes : goal.invariant-loop-changes
invariant-loop-changes l = IsStagedAt (take l.changes-index l.staged) l.partition → ⊥
