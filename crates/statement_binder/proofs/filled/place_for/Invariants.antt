use Rattle.std.proofs.Common.{◌≡◌, drop}
use Rattle.statement_binder.specs.Filled.{place_from, place_for}
use Rattle.statement_binder.proofs.filled.place_for.Given as goal

-- what is left to look at
abbrev pub invariant-loop-place : goal.invariant-loop-place
invariant-loop-place l = place_for l.cells l.column ≡ place_from l.column l.place (drop l.place l.cells)
