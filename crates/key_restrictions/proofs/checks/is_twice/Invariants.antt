use Rattle.std.proofs.Common.{◌≡◌, drop}
use Rattle.key_restrictions.specs.Checks.{is_twice, is_twice_from}
use Rattle.key_restrictions.proofs.checks.is_twice.Given as goal

-- what is left to look at
abbrev pub invariant-loop-place : goal.invariant-loop-place
invariant-loop-place g l = is_twice l.columns l.restrictions ≡ is_twice_from l.restrictions l.place (drop l.place l.columns)
