use Rattle.std.proofs.Common.{◌≡◌, ◌++◌, drop}
use Rattle.key_restrictions.specs.Rows.{prefix_from, prefix_bytes}
use Rattle.key_restrictions.proofs.bounds.prefix_bytes.Given as goal

-- the bytes so far and those of what is left to look at are all
abbrev pub invariant-loop-place : goal.invariant-loop-place
invariant-loop-place l = l.prefix ++ prefix_from l.restrictions l.place (drop l.place l.columns) ≡ prefix_bytes l.columns l.restrictions
