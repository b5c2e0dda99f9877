use Rattle.std.proofs.Common.{◌≡◌, drop}
use Rattle.key_restrictions.specs.Places.{open_place, open_from}
use Rattle.key_restrictions.proofs.places.open_place.Given as goal

-- what is left to look at
abbrev pub invariant-loop-place : goal.invariant-loop-place
invariant-loop-place g l = open_place l.columns l.restrictions ≡ open_from l.restrictions l.place (drop l.place l.columns)
