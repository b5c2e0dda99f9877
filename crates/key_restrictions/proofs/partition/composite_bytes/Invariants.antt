use Rattle.std.proofs.Common.{◌≡◌, ◌++◌, drop, flat_map}
use Rattle.key_restrictions.specs.Rows.{parts_from, key_parts, framed}
use Rattle.key_restrictions.proofs.partition.composite_bytes.Given as goal

-- the bytes so far and those of what is left to look at are all
abbrev pub invariant-loop-place : goal.invariant-loop-place
invariant-loop-place l =
    l.key.items ++ flat_map framed (parts_from l.restrictions l.place (drop l.place l.columns)) ≡ flat_map framed (key_parts l.columns l.restrictions)
