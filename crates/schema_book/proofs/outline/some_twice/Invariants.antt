use Rattle.std.proofs.Common.{◌≡◌, drop}
use Rattle.schema_book.specs.Outlines.{some_twice}
use Rattle.schema_book.proofs.outline.some_twice.Given as goal

-- what is left to look at
abbrev pub invariant-loop-key : goal.invariant-loop-key
invariant-loop-key l = some_twice l.keys ≡ some_twice (drop l.key-index l.keys)
