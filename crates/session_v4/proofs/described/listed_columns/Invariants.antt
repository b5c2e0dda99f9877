use Rattle.std.proofs.Common.{◌≡◌, take}
use Rattle.session_v4.specs.Described.{columns_at}
use Rattle.session_v4.proofs.described.listed_columns.Given as goal

abbrev pub invariant-loop-number : goal.invariant-loop-number
invariant-loop-number l = l.columns ≡ columns_at l.defs (take l.number-index l.numbers)
