-- How lengths add up.
use Rattle.std.proofs.Common.{◌++◌, arith}
use Rattle.std.proofs.lemmas.List.Sums.{sum_by-append}
use Rattle.changes.specs.Laws.{LengthsAddUp, PartsAreNoLonger}
use Rattle.changes.specs.Lengths.{held_length}

pub lengths_add_up : LengthsAddUp
lengths_add_up a b = omega (arith, sum_by-append held_length a b)

pub parts_are_no_longer : PartsAreNoLonger
parts_are_no_longer a b c = omega (arith, sum_by-append held_length a c, sum_by-append held_length (a ++ b) c, sum_by-append held_length a b)
