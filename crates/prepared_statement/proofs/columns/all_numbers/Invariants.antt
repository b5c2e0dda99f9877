use Rattle.std.proofs.Common.{◌≡◌, map}
use Rattle.std.specs.List.{range_with_len}
use Rattle.prepared_statement.specs.Names.{column_number}
use Rattle.prepared_statement.proofs.columns.all_numbers.Given as goal

abbrev pub invariant-loop-place : goal.invariant-loop-place
invariant-loop-place l = l.numbers ≡ map column_number (range_with_len 0 l.place)
