use Rattle.std.proofs.Common.{◌≡◌, ◌≤◌, min, length}
use Rattle.partition_content.proofs.SpotLemmas.{Rest}
use Rattle.partition_content.proofs.spots.short_order.Given as goal

-- what is left of both compares as the whole does
abbrev pub invariant-loop-at : goal.invariant-loop-at
invariant-loop-at l = record {
  end : l.at-end ≡ min (length l.row) (length l.beside);
  within : l.at ≤ l.at-end;
  rest : Rest l.row l.beside l.at;
}
