use Rattle.std.proofs.Common.{◌≡◌, ◌+◌, drop}
use Rattle.row_values.specs.Plain.{plain_count}
use Rattle.row_values.proofs.plain.plain_len.Given as goal

-- those so far are plain
abbrev pub invariant-loop-at : goal.invariant-loop-at
invariant-loop-at l = plain_count (drop l.at l.bytes) + l.at ≡ plain_count l.bytes
