use Rattle.std.proofs.Common.{◌≤◌, ◌-◌, length}
use Rattle.cql_tokens.proofs.Steps.{Scans}
use Rattle.cql_tokens.proofs.scanning.scan_bytes.Given as goal

-- the tokens so far, and those of the rest, are those of the text
abbrev pub invariant-loop-at : goal.invariant-loop-at
invariant-loop-at l = record { within : l.at ≤ length l.bytes; rest : Scans l.bytes l.tokens l.at }

abbrev pub decreases-loop-at : goal.decreases-loop-at
decreases-loop-at l = length l.bytes - l.at
