use Rattle.std.proofs.Common.{◌≡◌, ◌+◌, drop}
use Rattle.cql_tokens.specs.Scanning.{run}
use Rattle.cql_tokens.proofs.words.run.Given as goal

-- the bytes so far, and those of the class at the front of the rest
abbrev pub invariant-loop-at : goal.invariant-loop-at
invariant-loop-at l = l.at + run l.class (drop l.at l.bytes) ≡ run l.class l.bytes
