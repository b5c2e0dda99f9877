use Rattle.std.proofs.Common.{◌≡◌, drop}
use Rattle.cql_tokens.specs.Scanning.{front_fits}
use Rattle.cql_tokens.proofs.words.front_fits.Given as goal

-- the bytes so far fit
abbrev pub invariant-loop-at : goal.invariant-loop-at
invariant-loop-at l = front_fits (drop l.at l.shape) (drop l.at l.bytes) ≡ front_fits l.shape l.bytes
