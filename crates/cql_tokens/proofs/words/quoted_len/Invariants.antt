use Rattle.std.proofs.Common.{◌≡◌, ℕ, ◌+◌, drop, false}
use Rattle.std.specs.Prelude.{option_map}
use Rattle.cql_tokens.specs.Scanning.{quoted_len}
use Rattle.cql_tokens.proofs.words.quoted_len.Given as goal

-- the bytes so far, and how far the rest goes on
abbrev pub invariant-loop-at : goal.invariant-loop-at
invariant-loop-at l =
    option_map (λ (len : ℕ). l.at + len) (quoted_len l.quote l.after_quote (drop l.at l.bytes)) ≡ quoted_len l.quote false l.bytes
