use Rattle.std.proofs.Common.{◌≡◌, ◌++◌, List, ℕ, drop, false}
use Rattle.std.specs.Prelude.{option_map}
use Rattle.cql_values.specs.Literals.{content_of}
use Rattle.cql_values.proofs.literal.unquoted.Given as goal

-- what was found so far, and then what stands before the closing quote in the rest, is what stands there in all
abbrev pub invariant-loop-byte : goal.invariant-loop-byte
invariant-loop-byte l =
    option_map (λ (rest : List ℕ). l.content.items ++ rest) (content_of l.after_quote (drop l.byte-index l.body)) ≡ content_of false l.body
