use Rattle.std.proofs.Common.{◌≡◌, ◌∷◌, take}
use Rattle.cql_values.specs.Literals.{doubled, quote}
use Rattle.cql_values.proofs.print.quoted.Given as goal

abbrev pub invariant-loop-byte : goal.invariant-loop-byte
invariant-loop-byte l = l.text.items ≡ quote ∷ doubled (take l.byte-index l.byte-items)
