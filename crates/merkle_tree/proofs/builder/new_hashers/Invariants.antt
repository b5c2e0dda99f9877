use Rattle.std.proofs.Common.{◌≡◌, [], vec_len}
use Rattle.std.specs.Prelude.{All}
use Rattle.sha2.specs.Hashers.{Holds256}
use Rattle.merkle_tree.proofs.builder.new_hashers.Given as goal

abbrev pub invariant-loop : goal.invariant-loop
invariant-loop l = (vec_len l.hashers ≡ l.counter) × All (λ hasher. Holds256 hasher []) l.hashers.items
