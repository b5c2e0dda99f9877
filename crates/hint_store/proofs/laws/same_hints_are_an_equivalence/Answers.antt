use Rattle.hint_store.proofs.Same.{same_refl, same_sym, same_trans}
use Rattle.hint_store.proofs.laws.same_hints_are_an_equivalence.Goals as goal

pub returns : goal.returns
returns c = record { reflexive = same_refl; symmetric = same_sym; transitive = same_trans }
