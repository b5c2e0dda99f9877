use Rattle.std.proofs.Common.{◌≡◌, sym, ◌∙◌, subst, ℕ, List, length}
use Rattle.merkle_tree.specs.Digests.{AreLeafDigests}
use Rattle.merkle_tree.specs.Hashing.{Hashing, HasTaken}
use Rattle.merkle_tree.proofs.Feeding.{leaf_digests}
use Rattle.merkle_tree.proofs.builder.Builder.finish.Goals as goal

pub returns : goal.returns
returns c = λ parts taken.
    let hashing : Hashing = record { range = c.self.inside.range; hashers = c.self.inside.hashers.items } in
    let count : length c.self.inside.hashers.items ≡ 256 = sym c.self.inside.hashers.ok.0 ∙ c.self.invariant.0 in
    let long : length c.finalize.result.items ≡ 256 = sym c.finalize.result.ok.0 ∙ c.finalize.ensures.count ∙ c.self.invariant.1 in
    subst (λ (h : Hashing). AreLeafDigests h.range parts c.from_vec.result) c.self.view_is
    (subst (λ (digests : List (List ℕ)). AreLeafDigests c.self.inside.range parts digests) (sym c.from_vec.ensures)
    (leaf_digests hashing parts c.finalize.result.items count long c.finalize.ensures.digests (subst (λ (h : Hashing). HasTaken h parts) (sym c.self.view_is) taken)))
