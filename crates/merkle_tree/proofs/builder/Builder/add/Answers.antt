use Rattle.std.proofs.Common.{◌≡◌, sym, ap, ◌∙◌, subst, List, [], ◌∷◌, ◌++◌, w64}
use Rattle.std.proofs.lemmas.Int.{to_z-of_z}
use Rattle.std.proofs.lemmas.List.{with_items_is}
use Rattle.cs_base.specs.declared.range.Range.{Range}
use Rattle.cs_base.specs.Ring.{in_range, leaf_of}
use Rattle.sha2.specs.declared.Sha256.{Sha256}
use Rattle.merkle_tree.specs.Digests.{part}
use Rattle.merkle_tree.specs.Hashing.{Hashing, HasTaken}
use Rattle.merkle_tree.proofs.Feeding.{taken_more}
use Rattle.merkle_tree.proofs.builder.Builder.add.Goals as goal

pub returns-clause-taken : goal.returns-clause-taken
returns-clause-taken c = λ parts taken.
    let m = part c.args.partition.now c.args.content.now in
    let range : c.self.inside.range ≡ c.args.self.now.range = ap (λ (h : Hashing). h.range) c.self.view_is in
    let number = c.leaf_of-leaf.ensures.value ∙ ap (leaf_of c.self.inside.range) (to_z-of_z w64 c.args.partition.now.token c.in_ok-write_part.ensures.in_range.partition.token) in
    subst (λ (hashers : List Sha256). HasTaken (record { range = c.self.inside.range; hashers = hashers }) (parts ++ m ∷ []))
    (sym (with_items_is c.self.inside.hashers c.feed.new.hashers (c.feed.auto.hashers ∙ c.deref_mut.ensures.len)))
    (taken_more c.self.inside.range m parts c.leaf_of-leaf.result c.deref.result.now c.self.inside.hashers.items c.deref_mut.result.now c.feed.new.hashers
    (ap (λ (r : Range). in_range r c.args.partition.now.token) range ∙ c.requires.inside)
    number (c.deref.ensures.value ∙ c.in_ok-write_part.ensures.written) c.deref_mut.ensures.value c.feed.auto.hashers c.feed.ensures
    (subst (λ (h : Hashing). HasTaken h parts) (sym c.self.view_is) taken))
