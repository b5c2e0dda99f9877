-- Replicas that hold the same in a leaf tell the same digest of it.
use Rattle.std.proofs.Common.{◌≡◌, ◌≢◌, ℕ, Bool, true, false, Some, List, [], ◌∷◌, refl, sym, ap, ap₂, subst, ◌∙◌, Contains}
use Rattle.std.specs.Prelude.{◌==◌, ◌&&◌}
use Rattle.std.proofs.lemmas.Bool.{and_parts, or_left, eqb-true, eq-eqb}
use Rattle.cs_base.proofs.Members.{contains_here}
use Rattle.cs_base.specs.declared.range.Range.{Range}
use Rattle.cs_base.specs.Quorums.{is_in}
use Rattle.cs_base.specs.Ring.{in_range, leaf_of}
use Rattle.changes.proofs.Places.{stored_total}
use Rattle.changes.proofs.Sorted.{sorted_one}
use Rattle.changes.specs.declared.Change.{Change}
use Rattle.changes.specs.declared.Held.{Held}
use Rattle.changes.specs.declared.Mutation.{Mutation}
use Rattle.changes.specs.declared.Partition.{Partition}
use Rattle.merkle_tree.proofs.Hashed.{equal_digests}
use Rattle.merkle_tree.specs.Digests.{is_in_leaf}
use Rattle.peer_messages.specs.declared.setting.Setting.{Setting}
use Rattle.repair_moves.specs.Laws.{held_in, AreHeldAlike, HeldAlikeToldAlike}
use Rattle.repair_moves.specs.Replicas.{ArePartsOf, is_of_range, is_of_leaves}

some_of : {X : Type 0} (xs : List X) → xs ≢ [] → (x : X) × Contains xs x
some_of [] h = absurd (h refl)
some_of (x ∷ xs) h = (x, contains_here x xs)

and_is : (a b : Bool) → a ≡ true → b ≡ true → (a && b) ≡ true
and_is a b e f = rw (e, f) refl

-- a part of the range that is in the leaf is of that leaf
of_leaf : (c : Setting) (range : Range) (leaf : ℕ) (m : Mutation) → is_of_range c range m.partition ≡ true → is_in_leaf range leaf m ≡ true → is_of_leaves c range (leaf ∷ []) m.partition ≡ true
of_leaf c range leaf m passes inside =
    let parts = and_parts (in_range range m.partition.token) (leaf_of range m.partition.token == leaf) inside in
    let here : (leaf == leaf_of range m.partition.token) ≡ true = eq-eqb leaf (leaf_of range m.partition.token) (sym (eqb-true (leaf_of range m.partition.token) leaf parts.1)) in
    and_is (is_of_range c range m.partition) (is_in (leaf ∷ []) (leaf_of range m.partition.token)) passes (or_left (leaf == leaf_of range m.partition.token) false here)

same_mutation : (m n : Mutation) → m.partition ≡ n.partition → m.changes ≡ n.changes → m ≡ n
same_mutation m n e f = ap₂ (λ (p : Partition) (xs : List Held). record { partition = p; changes = xs }) e f

-- the other one tells it too
told_there : (c : Setting) (range : Range) (leaf : ℕ) (a b : List Change) (mine others : List Mutation) → AreHeldAlike c range leaf a b
    → ArePartsOf (held_in a) (is_of_range c range) mine → ArePartsOf (held_in b) (is_of_range c range) others
    → (m : Mutation) → is_in_leaf range leaf m ≡ true → Contains mine m → Contains others m
told_there c range leaf a b mine others alike p q m inside at =
    let of : is_of_leaves c range (leaf ∷ []) m.partition ≡ true = of_leaf c range leaf m (p.inside m at) inside in
    let one : (x : Held) × Contains m.changes x = some_of m.changes (p.some m at) in
    let there : (n : Mutation) × Contains others n × (n.partition ≡ m.partition) =
    q.all m.partition one.0 ((alike (record { partition = m.partition; held = one.0 }) of).0 ((p.each m at one.0).0 one.1)) (p.inside m at) in
    let to : (x : Held) → Contains m.changes x → Contains there.0.changes x =
    λ x h. (q.each there.0 there.1 x).1 (subst (λ (r : Partition). held_in b r x) (sym there.2) ((alike (record { partition = m.partition; held = x }) of).0 ((p.each m at x).0 h))) in
    let back : (x : Held) → Contains there.0.changes x → Contains m.changes x =
    λ x h. (p.each m at x).1 ((alike (record { partition = m.partition; held = x }) of).1 (subst (λ (r : Partition). held_in b r x) there.2 ((q.each there.0 there.1 x).0 h))) in
    let same : there.0.changes ≡ m.changes = sorted_one stored_total there.0.changes m.changes (q.in_order there.0 there.1) (p.in_order m at) back to in
    subst (λ (n : Mutation). Contains others n) (same_mutation there.0 m there.2 same) there.1

swapped : (c : Setting) (range : Range) (leaf : ℕ) (a b : List Change) → AreHeldAlike c range leaf a b → AreHeldAlike c range leaf b a
swapped c range leaf a b alike x of = ((alike x of).1, (alike x of).0)

pub told_alike : HeldAlikeToldAlike
told_alike c range leaf a b mine others low alike p q =
    p.digests.each leaf low
    ∙ ap (λ (d : List ℕ). Some d) (equal_digests range leaf p.parts q.parts p.held.by_partition q.held.by_partition (λ m inside. (
      told_there c range leaf a b p.parts q.parts alike p.held q.held m inside,
      told_there c range leaf b a q.parts p.parts (swapped c range leaf a b alike) q.held p.held m inside,
    )))
    ∙ sym (q.digests.each leaf low)
