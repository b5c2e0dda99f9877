use Rattle.std.proofs.Common.{rules, arith, ◌≡◌, ℕ, ◌<◌, ◌≤◌, ◌+◌, inl, inr, sym, ap, ◌∙◌, subst, List, ℤ, pos, Some, FitsSigned, w64, to_z, of_z, get_or, length}
use Rattle.std.specs.Prelude.{slice_get}
use Rattle.std.proofs.lemmas.Bool.{cases_lt}
use Rattle.std.proofs.lemmas.Int.{to_z-of_z}
use Rattle.std.proofs.lemmas.Option.{slice_get-get_or, slice_get_within, get_or_from_slice_get}
use Rattle.cs_base.specs.Ring.{place_of, IsRing}
use Rattle.token_ring.proofs.Rings.{node_there}
use Rattle.token_ring.proofs.ring.node_at.Goals as goal

-- the place that the code computes, at the values themselves
place_is : (tokens : List ℤ) (token own : ℤ) (n : ℕ) → FitsSigned w64 token → FitsSigned w64 own → n ≡ place_of tokens (to_z w64 (of_z w64 token)) (to_z w64 (of_z w64 own)) → n ≡ place_of tokens token own
place_is tokens token own n f g e = e ∙ ap (λ (t : ℤ). place_of tokens t (to_z w64 (of_z w64 own))) (to_z-of_z w64 token f) ∙ ap (place_of tokens token) (to_z-of_z w64 own g)

-- no node up to this one is at the place
more : (tokens : List ℤ) (token : ℤ) (place i n : ℕ) → i < length tokens → n ≡ place_of tokens token (get_or tokens i (pos 0)) → (n ≡ place → ⊥)
    → ((k : ℕ) (t : ℤ) → k < i → slice_get tokens k ≡ Some t → place_of tokens token t ≡ place → ⊥)
    → (k : ℕ) (t : ℤ) → k < i + 1 → slice_get tokens k ≡ Some t → place_of tokens token t ≡ place → ⊥
more tokens token place i n within is other before k t low at e =
    elim (cases_lt k i) [
      | inl below ↦ before k t below at e
      | inr here ↦
          let same : k ≡ i = omega arith in
          let own : get_or tokens i (pos 0) ≡ t = ap (λ (m : ℕ). get_or tokens m (pos 0)) (sym same) ∙ get_or_from_slice_get tokens k t (pos 0) at in
          other (is ∙ ap (place_of tokens token) own ∙ e)
    ]

-- but some node is
none : (tokens : List ℤ) (token token' : ℤ) (place i : ℕ) → IsRing tokens → FitsSigned w64 token → place < length tokens → length tokens ≤ i → token' ≡ token
    → ((k : ℕ) (t : ℤ) → k < i → slice_get tokens k ≡ Some t → place_of tokens token' t ≡ place → ⊥) → ⊥
none tokens token token' place i r f low all same before =
    let found = node_there tokens token place r f low in
    let within = slice_get_within tokens found.0 found.1.own found.1.there in
    before found.0 found.1.own (omega arith) found.1.there (ap (λ (t : ℤ). place_of tokens t found.1.own) same ∙ found.1.before)

pub returns-then-place_of_token-place : goal.returns-then-place_of_token-place
returns-then-place_of_token-place c =
    let token : FitsSigned w64 c.args.token = search rules in
    let own : FitsSigned w64 (get_or c.args.tokens.now c.loop-node.node (pos 0)) = search rules in
    let node : c.unwrap.result ≡ c.loop-node.node = rw c.unwrap.ensures at c.new.ensures.value in
    record {
      own = get_or c.args.tokens.now c.loop-node.node (pos 0);
      there = ap (slice_get c.args.tokens.now) node ∙ slice_get-get_or c.args.tokens.now c.loop-node.node (pos 0) c.loop-node-test.true;
      before = sym (place_is c.args.tokens.now c.args.token (get_or c.args.tokens.now c.loop-node.node (pos 0)) c.place_of_token.result token own c.place_of_token.ensures) ∙ c.if-place_of_token-place.true;
    }

pub loop-node-preserved : goal.loop-node-preserved
loop-node-preserved c =
    let token : FitsSigned w64 c.args.token = search rules in
    let own : FitsSigned w64 (get_or c.args.tokens.now c.loop-node.node (pos 0)) = search rules in
    let is = place_is c.args.tokens.now c.args.token (get_or c.args.tokens.now c.loop-node.node (pos 0)) c.place_of_token.result token own c.place_of_token.ensures in
    let same = to_z-of_z w64 c.args.token token in
    subst (λ (s : ℤ). (k : ℕ) (t : ℤ) → k < c.loop-node.node + 1 → slice_get c.args.tokens.now k ≡ Some t → place_of c.args.tokens.now s t ≡ c.args.place → ⊥) (sym same)
    (more c.args.tokens.now c.args.token c.args.place c.loop-node.node c.place_of_token.result c.loop-node-test.true is c.if-place_of_token-place.false
    (subst (λ (s : ℤ). (k : ℕ) (t : ℤ) → k < c.loop-node.node → slice_get c.args.tokens.now k ≡ Some t → place_of c.args.tokens.now s t ≡ c.args.place → ⊥) same c.loop-node.invariant))

pub unreachable-requires : goal.unreachable-requires
unreachable-requires c =
    let token : FitsSigned w64 c.args.token = search rules in
    none c.args.tokens.now c.args.token (to_z w64 (of_z w64 c.args.token)) c.args.place c.loop-node.node c.requires.ring token c.requires.place c.loop-node-test.false (to_z-of_z w64 c.args.token token) c.loop-node.invariant
