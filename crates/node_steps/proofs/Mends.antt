-- The test by which replies are told apart tells contents apart.
use Rattle.std.proofs.Common.{◌≡◌, ◌↔◌, IsTrue, List, [], ◌∷◌, refl, sym, ap, ◌∙◌}
use Rattle.std.specs.Cmp.Lexicographic.{slice_cmp}
use Rattle.std.specs.Ordering.{is_eq}
use Rattle.std.specs.declared.cmp.Ordering.TheVariants.{Equal}
use Rattle.std.proofs.lemmas.Cmp.{tied_itself}
use Rattle.changes.specs.declared.Held.{Held}
use Rattle.changes.specs.Order.{rank_cmp}
use Rattle.changes.specs.Places.{stored_cmp}
use Rattle.changes.proofs.Orderings.{equal_is, then_equal, then_on, lists_exact}
use Rattle.changes.proofs.Places.{place_exact, place_tied}
use Rattle.changes.proofs.Ranks.{rank_exact, rank_total}
use Rattle.node_steps.specs.Reads.{held_cmp, is_same}

held_exact : (x y : Held) → held_cmp x y ≡ Equal → x ≡ y
held_exact x y e =
    let parts = then_equal (stored_cmp x y) (rank_cmp x y) e in
    rank_exact x y (place_exact x.place y.place parts.0) parts.1

held_tied : (x : Held) → held_cmp x x ≡ Equal
held_tied x = then_on (stored_cmp x x) (rank_cmp x x) (place_tied x.place x.place refl) ∙ tied_itself rank_total x

tied_list : (xs : List Held) → slice_cmp held_cmp xs xs ≡ Equal
tied_list [] = refl
tied_list (x ∷ xs) = then_on (held_cmp x x) (slice_cmp held_cmp xs xs) (held_tied x) ∙ tied_list xs

pub is_same_exact : (a b : List Held) → IsTrue (is_same a b) ↔ (a ≡ b)
is_same_exact a b = (λ t. lists_exact held_cmp held_exact a b (equal_is (slice_cmp held_cmp a b) t), λ e. ap (λ (xs : List Held). is_eq (slice_cmp held_cmp a xs)) (sym e) ∙ ap is_eq (tied_list a))
