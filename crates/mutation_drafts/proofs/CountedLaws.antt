-- No request makes more of drafts than is counted for them.
use Rattle.std.proofs.Common.{◌≡◌, ◌≢◌, ◌≤◌, ◌+◌, ◌<◌, ◌⊎◌, ℕ, inl, inr, List, [], ◌∷◌, Bool, true, false, max, map, nat_lt, length, get_or, drop, refl, sym, ◌∙◌, ap, subst, arith}
use Rattle.std.specs.List.{sum_by}
use Rattle.std.specs.Ordering.{eq_by_cmp}
use Rattle.std.specs.declared.cmp.Ordering.{Ordering}
use Rattle.std.specs.declared.cmp.Ordering.TheVariants.{Less, Equal, Greater}
use Rattle.std.proofs.lemmas.Bool.{cond_both, cond-true, cond-false, le-ltb, ltb-false}
use Rattle.std.proofs.lemmas.List.{at_drop_more}
use Rattle.std.proofs.lemmas.List.Sums.{sum_by-cons}
use Rattle.cs_base.specs.declared.ids.ReqId.{ReqId}
use Rattle.changes.specs.declared.Draft.{Draft}
use Rattle.changes.specs.declared.DraftMutation.{DraftMutation}
use Rattle.changes.specs.declared.Held.{Held}
use Rattle.changes.specs.declared.Place.{Place}
use Rattle.changes.specs.Drafts.{better, better_by, held_of, mutation_of, one_of_each_place, placed, placed_by}
use Rattle.changes.specs.Lengths.{held_length, mutation_length}
use Rattle.changes.specs.Order.{rank_cmp}
use Rattle.changes.specs.Places.{place_cmp, stored_cmp}
use Rattle.changes.proofs.Best.{better_either}
use Rattle.changes.proofs.Orderings.{cases_ordering, equal_is, greater_back}
use Rattle.changes.proofs.Places.{place_exact, place_tied}
use Rattle.changes.proofs.Ranks.{rank_total}
use Rattle.mutation_drafts.specs.Counted.{all_length, counted, counted_after, counted_length, draft_length, is_long_mutation, most_mutation_bytes, FitsAlways}

abbrev total : List Held → ℕ
total changes = sum_by held_length changes

-- ---- the better of two

better_stays : (x y : Held) → rank_cmp x y ≢ Less → better x y ≡ x
better_stays x y h =
    elim (cases_ordering (rank_cmp x y)) [
      | inl less ↦ absurd (h less)
      | inr (inl equal) ↦ ap (λ (o : Ordering). better_by o x y) equal
      | inr (inr greater) ↦ ap (λ (o : Ordering). better_by o x y) greater
    ]

better_yields : (x y : Held) → rank_cmp x y ≡ Less → better x y ≡ y
better_yields x y h = ap (λ (o : Ordering). better_by o x y) h

less_or_not : (o : Ordering) → (o ≡ Less) ⊎ (o ≢ Less)
less_or_not Less = inl refl
less_or_not Equal = inr (λ e. cc)
less_or_not Greater = inr (λ e. cc)

not_less_trans : (x y z : Held) → rank_cmp x y ≢ Less → rank_cmp y z ≢ Less → rank_cmp x z ≢ Less
not_less_trans x y z p q less =
    elim (cases_ordering (rank_cmp x y)) [
      | inl lower ↦ p lower
      | inr (inl equal) ↦ q (sym (rank_total.congr x y z equal) ∙ less)
      | inr (inr greater) ↦ q (rank_total.trans y x z (greater_back rank_total x y greater) less)
    ]

-- with x in front of the better of y and z it is as with one of x and y in front of z
better_twice : (x y z : Held) → (w : Held) × ((w ≡ x) ⊎ (w ≡ y)) × (better x (better y z) ≡ better w z)
better_twice x y z =
    elim (less_or_not (rank_cmp y z)) [
      | inl less ↦ (x, inl refl, ap (better x) (better_yields y z less))
      | inr stays ↦ elim (less_or_not (rank_cmp x y)) [
        | inl less ↦ (y, inr refl, ap (better x) (better_stays y z stays) ∙ better_yields x y less ∙ sym (better_stays y z stays))
        | inr above ↦ (x, inl refl, ap (better x) (better_stays y z stays) ∙ better_stays x y above ∙ sym (better_stays x z (not_less_trans x y z above stays)))
      ]
    ]

-- ---- changes placed in order

better_length : (x y : Held) → held_length (better x y) ≤ held_length x + held_length y
better_length x y =
    elim (better_either x y) [
      | inl is_x ↦ let e = ap held_length is_x in omega (arith, e)
      | inr is_y ↦ let e = ap held_length is_y in omega (arith, e)
    ]

by_length : (o : Ordering) (x y : Held) (rest behind : List Held) → total behind ≤ held_length x + total rest → total (placed_by o x y rest behind) ≤ held_length x + total (y ∷ rest)
by_length Less x y rest behind deeper = omega (arith, sum_by-cons held_length x (y ∷ rest))
by_length Equal x y rest behind deeper = omega (arith, better_length x y, sum_by-cons held_length (better x y) rest, sum_by-cons held_length y rest)
by_length Greater x y rest behind deeper = omega (arith, deeper, sum_by-cons held_length y behind, sum_by-cons held_length y rest)

placed_length : (x : Held) (ys : List Held) → total (placed x ys) ≤ held_length x + total ys
placed_length x [] = omega arith
placed_length x (y ∷ rest) = by_length (stored_cmp x y) x y rest (placed x rest) (placed_length x rest)

abbrev PlacedAs : Held → ℕ → List Held → List Held → Type 0
PlacedAs y most zs result = (w : Held) × (w.place ≡ y.place) × (held_length w ≤ most) × (result ≡ placed w zs)

at_place : (w x y z : Held) → w.place ≡ y.place → (o : Ordering) → stored_cmp y z ≡ o → stored_cmp w z ≡ o
at_place w x y z same o e = subst (λ (p : Place). place_cmp p z.place ≡ o) (sym same) e

placed_where : (w z : Held) (rest : List Held) (o : Ordering) → stored_cmp w z ≡ o → placed w (z ∷ rest) ≡ placed_by o w z rest (placed w rest)
placed_where w z rest o e = ap (λ (v : Ordering). placed_by v w z rest (placed w rest)) e

chosen : (x y : Held) (most : ℕ) (w : Held) → x.place ≡ y.place → held_length x ≤ most → held_length y ≤ most → (w ≡ x) ⊎ (w ≡ y) → (w.place ≡ y.place) × (held_length w ≤ most)
chosen x y most w same low lower (inl is) = (ap (λ (v : Held). v.place) is ∙ same, let e = ap held_length is in omega (arith, e, low))
chosen x y most w same low lower (inr is) = (ap (λ (v : Held). v.place) is, let e = ap held_length is in omega (arith, e, lower))

-- two changes of one place, placed one after the other, stand as one of them
placed_twice : (x y : Held) (most : ℕ) → x.place ≡ y.place → held_length x ≤ most → held_length y ≤ most → (zs : List Held) → PlacedAs y most zs (placed x (placed y zs))
placed_twice x y most same low lower [] =
    let w = better x y in
    let parts = chosen x y most w same low lower (better_either x y) in
    (w, parts.0, parts.1, placed_where x y [] Equal (place_tied x.place y.place same))
placed_twice x y most same low lower (z ∷ rest) =
    elim (cases_ordering (stored_cmp y z)) [
      | inl less ↦
          let w = better x y in
          let parts = chosen x y most w same low lower (better_either x y) in (
            w,
            parts.0,
            parts.1,
            ap (placed x) (placed_where y z rest Less less)
                ∙ placed_where x y (z ∷ rest) Equal (place_tied x.place y.place same)
                ∙ sym (placed_where w z rest Less (at_place w x y z parts.0 Less less)),
          )
      | inr (inl equal) ↦
          let found = better_twice x y z in
          let parts = chosen x y most found.0 same low lower found.1 in
          let there : x.place ≡ (better y z).place = elim (better_either y z) [
            | inl is_y ↦ same ∙ ap (λ (v : Held). v.place) (sym is_y)
            | inr is_z ↦ same ∙ place_exact y.place z.place equal ∙ ap (λ (v : Held). v.place) (sym is_z)
          ] in (
            found.0,
            parts.0,
            parts.1,
            ap (placed x) (placed_where y z rest Equal equal)
                ∙ placed_where x (better y z) rest Equal (place_tied x.place (better y z).place there)
                ∙ ap (λ (v : Held). v ∷ rest) found.2
                ∙ sym (placed_where found.0 z rest Equal (at_place found.0 x y z parts.0 Equal equal)),
          )
      | inr (inr greater) ↦
          let found = placed_twice x y most same low lower rest in (
            found.0,
            found.1,
            found.2,
            ap (placed x) (placed_where y z rest Greater greater)
                ∙ placed_where x z (placed y rest) Greater (at_place x x y z same Greater greater)
                ∙ ap (λ (l : List Held). z ∷ l) found.3
                ∙ sym (placed_where found.0 z rest Greater (at_place found.0 x y z found.1 Greater greater)),
          )
    ]

-- ---- what is counted

counts_after : (request : ReqId) (rest : List Draft) (w : Held) (most : ℕ) (p : Place) → w.place ≡ p → held_length w ≤ most
    → total (placed w (one_of_each_place (map (held_of request) rest))) ≤ counted_after most p rest
counts_after request [] w most p same low = omega (arith, low)
counts_after request (d ∷ rest) w most p same low =
    let h = held_of request d in
    let others = one_of_each_place (map (held_of request) rest) in
    cond_both (eq_by_cmp place_cmp p d.place) (counted_after (max most (draft_length d)) p rest) (most + counted_after (draft_length d) d.place rest)
    (λ (n : ℕ). total (placed w (placed h others)) ≤ n)
    (λ t.
    let beside : p ≡ d.place = place_exact p d.place (equal_is (place_cmp p d.place) t) in
    let found = placed_twice w h (max most (draft_length d)) (same ∙ beside) (omega (arith, low)) (omega arith) others in
    subst (λ (l : List Held). total l ≤ counted_after (max most (draft_length d)) p rest) (sym found.3)
    (counts_after request rest found.0 (max most (draft_length d)) p (found.1 ∙ sym beside) found.2))
    (λ t.
    let deeper = counts_after request rest h (draft_length d) d.place refl (omega arith) in
    omega (arith, deeper, low, placed_length w (placed h others)))

counts : (request : ReqId) (drafts : List Draft) → total (one_of_each_place (map (held_of request) drafts)) ≤ counted drafts
counts request [] = omega arith
counts request (d ∷ rest) = counts_after request rest (held_of request d) (draft_length d) d.place refl (omega arith)

-- no request makes a longer mutation than is counted
pub counts_enough : (m : DraftMutation) (request : ReqId) → mutation_length (mutation_of request m) ≤ counted_length m
counts_enough m request = omega (arith, counts request m.changes)

pub fits_always : (m : DraftMutation) → counted_length m ≤ most_mutation_bytes → FitsAlways m
fits_always m most request = omega (arith, most, counts_enough m request)

-- ---- all drafts together

counted_after_all : (most : ℕ) (p : Place) (ds : List Draft) → counted_after most p ds ≤ most + sum_by draft_length ds
counted_after_all most p [] = omega arith
counted_after_all most p (d ∷ rest) =
    cond_both (eq_by_cmp place_cmp p d.place) (counted_after (max most (draft_length d)) p rest) (most + counted_after (draft_length d) d.place rest)
    (λ (n : ℕ). n ≤ most + sum_by draft_length (d ∷ rest))
    (λ t. omega (arith, counted_after_all (max most (draft_length d)) p rest, sum_by-cons draft_length d rest))
    (λ t. omega (arith, counted_after_all (draft_length d) d.place rest, sum_by-cons draft_length d rest))

counted_all : (ds : List Draft) → counted ds ≤ sum_by draft_length ds
counted_all [] = omega arith
counted_all (d ∷ rest) = omega (arith, counted_after_all (draft_length d) d.place rest, sum_by-cons draft_length d rest)

-- what is not long with all drafts is not long
pub few_are_not_long : (m : DraftMutation) → nat_lt most_mutation_bytes (all_length m) ≡ false → is_long_mutation m ≡ false
few_are_not_long m few =
    let all = ltb-false most_mutation_bytes (all_length m) few in
    le-ltb most_mutation_bytes (counted_length m) (omega (arith, all, counted_all m.changes))

-- ---- as they are counted

-- one draft more of the place
pub one_beside : (done most : ℕ) (p : Place) (ds : List Draft) (i : ℕ) (d : Draft) (all : ℕ) → i < length ds → d ≡ get_or ds i d → eq_by_cmp place_cmp p d.place ≡ true
    → done + counted_after most p (drop i ds) ≡ all → done + counted_after (max most (draft_length d)) p (drop (i + 1) ds) ≡ all
one_beside done most p ds i d all low is same so_far =
    let next : counted_after most p (drop i ds) ≡ counted_after most p (d ∷ drop (i + 1) ds) =
    at_drop_more (counted_after most p) ds i d low ∙ ap (λ (x : Draft). counted_after most p (x ∷ drop (i + 1) ds)) (sym is) in
    let counts : counted_after most p (d ∷ drop (i + 1) ds) ≡ counted_after (max most (draft_length d)) p (drop (i + 1) ds) = cond-true (eq_by_cmp place_cmp p d.place) _ _ same in
    ap (λ (n : ℕ). done + n) (sym (next ∙ counts)) ∙ so_far

-- one of another place
pub one_elsewhere : (done most : ℕ) (p : Place) (ds : List Draft) (i : ℕ) (d : Draft) (all : ℕ) → i < length ds → d ≡ get_or ds i d → eq_by_cmp place_cmp p d.place ≡ false
    → done + counted_after most p (drop i ds) ≡ all → (done + most) + counted_after (draft_length d) d.place (drop (i + 1) ds) ≡ all
one_elsewhere done most p ds i d all low is other so_far =
    let next : counted_after most p (drop i ds) ≡ counted_after most p (d ∷ drop (i + 1) ds) =
    at_drop_more (counted_after most p) ds i d low ∙ ap (λ (x : Draft). counted_after most p (x ∷ drop (i + 1) ds)) (sym is) in
    let counts : counted_after most p (d ∷ drop (i + 1) ds) ≡ most + counted_after (draft_length d) d.place (drop (i + 1) ds) = cond-false (eq_by_cmp place_cmp p d.place) _ _ other in
    omega (arith, next, counts, so_far)
