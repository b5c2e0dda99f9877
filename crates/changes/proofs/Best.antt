-- One change of each place: the best of each, in order, and no other list has them.
use Rattle.std.proofs.Common.{◌≡◌, ◌⊎◌, inl, inr, List, [], ◌∷◌, Bool, true, false, refl, sym, ◌∙◌, ap, subst, Contains}
use Rattle.std.specs.Cmp.{IsTotalOrder}
use Rattle.std.specs.List.{dedup}
use Rattle.std.specs.List.Sorted.{IsPermutation, IsSorted, IsStrictlySortedBy}
use Rattle.std.specs.Ordering.{is_eq, is_lt, ordering_then}
use Rattle.std.specs.declared.cmp.Ordering.{Ordering}
use Rattle.std.specs.declared.cmp.Ordering.TheVariants.{Less, Equal, Greater}
use Rattle.std.proofs.lemmas.Bool.{true≢false}
use Rattle.std.proofs.lemmas.Cmp.{then_total, back_total, eq_by_cmp_equiv, tied_itself}
use Rattle.std.proofs.lemmas.List.Kept.{Contains-from_dedup, IsStrictlySortedBy-dedup}
use Rattle.std.proofs.lemmas.List.Sorted.{Contains-permutation, IsPermutation-sym, ranks_by}
use Rattle.cs_base.proofs.Members.{contains_nil, contains_here, contains_there, contains_cases, contains_one}
use Rattle.changes.specs.declared.Held.{Held}
use Rattle.changes.specs.Order.{rank_cmp, Beats}
use Rattle.changes.specs.Places.{stored_cmp, AreInOrder}
use Rattle.changes.specs.Drafts.{better, better_by, placed, placed_by, one_of_each_place}
use Rattle.changes.specs.Laws.{IsKeptOrBeaten, AreBestInOrder, BestAreOfEachPlace, BestAreDetermined}
use Rattle.changes.specs.Tests.{storing_cmp}
use Rattle.changes.proofs.Orderings.{cases_ordering, equal_is, less_back, greater_back}
use Rattle.changes.proofs.Places.{stored_total, place_exact, place_tied}
use Rattle.changes.proofs.Ranks.{rank_total, rank_exact, Beats_trans}
use Rattle.changes.proofs.Sorted.{all_at, all_from, one_at, sorted_one, kept_for}

-- ---- the better of two of one place

pub better_either : (x y : Held) → (better x y ≡ x) ⊎ (better x y ≡ y)
better_either x y =
    elim (cases_ordering (rank_cmp x y)) [
      | inl less ↦ inr (ap (λ (o : Ordering). better_by o x y) less)
      | inr (inl equal) ↦ inl (ap (λ (o : Ordering). better_by o x y) equal)
      | inr (inr greater) ↦ inl (ap (λ (o : Ordering). better_by o x y) greater)
    ]

better_first : (x y : Held) → x.place ≡ y.place → (better x y ≡ x) ⊎ Beats (better x y) x
better_first x y same =
    elim (cases_ordering (rank_cmp x y)) [
      | inl less ↦
          let is : better x y ≡ y = ap (λ (o : Ordering). better_by o x y) less in
          inr (subst (λ (v : Held). Beats v x) (sym is) (sym same, less_back rank_total x y less))
      | inr (inl equal) ↦ inl (ap (λ (o : Ordering). better_by o x y) equal)
      | inr (inr greater) ↦ inl (ap (λ (o : Ordering). better_by o x y) greater)
    ]

better_second : (x y : Held) → x.place ≡ y.place → (better x y ≡ y) ⊎ Beats (better x y) y
better_second x y same =
    elim (cases_ordering (rank_cmp x y)) [
      | inl less ↦ inl (ap (λ (o : Ordering). better_by o x y) less)
      | inr (inl equal) ↦ inl (ap (λ (o : Ordering). better_by o x y) equal ∙ rank_exact x y same equal)
      | inr (inr greater) ↦
          let is : better x y ≡ x = ap (λ (o : Ordering). better_by o x y) greater in
          inr (subst (λ (v : Held). Beats v y) (sym is) (same, greater))
    ]

kept_at : (z : Held) (rest : List Held) (y : Held) → (z ≡ y) ⊎ Beats z y → IsKeptOrBeaten (z ∷ rest) y
kept_at z rest y (inl e) = inl (subst (λ (v : Held). Contains (z ∷ rest) v) e (contains_here z rest))
kept_at z rest y (inr beats) = inr (z, contains_here z rest, beats)

kept_there : (z : Held) (rest : List Held) (y : Held) → IsKeptOrBeaten rest y → IsKeptOrBeaten (z ∷ rest) y
kept_there z rest y (inl at) = inl (contains_there z rest y at)
kept_there z rest y (inr (x, at, beats)) = inr (x, contains_there z rest x at, beats)

-- ---- x among changes in order

by_within : (o : Ordering) (x y : Held) (rest behind : List Held) → ((z : Held) → Contains behind z → (x ≡ z) ⊎ Contains rest z) → (z : Held) → Contains (placed_by o x y rest behind) z → (x ≡ z) ⊎ Contains (y ∷ rest) z
by_within Less x y rest behind deeper z at = contains_cases x (y ∷ rest) z at
by_within Equal x y rest behind deeper z at =
    elim (contains_cases (better x y) rest z at) [
      | inl e ↦ elim (better_either x y) [
        | inl is_x ↦ inl (sym is_x ∙ e)
        | inr is_y ↦ inr (subst (λ (v : Held). Contains (y ∷ rest) v) (sym is_y ∙ e) (contains_here y rest))
      ]
      | inr later ↦ inr (contains_there y rest z later)
    ]
by_within Greater x y rest behind deeper z at =
    elim (contains_cases y behind z at) [
      | inl e ↦ inr (subst (λ (v : Held). Contains (y ∷ rest) v) e (contains_here y rest))
      | inr later ↦ elim (deeper z later) [ inl e ↦ inl e | inr old ↦ inr (contains_there y rest z old) ]
    ]

placed_within : (x : Held) (ys : List Held) (z : Held) → Contains (placed x ys) z → (x ≡ z) ⊎ Contains ys z
placed_within x [] z at = inl (contains_one x z at)
placed_within x (y ∷ rest) z at = by_within (stored_cmp x y) x y rest (placed x rest) (placed_within x rest) z at

by_sorted : (o : Ordering) (x y : Held) (rest behind : List Held) → stored_cmp x y ≡ o → AreInOrder (y ∷ rest) → AreInOrder behind → ((z : Held) → Contains behind z → (x ≡ z) ⊎ Contains rest z) → AreInOrder (placed_by o x y rest behind)
unfolding IsStrictlySortedBy
by_sorted Less x y rest behind e up deeper within = (
  all_from (λ v. stored_cmp x v ≡ Less) (y ∷ rest) (λ z at. elim (contains_cases y rest z at) [
    | inl is ↦ subst (λ (v : Held). stored_cmp x v ≡ Less) is e
    | inr later ↦ stored_total.trans x y z e (all_at (λ v. stored_cmp y v ≡ Less) rest z up.0 later)
  ]),
  up,
)
by_sorted Equal x y rest behind e up deeper within = (
  all_from (λ v. stored_cmp (better x y) v ≡ Less) rest (λ z at.
      let later : stored_cmp y z ≡ Less = all_at (λ v. stored_cmp y v ≡ Less) rest z up.0 at in
      elim (better_either x y) [
        | inl is_x ↦ subst (λ (v : Held). stored_cmp v z ≡ Less) (sym is_x) (stored_total.congr x y z e ∙ later)
        | inr is_y ↦ subst (λ (v : Held). stored_cmp v z ≡ Less) (sym is_y) later
      ]),
  up.1,
)
by_sorted Greater x y rest behind e up deeper within = (
  all_from (λ v. stored_cmp y v ≡ Less) behind (λ z at. elim (within z at) [
    | inl is ↦ subst (λ (v : Held). stored_cmp y v ≡ Less) is (greater_back stored_total x y e)
    | inr later ↦ all_at (λ v. stored_cmp y v ≡ Less) rest z up.0 later
  ]),
  deeper,
)

placed_sorted : (x : Held) (ys : List Held) → AreInOrder ys → AreInOrder (placed x ys)
unfolding IsStrictlySortedBy
placed_sorted x [] up = (tt, tt)
placed_sorted x (y ∷ rest) up =
    by_sorted (stored_cmp x y) x y rest (placed x rest) refl up (placed_sorted x rest up.1) (placed_within x rest)

by_new : (o : Ordering) (x y : Held) (rest behind : List Held) → stored_cmp x y ≡ o → IsKeptOrBeaten behind x → IsKeptOrBeaten (placed_by o x y rest behind) x
by_new Less x y rest behind e deeper = inl (contains_here x (y ∷ rest))
by_new Equal x y rest behind e deeper = kept_at (better x y) rest x (better_first x y (place_exact x.place y.place e))
by_new Greater x y rest behind e deeper = kept_there y behind x deeper

placed_new : (x : Held) (ys : List Held) → IsKeptOrBeaten (placed x ys) x
placed_new x [] = inl (contains_here x [])
placed_new x (y ∷ rest) = by_new (stored_cmp x y) x y rest (placed x rest) refl (placed_new x rest)

by_old : (o : Ordering) (x y : Held) (rest behind : List Held) → stored_cmp x y ≡ o → (z : Held) → (Contains rest z → IsKeptOrBeaten behind z) → Contains (y ∷ rest) z → IsKeptOrBeaten (placed_by o x y rest behind) z
by_old Less x y rest behind e z deeper at = inl (contains_there x (y ∷ rest) z at)
by_old Equal x y rest behind e z deeper at =
    elim (contains_cases y rest z at) [
      | inl is ↦ subst (IsKeptOrBeaten (better x y ∷ rest)) is (kept_at (better x y) rest y (better_second x y (place_exact x.place y.place e)))
      | inr later ↦ inl (contains_there (better x y) rest z later)
    ]
by_old Greater x y rest behind e z deeper at =
    elim (contains_cases y rest z at) [
      | inl is ↦ inl (subst (λ (v : Held). Contains (y ∷ behind) v) is (contains_here y behind))
      | inr later ↦ kept_there y behind z (deeper later)
    ]

placed_old : (x : Held) (ys : List Held) (z : Held) → Contains ys z → IsKeptOrBeaten (placed x ys) z
placed_old x [] z at = absurd (contains_nil z at)
placed_old x (y ∷ rest) z at = by_old (stored_cmp x y) x y rest (placed x rest) refl z (placed_old x rest z) at

through : (kept : List Held) (x y : Held) → IsKeptOrBeaten kept x → Beats x y → IsKeptOrBeaten kept y
through kept x y (inl at) beats = inr (x, at, beats)
through kept x y (inr (z, at, higher)) beats = inr (z, at, Beats_trans z x y higher beats)

pub best_of_each_place : BestAreOfEachPlace
unfolding IsStrictlySortedBy
best_of_each_place [] = record { within = λ x at. at; best = λ y at. inl at; sorted = tt }
best_of_each_place (x ∷ rest) =
    let deeper = best_of_each_place rest in
    record {
      within = λ z at. elim (placed_within x (one_of_each_place rest) z at) [
        | inl e ↦ subst (λ (v : Held). Contains (x ∷ rest) v) e (contains_here x rest)
        | inr old ↦ contains_there x rest z (deeper.within z old)
      ];
      best = λ z at. elim (contains_cases x rest z at) [
        | inl e ↦ subst (IsKeptOrBeaten (placed x (one_of_each_place rest))) e (placed_new x (one_of_each_place rest))
        | inr later ↦ elim (deeper.best z later) [
          | inl kept ↦ placed_old x (one_of_each_place rest) z kept
          | inr (y, kept, beats) ↦ through (placed x (one_of_each_place rest)) y z (placed_old x (one_of_each_place rest) y kept) beats
        ]
      ];
      sorted = placed_sorted x (one_of_each_place rest) deeper.sorted;
    }

-- ---- no other list

not_itself : (x : Held) → Beats x x → ⊥
not_itself x beats = let tied = tied_itself rank_total x in let over = beats.1 in cc

-- in a list in order nothing beats another
apart_in : (kept : List Held) → AreInOrder kept → (x y : Held) → Contains kept x → Contains kept y → Beats x y → ⊥
apart_in kept up x y at there beats =
    let same : x ≡ y = one_at stored_total kept up x y at there (place_tied x.place y.place beats.0) in
    not_itself x (subst (Beats x) (sym same) beats)

best_in : (a b all : List Held) → AreBestInOrder a all → AreBestInOrder b all → (z : Held) → Contains a z → Contains b z
best_in a b all f s z at =
    elim (s.best z (f.within z at)) [
      | inl kept ↦ kept
      | inr (y, kept, beats) ↦ absurd (elim (f.best y (s.within y kept)) [
        | inl there ↦ apart_in a f.sorted y z there at beats
        | inr (x, there, higher) ↦ apart_in a f.sorted x z there at (Beats_trans x y z higher beats)
      ])
    ]

best_are_one : (a b all : List Held) → AreBestInOrder a all → AreBestInOrder b all → a ≡ b
best_are_one a b all f s = sorted_one stored_total a b f.sorted s.sorted (best_in a b all f s) (best_in b a all s f)

pub best_are_determined : BestAreDetermined
best_are_determined kept all best = best_are_one kept (one_of_each_place all) all best (best_of_each_place all)

-- ---- what the code makes

-- changes in order stay as they are
pub ordered_is_best : (all : List Held) → AreInOrder all → all ≡ one_of_each_place all
ordered_is_best all up = best_are_determined all all (record { within = λ x at. at; best = λ y at. inl at; sorted = up })

pub storing_total : IsTotalOrder storing_cmp
storing_total = then_total stored_total (back_total rank_total)

abbrev pub is_same_place : Held → Held → Bool
is_same_place x y = is_eq (stored_cmp x y)

not_above : (x y : Held) → is_eq (stored_cmp y x) ≡ true → is_lt (storing_cmp y x) ≡ false → (x ≡ y) ⊎ Beats x y
not_above x y same standing =
    let tied : stored_cmp y x ≡ Equal = equal_is (stored_cmp y x) same in
    let place : y.place ≡ x.place = place_exact y.place x.place tied in
    let ranked : storing_cmp y x ≡ rank_cmp x y = ap (λ (o : Ordering). ordering_then o (rank_cmp x y)) tied in
    elim (cases_ordering (rank_cmp x y)) [
      | inl less ↦ absurd (true≢false (sym (ap is_lt (ranked ∙ less)) ∙ standing))
      | inr (inl equal) ↦ inl (rank_exact x y (sym place) equal)
      | inr (inr greater) ↦ inr (sym place, greater)
    ]

first_sorted : (a b : Ordering) → is_lt (ordering_then a b) ≡ false → is_lt a ≡ false
first_sorted Less b p = p
first_sorted Equal b p = refl
first_sorted Greater b p = refl

-- sorted by place and the best first, of each run the first
pub sorted_is_best : (all sorted kept : List Held) → IsPermutation all sorted → IsSorted storing_cmp sorted → kept ≡ dedup is_same_place sorted → kept ≡ one_of_each_place all
sorted_is_best all sorted kept moved up is =
    best_are_determined kept all (subst (λ (l : List Held). AreBestInOrder l all) (sym is) (record {
      within = λ x at. Contains-permutation sorted all x (IsPermutation-sym all sorted moved) (Contains-from_dedup is_same_place sorted x at);
      best = λ y at.
          let found = kept_for (eq_by_cmp_equiv stored_total) (ranks_by storing_total (λ (x : Held). x)) sorted up y (Contains-permutation all sorted y moved at) in
          elim (not_above found.0 y found.2.0 found.2.1) [
            | inl same ↦ inl (subst (λ (v : Held). Contains (dedup is_same_place sorted) v) same found.1)
            | inr beats ↦ inr (found.0, found.1, beats)
          ];
      sorted = IsStrictlySortedBy-dedup stored_total (λ x y. refl) sorted (λ k d low high. first_sorted _ _ (up k d low high));
    }))
