-- Two contents without what each outranks of the other are their merge.
use Rattle.std.proofs.Common.{◌≡◌, ◌⊎◌, ◌↔◌, inl, inr, Bool, List, ◌++◌, refl, sym, subst, Contains}
use Rattle.std.specs.List.{dedup}
use Rattle.std.specs.List.Sorted.{IsPermutation, IsSorted}
use Rattle.std.specs.Ordering.{is_eq}
use Rattle.std.proofs.lemmas.Cmp.{eq_by_cmp_equiv}
use Rattle.std.proofs.lemmas.List.Elements.{Contains-append_left, Contains-append_right, Contains-append_cases}
use Rattle.std.proofs.lemmas.List.Kept.{Any-dedup, Contains-from_dedup, IsStrictlySortedBy-dedup}
use Rattle.std.proofs.lemmas.List.Sorted.{Contains-permutation, IsPermutation-sym}
use Rattle.changes.specs.declared.Held.{Held}
use Rattle.changes.specs.declared.Place.{Place}
use Rattle.changes.specs.declared.Place.TheVariants.{Cell, Marker, RowGone, RangeGone, PartGone}
use Rattle.changes.specs.Order.{Encloses, Outranks, rank_cmp}
use Rattle.changes.specs.Places.{AreInOrder, stored_cmp}
use Rattle.changes.specs.Contents.{AreApart, IsReachedBy, IsContent, IsMergeOf}
use Rattle.changes.proofs.Orderings.{cases_ordering, equal_is, less_back}
use Rattle.changes.proofs.Places.{stored_total, place_exact, place_tied}
use Rattle.changes.proofs.Ranks.{above, rank_total, rank_exact}
use Rattle.changes.specs.Laws.{AreBestInOrder}
use Rattle.changes.proofs.Sorted.{one_at}
use Rattle.change_laws.proofs.Outranking.{Outranks_trans, Outranks_irrefl}
use Rattle.change_laws.proofs.Contents.{content_is_tops, reached_below}
use Rattle.cell_merge.specs.Parts.{IsOutrankedBy, IsUnrivalled, IsRidOf, IsParted, IsInnermost}
use Rattle.cell_merge.specs.Settled.{IsSettled}
use Rattle.cell_merge.proofs.Parts.{from_parted, kept_or_gone, sorted_parted}
use Rattle.cell_merge.proofs.Decided.{exists_content}

-- ---- lists in one

-- of changes apart one is at a place
one_at_place : (xs : List Held) (x y : Held) → AreApart xs → Contains xs x → Contains xs y → x.place ≡ y.place → x ≡ y
one_at_place xs x y apart hx hy same =
    elim (cases_ordering (rank_cmp x y)) [
      | inl less ↦ absurd (apart y x hy hx (inl (sym same, less_back rank_total x y less)))
      | inr (inl equal) ↦ rank_exact x y same equal
      | inr (inr greater) ↦ absurd (apart x y hx hy (inl (same, greater)))
    ]

abbrev pub is_beside : Held → Held → Bool
is_beside x y = is_eq (stored_cmp x y)

pub one_ordered : (sorted one : List Held) → IsSorted stored_cmp sorted → one ≡ dedup is_beside sorted → AreInOrder one
one_ordered sorted one up is = subst AreInOrder (sym is) (IsStrictlySortedBy-dedup stored_total (λ x y. refl) sorted up)

pub one_has_all : (first second sorted one : List Held) → AreApart (first ++ second) → IsPermutation (first ++ second) sorted → one ≡ dedup is_beside sorted → (x : Held) → Contains one x ↔ (Contains first x ⊎ Contains second x)
one_has_all first second sorted one apart moved is x =
    let all : List Held = first ++ second in
    let back : IsPermutation sorted (first ++ second) = IsPermutation-sym (first ++ second) sorted moved in (
      λ k. Contains-append_cases first second x (Contains-permutation sorted (first ++ second) x back (Contains-from_dedup is_beside sorted x (subst (λ (l : List Held). Contains l x) is k))),
      λ h.
          let inside : Contains (first ++ second) x = elim h [ inl k ↦ Contains-append_left first second x k | inr k ↦ Contains-append_right first second x k ] in
          let beside = Any-dedup (eq_by_cmp_equiv stored_total) sorted x (Contains-permutation (first ++ second) sorted x moved inside) in
          let y : Held = beside.1 in
          let kept : Contains (dedup is_beside sorted) beside.1 = (beside.0, beside.2, beside.3) in
          let at : Contains (first ++ second) beside.1 = Contains-permutation sorted (first ++ second) beside.1 back (Contains-from_dedup is_beside sorted beside.1 kept) in
          let same : x ≡ beside.1 = one_at_place (first ++ second) x beside.1 apart inside at (place_exact x.place beside.1.place (equal_is (stored_cmp x beside.1) beside.4)) in
          subst (λ (l : List Held). Contains l x) (sym is) (subst (Contains (dedup is_beside sorted)) (sym same) kept),
    )

-- ---- what each leaves of the other

pub both_apart : (a b c d : List Held) → AreApart a → AreApart b → IsRidOf b a c → IsRidOf c b d → AreApart (c ++ d)
both_apart a b c d first second gone lost x y hx hy over =
    elim (Contains-append_cases c d x hx) [
      | inl in_c ↦ elim (Contains-append_cases c d y hy) [
        | inl also_c ↦ first x y (from_parted (IsUnrivalled b) (IsOutrankedBy b) a c gone x in_c).0 (from_parted (IsUnrivalled b) (IsOutrankedBy b) a c gone y also_c).0 over
        | inr in_d ↦ (from_parted (IsUnrivalled c) (IsOutrankedBy c) b d lost y in_d).1 (x, in_c, over)
      ]
      | inr in_d ↦
          let of_b = (from_parted (IsUnrivalled c) (IsOutrankedBy c) b d lost x in_d).0 in
          elim (Contains-append_cases c d y hy) [
            | inl in_c ↦ (from_parted (IsUnrivalled b) (IsOutrankedBy b) a c gone y in_c).1 (x, of_b, over)
            | inr also_d ↦ second x y of_b (from_parted (IsUnrivalled c) (IsOutrankedBy c) b d lost y also_d).0 over
          ]
    ]

-- what of b outranks a change of a is left of b
still_there : (a b c d : List Held) → AreApart a → IsRidOf b a c → IsRidOf c b d → (x y : Held) → Contains a x → Contains b y → Outranks y x → Contains d y
still_there a b c d first gone lost x y hx hy over =
    elim (kept_or_gone (IsUnrivalled c) (IsOutrankedBy c) b d lost y hy) [
      | inl k ↦ k
      | inr (z, in_c, higher) ↦ absurd (first z x (from_parted (IsUnrivalled b) (IsOutrankedBy b) a c gone z in_c).0 hx (Outranks_trans z y x higher over))
    ]

apart_of : (m c d : List Held) → AreApart (c ++ d) → ((x : Held) → Contains m x ↔ (Contains c x ⊎ Contains d x)) → AreApart m
apart_of m c d apart all x y hx hy = apart x y (in_both x hx) (in_both y hy)
  where
    in_both : (z : Held) → Contains m z → Contains (c ++ d) z
    in_both z h = elim ((all z).0 h) [ inl k ↦ Contains-append_left c d z k | inr k ↦ Contains-append_right c d z k ]

pub merge_of : (a b c d m : List Held) → AreApart a → AreApart b → IsRidOf b a c → IsRidOf c b d → ((x : Held) → Contains m x ↔ (Contains c x ⊎ Contains d x)) → IsMergeOf m a b
merge_of a b c d m first second gone lost all = record {
  within = λ x k. elim ((all x).0 k) [
    | inl in_c ↦ inl (from_parted (IsUnrivalled b) (IsOutrankedBy b) a c gone x in_c).0
    | inr in_d ↦ inr (from_parted (IsUnrivalled c) (IsOutrankedBy c) b d lost x in_d).0
  ];
  reached = λ x u. elim u [
    | inl in_a ↦ elim (kept_or_gone (IsUnrivalled b) (IsOutrankedBy b) a c gone x in_a) [
      | inl in_c ↦ inl ((all x).1 (inl in_c))
      | inr (y, in_b, over) ↦ inr (y, (all y).1 (inr (still_there a b c d first gone lost x y in_a in_b over)), over)
    ]
    | inr in_b ↦ elim (kept_or_gone (IsUnrivalled c) (IsOutrankedBy c) b d lost x in_b) [
      | inl in_d ↦ inl ((all x).1 (inr in_d))
      | inr (y, in_c, over) ↦ inr (y, (all y).1 (inl in_c), over)
    ]
  ];
  apart = apart_of m c d (both_apart a b c d first second gone lost) all;
}

pub merge_settled : (a b c d m : List Held) → IsSettled a → IsSettled b → IsRidOf b a c → IsRidOf c b d → AreInOrder m → ((x : Held) → Contains m x ↔ (Contains c x ⊎ Contains d x)) → IsSettled m
merge_settled a b c d m first second gone lost ordered all = record {
  ordered = ordered;
  apart = apart_of m c d (both_apart a b c d first.apart second.apart gone lost) all;
}

-- ---- changes of each place, without what others of them outrank

innermost_alone : (p q : Place) → IsInnermost p → Encloses p q → ⊥
innermost_alone (Cell r c) q h e = e
innermost_alone (Marker r) q h e = e
innermost_alone (RowGone r) q h e = h
innermost_alone (RangeGone a b) q h e = h
innermost_alone PartGone q h e = h

-- what outranks another one of a list in order is a deletion of rows
abbrev pub AreDeletionsOf : List Held → List Held → Type 0
AreDeletionsOf one deletions = IsParted (λ x. IsInnermost x.place → ⊥) (λ x. IsInnermost x.place) one deletions

deletion_of : (one deletions : List Held) (x y : Held) → AreInOrder one → AreDeletionsOf one deletions → Contains one x → Contains one y → Outranks x y → Contains deletions x
deletion_of one deletions x y ordered taken hx hy over =
    elim (kept_or_gone (λ z. IsInnermost z.place → ⊥) (λ z. IsInnermost z.place) one deletions taken x hx) [
      | inl k ↦ k
      | inr innermost ↦ elim (above x y over) [
        | inl (same, g) ↦
            (let one_is : x ≡ y = one_at stored_total one ordered x y hx hy (place_tied x.place y.place same) in
            absurd (Outranks_irrefl y (subst (λ (z : Held). Outranks z y) one_is over)))
        | inr (e, late) ↦ absurd (innermost_alone x.place y.place innermost e)
      ]
    ]

of_list : (one deletions : List Held) → AreDeletionsOf one deletions → (x : Held) → Contains deletions x → Contains one x
of_list one deletions taken x h = (from_parted (λ z. IsInnermost z.place → ⊥) (λ z. IsInnermost z.place) one deletions taken x h).0

rid_apart : (one deletions kept : List Held) → AreInOrder one → AreDeletionsOf one deletions → IsRidOf deletions one kept → AreApart kept
rid_apart one deletions kept ordered taken rid x y hx hy over =
    let of_one = (from_parted (IsUnrivalled deletions) (IsOutrankedBy deletions) one kept rid x hx).0 in
    let under = from_parted (IsUnrivalled deletions) (IsOutrankedBy deletions) one kept rid y hy in
    under.1 (x, deletion_of one deletions x y ordered taken of_one under.0 over, over)

pub rid_settled : (all one deletions kept : List Held) → AreBestInOrder one all → AreDeletionsOf one deletions → IsRidOf deletions one kept → IsSettled kept
rid_settled all one deletions kept best taken rid = record {
  ordered = sorted_parted (IsUnrivalled deletions) (IsOutrankedBy deletions) stored_cmp one kept rid best.sorted;
  apart = rid_apart one deletions kept best.sorted taken rid;
}

pub deletions_ordered : (all one deletions : List Held) → AreBestInOrder one all → AreDeletionsOf one deletions → AreInOrder deletions
deletions_ordered all one deletions best taken = sorted_parted (λ x. IsInnermost x.place → ⊥) (λ x. IsInnermost x.place) stored_cmp one deletions taken best.sorted

-- a change that nothing of the list outranks is left
stands : (one deletions kept : List Held) → AreDeletionsOf one deletions → IsRidOf deletions one kept → (x : Held) → Contains one x → ((y : Held) → Contains one y → Outranks y x → ⊥) → Contains kept x
stands one deletions kept taken rid x h free =
    elim (kept_or_gone (IsUnrivalled deletions) (IsOutrankedBy deletions) one kept rid x h) [
      | inl k ↦ k
      | inr (y, at, over) ↦ absurd (free y (of_list one deletions taken y at) over)
    ]

reached_in_one : (one deletions kept : List Held) → AreDeletionsOf one deletions → IsRidOf deletions one kept → (x : Held) → Contains one x → IsReachedBy kept x
reached_in_one one deletions kept taken rid x h =
    let content = exists_content one in
    let top : (y : Held) → Contains content.0 y → Contains kept y =
    λ y k. (let t = (content_is_tops (Contains one) content.0 content.1 y).0 k in stands one deletions kept taken rid y t.0 t.1) in
    elim (content.1.reached x h) [ inl k ↦ inl (top x k) | inr (y, k, over) ↦ inr (y, top y k, over) ]

pub rid_content : (all one deletions kept : List Held) → AreBestInOrder one all → AreDeletionsOf one deletions → IsRidOf deletions one kept → IsContent kept (Contains all)
rid_content all one deletions kept best taken rid = record {
  within = λ x k. best.within x (from_parted (IsUnrivalled deletions) (IsOutrankedBy deletions) one kept rid x k).0;
  reached = λ x h. elim (best.best x h) [
    | inl k ↦ reached_in_one one deletions kept taken rid x k
    | inr (y, k, over) ↦ reached_below kept y x (reached_in_one one deletions kept taken rid y k) (inl over)
  ];
  apart = rid_apart one deletions kept best.sorted taken rid;
}
