-- Of changes it can be told which are one, and which outrank which; so what has a property can be picked from a list.
use Rattle.std.proofs.Common.{◌≡◌, ℕ, ◌⊎◌, ◌↔◌, inl, inr, List, [], ◌∷◌, refl, sym, ◌∙◌, ap, subst, arith, Contains}
use Rattle.std.specs.Prelude.{ℤ, ◌≤ℤ◌}
use Rattle.std.specs.Cmp.Lexicographic.{slice_cmp}
use Rattle.std.specs.Ordering.{nat_cmp, int_cmp}
use Rattle.std.proofs.lemmas.Cmp.{nat_list_cmp_total, tied_itself, int_ranked}
use Rattle.std.proofs.lemmas.Int.{ints}
use Rattle.cs_base.proofs.Members.{contains_nil, contains_here, contains_there, contains_cases}
use Rattle.changes.specs.declared.Bound.{Bound}
use Rattle.changes.specs.declared.Change.{Change}
use Rattle.changes.specs.declared.Held.{Held}
use Rattle.changes.specs.declared.Partition.{Partition}
use Rattle.changes.specs.declared.Place.{Place}
use Rattle.changes.specs.declared.Place.TheVariants.{Cell, Marker, RowGone, RangeGone, PartGone}
use Rattle.changes.specs.Order.{bound_signs, row_signs, signs_cmp, rank_cmp, IsBetween, NotAbove, StandsBelow, Encloses, Outranks}
use Rattle.changes.proofs.Orderings.{cases_ordering, bytes_exact}
use Rattle.changes.proofs.Partitions.{same_or_apart}
use Rattle.changes.proofs.Places.{same_place_or_not, same_encloses_not}
use Rattle.changes.proofs.Ranks.{above, outranks, rank_exact, rank_total}

abbrev pub OrNot : Type 0 → Type 0
OrNot P = P ⊎ (P → ⊥)

both_or_not : (P Q : Type 0) → OrNot P → OrNot Q → OrNot (P × Q)
both_or_not P Q (inl p) (inl q) = inl (p, q)
both_or_not P Q (inl p) (inr n) = inr (λ h. n h.1)
both_or_not P Q (inr n) q = inr (λ h. n h.0)

pub not_or : (P : Type 0) → OrNot P → OrNot (P → ⊥)
not_or P (inl p) = inr (λ n. n p)
not_or P (inr n) = inl n

-- ---- which change outranks which

below_or_not : (a b : List (ℕ × ℕ)) → OrNot (StandsBelow a b)
below_or_not a b = elim (cases_ordering (signs_cmp a b)) [
  | inl less ↦ inl less
  | inr (inl equal) ↦ inr (λ h. let e = sym equal ∙ h in cc)
  | inr (inr greater) ↦ inr (λ h. let e = sym greater ∙ h in cc)
]

not_above_or_not : (a b : List (ℕ × ℕ)) → OrNot (NotAbove a b)
not_above_or_not a b = elim (cases_ordering (signs_cmp a b)) [
  | inl less ↦ inl (λ h. let e = sym less ∙ h in cc)
  | inr (inl equal) ↦ inl (λ h. let e = sym equal ∙ h in cc)
  | inr (inr greater) ↦ inr (λ h. h greater)
]

between_or_not : (from upto : Bound) (row : List ℕ) → OrNot (IsBetween from upto row)
between_or_not from upto row =
    both_or_not (StandsBelow (bound_signs from) (row_signs row)) (StandsBelow (row_signs row) (bound_signs upto)) (below_or_not (bound_signs from) (row_signs row)) (below_or_not (row_signs row) (bound_signs upto))

same_row_or_not : (r s : List ℕ) → OrNot (r ≡ s)
same_row_or_not r s = elim (cases_ordering (slice_cmp nat_cmp r s)) [
  | inl less ↦ inr (λ h. let e = sym less ∙ ap (slice_cmp nat_cmp r) (sym h) ∙ tied_itself nat_list_cmp_total r in cc)
  | inr (inl equal) ↦ inl (bytes_exact r s equal)
  | inr (inr greater) ↦ inr (λ h. let e = sym greater ∙ ap (slice_cmp nat_cmp r) (sym h) ∙ tied_itself nat_list_cmp_total r in cc)
]

spans_or_not : (from upto a b : Bound) → OrNot (Encloses (RangeGone from upto) (RangeGone a b))
spans_or_not from upto a b =
    elim (not_above_or_not (bound_signs from) (bound_signs a)) [
      | inr n ↦ inr (λ h. n h.0)
      | inl low ↦ elim (not_above_or_not (bound_signs b) (bound_signs upto)) [
        | inr n ↦ inr (λ h. n h.1)
        | inl high ↦ elim (same_place_or_not (RangeGone a b) (RangeGone from upto)) [ inl same ↦ inr (λ h. h.2 same) | inr other ↦ inl (low, high, other) ]
      ]
    ]

encloses_or_not : (p q : Place) → OrNot (Encloses p q)
encloses_or_not PartGone (Cell r c) = inl tt
encloses_or_not PartGone (Marker r) = inl tt
encloses_or_not PartGone (RowGone r) = inl tt
encloses_or_not PartGone (RangeGone a b) = inl tt
encloses_or_not PartGone PartGone = inr (λ h. h)
encloses_or_not (RangeGone from upto) (Cell r c) = between_or_not from upto r
encloses_or_not (RangeGone from upto) (Marker r) = between_or_not from upto r
encloses_or_not (RangeGone from upto) (RowGone r) = between_or_not from upto r
encloses_or_not (RangeGone from upto) (RangeGone a b) = spans_or_not from upto a b
encloses_or_not (RangeGone from upto) PartGone = inr (λ h. h)
encloses_or_not (RowGone r) (Cell s c) = same_row_or_not r s
encloses_or_not (RowGone r) (Marker s) = same_row_or_not r s
encloses_or_not (RowGone r) (RowGone s) = inr (λ h. h)
encloses_or_not (RowGone r) (RangeGone a b) = inr (λ h. h)
encloses_or_not (RowGone r) PartGone = inr (λ h. h)
encloses_or_not (Marker r) q = inr (λ h. h)
encloses_or_not (Cell r c) q = inr (λ h. h)

late_or_not : (a b : ℤ) → OrNot (a ≤ℤ b)
late_or_not a b =
    let ranked = int_ranked a b (int_cmp a b) refl in
    elim (cases_ordering (int_cmp a b)) [
      | inl less ↦ (let r = rw less at ranked in inl (omega (arith, ints, r)))
      | inr (inl equal) ↦ (let r = rw equal at ranked in inl (omega (arith, ints, r)))
      | inr (inr greater) ↦ (let r = rw greater at ranked in inr (λ h. omega (arith, ints, r, h)))
    ]

outranks_at_place : (x y : Held) → x.place ≡ y.place → OrNot (Outranks x y)
outranks_at_place x y same = elim (cases_ordering (rank_cmp x y)) [
  | inl less ↦ inr (λ over. elim (above x y over) [ inl b ↦ (let e = sym less ∙ b.1 in cc) | inr i ↦ same_encloses_not x.place y.place same i.0 ])
  | inr (inl equal) ↦ inr (λ over. elim (above x y over) [ inl b ↦ (let e = sym equal ∙ b.1 in cc) | inr i ↦ same_encloses_not x.place y.place same i.0 ])
  | inr (inr greater) ↦ inl (inl (same, greater))
]

pub outranks_or_not : (x y : Held) → OrNot (Outranks x y)
outranks_or_not x y = elim (same_place_or_not x.place y.place) [
  | inl same ↦ outranks_at_place x y same
  | inr other ↦ elim (both_or_not (Encloses x.place y.place) (y.timestamp ≤ℤ x.timestamp) (encloses_or_not x.place y.place) (late_or_not y.timestamp x.timestamp)) [
    | inl i ↦ inl (outranks x y (inr i))
    | inr n ↦ inr (λ over. elim (above x y over) [ inl b ↦ other b.0 | inr i ↦ n i ])
  ]
]

-- ---- which are one

pub same_held_or_not : (x y : Held) → OrNot (x ≡ y)
same_held_or_not x y = elim (same_place_or_not x.place y.place) [
  | inr other ↦ inr (λ h. other (ap (λ (z : Held). z.place) h))
  | inl same ↦ elim (cases_ordering (rank_cmp x y)) [
    | inl less ↦ inr (λ h. let e = sym less ∙ ap (rank_cmp x) (sym h) ∙ tied_itself rank_total x in cc)
    | inr (inl equal) ↦ inl (rank_exact x y same equal)
    | inr (inr greater) ↦ inr (λ h. let e = sym greater ∙ ap (rank_cmp x) (sym h) ∙ tied_itself rank_total x in cc)
  ]
]

change_made : (a b : Change) → a.partition ≡ b.partition → a.held ≡ b.held → a ≡ b
change_made a b partition held =
    ap (λ (p : Partition). let c : Change = record { partition = p; held = a.held } in c) partition ∙ ap (λ (x : Held). let c : Change = record { partition = b.partition; held = x } in c) held

pub same_change_or_not : (a b : Change) → OrNot (a ≡ b)
same_change_or_not a b = elim (same_or_apart a.partition b.partition) [
  | inr apart ↦ inr (λ e. apart (ap (λ (c : Change). c.partition) e))
  | inl partition ↦ elim (same_held_or_not a.held b.held) [
    | inl held ↦ inl (change_made a b partition held)
    | inr other ↦ inr (λ e. other (ap (λ (c : Change). c.held) e))
  ]
]

-- ---- lists

pub contains_or_not : {X : Type 0} → ((x y : X) → OrNot (x ≡ y)) → (xs : List X) (x : X) → OrNot (Contains xs x)
contains_or_not {X} same [] x = inr (contains_nil x)
contains_or_not {X} same (y ∷ ys) x = elim (same y x) [
  | inl e ↦ inl (subst (λ (z : X). Contains (y ∷ ys) z) e (contains_here y ys))
  | inr other ↦ elim (contains_or_not same ys x) [
    | inl later ↦ inl (contains_there y ys x later)
    | inr n ↦ inr (λ k. elim (contains_cases y ys x k) [ inl e ↦ other e | inr later ↦ n later ])
  ]
]

-- those elements that have a property
abbrev pub ArePicked : {X : Type 0} → (X → Type 0) → List X → List X → Type 0
ArePicked {X} P xs ys = (y : X) → Contains ys y ↔ (Contains xs y × P y)

pub picks : {X : Type 0} (P : X → Type 0) → ((x : X) → OrNot (P x)) → (xs : List X) → (ys : List X) × ArePicked P xs ys
picks {X} P test [] = ([], λ y. (λ k. absurd (contains_nil y k), λ h. h.0))
picks {X} P test (x ∷ xs) =
    let rest : (ys : List X) × ArePicked P xs ys = picks P test xs in
    elim (test x) [
      | inl p ↦ (
        x ∷ rest.0,
        λ y. (
          λ k. elim (contains_cases x rest.0 y k) [
            | inl e ↦ (subst (λ (z : X). Contains (x ∷ xs) z) e (contains_here x xs), subst P e p)
            | inr later ↦ (let h = (rest.1 y).0 later in (contains_there x xs y h.0, h.1))
          ],
          λ h. elim (contains_cases x xs y h.0) [
            | inl e ↦ subst (λ (z : X). Contains (x ∷ rest.0) z) e (contains_here x rest.0)
            | inr later ↦ contains_there x rest.0 y ((rest.1 y).1 (later, h.1))
          ],
        ),
      )
      | inr n ↦ (
        rest.0,
        λ y. (
          λ k. let h = (rest.1 y).0 k in (contains_there x xs y h.0, h.1),
          λ h. elim (contains_cases x xs y h.0) [
            | inl e ↦ absurd (n (subst P (sym e) h.1))
            | inr later ↦ (rest.1 y).1 (later, h.1)
          ],
        ),
      )
    ]
