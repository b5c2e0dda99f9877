-- A change outranks another or does not, so each list of changes has a content.
use Rattle.std.proofs.Common.{◌≡◌, ◌≢◌, ℕ, ◌+◌, ◌<◌, ◌≤◌, ◌⊎◌, ◌↔◌, inl, inr, Bool, true, false, IsTrue, length, get_or, take, List, [], ◌∷◌, ◌++◌, refl, sym, ◌∙◌, ap, subst, arith, Contains}
use Rattle.std.specs.Prelude.{ℤ, ◌≤ℤ◌}
use Rattle.std.specs.Cmp.Lexicographic.{slice_cmp}
use Rattle.std.specs.Ordering.{nat_cmp, int_cmp, is_eq}
use Rattle.std.proofs.lemmas.Bool.{false≢true}
use Rattle.std.proofs.lemmas.List.{get_or_default, take_all}
use Rattle.changes.specs.Places.{place_cmp}
use Rattle.std.proofs.lemmas.Cmp.{nat_list_cmp_total, tied_itself, int_ranked}
use Rattle.std.proofs.lemmas.Int.{ints}
use Rattle.changes.specs.declared.Bound.{Bound}
use Rattle.changes.specs.declared.Held.{Held}
use Rattle.changes.specs.declared.Place.{Place}
use Rattle.changes.specs.declared.Place.TheVariants.{Cell, Marker, RowGone, RangeGone, PartGone}
use Rattle.changes.specs.Order.{bound_signs, row_signs, signs_cmp, rank_cmp, IsBetween, NotAbove, StandsBelow, Encloses, Outranks}
use Rattle.changes.specs.Contents.{Either, AreApart, IsReachedBy, IsContent}
use Rattle.changes.proofs.Orderings.{cases_ordering, equal_is, bytes_exact}
use Rattle.changes.proofs.Places.{same_place_or_not, same_encloses_not, place_exact, place_tied}
use Rattle.changes.proofs.Ranks.{above, outranks, rank_exact, rank_total}
use Rattle.cs_base.proofs.Members.{contains_nil, contains_here, contains_there, contains_cases, contains_push, front_more}
use Rattle.change_laws.proofs.Outranking.{Outranks_irrefl}
use Rattle.change_laws.proofs.Contents.{IsContent-itself, IsContent-onto, IsContent-same}
use Rattle.cell_merge.specs.Parts.{IsLeftBy}
use Rattle.cell_merge.proofs.Parts.{from_parted, kept_or_gone}

abbrev pub OrNot : Type 0 → Type 0
OrNot P = P ⊎ (P → ⊥)

both_or_not : (P Q : Type 0) → OrNot P → OrNot Q → OrNot (P × Q)
both_or_not P Q (inl p) (inl q) = inl (p, q)
both_or_not P Q (inl p) (inr n) = inr (λ h. n h.1)
both_or_not P Q (inr n) q = inr (λ h. n h.0)

below_or_not : (a b : List (ℕ × ℕ)) → OrNot (StandsBelow a b)
below_or_not a b = elim (cases_ordering (signs_cmp a b)) [
  | inl less ↦ inl less
  | inr (inl equal) ↦ inr (λ h. let e = sym equal ∙ h in cc)
  | inr (inr greater) ↦ inr (λ h. let e = sym greater ∙ h in cc)
]

not_above_or_not : (a b : List (ℕ × ℕ)) → OrNot (NotAbove a b)
not_above_or_not a b = elim (cases_ordering (signs_cmp a b)) [
  | inl less ↦ inl (λ h. let e = sym less ∙ h in cc)
  | inr (inl equal) ↦ inl (λ h. let e = sym equal ∙ h in cc)
  | inr (inr greater) ↦ inr (λ h. h greater)
]

between_or_not : (from upto : Bound) (row : List ℕ) → OrNot (IsBetween from upto row)
between_or_not from upto row =
    both_or_not (StandsBelow (bound_signs from) (row_signs row)) (StandsBelow (row_signs row) (bound_signs upto)) (below_or_not (bound_signs from) (row_signs row)) (below_or_not (row_signs row) (bound_signs upto))

same_row_or_not : (r s : List ℕ) → OrNot (r ≡ s)
same_row_or_not r s = elim (cases_ordering (slice_cmp nat_cmp r s)) [
  | inl less ↦ inr (λ h. let e = sym less ∙ ap (slice_cmp nat_cmp r) (sym h) ∙ tied_itself nat_list_cmp_total r in cc)
  | inr (inl equal) ↦ inl (bytes_exact r s equal)
  | inr (inr greater) ↦ inr (λ h. let e = sym greater ∙ ap (slice_cmp nat_cmp r) (sym h) ∙ tied_itself nat_list_cmp_total r in cc)
]

other_or_not : (p q : Place) → OrNot (p ≢ q)
other_or_not p q = elim (same_place_or_not p q) [ inl same ↦ inr (λ h. h same) | inr other ↦ inl other ]

spans_or_not : (from upto a b : Bound) → OrNot (Encloses (RangeGone from upto) (RangeGone a b))
spans_or_not from upto a b =
    elim (not_above_or_not (bound_signs from) (bound_signs a)) [
      | inr n ↦ inr (λ h. n h.0)
      | inl low ↦ elim (not_above_or_not (bound_signs b) (bound_signs upto)) [
        | inr n ↦ inr (λ h. n h.1)
        | inl high ↦ elim (other_or_not (RangeGone a b) (RangeGone from upto)) [ inr n ↦ inr (λ h. n h.2) | inl other ↦ inl (low, high, other) ]
      ]
    ]

encloses_or_not : (p q : Place) → OrNot (Encloses p q)
encloses_or_not PartGone (Cell r c) = inl tt
encloses_or_not PartGone (Marker r) = inl tt
encloses_or_not PartGone (RowGone r) = inl tt
encloses_or_not PartGone (RangeGone a b) = inl tt
encloses_or_not PartGone PartGone = inr (λ h. h)
encloses_or_not (RangeGone from upto) (Cell r c) = between_or_not from upto r
encloses_or_not (RangeGone from upto) (Marker r) = between_or_not from upto r
encloses_or_not (RangeGone from upto) (RowGone r) = between_or_not from upto r
encloses_or_not (RangeGone from upto) (RangeGone a b) = spans_or_not from upto a b
encloses_or_not (RangeGone from upto) PartGone = inr (λ h. h)
encloses_or_not (RowGone r) (Cell s c) = same_row_or_not r s
encloses_or_not (RowGone r) (Marker s) = same_row_or_not r s
encloses_or_not (RowGone r) (RowGone s) = inr (λ h. h)
encloses_or_not (RowGone r) (RangeGone a b) = inr (λ h. h)
encloses_or_not (RowGone r) PartGone = inr (λ h. h)
encloses_or_not (Marker r) q = inr (λ h. h)
encloses_or_not (Cell r c) q = inr (λ h. h)

late_or_not : (a b : ℤ) → OrNot (a ≤ℤ b)
late_or_not a b =
    let ranked = int_ranked a b (int_cmp a b) refl in
    elim (cases_ordering (int_cmp a b)) [
      | inl less ↦ (let r = rw less at ranked in inl (omega (arith, ints, r)))
      | inr (inl equal) ↦ (let r = rw equal at ranked in inl (omega (arith, ints, r)))
      | inr (inr greater) ↦ (let r = rw greater at ranked in inr (λ h. omega (arith, ints, r, h)))
    ]

outranks_at_place : (x y : Held) → x.place ≡ y.place → OrNot (Outranks x y)
outranks_at_place x y same = elim (cases_ordering (rank_cmp x y)) [
  | inl less ↦ inr (λ over. elim (above x y over) [ inl b ↦ (let e = sym less ∙ b.1 in cc) | inr i ↦ same_encloses_not x.place y.place same i.0 ])
  | inr (inl equal) ↦ inr (λ over. elim (above x y over) [ inl b ↦ (let e = sym equal ∙ b.1 in cc) | inr i ↦ same_encloses_not x.place y.place same i.0 ])
  | inr (inr greater) ↦ inl (inl (same, greater))
]

pub outranks_or_not : (x y : Held) → OrNot (Outranks x y)
outranks_or_not x y = elim (same_place_or_not x.place y.place) [
  | inl same ↦ outranks_at_place x y same
  | inr other ↦ elim (both_or_not (Encloses x.place y.place) (y.timestamp ≤ℤ x.timestamp) (encloses_or_not x.place y.place) (late_or_not y.timestamp x.timestamp)) [
    | inl i ↦ inl (outranks x y (inr i))
    | inr n ↦ inr (λ over. elim (above x y over) [ inl b ↦ other b.0 | inr i ↦ n i ])
  ]
]

same_or_not : (x y : Held) → OrNot (x ≡ y)
same_or_not x y = elim (same_place_or_not x.place y.place) [
  | inr other ↦ inr (λ h. other (ap (λ (z : Held). z.place) h))
  | inl same ↦ elim (cases_ordering (rank_cmp x y)) [
    | inl less ↦ inr (λ h. let e = sym less ∙ ap (rank_cmp x) (sym h) ∙ tied_itself rank_total x in cc)
    | inr (inl equal) ↦ inl (rank_exact x y same equal)
    | inr (inr greater) ↦ inr (λ h. let e = sym greater ∙ ap (rank_cmp x) (sym h) ∙ tied_itself rank_total x in cc)
  ]
]

reached_or_not : (kept : List Held) (x : Held) → OrNot (IsReachedBy kept x)
reached_or_not [] x = inr (λ h. elim h [ inl k ↦ contains_nil x k | inr (y, k, over) ↦ contains_nil y k ])
reached_or_not (y ∷ kept) x =
    elim (reached_or_not kept x) [
      | inl h ↦ inl (elim h [ inl k ↦ inl (contains_there y kept x k) | inr (z, k, over) ↦ inr (z, contains_there y kept z k, over) ])
      | inr n ↦ elim (outranks_or_not y x) [
        | inl over ↦ inl (inr (y, contains_here y kept, over))
        | inr under ↦ elim (same_or_not y x) [
          | inl same ↦ inl (inl (subst (λ (z : Held). Contains (y ∷ kept) z) same (contains_here y kept)))
          | inr other ↦ inr (λ h. elim h [
            | inl k ↦ elim (contains_cases y kept x k) [ inl e ↦ other e | inr later ↦ n (inl later) ]
            | inr (z, k, over) ↦ elim (contains_cases y kept z k) [ inl e ↦ under (subst (λ (w : Held). Outranks w x) (sym e) over) | inr later ↦ n (inr (z, later, over)) ]
          ])
        ]
      ]
    ]

-- ---- contents, one change after another

exists_left : (x : Held) (kept : List Held) → (left : List Held) × IsLeftBy x kept left
exists_left x [] = ([], refl)
exists_left x (y ∷ kept) =
    let rest : (left : List Held) × IsLeftBy x kept left = exists_left x kept in
    elim (outranks_or_not x y) [ inl over ↦ (rest.0, (rest.0, rest.1, inr (over, refl))) | inr under ↦ (y ∷ rest.0, (rest.0, rest.1, inl (under, refl))) ]

-- x is of the content already, or under it
pub reached_content : (kept : List Held) (S : Held → Type 0) (x : Held) → IsContent kept S → IsReachedBy kept x → IsContent kept (Either S (λ y. x ≡ y))
reached_content kept S x h r = record {
  within = λ y k. inl (h.within y k);
  reached = λ y u. elim u [ inl s ↦ h.reached y s | inr e ↦ subst (IsReachedBy kept) e r ];
  apart = h.apart;
}

-- x comes to what it leaves
pub joined_content : (kept left new : List Held) (x : Held) → AreApart kept → (IsReachedBy kept x → ⊥) → IsLeftBy x kept left → ((y : Held) → Contains new y ↔ (Contains left y ⊎ (x ≡ y))) → IsContent new (Either (Contains kept) (λ y. x ≡ y))
joined_content kept left new x apart free gone all =
    let from : (y : Held) → Contains left y → Contains kept y × (Outranks x y → ⊥) = from_parted (λ y. Outranks x y → ⊥) (λ y. Outranks x y) kept left gone in
    let here : Contains new x = (all x).1 (inr refl) in
    record {
      within = λ y k. elim ((all y).0 k) [ inl c ↦ inl (from y c).0 | inr e ↦ inr e ];
      reached = λ y u. elim u [
        | inl k ↦ elim (kept_or_gone (λ y. Outranks x y → ⊥) (λ y. Outranks x y) kept left gone y k) [
          | inl c ↦ inl ((all y).1 (inl c))
          | inr over ↦ inr (x, here, over)
        ]
        | inr e ↦ inl ((all y).1 (inr e))
      ];
      apart = λ y z ky kz over. elim ((all y).0 ky) [
        | inl c ↦ elim ((all z).0 kz) [
          | inl d ↦ apart y z (from y c).0 (from z d).0 over
          | inr e ↦ free (inr (y, (from y c).0, subst (Outranks y) (sym e) over))
        ]
        | inr e ↦ elim ((all z).0 kz) [
          | inl d ↦ (from z d).1 (subst (λ (w : Held). Outranks w z) (sym e) over)
          | inr f ↦ Outranks_irrefl x (subst (Outranks x) (sym f) (subst (λ (w : Held). Outranks w z) (sym e) over))
        ]
      ];
    }

front_of : (x : Held) (left : List Held) (y : Held) → Contains (x ∷ left) y ↔ (Contains left y ⊎ (x ≡ y))
front_of x left y = (
  λ k. elim (contains_cases x left y k) [ inl e ↦ inr e | inr later ↦ inl later ],
  λ h. elim h [ inl c ↦ contains_there x left y c | inr e ↦ subst (λ (z : Held). Contains (x ∷ left) z) e (contains_here x left) ],
)

content_more : (kept : List Held) (x : Held) → AreApart kept → (new : List Held) × IsContent new (Either (Contains kept) (λ y. x ≡ y))
content_more kept x apart =
    elim (reached_or_not kept x) [
      | inl r ↦ (kept, reached_content kept (Contains kept) x (IsContent-itself kept apart) r)
      | inr free ↦ (let left = exists_left x kept in (x ∷ left.0, joined_content kept left.0 (x ∷ left.0) x apart free left.1 (front_of x left.0)))
    ]

one_more : (x : Held) (xs : List Held) (y : Held) → Either (Contains xs) (λ z. x ≡ z) y → Contains (x ∷ xs) y
one_more x xs y (inl k) = contains_there x xs y k
one_more x xs y (inr e) = subst (λ (z : Held). Contains (x ∷ xs) z) e (contains_here x xs)

one_less : (x : Held) (xs : List Held) (y : Held) → Contains (x ∷ xs) y → Either (Contains xs) (λ z. x ≡ z) y
one_less x xs y k = elim (contains_cases x xs y k) [ inl e ↦ inr e | inr later ↦ inl later ]

-- each list of changes has a content
pub exists_content : (xs : List Held) → (kept : List Held) × IsContent kept (Contains xs)
exists_content [] = ([], record { within = λ x k. k; reached = λ x k. absurd (contains_nil x k); apart = λ x y k. absurd (contains_nil x k) })
exists_content (x ∷ xs) =
    let before : (kept : List Held) × IsContent kept (Contains xs) = exists_content xs in
    let now = content_more before.0 x before.1.apart in
    (now.0, IsContent-same now.0 (Either (Contains xs) (λ z. x ≡ z)) (Contains (x ∷ xs)) (one_more x xs) (one_less x xs) (IsContent-onto before.0 now.0 (Contains xs) (λ z. x ≡ z) before.1 now.1))

-- ---- equal changes

pub same_by_rank : (x y : Held) (b : Bool) → is_eq (place_cmp x.place y.place) ≡ true → b ≡ is_eq (rank_cmp x y) → IsTrue b ↔ (x ≡ y)
same_by_rank x y b place is = (
  λ t. rank_exact x y (place_exact x.place y.place (equal_is (place_cmp x.place y.place) place)) (equal_is (rank_cmp x y) (sym is ∙ t)),
  λ e. is ∙ ap is_eq (ap (rank_cmp x) (sym e) ∙ tied_itself rank_total x),
)

pub other_place : (x y : Held) (b : Bool) → is_eq (place_cmp x.place y.place) ≡ false → b ≡ false → IsTrue b ↔ (x ≡ y)
other_place x y b other is = (
  λ t. absurd (false≢true (sym is ∙ t)),
  λ e. absurd (false≢true (sym other ∙ ap is_eq (place_tied x.place y.place (ap (λ (z : Held). z.place) e)))),
)

-- ---- equal lists

pub differ_at : (xs ys : List Held) (i : ℕ) (x y : Held) (b : Bool) → i < length xs → (length xs ≡ length ys) → x ≡ get_or xs i x → y ≡ get_or ys i y → (IsTrue b ↔ (x ≡ y)) → b ≡ false → xs ≡ ys → ⊥
differ_at xs ys i x y b below size is_x is_y iff not_same same =
    false≢true (sym not_same ∙ iff.1 (is_x ∙ ap (λ (l : List Held). get_or l i x) same ∙ get_or_default ys i x y (omega (arith, below, size)) ∙ sym is_y))

pub same_more : (xs ys : List Held) (i : ℕ) (x y : Held) → i < length xs → (length xs ≡ length ys) → x ≡ get_or xs i x → y ≡ get_or ys i y → x ≡ y → take i xs ≡ take i ys → take (i + 1) xs ≡ take (i + 1) ys
same_more xs ys i x y below size is_x is_y same before =
    front_more xs i x below is_x ∙ ap (λ (l : List Held). l ++ x ∷ []) before ∙ ap (λ (z : Held). take i ys ++ z ∷ []) same ∙ sym (front_more ys i y (omega (arith, below, size)) is_y)

-- ---- the plain program

pub plain_reached : (kept : List Held) (x : Held) → AreApart kept → IsReachedBy kept x → IsContent kept (Either (Contains kept) (λ y. x ≡ y))
plain_reached kept x apart r = reached_content kept (Contains kept) x (IsContent-itself kept apart) r

pub plain_joined : (kept left new : List Held) (x : Held) → AreApart kept → (IsReachedBy kept x → ⊥) → IsLeftBy x kept left → new ≡ left ++ x ∷ [] → IsContent new (Either (Contains kept) (λ y. x ≡ y))
plain_joined kept left new x apart free gone e =
    subst (λ (l : List Held). IsContent l (Either (Contains kept) (λ y. x ≡ y))) (sym e) (joined_content kept left (left ++ x ∷ []) x apart free gone (λ y. contains_push left x y))

pub plain_more : (first kept now done all : List Held) (x : Held) → IsContent kept (Either (Contains first) (Contains done)) → IsContent now (Either (Contains kept) (λ y. x ≡ y)) → all ≡ done ++ x ∷ [] → IsContent now (Either (Contains first) (Contains all))
plain_more first kept now done all x before h e =
    subst (λ (l : List Held). IsContent now (Either (Contains first) (Contains l))) (sym e)
    (IsContent-same now (Either (Either (Contains first) (Contains done)) (λ y. x ≡ y)) (Either (Contains first) (Contains (done ++ x ∷ [])))
    (λ y u. elim u [
      | inl v ↦ elim v [ inl f ↦ inl f | inr d ↦ inr ((contains_push done x y).1 (inl d)) ]
      | inr s ↦ inr ((contains_push done x y).1 (inr s))
    ])
    (λ y u. elim u [
      | inl f ↦ inl (inl f)
      | inr k ↦ elim ((contains_push done x y).0 k) [ inl d ↦ inl (inr d) | inr s ↦ inr s ]
    ])
    (IsContent-onto kept now (Either (Contains first) (Contains done)) (λ y. x ≡ y) before h))

pub plain_start : (kept : List Held) → AreApart kept → IsContent kept (Either (Contains kept) (Contains []))
plain_start kept apart =
    IsContent-same kept (Contains kept) (Either (Contains kept) (Contains [])) (λ x k. inl k) (λ x u. elim u [ inl k ↦ k | inr n ↦ absurd (contains_nil x n) ]) (IsContent-itself kept apart)

-- none of those so far reaches x
pub none_more : (by : List Held) (x y : Held) (i : ℕ) → i < length by → y ≡ get_or by i y → (IsReachedBy (take i by) x → ⊥) → (y ≡ x → ⊥) → (Outranks y x → ⊥) → IsReachedBy (take (i + 1) by) x → ⊥
none_more by x y i below is none other under r =
    elim (subst (λ (l : List Held). IsReachedBy l x) (front_more by i y below is) r) [
      | inl k ↦ elim ((contains_push (take i by) y x).0 k) [ inl early ↦ none (inl early) | inr same ↦ other same ]
      | inr (z, k, over) ↦ elim ((contains_push (take i by) y z).0 k) [ inl early ↦ none (inr (z, early, over)) | inr same ↦ under (subst (λ (w : Held). Outranks w x) (sym same) over) ]
    ]

pub none_of_all : (by : List Held) (x : Held) (i : ℕ) → length by ≤ i → (IsReachedBy (take i by) x → ⊥) → IsReachedBy by x → ⊥
none_of_all by x i past none r = none (subst (λ (l : List Held). IsReachedBy l x) (sym (take_all i by past)) r)
