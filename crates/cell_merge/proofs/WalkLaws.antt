-- Changes in order, row by row.
use Rattle.std.proofs.Common.{◌≡◌, ◌≢◌, ℕ, ◌-◌, ◌<◌, ◌≤◌, ◌⊎◌, inl, inr, zero, suc, Bool, true, false, if◌then◌else◌, Option, Some, None, IsSome, List, [], ◌∷◌, ◌++◌, reverse, append-nil, filter, length, get_or, take, drop, refl, sym, ◌∙◌, ap, subst, arith, Contains}
use Rattle.std.specs.List.{AllByRecursion, HoldsAt}
use Rattle.std.specs.List.Sorted.{IsStrictlySortedBy}
use Rattle.std.specs.Cmp.{IsTotalOrder}
use Rattle.std.specs.Prelude.{slice_get}
use Rattle.std.specs.Ordering.{is_eq, is_lt}
use Rattle.std.specs.declared.cmp.Ordering.{Ordering}
use Rattle.std.specs.declared.cmp.Ordering.TheVariants.{Less, Equal}
use Rattle.std.proofs.lemmas.Bool.{cases_lt, and_parts, and_from}
use Rattle.std.proofs.lemmas.Option.{slice_get_within, get_or_from_slice_get}
use Rattle.std.proofs.lemmas.Cmp.{on_total, tied_itself}
use Rattle.std.proofs.lemmas.List.{take-append-drop, length-drop, reverse-append}
use Rattle.std.proofs.lemmas.List.Elements.{All-contains, All-take, All-drop, All-weaker, filter_passes}
use Rattle.std.proofs.lemmas.List.Kept.{IsStrictlySortedBy-filter}
use Rattle.changes.specs.declared.Bound.{Bound}
use Rattle.changes.specs.declared.Held.{Held}
use Rattle.changes.specs.declared.Place.{Place}
use Rattle.changes.specs.declared.Place.TheVariants.{Cell, Marker, RowGone, RangeGone, PartGone}
use Rattle.changes.specs.Queries.{MeetsBounds}
use Rattle.changes.specs.Order.{row_of, row_signs, IsBetween}
use Rattle.changes.specs.Places.{AreInOrder, stored_cmp}
use Rattle.changes.specs.Shown.{row_cmp}
use Rattle.changes.specs.Totals.{signs_total}
use Rattle.changes.proofs.Orderings.{cases_ordering, equal_is, bytes_exact}
use Rattle.changes.proofs.Signs.{rows_by_bytes}
use Rattle.changes.proofs.Sorted.{all_at, all_from, one_at}
use Rattle.cs_base.proofs.Members.{contains_nil, contains_here, contains_there, contains_cases, contains_one, contains_map, contains_filter, contains_from_filter}
use Rattle.cell_merge.specs.Ranges.{AllInRows, IsInRow}
use Rattle.cell_merge.specs.Walks.{row_named, row_at, with_change, by_rows, in_direction, AreOfRows, AllOf, IsNotOf, IsFirstRow, IsLastRow, names_of, IsGroupOf, AreRowsBetween}
use Rattle.cell_merge.proofs.InOrder.{sorted_front, sorted_back}
use Rattle.cell_merge.specs.Tests.{is_behind_bound, is_before_bound}
use Rattle.cell_merge.proofs.PlaceOrder.{rows_rise, behind_of, before_of}
use Rattle.cell_merge.proofs.SliceLaws.{is_between, between_meets}

abbrev pub Group : Type 0
Group = List ℕ × List Held

pub rows_total : IsTotalOrder row_cmp
rows_total = on_total row_signs signs_total

row_exact : (a b : List ℕ) → row_cmp a b ≡ Equal → a ≡ b
row_exact a b e = bytes_exact a b (sym (rows_by_bytes a b) ∙ e)

row_is : (x : Held) (r : List ℕ) → row_of x.place ≡ Some r → row_at x ≡ r
row_is x r h = ap row_named h

in_some : (o : Option (List ℕ)) → IsSome o → o ≡ Some (row_named o)
in_some None h = cc
in_some (Some r) h = refl

same_row : (r : List ℕ) → is_eq (row_cmp r r) ≡ true
same_row r = ap is_eq (tied_itself rows_total r)

other_row : (a b : List ℕ) → (a ≡ b → ⊥) → is_eq (row_cmp a b) ≡ false
other_row a b n = elim (cases_ordering (row_cmp a b)) [
  | inl less ↦ ap is_eq less
  | inr (inl equal) ↦ absurd (n (row_exact a b equal))
  | inr (inr greater) ↦ ap is_eq greater
]

-- ---- the first row

with_same : (x : Held) (g : Group) (groups : List Group) → is_eq (row_cmp (row_at x) g.0) ≡ true → with_change x (g ∷ groups) ≡ (g.0, x ∷ g.1) ∷ groups
with_same x g groups e = ap (λ (b : Bool). if b then (g.0, x ∷ g.1) ∷ groups else (row_at x, x ∷ []) ∷ g ∷ groups) e

with_other : (x : Held) (g : Group) (groups : List Group) → is_eq (row_cmp (row_at x) g.0) ≡ false → with_change x (g ∷ groups) ≡ (row_at x, x ∷ []) ∷ g ∷ groups
with_other x g groups e = ap (λ (b : Bool). if b then (g.0, x ∷ g.1) ∷ groups else (row_at x, x ∷ []) ∷ g ∷ groups) e

-- changes have a first row, that of the first of them
head_at : (b : Bool) (y : Held) (g : Group) (groups : List Group) → is_eq (row_cmp (row_at y) g.0) ≡ b → (h : Group) × (more : List Group) × (with_change y (g ∷ groups) ≡ h ∷ more) × (h.0 ≡ row_at y)
head_at true y g groups e = ((g.0, y ∷ g.1), groups, with_same y g groups e, sym (row_exact (row_at y) g.0 (equal_is (row_cmp (row_at y) g.0) e)))
head_at false y g groups e = ((row_at y, y ∷ []), g ∷ groups, with_other y g groups e, refl)

head_of : (y : Held) (groups : List Group) → (h : Group) × (more : List Group) × (with_change y groups ≡ h ∷ more) × (h.0 ≡ row_at y)
head_of y [] = ((row_at y, y ∷ []), [], refl, refl)
head_of y (g ∷ groups) = head_at (is_eq (row_cmp (row_at y) g.0)) y g groups refl

-- none, or the first is not of the row
abbrev StartsOther : List ℕ → List Held → Type 0
StartsOther r [] = Unit {0}
StartsOther r (y ∷ ys) = row_at y ≡ r → ⊥

one_row : (x : Held) (r : List ℕ) (rest : List Held) → row_at x ≡ r → StartsOther r rest → by_rows (x ∷ rest) ≡ (r, x ∷ []) ∷ by_rows rest
one_row x r [] e n = ap (λ (a : List ℕ). let g : List ℕ × List Held = (a, x ∷ []) in g ∷ []) e
one_row x r (y ∷ ys) e n =
    let h = head_of y (by_rows ys) in
    let apart : row_at x ≡ h.0.0 → ⊥ = λ same. n (sym h.3 ∙ sym same ∙ e) in
    ap (with_change x) h.2 ∙ with_other x h.0 h.1 (other_row (row_at x) h.0.0 apart) ∙ ap (λ (l : List Group). (row_at x, x ∷ []) ∷ l) (sym h.2)
    ∙ ap (λ (a : List ℕ). let g : List ℕ × List Held = (a, x ∷ []) in g ∷ by_rows (y ∷ ys)) e

front_rows : (x : Held) (front rest : List Held) (r : List ℕ) → AllByRecursion (λ y. row_at y ≡ r) (x ∷ front) → StartsOther r rest → by_rows ((x ∷ front) ++ rest) ≡ (r, x ∷ front) ∷ by_rows rest
front_rows x [] rest r all n = one_row x r rest all.0 n
front_rows x (y ∷ front) rest r all n =
    ap (with_change x) (front_rows y front rest r all.1 n)
    ∙ with_same x (r, y ∷ front) (by_rows rest) (ap (λ (a : List ℕ). is_eq (row_cmp a r)) all.0 ∙ same_row r)

-- ---- the last row

-- none, or the last is not of the row
abbrev EndsOther : List ℕ → List Held → Type 0
EndsOther r [] = Unit {0}
EndsOther r (x ∷ []) = row_at x ≡ r → ⊥
EndsOther r (x ∷ y ∷ ys) = EndsOther r (y ∷ ys)

with_more : (x : Held) (g : Group) (groups more : List Group) → with_change x ((g ∷ groups) ++ more) ≡ with_change x (g ∷ groups) ++ more
with_more x g groups more =
    elim (is_eq (row_cmp (row_at x) g.0)) as (λ b. (if b then (g.0, x ∷ g.1) ∷ (groups ++ more) else (row_at x, x ∷ []) ∷ g ∷ (groups ++ more)) ≡ (if b then (g.0, x ∷ g.1) ∷ groups else (row_at x, x ∷ []) ∷ g ∷ groups) ++ more) [
      | true ↦ refl
      | false ↦ refl
    ]

back_rows : (rest : List Held) (z : Held) (back : List Held) (r : List ℕ) → AllByRecursion (λ y. row_at y ≡ r) (z ∷ back) → EndsOther r rest → by_rows (rest ++ (z ∷ back)) ≡ by_rows rest ++ (r, z ∷ back) ∷ []
back_rows [] z back r all n = ap by_rows (sym (append-nil (z ∷ back))) ∙ front_rows z back [] r all tt
back_rows (x ∷ []) z back r all n =
    ap (with_change x) (back_rows [] z back r all tt) ∙ with_other x (r, z ∷ back) [] (other_row (row_at x) r n)
back_rows (x ∷ y ∷ ys) z back r all n =
    let h = head_of y (by_rows ys) in
    ap (with_change x) (back_rows (y ∷ ys) z back r all n)
    ∙ ap (λ (l : List Group). with_change x (l ++ (r, z ∷ back) ∷ [])) h.2 ∙ with_more x h.0 h.1 ((r, z ∷ back) ∷ [])
    ∙ ap (λ (l : List Group). with_change x l ++ (r, z ∷ back) ∷ []) (sym h.2)

-- ---- what the code finds

all_front : (r : List ℕ) (xs : List Held) (n : ℕ) → AllOf r xs 0 n → n ≤ length xs → AllByRecursion (λ y. row_at y ≡ r) (take n xs)
all_front r [] zero h b = tt
all_front r [] (suc n) h b = tt
all_front r (x ∷ xs) zero h b = tt
all_front r (x ∷ xs) (suc n) h b = (row_is x r (h 0 x (omega arith) (omega arith)), all_front r xs n (λ k d low below. h (suc k) d (omega arith) (omega (arith, below))) (omega (arith, b)))

all_back : (r : List ℕ) (xs : List Held) (n : ℕ) → AllOf r xs n (length xs) → AllByRecursion (λ y. row_at y ≡ r) (drop n xs)
all_back r [] zero h = tt
all_back r [] (suc n) h = tt
all_back r (x ∷ xs) zero h = (row_is x r (h 0 x (omega arith) (omega arith)), all_back r xs zero (λ k d low below. h (suc k) d (omega arith) (omega (arith, below))))
all_back r (x ∷ xs) (suc n) h = all_back r xs n (λ k d low below. h (suc k) d (omega (arith, low)) (omega (arith, below)))

not_of : (x : Held) (r : List ℕ) → IsInRow x → (row_of x.place ≡ Some r → ⊥) → row_at x ≡ r → ⊥
not_of x r some n e = n (in_some (row_of x.place) some ∙ ap (λ (a : List ℕ). Some a) e)

starts_other : (r : List ℕ) (xs : List Held) (n : ℕ) → AllInRows xs → (n < length xs → IsNotOf r xs n) → StartsOther r (drop n xs)
starts_other r [] zero all h = tt
starts_other r [] (suc n) all h = tt
starts_other r (x ∷ xs) zero all h = not_of x r (all 0 x (omega arith)) (h (omega arith) x)
starts_other r (x ∷ xs) (suc n) all h = starts_other r xs n (λ k d below. all (suc k) d (omega (arith, below))) (λ below d. h (omega (arith, below)) d)

one_less : (n : ℕ) → suc n - 1 ≡ n
one_less n = omega arith

ends_other : (r : List ℕ) (xs : List Held) (n : ℕ) → AllInRows xs → n ≤ length xs → (0 < n → IsNotOf r xs (n - 1)) → EndsOther r (take n xs)
ends_other r [] zero all b h = tt
ends_other r [] (suc n) all b h = tt
ends_other r (x ∷ xs) zero all b h = tt
ends_other r (x ∷ xs) (suc zero) all b h = not_of x r (all 0 x (omega arith)) (subst (λ (k : ℕ). row_of (get_or (x ∷ xs) k x).place ≡ Some r → ⊥) (one_less zero) (h (omega arith) x))
ends_other r (x ∷ []) (suc (suc n)) all b h = absurd (omega (arith, b))
ends_other r (x ∷ y ∷ ys) (suc (suc n)) all b h =
    ends_other r (y ∷ ys) (suc n) (λ k d below. all (suc k) d (omega (arith, below))) (omega (arith, b))
    (λ some d. subst (λ (k : ℕ). row_of (get_or (y ∷ ys) k d).place ≡ Some r → ⊥) (sym (one_less n)) (subst (λ (k : ℕ). row_of (get_or (x ∷ y ∷ ys) k d).place ≡ Some r → ⊥) (one_less (suc n)) (h (omega arith) d)))

pub of_rows_back : (xs : List Held) (n : ℕ) → AreOfRows xs → AreOfRows (drop n xs)
of_rows_back xs n h = record {
  ordered = sorted_back stored_cmp (take n xs) (drop n xs) (subst AreInOrder (sym (take-append-drop n xs)) h.ordered);
  inside = All-drop IsInRow n xs h.inside;
}

pub of_rows_front : (xs : List Held) (n : ℕ) → AreOfRows xs → AreOfRows (take n xs)
of_rows_front xs n h = record {
  ordered = sorted_front stored_cmp (take n xs) (drop n xs) (subst AreInOrder (sym (take-append-drop n xs)) h.ordered);
  inside = All-take IsInRow n xs h.inside;
}

pub first_row_is : (xs : List Held) (r : List ℕ) (n : ℕ) → AreOfRows xs → 0 < length xs → HoldsAt (λ x. row_of x.place ≡ Some r) xs 0 → n ≤ length xs → AllOf r xs 0 n → (n < length xs → IsNotOf r xs n) → IsFirstRow xs r (take n xs) (drop n xs)
first_row_is [] r n h some first within all next = absurd (omega (arith, some))
first_row_is (x ∷ xs) r zero h some first within all next = absurd (next (omega arith) x (first x))
first_row_is (x ∷ xs) r (suc n) h some first within all next =
    let fronts : AllByRecursion (λ y. row_at y ≡ r) (x ∷ take n xs) = all_front r (x ∷ xs) (suc n) all within in (
      ap (λ (l : List Held). by_rows (x ∷ l)) (sym (take-append-drop n xs)) ∙ front_rows x (take n xs) (drop n xs) r fronts (starts_other r (x ∷ xs) (suc n) h.inside next),
      of_rows_back (x ∷ xs) (suc n) h,
    )

back_split : (xs back : List Held) (r : List ℕ) (n : ℕ) → back ≡ drop n xs → 0 < length back → AllByRecursion (λ y. row_at y ≡ r) back → EndsOther r (take n xs) → by_rows (take n xs ++ back) ≡ by_rows (take n xs) ++ (r, back) ∷ []
back_split xs [] r n e some all ends = absurd (omega (arith, some))
back_split xs (z ∷ back) r n e some all ends = back_rows (take n xs) z back r all ends

pub last_row_is : (xs : List Held) (r : List ℕ) (n : ℕ) → AreOfRows xs → 0 < length xs → HoldsAt (λ x. row_of x.place ≡ Some r) xs (length xs - 1) → n ≤ length xs → AllOf r xs n (length xs) → (0 < n → IsNotOf r xs (n - 1)) → IsLastRow xs r (drop n xs) (take n xs)
last_row_is [] r n h some last within all before = absurd (omega (arith, some))
last_row_is (x ∷ xs) r n h some last within all before =
    let inner : n < length (x ∷ xs) = elim (cases_lt n (length (x ∷ xs))) [
      | inl lt ↦ lt
      | inr ge ↦
          let end : length (x ∷ xs) ≡ n = omega (arith, ge, within) in
          absurd (before (omega (arith, end)) x (subst (λ (k : ℕ). row_of (get_or (x ∷ xs) (k - 1) x).place ≡ Some r) end (last x)))
    ] in
    let size : 0 < length (drop n (x ∷ xs)) = omega (arith, length-drop n (x ∷ xs), inner) in (
      ap by_rows (sym (take-append-drop n (x ∷ xs))) ∙ back_split (x ∷ xs) (drop n (x ∷ xs)) r n refl size (all_back r (x ∷ xs) n all) (ends_other r (x ∷ xs) n h.inside within before),
      of_rows_front (x ∷ xs) n h,
    )

pub next_first : (xs : List Held) (r : List ℕ) (front rest : List Held) → IsFirstRow xs r front rest → (in_direction false (by_rows xs) ≡ (r, front) ∷ in_direction false (by_rows rest)) × AreOfRows rest
next_first xs r front rest h = h

pub next_last : (xs : List Held) (r : List ℕ) (back rest : List Held) → IsLastRow xs r back rest → (in_direction true (by_rows xs) ≡ (r, back) ∷ in_direction true (by_rows rest)) × AreOfRows rest
next_last xs r back rest h = (ap (λ (l : List Group). reverse l) h.0 ∙ reverse-append (by_rows rest) ((r, back) ∷ []), h.1)

-- ---- the rows of a content

-- the rows of changes, each with all its changes
record IsGrouping (xs : List Held) (groups : List Group) : Type 0 where
  sorted : IsStrictlySortedBy row_cmp (names_of groups)
  told : (g : Group) → Contains groups g → (x : Held) → Contains g.1 x → Contains xs x × (row_at x ≡ g.0)
  filled : (g : Group) → Contains groups g → (x : Held) × Contains g.1 x
  ordered : (g : Group) → Contains groups g → AreInOrder g.1
  found : (x : Held) → Contains xs x → (g : Group) × Contains groups g × (g.0 ≡ row_at x) × Contains g.1 x

no_groups : IsGrouping [] []
unfolding IsStrictlySortedBy
no_groups = record {
  sorted = tt;
  told = λ g k. absurd (contains_nil g k);
  filled = λ g k. absurd (contains_nil g k);
  ordered = λ g k. absurd (contains_nil g k);
  found = λ x k. absurd (contains_nil x k);
}

-- x begins a row of its own, before all others
grouping_new : (x : Held) (xs : List Held) (groups : List Group) → IsGrouping xs groups → AllByRecursion (λ n. row_cmp (row_at x) n ≡ Less) (names_of groups) → IsGrouping (x ∷ xs) ((row_at x, x ∷ []) ∷ groups)
unfolding IsStrictlySortedBy
grouping_new x xs groups h below =
    let mine : Group = (row_at x, x ∷ []) in
    let cases : (g : Group) → Contains {X = Group} ((row_at x, x ∷ []) ∷ groups) g → ((row_at x, x ∷ []) ≡ g) ⊎ Contains groups g = λ g k. contains_cases {X = Group} (row_at x, x ∷ []) groups g k in
    record {
      sorted = (below, h.sorted);
      told = λ g k. elim (cases g k) [
        | inl e ↦ subst (λ (d : Group). (y : Held) → Contains d.1 y → Contains (x ∷ xs) y × (row_at y ≡ d.0)) e
            (λ y c. let same : x ≡ y = contains_one x y c in subst (λ (z : Held). Contains (x ∷ xs) z × (row_at z ≡ row_at x)) same (contains_here x xs, refl))
        | inr later ↦ λ y c. (let t = h.told g later y c in (contains_there x xs y t.0, t.1))
      ];
      filled = λ g k. elim (cases g k) [
        | inl e ↦ subst (λ (d : Group). (y : Held) × Contains d.1 y) e (x, contains_here x [])
        | inr later ↦ h.filled g later
      ];
      ordered = λ g k. elim (cases g k) [
        | inl e ↦ subst (λ (d : Group). AreInOrder d.1) e (tt, tt)
        | inr later ↦ h.ordered g later
      ];
      found = λ y k. elim (contains_cases x xs y k) [
        | inl e ↦ subst (λ (z : Held). (g : Group) × Contains {X = Group} ((row_at x, x ∷ []) ∷ groups) g × (g.0 ≡ row_at z) × Contains g.1 z) e
            ((row_at x, x ∷ []), contains_here {X = Group} (row_at x, x ∷ []) groups, refl, contains_here x [])
        | inr later ↦ (let f = h.found y later in (f.0, contains_there {X = Group} (row_at x, x ∷ []) groups f.0 f.1, f.2, f.3))
      ];
    }

-- x is of the first row
grouping_same : (x : Held) (xs : List Held) (first : Group) (groups : List Group) → IsGrouping xs (first ∷ groups) → row_at x ≡ first.0 → ((y : Held) → Contains xs y → stored_cmp x y ≡ Less) → IsGrouping (x ∷ xs) ((first.0, x ∷ first.1) ∷ groups)
unfolding IsStrictlySortedBy
grouping_same x xs first groups h same below =
    let cases : (g : Group) → Contains {X = Group} ((first.0, x ∷ first.1) ∷ groups) g → ((first.0, x ∷ first.1) ≡ g) ⊎ Contains groups g = λ g k. contains_cases {X = Group} (first.0, x ∷ first.1) groups g k in
    let head : Contains (first ∷ groups) first = contains_here first groups in
    let old : (g : Group) → Contains groups g → Contains (first ∷ groups) g = λ g k. contains_there first groups g k in
    record {
      sorted = h.sorted;
      told = λ g k. elim (cases g k) [
        | inl e ↦ subst (λ (d : Group). (y : Held) → Contains d.1 y → Contains (x ∷ xs) y × (row_at y ≡ d.0)) e
            (λ y c. elim (contains_cases x first.1 y c) [
              | inl is ↦ subst (λ (z : Held). Contains (x ∷ xs) z × (row_at z ≡ first.0)) is (contains_here x xs, same)
              | inr later ↦ (let t = h.told first head y later in (contains_there x xs y t.0, t.1))
            ])
        | inr later ↦ λ y c. (let t = h.told g (old g later) y c in (contains_there x xs y t.0, t.1))
      ];
      filled = λ g k. elim (cases g k) [
        | inl e ↦ subst (λ (d : Group). (y : Held) × Contains d.1 y) e (x, contains_here x first.1)
        | inr later ↦ h.filled g (old g later)
      ];
      ordered = λ g k. elim (cases g k) [
        | inl e ↦ subst (λ (d : Group). AreInOrder d.1) e (all_from (λ y. stored_cmp x y ≡ Less) first.1 (λ y c. below y (h.told first head y c).0), h.ordered first head)
        | inr later ↦ h.ordered g (old g later)
      ];
      found = λ y k. elim (contains_cases x xs y k) [
        | inl e ↦ subst (λ (z : Held). (g : Group) × Contains {X = Group} ((first.0, x ∷ first.1) ∷ groups) g × (g.0 ≡ row_at z) × Contains g.1 z) e
            ((first.0, x ∷ first.1), contains_here {X = Group} (first.0, x ∷ first.1) groups, sym same, contains_here x first.1)
        | inr later ↦
            (let f = h.found y later in
            elim (contains_cases first groups f.0 f.1) [
              | inl e ↦ ((first.0, x ∷ first.1), contains_here {X = Group} (first.0, x ∷ first.1) groups, ap (λ (d : Group). d.0) e ∙ f.2, contains_there x first.1 y (subst (λ (d : Group). Contains d.1 y) (sym e) f.3))
              | inr more ↦ (f.0, contains_there {X = Group} (first.0, x ∷ first.1) groups f.0 more, f.2, f.3)
            ])
      ];
    }

below_all : (x : Held) (xs : List Held) (first : Group) (groups : List Group) → IsGrouping xs (first ∷ groups) → row_cmp (row_at x) first.0 ≡ Less → AllByRecursion (λ n. row_cmp (row_at x) n ≡ Less) (names_of (first ∷ groups))
unfolding IsStrictlySortedBy
below_all x xs first groups h less = (less, all_above (names_of groups) h.sorted.0)
  where
    all_above : (ns : List (List ℕ)) → AllByRecursion (λ n. row_cmp first.0 n ≡ Less) ns → AllByRecursion (λ n. row_cmp (row_at x) n ≡ Less) ns
    all_above [] a = tt
    all_above (n ∷ ns) a = (rows_total.trans (row_at x) first.0 n less a.0, all_above ns a.1)

grouping_more : (x : Held) (xs : List Held) (groups : List Group) → IsGrouping xs groups → AreOfRows (x ∷ xs) → IsGrouping (x ∷ xs) (with_change x groups)
unfolding IsStrictlySortedBy
grouping_more x xs [] h rows = grouping_new x xs [] h tt
grouping_more x xs (first ∷ groups) h rows =
    let y = h.filled first (contains_here first groups) in
    let at = h.told first (contains_here first groups) y.0 y.1 in
    let below : stored_cmp x y.0 ≡ Less = all_at (λ z. stored_cmp x z ≡ Less) xs y.0 rows.ordered.0 at.0 in
    let mine = in_some (row_of x.place) (rows.inside 0 x (omega arith)) in
    let its = in_some (row_of y.0.place) (All-contains IsInRow (x ∷ xs) y.0 rows.inside (contains_there x xs y.0 at.0)) ∙ ap (λ (a : List ℕ). Some a) at.1 in
    let not_above = rows_rise x.place y.0.place (row_at x) first.0 mine its below in
    elim (cases_ordering (row_cmp (row_at x) first.0)) [
      | inl less ↦ subst (IsGrouping (x ∷ xs)) (sym (with_other x first groups (ap is_eq less))) (grouping_new x xs (first ∷ groups) h (below_all x xs first groups h less))
      | inr (inl equal) ↦ subst (IsGrouping (x ∷ xs)) (sym (with_same x first groups (ap is_eq equal)))
          (grouping_same x xs first groups h (row_exact (row_at x) first.0 equal) (λ z k. all_at (λ w. stored_cmp x w ≡ Less) xs z rows.ordered.0 k))
      | inr (inr greater) ↦ absurd (not_above greater)
    ]

grouping : (xs : List Held) → AreOfRows xs → IsGrouping xs (by_rows xs)
grouping [] h = no_groups
grouping (x ∷ xs) h = grouping_more x xs (by_rows xs) (grouping xs (of_rows_back (x ∷ xs) 1 h)) h

-- ---- what the code reads

at_place : (xs : List Held) (i : ℕ) (x : Held) (r : List ℕ) → Some x ≡ slice_get xs i → Some r ≡ row_of x.place → HoldsAt (λ y. row_of y.place ≡ Some r) xs i
at_place xs i x r at row d = subst (λ (y : Held). row_of y.place ≡ Some r) (sym (get_or_from_slice_get xs i x d (sym at))) (sym row)

pub first_told : (xs front rest : List Held) (x : Held) (r : List ℕ) (n : ℕ) → AreOfRows xs → Some x ≡ slice_get xs 0 → Some r ≡ row_of x.place → n ≤ length xs → AllOf r xs 0 n → (n < length xs → IsNotOf r xs n) → front ≡ take n xs → rest ≡ drop n xs → IsFirstRow xs r front rest
first_told xs front rest x r n h at row within all next e f =
    subst (λ (l : List Held). IsFirstRow xs r l rest) (sym e) (subst (λ (l : List Held). IsFirstRow xs r (take n xs) l) (sym f)
    (first_row_is xs r n h (slice_get_within xs 0 x (sym at)) (at_place xs 0 x r at row) within all next))

pub last_told : (xs back rest : List Held) (x : Held) (r : List ℕ) (n : ℕ) → AreOfRows xs → Some x ≡ slice_get xs (length xs - 1) → Some r ≡ row_of x.place → n ≤ length xs → AllOf r xs n (length xs) → (0 < n → IsNotOf r xs (n - 1)) → rest ≡ take n xs → back ≡ drop n xs → IsLastRow xs r back rest
last_told xs back rest x r n h at row within all before e f =
    let some : 0 < length xs = omega (arith, slice_get_within xs (length xs - 1) x (sym at)) in
    subst (λ (l : List Held). IsLastRow xs r l rest) (sym f) (subst (λ (l : List Held). IsLastRow xs r (drop n xs) l) (sym e)
    (last_row_is xs r n h some (at_place xs (length xs - 1) x r at row) within all before))

-- ---- between bounds

meets_row : (from upto : Bound) (p : Place) (r : List ℕ) → row_of p ≡ Some r → MeetsBounds from upto p → IsBetween from upto r
meets_row from upto PartGone r e m = cc
meets_row from upto (RangeGone a b) r e m = cc
meets_row from upto (RowGone s) r e m = let same : s ≡ r = cc in subst (IsBetween from upto) same m
meets_row from upto (Marker s) r e m = let same : s ≡ r = cc in subst (IsBetween from upto) same m
meets_row from upto (Cell s c) r e m = let same : s ≡ r = cc in subst (IsBetween from upto) same m

row_passes : (from upto : Bound) (x : Held) (r : List ℕ) → row_of x.place ≡ Some r → IsBetween from upto r → is_between from upto x ≡ true
row_passes from upto x r e m =
    and_from (is_behind_bound from x.place) (is_before_bound upto x.place) (behind_of from x.place r e ∙ ap is_lt m.0) (before_of upto x.place r e ∙ ap is_lt m.1)

passes_row : (from upto : Bound) (x : Held) → is_between from upto x ≡ true → IsInRow x
passes_row from upto x t = in_row_at x.place (and_parts (is_behind_bound from x.place) (is_before_bound upto x.place) t).0
  where
    in_row_at : (p : Place) → is_behind_bound from p ≡ true → IsSome (row_of p)
    in_row_at PartGone h = cc
    in_row_at (RangeGone a b) h = cc
    in_row_at (RowGone s) h = refl
    in_row_at (Marker s) h = refl
    in_row_at (Cell s c) h = refl

pub between_of_rows : (from upto : Bound) (content : List Held) → AreInOrder content → AreOfRows (filter (is_between from upto) content)
between_of_rows from upto content ordered = record {
  ordered = IsStrictlySortedBy-filter stored_cmp (is_between from upto) content ordered;
  inside = All-weaker (λ x. is_between from upto x ≡ true) IsInRow (passes_row from upto) (filter (is_between from upto) content) (filter_passes (is_between from upto) content);
}

abbrev group_cmp : Group → Group → Ordering
group_cmp g h = row_cmp g.0 h.0

groups_sorted : (groups : List Group) → IsStrictlySortedBy row_cmp (names_of groups) → IsStrictlySortedBy group_cmp groups
unfolding IsStrictlySortedBy
groups_sorted [] h = tt
groups_sorted (g ∷ groups) h = (all_groups groups h.0, groups_sorted groups h.1)
  where
    all_groups : (gs : List Group) → AllByRecursion (λ n. row_cmp g.0 n ≡ Less) (names_of gs) → AllByRecursion (λ d. group_cmp g d ≡ Less) gs
    all_groups [] a = tt
    all_groups (d ∷ gs) a = (a.0, all_groups gs a.1)

one_group : (groups : List Group) → IsStrictlySortedBy row_cmp (names_of groups) → (g h : Group) → Contains groups g → Contains groups h → g.0 ≡ h.0 → g ≡ h
one_group groups sorted g h kg kh same =
    one_at (on_total (λ (d : Group). d.0) rows_total) groups (groups_sorted groups sorted) g h kg kh (subst (λ (n : List ℕ). row_cmp g.0 n ≡ Equal) same (tied_itself rows_total g.0))

module _ (from upto : Bound) (content : List Held) (ordered : AreInOrder content) where
  abbrev chosen : List Held
  chosen = filter (is_between from upto) content

  of_rows : AreOfRows (filter (is_between from upto) content)
  of_rows = between_of_rows from upto content ordered

  parts : IsGrouping (filter (is_between from upto) content) (by_rows (filter (is_between from upto) content))
  parts = grouping (filter (is_between from upto) content) of_rows

  row_of_chosen : (x : Held) → Contains (filter (is_between from upto) content) x → row_of x.place ≡ Some (row_at x)
  row_of_chosen x k = in_some (row_of x.place) (All-contains IsInRow (filter (is_between from upto) content) x of_rows.inside k)

  between_name : (g : Group) → Contains (by_rows (filter (is_between from upto) content)) g → IsBetween from upto g.0
  between_name g k =
      let x = parts.filled g k in
      let t = parts.told g k x.0 x.1 in
      meets_row from upto x.0.place g.0 (row_of_chosen x.0 t.0 ∙ ap (λ (n : List ℕ). Some n) t.1) (between_meets from upto x.0.place (contains_from_filter (is_between from upto) content x.0 t.0).1)

  not_empty : (g : Group) → Contains (by_rows (filter (is_between from upto) content)) g → g.1 ≢ []
  not_empty g k e = let x = parts.filled g k in contains_nil x.0 (subst (λ (l : List Held). Contains l x.0) e x.1)

  whole_group : (g : Group) → Contains (by_rows (filter (is_between from upto) content)) g → IsGroupOf content g
  whole_group g k x = (
    λ c. (let t = parts.told g k x c in ((contains_from_filter (is_between from upto) content x t.0).0, row_of_chosen x t.0 ∙ ap (λ (n : List ℕ). Some n) t.1)),
    λ h.
        let f = parts.found x (contains_filter (is_between from upto) content x h.0 (row_passes from upto x g.0 h.1 (between_name g k))) in
        let same : f.0 ≡ g = one_group (by_rows (filter (is_between from upto) content)) parts.sorted f.0 g f.1 k (f.2 ∙ row_is x g.0 h.1) in
        subst (λ (d : Group). Contains d.1 x) same f.3,
  )

  pub rows_are_between : AreRowsBetween from upto content (by_rows (filter (is_between from upto) content))
  rows_are_between = record {
    sorted = parts.sorted;
    within = λ g k. (between_name g k, not_empty g k, whole_group g k);
    ordered = parts.ordered;
    all = λ x row k e m.
        let f = parts.found x (contains_filter (is_between from upto) content x k (row_passes from upto x row e m)) in
        subst (λ (n : List ℕ). Contains (names_of (by_rows (filter (is_between from upto) content))) n) (f.2 ∙ row_is x row e) (contains_map (λ (g : Group). g.0) (by_rows (filter (is_between from upto) content)) f.0 f.1);
  }
