-- Where in a list in order a change stands that outranks another one of its row.
use Rattle.std.proofs.Common.{◌≡◌, ℕ, ◌<◌, ◌≤◌, ◌⊎◌, ◌↔◌, inl, inr, true, false, Option, Some, None, IsSome, List, ◌++◌, length, get_or, refl, sym, ◌∙◌, ap, subst, arith, Contains}
use Rattle.std.specs.Prelude.{slice_get, IsSomeAnd, IsTrue, Bool}
use Rattle.std.specs.List.Sorted.{IsPartitionPoint}
use Rattle.std.specs.Ordering.{is_lt}
use Rattle.std.specs.declared.cmp.Ordering.TheVariants.{Less, Equal}
use Rattle.std.proofs.lemmas.Bool.{cases_lt, both_ways, false≢true}
use Rattle.std.proofs.lemmas.Cmp.{tied_itself}
use Rattle.std.proofs.lemmas.List.Elements.{All-contains, Contains-append_left, Contains-append_right, Contains-append_cases}
use Rattle.std.proofs.lemmas.Option.{slice_get_read, slice_get_past, slice_get_within, get_or_from_slice_get}
use Rattle.changes.specs.declared.Held.{Held}
use Rattle.changes.specs.declared.Place.{Place}
use Rattle.changes.specs.declared.Place.TheVariants.{Cell, Marker, RowGone, RangeGone, PartGone}
use Rattle.changes.specs.Order.{row_of, Encloses, Outranks}
use Rattle.changes.specs.Places.{AreInOrder, place_cmp, stored_cmp}
use Rattle.changes.specs.Totals.{place_total}
use Rattle.changes.proofs.Ranks.{above}
use Rattle.cell_merge.specs.Tests.{is_before_place, is_before_row}
use Rattle.cell_merge.specs.Parts.{IsOutrankedBy}
use Rattle.cell_merge.specs.Ranges.{AllInRows, IsInRow}
use Rattle.cell_merge.proofs.InOrder.{sorted_at}

-- ---- what is found at the place of a search

pub place_found : (xs : List Held) (q : Place) (i : ℕ) (y : Held) → AreInOrder xs → i ≤ length xs → IsPartitionPoint (λ z. is_before_place q z.place ≡ true) (λ z. is_before_place q z.place ≡ false) xs i
    → Contains xs y → y.place ≡ q → slice_get xs i ≡ Some y
place_found xs q i y ordered within point (k, below, at) same =
    let tied : place_cmp y.place q ≡ Equal = subst (λ (p : Place). place_cmp y.place p ≡ Equal) same (tied_itself place_total y.place) in
    elim (cases_lt k i) [
      | inl before ↦
          (let e = subst (λ (z : Held). is_before_place q z.place ≡ true) at (point.0 k y (omega arith) before) in
          let f = sym (ap is_lt tied) ∙ e in cc)
      | inr from ↦ elim (cases_lt i k) [
        | inl behind ↦
            (let less : stored_cmp (get_or xs i y) y ≡ Less = subst (λ (z : Held). stored_cmp (get_or xs i y) z ≡ Less) at (sorted_at stored_cmp xs i k y ordered behind below) in
            let e : place_cmp (get_or xs i y).place q ≡ Less = subst (λ (p : Place). place_cmp (get_or xs i y).place p ≡ Less) same less in
            absurd (both_ways (is_before_place q (get_or xs i y).place) (point.1 i y (omega arith) (omega (arith, behind, below))) (ap is_lt e)))
        | inr here ↦
            let same_at : k ≡ i = omega (arith, from, here) in
            slice_get_read xs (length xs) i y refl (omega (arith, same_at, below)) (subst (λ (n : ℕ). y ≡ get_or xs n y) same_at (sym at))
      ]
    ]

-- ---- changes of a row

row_enclosed : (p q : Place) (r : List ℕ) → Encloses p q → row_of p ≡ Some r → (p ≡ RowGone r) × (row_of q ≡ Some r)
row_enclosed (Cell a c) q r e h = absurd e
row_enclosed (Marker a) q r e h = absurd e
row_enclosed (RowGone a) (Cell b c) r e h = let same : a ≡ r = cc in (ap (λ (n : List ℕ). RowGone n) same, ap (λ (n : List ℕ). Some n) (sym e) ∙ h)
row_enclosed (RowGone a) (Marker b) r e h = let same : a ≡ r = cc in (ap (λ (n : List ℕ). RowGone n) same, ap (λ (n : List ℕ). Some n) (sym e) ∙ h)
row_enclosed (RowGone a) (RowGone b) r e h = absurd e
row_enclosed (RowGone a) (RangeGone f u) r e h = absurd e
row_enclosed (RowGone a) PartGone r e h = absurd e
row_enclosed (RangeGone f u) q r e h = cc
row_enclosed PartGone q r e h = cc

some_row : (o : Option (List ℕ)) → IsSome o → (r : List ℕ) × (o ≡ Some r)
some_row None h = cc
some_row (Some r) h = (r, refl)

some_bytes : {r s : List ℕ} → Some r ≡ Some s → r ≡ s
some_bytes e = cc

-- a change of a row that outranks another is at its place, or is the deletion of its row
row_above : (y x : Held) (r : List ℕ) → row_of y.place ≡ Some r → Outranks y x → ((y.place ≡ x.place) ⊎ (y.place ≡ RowGone r)) × (row_of x.place ≡ Some r)
row_above y x r h over =
    elim (above y x over) [
      | inl (same, g) ↦ (inl same, subst (λ (p : Place). row_of p ≡ Some r) same h)
      | inr (e, late) ↦ (let parts = row_enclosed y.place x.place r e h in (inr parts.0, parts.1))
    ]

pub none_of_wide : (rows : List Held) (x : Held) → AllInRows rows → row_of x.place ≡ None → IsOutrankedBy rows x → ⊥
none_of_wide rows x inside none (y, at, over) =
    let r = some_row (row_of y.place) (All-contains IsInRow rows y inside at) in
    let e = sym none ∙ (row_above y x r.0 r.1 over).1 in cc

pub found_outranks : (xs : List Held) (i : ℕ) (x : Held) (o : Option Held) → slice_get xs i ≡ o → IsSomeAnd o (λ y. Outranks y x) → IsOutrankedBy xs x
found_outranks xs i x None e h = absurd h
found_outranks xs i x (Some y) e h = (y, (i, slice_get_within xs i y e, get_or_from_slice_get xs i y y e), h)

outranks_found : (xs : List Held) (i : ℕ) (x y : Held) → slice_get xs i ≡ Some y → Outranks y x → IsSomeAnd (slice_get xs i) (λ z. Outranks z x)
outranks_found xs i x y e over = subst (λ (o : Option Held). IsSomeAnd o (λ z. Outranks z x)) (sym e) over

-- where the first of the row doesn't outrank x, the change at its place decides
pub row_search : (rows : List Held) (x : Held) (r : List ℕ) (start own : ℕ) (a b : Bool) → AreInOrder rows → AllInRows rows → row_of x.place ≡ Some r → start ≤ length rows → own ≤ length rows
    → IsPartitionPoint (λ z. is_before_row r z.place ≡ true) (λ z. is_before_row r z.place ≡ false) rows start
    → IsPartitionPoint (λ z. is_before_place x.place z.place ≡ true) (λ z. is_before_place x.place z.place ≡ false) rows own
    → (IsTrue a ↔ IsSomeAnd (slice_get rows start) (λ z. Outranks z x)) → a ≡ false → (IsTrue b ↔ IsSomeAnd (slice_get rows own) (λ z. Outranks z x)) → IsTrue b ↔ IsOutrankedBy rows x
row_search rows x r start own a b ordered inside in_row low high first at first_is not_first own_is = (
  λ t. found_outranks rows own x (slice_get rows own) refl (own_is.0 t),
  λ out.
      let y = out.0 in
      let q = some_row (row_of y.place) (All-contains IsInRow rows y inside out.1) in
      let up = row_above y x q.0 q.1 out.2 in
      elim up.0 [
        | inl same ↦ own_is.1 (outranks_found rows own x y (place_found rows x.place own y ordered high at out.1 same) out.2)
        | inr gone ↦
            (let row : q.0 ≡ r = some_bytes (sym up.1 ∙ in_row) in
            absurd (false≢true (sym not_first ∙ first_is.1
            (outranks_found rows start x y (place_found rows (RowGone r) start y ordered low first out.1 (gone ∙ ap (λ (n : List ℕ). RowGone n) row)) out.2))))
      ],
)

-- ---- both parts

pub outranked_in_both : (wide rows : List Held) (x : Held) (a b : Bool) → (IsTrue a ↔ IsOutrankedBy wide x) → (IsTrue b ↔ IsOutrankedBy rows x) → a ≡ false → IsTrue b ↔ IsOutrankedBy (wide ++ rows) x
outranked_in_both wide rows x a b over inside none = (
  λ t. (let out = inside.0 t in (out.0, Contains-append_right wide rows out.0 out.1, out.2)),
  λ out. elim (Contains-append_cases wide rows out.0 out.1) [
    | inl front ↦ absurd (false≢true (sym none ∙ over.1 (out.0, front, out.2)))
    | inr back ↦ inside.1 (out.0, back, out.2)
  ],
)

pub outranked_in_front : (wide rows : List Held) (x : Held) → IsOutrankedBy wide x → IsOutrankedBy (wide ++ rows) x
outranked_in_front wide rows x (y, at, over) = (y, Contains-append_left wide rows y at, over)

-- ---- one place

pub at_some : (xs : List Held) (i : ℕ) (x y : Held) (b : Bool) → i < length xs → y ≡ get_or xs i y → (IsTrue b ↔ Outranks y x) → IsTrue b ↔ IsSomeAnd (slice_get xs i) (λ z. Outranks z x)
at_some xs i x y b below is iff =
    subst (λ (o : Option Held). IsTrue b ↔ IsSomeAnd o (λ z. Outranks z x)) (sym (slice_get_read xs (length xs) i y refl below is)) iff

pub at_none : (xs : List Held) (i : ℕ) (x : Held) → length xs ≤ i → IsTrue false ↔ IsSomeAnd (slice_get xs i) (λ z. Outranks z x)
at_none xs i x past =
    subst (λ (o : Option Held). IsTrue false ↔ IsSomeAnd o (λ z. Outranks z x)) (sym (slice_get_past xs i past)) (λ t. absurd (false≢true t), λ h. absurd h)
