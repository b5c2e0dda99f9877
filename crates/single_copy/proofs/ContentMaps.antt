-- The map of a content, and what is shown of both.
use Rattle.std.proofs.Common.{◌≡◌, inl, inr, ℕ, ◌==◌, ◌&&◌, Bool, true, false, Option, Some, None, List, [], ◌∷◌, refl, sym, ap, subst, ◌∙◌, Contains, eqb-true, eq-eqb}
use Rattle.std.specs.Prelude.{if◌then◌else◌}
use Rattle.std.specs.Ordering.{nat_cmp, is_eq}
use Rattle.std.specs.Cmp.Lexicographic.{slice_cmp}
use Rattle.std.specs.declared.cmp.Ordering.{Ordering}
use Rattle.std.specs.declared.cmp.Ordering.TheVariants.{Less, Equal, Greater}
use Rattle.std.proofs.lemmas.Cmp.{nat_list_cmp_total, tied_itself}
use Rattle.changes.specs.declared.Place.{Place}
use Rattle.changes.specs.declared.Place.TheVariants.{Cell, Marker, RowGone, RangeGone, PartGone}
use Rattle.changes.specs.declared.Held.{Held}
use Rattle.changes.specs.declared.Query.{Query}
use Rattle.changes.specs.declared.ShownRow.{ShownRow}
use Rattle.changes.specs.Order.{rank_cmp}
use Rattle.changes.specs.Contents.{AreApart}
use Rattle.changes.specs.Shown.{IsTop, ShowsRow, AreShownCells, AreShownRows}
use Rattle.changes.proofs.Orderings.{bytes_exact, cases_ordering}
use Rattle.changes.proofs.Ranks.{rank_total, rank_exact}
use Rattle.cs_base.proofs.Members.{contains_nil, contains_here, contains_there, contains_cases}
use Rattle.single_copy.specs.Maps.{PartitionMap, InCell, AtMarker, IsMapOf}
use Rattle.single_copy.specs.ConditionalStep.{RowStands, AreCellsOf, AreRowsOf}
use Rattle.single_copy.specs.Laws.{ContentsHaveMaps, MapsShowRows, MapsShowRow}

abbrev same_row : List ℕ → List ℕ → Bool
same_row a b = is_eq (slice_cmp nat_cmp a b)

abbrev is_cell : List ℕ → ℕ → Place → Bool
is_cell row column (Cell r c) = same_row r row && (c == column)
is_cell row column (Marker r) = false
is_cell row column (RowGone r) = false
is_cell row column (RangeGone a b) = false
is_cell row column PartGone = false

abbrev is_marker : List ℕ → Place → Bool
is_marker row (Cell r c) = false
is_marker row (Marker r) = same_row r row
is_marker row (RowGone r) = false
is_marker row (RangeGone a b) = false
is_marker row PartGone = false

abbrev first_value : List ℕ → ℕ → List Held → Option (List ℕ)
first_value row column [] = None
first_value row column (x ∷ xs) = if is_cell row column x.place then x.value else first_value row column xs

abbrev has_marker : List ℕ → List Held → Bool
has_marker row [] = false
has_marker row (x ∷ xs) = if is_marker row x.place then true else has_marker row xs

abbrev pub map_of : List Held → PartitionMap
map_of content = record { marker = λ row. has_marker row content; value = λ row column. first_value row column content }

-- tests

eq_equal : (o : Ordering) → is_eq o ≡ true → o ≡ Equal
eq_equal Less e = cc
eq_equal Equal e = refl
eq_equal Greater e = cc

row_true : (a b : List ℕ) → same_row a b ≡ true → a ≡ b
row_true a b e = bytes_exact a b (eq_equal (slice_cmp nat_cmp a b) e)

row_from : (a b : List ℕ) → a ≡ b → same_row a b ≡ true
row_from a b e = ap (same_row a) (sym e) ∙ ap is_eq (tied_itself nat_list_cmp_total a)

and_both : (a b : Bool) → (a && b) ≡ true → (a ≡ true) × (b ≡ true)
and_both true b e = (refl, e)
and_both false b e = cc

both : (a b : Bool) → a ≡ true → b ≡ true → (a && b) ≡ true
both a b p q = rw p q

cell_true : (row : List ℕ) (column : ℕ) (p : Place) → is_cell row column p ≡ true → p ≡ Cell row column
cell_true row column (Cell r c) e = let t = and_both (same_row r row) (c == column) e in (λ i. Cell (row_true r row t.0 i) (eqb-true c column t.1 i))
cell_true row column (Marker r) e = cc
cell_true row column (RowGone r) e = cc
cell_true row column (RangeGone a b) e = cc
cell_true row column PartGone e = cc

cell_from : (row : List ℕ) (column : ℕ) (p : Place) → p ≡ Cell row column → is_cell row column p ≡ true
cell_from row column p e = subst (λ (z : Place). is_cell row column z ≡ true) (sym e) (both _ _ (row_from row row refl) (eq-eqb column column refl))

marker_true : (row : List ℕ) (p : Place) → is_marker row p ≡ true → p ≡ Marker row
marker_true row (Cell r c) e = cc
marker_true row (Marker r) e = ap Marker (row_true r row e)
marker_true row (RowGone r) e = cc
marker_true row (RangeGone a b) e = cc
marker_true row PartGone e = cc

marker_from : (row : List ℕ) (p : Place) → p ≡ Marker row → is_marker row p ≡ true
marker_from row p e = subst (λ (z : Place). is_marker row z ≡ true) (sym e) (row_from row row refl)

-- what is found

value_found : (row : List ℕ) (column : ℕ) (xs : List Held) (v : List ℕ) → first_value row column xs ≡ Some v → (x : Held) × Contains xs x × (x.place ≡ Cell row column) × (x.value ≡ Some v)
value_found row column [] v e = absurd (never e)
  where
    never : None ≡ Some v → ⊥
    never f = cc
value_found row column (x ∷ xs) v e = go (is_cell row column x.place) refl e (λ f. value_found row column xs v f)
  where
    go : (t : Bool) → is_cell row column x.place ≡ t → (if t then x.value else first_value row column xs) ≡ Some v
        → (first_value row column xs ≡ Some v → (z : Held) × Contains xs z × (z.place ≡ Cell row column) × (z.value ≡ Some v))
        → (z : Held) × Contains (x ∷ xs) z × (z.place ≡ Cell row column) × (z.value ≡ Some v)
    go true t f ih = (x, contains_here x xs, cell_true row column x.place t, f)
    go false t f ih = let r = ih f in (r.0, contains_there x xs r.0 r.1, r.2, r.3)

first_is : (row : List ℕ) (column : ℕ) (xs : List Held) (x : Held) → Contains xs x → x.place ≡ Cell row column → (z : Held) × Contains xs z × (z.place ≡ Cell row column) × (first_value row column xs ≡ z.value)
first_is row column [] x is at = absurd (contains_nil x is)
first_is row column (y ∷ ys) x is at = go (is_cell row column y.place) refl (λ rest. first_is row column ys x rest at)
  where
    differ : false ≡ true → ⊥
    differ f = cc

    go : (t : Bool) → is_cell row column y.place ≡ t → (Contains ys x → (z : Held) × Contains ys z × (z.place ≡ Cell row column) × (first_value row column ys ≡ z.value))
        → (z : Held) × Contains (y ∷ ys) z × (z.place ≡ Cell row column) × ((if t then y.value else first_value row column ys) ≡ z.value)
    go true t ih = (y, contains_here y ys, cell_true row column y.place t, refl)
    go false t ih = elim (contains_cases y ys x is) [
      | inl same ↦ absurd (differ (sym t ∙ cell_from row column y.place (ap (λ (z : Held). z.place) same ∙ at)))
      | inr rest ↦ (let r = ih rest in (r.0, contains_there y ys r.0 r.1, r.2, r.3))
    ]

marker_found : (row : List ℕ) (xs : List Held) → has_marker row xs ≡ true → (x : Held) × Contains xs x × (x.place ≡ Marker row)
marker_found row [] e = cc
marker_found row (x ∷ xs) e = go (is_marker row x.place) refl e (λ f. marker_found row xs f)
  where
    go : (t : Bool) → is_marker row x.place ≡ t → (if t then true else has_marker row xs) ≡ true → (has_marker row xs ≡ true → (z : Held) × Contains xs z × (z.place ≡ Marker row))
        → (z : Held) × Contains (x ∷ xs) z × (z.place ≡ Marker row)
    go true t f ih = (x, contains_here x xs, marker_true row x.place t)
    go false t f ih = let r = ih f in (r.0, contains_there x xs r.0 r.1, r.2)

marker_there : (row : List ℕ) (xs : List Held) (x : Held) → Contains xs x → x.place ≡ Marker row → has_marker row xs ≡ true
marker_there row [] x is at = absurd (contains_nil x is)
marker_there row (y ∷ ys) x is at = go (is_marker row y.place) refl (λ rest. marker_there row ys x rest at)
  where
    differ : false ≡ true → ⊥
    differ f = cc

    go : (t : Bool) → is_marker row y.place ≡ t → (Contains ys x → has_marker row ys ≡ true) → (if t then true else has_marker row ys) ≡ true
    go true t ih = refl
    go false t ih = elim (contains_cases y ys x is) [
      | inl same ↦ absurd (differ (sym t ∙ marker_from row y.place (ap (λ (z : Held). z.place) same ∙ at)))
      | inr rest ↦ ih rest
    ]

-- of one place a content has one change

one_of_place : (content : List Held) → AreApart content → (x y : Held) → Contains content x → Contains content y → x.place ≡ y.place → x ≡ y
one_of_place content apart x y a b same = elim (cases_ordering (rank_cmp x y)) [
  | inl less ↦ absurd (apart y x b a (inl (sym same, rank_total.antisymm y x ∙ ap Rattle.std.specs.Ordering.ordering_reverse less)))
  | inr (inl equal) ↦ rank_exact x y same equal
  | inr (inr greater) ↦ absurd (apart x y a b (inl (same, greater)))
]

top_of : (content : List Held) → AreApart content → (x : Held) → Contains content x → IsTop (Contains content) x
top_of content apart x is = (is, λ y there over. apart y x there is over)

marker_seen : (b : Bool) (v : List ℕ) → (if b then Some [] else None) ≡ Some v → (b ≡ true) × (v ≡ [])
marker_seen true v e = (refl, empty e)
  where
    empty : Some [] ≡ Some v → v ≡ []
    empty f = cc
marker_seen false v e = absurd (never e)
  where
    never : None ≡ Some v → ⊥
    never f = cc

pub content_map : (content : List Held) → AreApart content → IsMapOf content (map_of content)
content_map content apart (InCell row column) v = (
  λ e. let f = value_found row column content v e in (f.0, top_of content apart f.0 f.1, f.2, f.3),
  λ s.
      let f = first_is row column content s.0 s.1.0 s.2 in
      let same = one_of_place content apart f.0 s.0 f.1 s.1.0 (f.2 ∙ sym s.2) in
      f.3 ∙ ap (λ (z : Held). z.value) same ∙ s.3,
)
content_map content apart (AtMarker row) v = (
  λ e. let b = marker_seen (has_marker row content) v e in let f = marker_found row content b.0 in (f.0, top_of content apart f.0 f.1, f.2, b.1),
  λ s. ap (λ (t : Bool). if t then Some [] else None) (marker_there row content s.0 s.1.0 s.2) ∙ ap (λ (z : List ℕ). Some z) (sym s.3),
)

pub contents_have_maps : ContentsHaveMaps
contents_have_maps content apart = (map_of content, content_map content apart)

-- what is shown

module _ (content : List Held) (m : PartitionMap) (is : IsMapOf content m) where
  stands_from : (row : List ℕ) → ShowsRow (Contains content) row → RowStands m row
  stands_from row (inl (x, top, at)) = inl (marker_seen (m.marker row) [] ((is (AtMarker row) []).1 (x, top, at, refl))).0
  stands_from row (inr (column, value, shows)) = inr (column, value, (is (InCell row column) value).1 shows)

  stands_to : (row : List ℕ) → RowStands m row → ShowsRow (Contains content) row
  stands_to row (inl e) = let s = (is (AtMarker row) []).0 (ap (λ (t : Bool). if t then Some [] else None) e) in inl (s.0, s.1, s.2)
  stands_to row (inr (column, value, e)) = inr (column, value, (is (InCell row column) value).0 e)

  cells_of : (r : ShownRow) → AreShownCells (Contains content) r.row r.cells → AreCellsOf m r
  cells_of r shown = record {
    sorted = shown.sorted;
    each = λ column value. (λ there. (is (InCell r.row column) value).1 ((shown.each column value).0 there), λ e. (shown.each column value).1 ((is (InCell r.row column) value).0 e));
  }

  rows_of_map : (q : Query) (all : List ShownRow) → AreShownRows (Contains content) q all → AreRowsOf m q all
  rows_of_map q all shown = record {
    sorted = shown.sorted;
    each = λ row. (λ there. let s = (shown.each row).0 there in (stands_from row s.0, s.1), λ s. (shown.each row).1 (stands_to row s.0, s.1));
    cells = λ r there. cells_of r (shown.cells r there);
  }

pub maps_show_rows : MapsShowRows
maps_show_rows content m q rows more is (all, shown, taken, further) = (all, rows_of_map content m is q all shown, taken)

pub maps_show_row : MapsShowRow
maps_show_row content m row is = (
  λ r shows at cells. (stands_from content m is row shows, at, cells_of content m is r (subst (λ (z : List ℕ). AreShownCells (Contains content) z r.cells) (sym at) cells)),
  λ none stands. none (stands_to content m is row stands),
)
