-- The rows that are found between two bounds are those that the content shows there.
use Rattle.std.proofs.Common.{◌≡◌, ℕ, ◌⊎◌, ◌↔◌, inl, inr, Bool, true, false, if◌then◌else◌, List, [], ◌∷◌, ◌++◌, Option, Some, None, refl, sym, ◌∙◌, ap, subst, length, nat_lt, Contains}
use Rattle.std.specs.List.{filter_map, list_any, AllByRecursion}
use Rattle.std.specs.List.Sorted.{IsStrictlySortedBy}
use Rattle.std.specs.Map.{keys_of}
use Rattle.std.specs.Ordering.{nat_cmp}
use Rattle.std.specs.declared.cmp.Ordering.TheVariants.{Less}
use Rattle.std.proofs.lemmas.Bool.{cases_Bool, both_ways, or_cases, or_parts}
use Rattle.std.proofs.lemmas.List.{length-reverse}
use Rattle.std.proofs.lemmas.List.Elements.{All-from_recursion, All-contains}
use Rattle.changes.specs.declared.Place.{Place}
use Rattle.changes.specs.declared.Place.TheVariants.{Cell, Marker, RowGone, RangeGone, PartGone}
use Rattle.changes.specs.declared.Held.{Held}
use Rattle.changes.specs.declared.Query.{Query}
use Rattle.changes.specs.declared.ShownRow.{ShownRow}
use Rattle.changes.specs.declared.ShownCell.{ShownCell}
use Rattle.changes.specs.Order.{row_of, IsBetween}
use Rattle.changes.specs.Contents.{AreApart}
use Rattle.changes.specs.Shown.{IsTop, ShowsCell, ShowsRow, row_cmp, rows_of, columns_of, AreShownCells, AreShownRows, in_order, IsShown}
use Rattle.cs_base.proofs.Members.{contains_nil, contains_here, contains_there, contains_cases, contains_filter_map, contains_from_filter_map, contains_map, contains_from_map}
use Rattle.cell_merge.specs.Walks.{names_of, IsGroupOf, AreRowsBetween, IsWalkOver}
use Rattle.row_select.specs.Rows.{is_sign, is_sign_of_row, cell_of, cell_of_held, rows_with, IsPageOf}
use Rattle.row_select.proofs.Groups.{AreRowGroups, AreCellsOf, IsRowOf, pairs_of, names_with}
use Rattle.row_select.proofs.RowLaws.{names_are, rows_are, rows_in_direction}

-- an element that passes
some_passes : {X : Type 0} (p : X → Bool) (xs : List X) → list_any p xs ≡ true → (x : X) × Contains xs x × (p x ≡ true)
some_passes p [] h = cc
some_passes {X} p (y ∷ ys) h =
    elim (or_cases (p y) (list_any p ys) h) [
      | inl t ↦ (y, contains_here y ys, t)
      | inr rest ↦ let r : (x : X) × Contains ys x × (p x ≡ true) = some_passes p ys rest in (r.0, contains_there y ys r.0 r.1, r.2)
    ]

-- none passes
none_passes : {X : Type 0} (p : X → Bool) (xs : List X) → list_any p xs ≡ false → (x : X) → Contains xs x → p x ≡ false
none_passes p [] h x at = absurd (contains_nil x at)
none_passes p (y ∷ ys) h x at =
    let parts = or_parts (p y) (list_any p ys) h in
    elim (contains_cases y ys x at) [ inl e ↦ sym (ap p e) ∙ parts.0 | inr rest ↦ none_passes p ys parts.1 x rest ]

-- nothing outranks what is held
pub held_is_top : (K : List Held) → AreApart K → (x : Held) → Contains K x → IsTop (Contains K) x
held_is_top K apart x h = (h, λ y k over. apart y x k h over)

-- ---- what a change of a row tells

some_pair : {a b : ℕ × List ℕ} → Some a ≡ Some b → a ≡ b
some_pair e = cc

some_bytes : {r s : List ℕ} → Some r ≡ Some s → r ≡ s
some_bytes e = cc

cell_made : {r s : List ℕ} {c d : ℕ} → r ≡ s → c ≡ d → Cell r c ≡ Cell s d
cell_made p q = cc

cell_tells_at : (p : Place) (v : Option (List ℕ)) (row : List ℕ) (column : ℕ) (value : List ℕ) → row_of p ≡ Some row → cell_of p v ≡ Some (column, value) → (p ≡ Cell row column) × (v ≡ Some value)
cell_tells_at (Cell r c) None row column value at h = cc
cell_tells_at (Cell r c) (Some v) row column value at h =
    let e : (c, v) ≡ (column, value) = some_pair h in
    let same : r ≡ row = some_bytes at in
    (cell_made same (ap (λ (p : ℕ × List ℕ). p.0) e), ap (λ (p : ℕ × List ℕ). Some p.1) e)
cell_tells_at (Marker r) v row column value at h = cc
cell_tells_at (RowGone r) v row column value at h = cc
cell_tells_at (RangeGone from upto) v row column value at h = cc
cell_tells_at PartGone v row column value at h = cc

cell_tells : (x : Held) (row : List ℕ) (column : ℕ) (value : List ℕ) → row_of x.place ≡ Some row → cell_of_held x ≡ Some (column, value) → (x.place ≡ Cell row column) × (x.value ≡ Some value)
cell_tells x row column value at h = cell_tells_at x.place x.value row column value at h

sign_tells_at : (p : Place) (v : Option (List ℕ)) (row : List ℕ) → row_of p ≡ Some row → is_sign p v ≡ true → (p ≡ Marker row) ⊎ ((column : ℕ) × (value : List ℕ) × (p ≡ Cell row column) × (v ≡ Some value))
sign_tells_at (Cell r c) None row at h = cc
sign_tells_at (Cell r c) (Some value) row at h = let same : r ≡ row = some_bytes at in inr (c, value, ap (λ (n : List ℕ). Cell n c) same, refl)
sign_tells_at (Marker r) v row at h = let same : r ≡ row = some_bytes at in inl (ap (λ (n : List ℕ). Marker n) same)
sign_tells_at (RowGone r) v row at h = cc
sign_tells_at (RangeGone from upto) v row at h = cc
sign_tells_at PartGone v row at h = cc

-- ---- each row has its own changes, in order

row_groups : (q : Query) (K : List Held) (groups : List (List ℕ × List Held)) → AreRowsBetween q.from q.upto K groups → AreRowGroups groups
row_groups q K groups are g at = (are.ordered g at, λ x h. (((are.within g at).2 x).0 h).1)

-- ---- the names

in_name_if : (b : Bool) (n row : List ℕ) (ns : List (List ℕ)) → Contains ((if b then n ∷ [] else []) ++ ns) row → ((n ≡ row) × (b ≡ true)) ⊎ Contains ns row
in_name_if true n row ns h = elim (contains_cases n ns row h) [ inl e ↦ inl (e, refl) | inr rest ↦ inr rest ]
in_name_if false n row ns h = inr h

in_front_if : (b : Bool) (n : List ℕ) (ns : List (List ℕ)) → b ≡ true → Contains ((if b then n ∷ [] else []) ++ ns) n
in_front_if true n ns e = contains_here n ns
in_front_if false n ns e = cc

in_rest_if : (b : Bool) (n row : List ℕ) (ns : List (List ℕ)) → Contains ns row → Contains ((if b then n ∷ [] else []) ++ ns) row
in_rest_if true n row ns h = contains_there n ns row h
in_rest_if false n row ns h = h

-- a group that is shown
abbrev pub IsShownGroup : List (List ℕ × List Held) → List ℕ → Type 0
IsShownGroup groups row = (changes : List Held) × Contains {X = List ℕ × List Held} groups (row, changes) × (list_any is_sign_of_row changes ≡ true)

name_tells : (groups : List (List ℕ × List Held)) (row : List ℕ) → Contains (names_with groups) row → IsShownGroup groups row
name_tells [] row h = absurd (contains_nil row h)
name_tells (g ∷ groups) row h =
    elim (in_name_if (list_any is_sign_of_row g.1) g.0 row (names_with groups) h) [
      | inl (e, sign) ↦ (g.1, subst (λ (n : List ℕ). Contains {X = List ℕ × List Held} (g ∷ groups) (n, g.1)) e (contains_here {X = List ℕ × List Held} g groups), sign)
      | inr later ↦ let r : IsShownGroup groups row = name_tells groups row later in (r.0, contains_there {X = List ℕ × List Held} g groups (row, r.0) r.1, r.2)
    ]

name_found : (groups : List (List ℕ × List Held)) (d : List ℕ × List Held) → Contains groups d → list_any is_sign_of_row d.1 ≡ true → Contains (names_with groups) d.0
name_found [] d h sign = absurd (contains_nil d h)
name_found (g ∷ groups) d h sign =
    elim (contains_cases g groups d h) [
      | inl same ↦ subst (λ (e : List ℕ × List Held). list_any is_sign_of_row e.1 ≡ true → Contains (names_with (g ∷ groups)) e.0) same (λ s. in_front_if (list_any is_sign_of_row g.1) g.0 (names_with groups) s) sign
      | inr later ↦ in_rest_if (list_any is_sign_of_row g.1) g.0 d.0 (names_with groups) (name_found groups d later sign)
    ]

below_if : (b : Bool) (a n : List ℕ) (ns : List (List ℕ)) → row_cmp a n ≡ Less → AllByRecursion (λ m. row_cmp a m ≡ Less) ns → AllByRecursion (λ m. row_cmp a m ≡ Less) ((if b then n ∷ [] else []) ++ ns)
below_if true a n ns e h = (e, h)
below_if false a n ns e h = h

below_names : (a : List ℕ) (groups : List (List ℕ × List Held)) → AllByRecursion (λ m. row_cmp a m ≡ Less) (names_of groups) → AllByRecursion (λ m. row_cmp a m ≡ Less) (names_with groups)
below_names a [] h = tt
below_names a (g ∷ groups) h = below_if (list_any is_sign_of_row g.1) a g.0 (names_with groups) h.0 (below_names a groups h.1)

sorted_if : (b : Bool) (n : List ℕ) (ns : List (List ℕ)) → AllByRecursion (λ m. row_cmp n m ≡ Less) ns → IsStrictlySortedBy row_cmp ns → IsStrictlySortedBy row_cmp ((if b then n ∷ [] else []) ++ ns)
unfolding IsStrictlySortedBy
sorted_if true n ns below h = (below, h)
sorted_if false n ns below h = h

sorted_names : (groups : List (List ℕ × List Held)) → IsStrictlySortedBy row_cmp (names_of groups) → IsStrictlySortedBy row_cmp (names_with groups)
unfolding IsStrictlySortedBy
sorted_names [] h = tt
sorted_names (g ∷ groups) h = sorted_if (list_any is_sign_of_row g.1) g.0 (names_with groups) (below_names g.0 groups h.0) (sorted_names groups h.1)

-- ---- the rows

passes : {X : Type 0} (p : X → Bool) (xs : List X) (x : X) → Contains xs x → p x ≡ true → list_any p xs ≡ true
passes p xs x h e =
    elim (cases_Bool (list_any p xs)) [
      | inl t ↦ t
      | inr f ↦ absurd (both_ways (p x) (none_passes p xs f x h) e)
    ]

group_shows : (q : Query) (K : List Held) (groups : List (List ℕ × List Held)) (row : List ℕ) → AreApart K → AreRowsBetween q.from q.upto K groups → IsShownGroup groups row → ShowsRow (Contains K) row × IsBetween q.from q.upto row
group_shows q K groups row apart are (changes, at, sign) =
    let g = are.within (row, changes) at in
    let found = some_passes is_sign_of_row changes sign in
    let x = found.0 in
    let of_g = (g.2 x).0 found.1 in
    let top = held_is_top K apart x of_g.0 in (
      elim (sign_tells_at x.place x.value row of_g.1 found.2) [
        | inl marker ↦ inl (x, top, marker)
        | inr (column, value, place, is) ↦ inr (column, value, (x, top, place, is))
      ],
      g.0,
    )

-- the row of a change that is held is a group of the walk
group_with : (q : Query) (K : List Held) (groups : List (List ℕ × List Held)) (row : List ℕ) (x : Held) → AreRowsBetween q.from q.upto K groups → Contains K x → row_of x.place ≡ Some row → IsBetween q.from q.upto row → (changes : List Held) × Contains {X = List ℕ × List Held} groups (row, changes) × Contains changes x
group_with q K groups row x are held at between =
    let f = contains_from_map (λ (g : List ℕ × List Held). g.0) groups row (are.all x row held at between) in
    let g = f.0 in
    let in_groups : Contains {X = List ℕ × List Held} groups (row, g.1) = subst (λ (n : List ℕ). Contains {X = List ℕ × List Held} groups (n, g.1)) f.2 f.1 in
    (g.1, in_groups, ((are.within (row, g.1) in_groups).2 x).1 (held, at))

row_found : (q : Query) (K : List Held) (groups : List (List ℕ × List Held)) (row : List ℕ) (x : Held) → AreRowsBetween q.from q.upto K groups → Contains K x → row_of x.place ≡ Some row → is_sign_of_row x ≡ true → IsBetween q.from q.upto row → Contains (names_with groups) row
row_found q K groups row x are held at sign between =
    let g = group_with q K groups row x are held at between in
    name_found groups (row, g.0) g.1 (passes is_sign_of_row g.0 x g.2 sign)

shown_found : (q : Query) (K : List Held) (groups : List (List ℕ × List Held)) (row : List ℕ) → AreRowsBetween q.from q.upto K groups → ShowsRow (Contains K) row → IsBetween q.from q.upto row → Contains (names_with groups) row
shown_found q K groups row are (inl (x, top, place)) between =
    row_found q K groups row x are top.0 (ap row_of place) (ap (λ (p : Place). is_sign p x.value) place) between
shown_found q K groups row are (inr (column, value, (x, top, place, is))) between =
    row_found q K groups row x are top.0 (ap row_of place) (ap (λ (p : Place). is_sign p x.value) place ∙ ap (is_sign (Cell row column)) is) between

-- ---- the cells of a row

columns_are_keys : (cells : List ShownCell) → keys_of (pairs_of cells) ≡ columns_of cells
columns_are_keys [] = refl
columns_are_keys (c ∷ cells) = ap (λ (cs : List ℕ). c.column ∷ cs) (columns_are_keys cells)

abbrev pair_of : ShownCell → ℕ × List ℕ
pair_of c = (c.column, c.value)

shown_made : (c : ShownCell) (pair : ℕ × List ℕ) → pair_of c ≡ pair → c ≡ record { column = pair.0; value = pair.1 }
shown_made c pair e =
    ap (λ (p : ℕ × List ℕ). let d : ShownCell = record { column = p.0; value = p.1 } in d) e

in_cells : (cells : List ShownCell) (column : ℕ) (value : List ℕ) → Contains cells (record { column = column; value = value }) ↔ Contains {X = ℕ × List ℕ} (pairs_of cells) (column, value)
in_cells cells column value = (
  λ h. contains_map pair_of cells (record { column = column; value = value }) h,
  λ h.
      let f = contains_from_map pair_of cells (column, value) h in
      subst (λ (c : ShownCell). Contains cells c) (shown_made f.0 (column, value) f.2) f.1,
)

shows_cell : (K : List Held) (row : List ℕ) (changes : List Held) (column : ℕ) (value : List ℕ) → AreApart K → IsGroupOf K (row, changes) → Contains {X = ℕ × List ℕ} (filter_map cell_of_held changes) (column, value) → ShowsCell (Contains K) row column value
shows_cell K row changes column value apart of_row h =
    let f = contains_from_filter_map cell_of_held changes (column, value) h in
    let held = (of_row f.0).0 f.1 in
    let tells = cell_tells f.0 row column value held.1 f.2 in
    (f.0, held_is_top K apart f.0 held.0, tells.0, tells.1)

cell_found : (K : List Held) (row : List ℕ) (changes : List Held) (column : ℕ) (value : List ℕ) → IsGroupOf K (row, changes) → ShowsCell (Contains K) row column value → Contains {X = ℕ × List ℕ} (filter_map cell_of_held changes) (column, value)
cell_found K row changes column value of_row (x, top, place, is) =
    contains_filter_map cell_of_held changes x (column, value) ((of_row x).1 (top.0, ap row_of place))
    (ap (λ (p : Place). cell_of p x.value) place ∙ ap (cell_of (Cell row column)) is)

cells_shown : (K : List Held) (row : List ℕ) (changes : List Held) (cells : List ShownCell) → AreApart K → IsGroupOf K (row, changes) → AreCellsOf changes cells → AreShownCells (Contains K) row cells
cells_shown K row changes cells apart of_row are = record {
  sorted = subst (λ (cs : List ℕ). IsStrictlySortedBy nat_cmp cs) (columns_are_keys cells) are.sorted;
  each = λ column value. (
    λ k. shows_cell K row changes column value apart of_row ((are.each column value).0 ((in_cells cells column value).0 k)),
    λ k. (in_cells cells column value).1 ((are.each column value).1 (cell_found K row changes column value of_row k)),
  );
}

rows_shown : (q : Query) (K : List Held) (groups : List (List ℕ × List Held)) (rows : List ShownRow) → AreApart K → AreRowsBetween q.from q.upto K groups
    → rows_of rows ≡ names_with groups → AllByRecursion (IsRowOf groups) rows → AreShownRows (Contains K) q rows
rows_shown q K groups rows apart are names cells = record {
  sorted = subst (λ (ns : List (List ℕ)). IsStrictlySortedBy row_cmp ns) (sym names) (sorted_names groups are.sorted);
  each = λ row. (
    λ k. group_shows q K groups row apart are (name_tells groups row (subst (λ (ns : List (List ℕ)). Contains ns row) names k)),
    λ k. subst (λ (ns : List (List ℕ)). Contains ns row) (sym names) (shown_found q K groups row are k.0 k.1),
  );
  cells = λ r k.
      let made = All-contains (IsRowOf groups) rows r (All-from_recursion (IsRowOf groups) rows cells) k in
      cells_shown K r.row made.0 r.cells apart (are.within (r.row, made.0) made.1).2 made.2;
}

same_length : (reversed : Bool) (rows : List ShownRow) → length (in_order reversed rows) ≡ length rows
same_length false rows = refl
same_length true rows = length-reverse rows

-- what a page of the rows of a walk shows
pub page_shown : (q : Query) (K : List Held) (walk : List (List ℕ × List Held)) (rows : List ShownRow) (more : Bool) → AreApart K → IsWalkOver q.from q.upto K q.reversed walk
    → IsPageOf q.limit (rows_with walk) rows more → IsShown (Contains K) q rows more
page_shown q K walk rows more apart (groups, are, e) page =
    let all = rows_with groups in
    let is : IsPageOf q.limit (in_order q.reversed (rows_with groups)) rows more =
    subst (λ (l : List ShownRow). IsPageOf q.limit l rows more) (ap rows_with e ∙ rows_in_direction q.reversed groups) page in
    (all, rows_shown q K groups all apart are (names_are groups) (rows_are groups (row_groups q K groups are)), is.0, is.1 ∙ ap (nat_lt q.limit) (same_length q.reversed all))
