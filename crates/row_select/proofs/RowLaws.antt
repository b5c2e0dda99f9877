-- The rows of a walk, found group by group.
use Rattle.std.proofs.Common.{◌≡◌, ℕ, ◌+◌, ◌<◌, length, get_or, take, Bool, true, false, if◌then◌else◌, List, [], ◌∷◌, ◌++◌, map, Option, Some, None, reverse, refl, sym, ◌∙◌, ap, subst, append_assoc, append-nil, Contains, ◌↔◌}
use Rattle.std.specs.List.{filter_map, cons_option, list_any, AllByRecursion}
use Rattle.std.specs.List.Sorted.{IsStrictlySortedBy}
use Rattle.std.specs.Map.{keys_of}
use Rattle.std.specs.Cmp.Lexicographic.{slice_cmp}
use Rattle.std.specs.Ordering.{nat_cmp}
use Rattle.std.specs.declared.cmp.Ordering.TheVariants.{Less}
use Rattle.std.proofs.lemmas.Cmp.{nat_list_cmp_total, tied_itself}
use Rattle.std.proofs.lemmas.List.{map-append, reverse-append}
use Rattle.std.proofs.lemmas.List.Elements.{filter_map-append}
use Rattle.std.specs.Option.{option_to_list}
use Rattle.changes.specs.declared.Held.{Held}
use Rattle.changes.specs.declared.Place.{Place}
use Rattle.changes.specs.declared.Place.TheVariants.{Cell, Marker, RowGone, RangeGone, PartGone}
use Rattle.changes.specs.declared.ShownRow.{ShownRow}
use Rattle.changes.specs.Order.{row_of}
use Rattle.changes.specs.Places.{AreInOrder, place_cmp}
use Rattle.changes.specs.Shown.{in_order}
use Rattle.changes.proofs.Orderings.{then_on}
use Rattle.changes.proofs.Places.{in_rows}
use Rattle.changes.proofs.Sorted.{all_from}
use Rattle.changes.specs.Shown.{rows_of}
use Rattle.cell_merge.specs.Walks.{in_direction}
use Rattle.cs_base.proofs.Members.{contains_here, contains_there, front_more}
use Rattle.row_select.specs.Rows.{is_sign_of_row, cell_of, cell_of_held, cells_of, cell_list, cell_made, row_shown, row_if, rows_with}
use Rattle.row_select.proofs.Groups.{names_with, pairs_of, AreRowGroups, AreCellsOf, IsRowOf}

-- ---- the names

names_if : (b : Bool) (r : ShownRow) (rows : List ShownRow) (names : List (List ℕ)) → rows_of rows ≡ names → rows_of ((if b then r ∷ [] else []) ++ rows) ≡ (if b then r.row ∷ [] else []) ++ names
names_if true r rows names e = ap (λ (ns : List (List ℕ)). r.row ∷ ns) e
names_if false r rows names e = e

pub names_are : (groups : List (List ℕ × List Held)) → rows_of (rows_with groups) ≡ names_with groups
names_are [] = refl
names_are (g ∷ groups) = names_if (list_any is_sign_of_row g.1) (row_shown g.0 g.1) (rows_with groups) (names_with groups) (names_are groups)

-- ---- the cells

-- cells of a row are in order of columns
cells_rise : (r : List ℕ) (c d : ℕ) → place_cmp (Cell r c) (Cell r d) ≡ Less → nat_cmp c d ≡ Less
cells_rise r c d h =
    sym (then_on (slice_cmp nat_cmp r r) (nat_cmp c d) (tied_itself nat_list_cmp_total r)) ∙ sym (in_rows (Cell r c) (Cell r d) r r refl refl) ∙ h

abbrev keys_among : List Held → List ℕ
keys_among changes = keys_of (filter_map cell_of_held changes)

above_at : (r : List ℕ) (c : ℕ) (p : Place) (v : Option (List ℕ)) (more : List (ℕ × List ℕ)) → place_cmp (Cell r c) p ≡ Less → row_of p ≡ Some r → AllByRecursion (λ k. nat_cmp c k ≡ Less) (keys_of more) → AllByRecursion (λ k. nat_cmp c k ≡ Less) (keys_of (cons_option (cell_of p v) more))
above_at r c (Cell s d) None more h e all = all
above_at r c (Cell s d) (Some v) more h e all =
    let same : s ≡ r = cc in (cells_rise r c d (subst (λ (n : List ℕ). place_cmp (Cell r c) (Cell n d) ≡ Less) same h), all)
above_at r c (Marker s) v more h e all = all
above_at r c (RowGone s) v more h e all = all
above_at r c (RangeGone a b) v more h e all = cc
above_at r c PartGone v more h e all = cc

all_above : (r : List ℕ) (c : ℕ) (changes : List Held) → AllByRecursion (λ y. place_cmp (Cell r c) y.place ≡ Less) changes → AllByRecursion (λ y. row_of y.place ≡ Some r) changes → AllByRecursion (λ k. nat_cmp c k ≡ Less) (keys_among changes)
all_above r c [] h e = tt
all_above r c (x ∷ changes) h e = above_at r c x.place x.value (filter_map cell_of_held changes) h.0 e.0 (all_above r c changes h.1 e.1)

sorted_at : (r : List ℕ) (p : Place) (v : Option (List ℕ)) (changes : List Held) → AllByRecursion (λ y. place_cmp p y.place ≡ Less) changes → row_of p ≡ Some r → AllByRecursion (λ y. row_of y.place ≡ Some r) changes
    → IsStrictlySortedBy nat_cmp (keys_among changes) → IsStrictlySortedBy nat_cmp (keys_of (cons_option (cell_of p v) (filter_map cell_of_held changes)))
unfolding IsStrictlySortedBy
sorted_at r (Cell s d) None changes above e all h = h
sorted_at r (Cell s d) (Some v) changes above e all h =
    let same : s ≡ r = cc in (all_above r d changes (subst (λ (n : List ℕ). AllByRecursion (λ y. place_cmp (Cell n d) y.place ≡ Less) changes) same above) all, h)
sorted_at r (Marker s) v changes above e all h = h
sorted_at r (RowGone s) v changes above e all h = h
sorted_at r (RangeGone a b) v changes above e all h = cc
sorted_at r PartGone v changes above e all h = cc

sorted_cells : (r : List ℕ) (changes : List Held) → AreInOrder changes → AllByRecursion (λ y. row_of y.place ≡ Some r) changes → IsStrictlySortedBy nat_cmp (keys_among changes)
unfolding IsStrictlySortedBy
sorted_cells r [] ordered all = tt
sorted_cells r (x ∷ changes) ordered all = sorted_at r x.place x.value changes ordered.0 all.0 all.1 (sorted_cells r changes ordered.1 all.1)

pairs_are : (cells : List (ℕ × List ℕ)) → pairs_of (map cell_made cells) ≡ cells
pairs_are [] = refl
pairs_are (c ∷ cells) = ap (λ (cs : List (ℕ × List ℕ)). c ∷ cs) (pairs_are cells)

cells_are : (r : List ℕ) (changes : List Held) → AreInOrder changes → AllByRecursion (λ y. row_of y.place ≡ Some r) changes → AreCellsOf changes (cells_of changes)
cells_are r changes ordered all =
    let pairs = sym (pairs_are (filter_map cell_of_held changes)) in
    record {
      sorted = subst (λ (cs : List (ℕ × List ℕ)). IsStrictlySortedBy nat_cmp (keys_of cs)) pairs (sorted_cells r changes ordered all);
      each = λ column value. subst (λ (cs : List (ℕ × List ℕ)). Contains {X = ℕ × List ℕ} cs (column, value) ↔ Contains {X = ℕ × List ℕ} (filter_map cell_of_held changes) (column, value)) pairs (λ k. k, λ k. k);
    }

row_is : (groups : List (List ℕ × List Held)) (row : List ℕ) (changes : List Held) → AreRowGroups groups → Contains {X = List ℕ × List Held} groups (row, changes) → IsRowOf groups (row_shown row changes)
row_is groups row changes own at =
    let its = own (row, changes) at in
    (changes, at, cells_are row changes its.0 (all_from (λ y. row_of y.place ≡ Some row) changes its.1))

all_if : (P : ShownRow → Type 0) (b : Bool) (r : ShownRow) (rows : List ShownRow) → P r → AllByRecursion P rows → AllByRecursion P ((if b then r ∷ [] else []) ++ rows)
all_if P true r rows here later = (here, later)
all_if P false r rows here later = later

rows_within : (all groups : List (List ℕ × List Held)) → AreRowGroups all → ((g : List ℕ × List Held) → Contains groups g → Contains all g) → AllByRecursion (IsRowOf all) (rows_with groups)
rows_within all [] own within = tt
rows_within all (g ∷ groups) own within =
    all_if (IsRowOf all) (list_any is_sign_of_row g.1) (row_shown g.0 g.1) (rows_with groups) (row_is all g.0 g.1 own (within g (contains_here {X = List ℕ × List Held} g groups)))
    (rows_within all groups own (λ d h. within d (contains_there {X = List ℕ × List Held} g groups d h)))

pub rows_are : (groups : List (List ℕ × List Held)) → AreRowGroups groups → AllByRecursion (IsRowOf groups) (rows_with groups)
rows_are groups own = rows_within groups groups own (λ g h. h)

-- ---- in reverse

pub rows_both : (front back : List (List ℕ × List Held)) → rows_with (front ++ back) ≡ rows_with front ++ rows_with back
rows_both [] back = refl
rows_both (g ∷ front) back = ap (λ (rows : List ShownRow). row_if g.0 g.1 ++ rows) (rows_both front back) ∙ sym (append_assoc (row_if g.0 g.1) (rows_with front) (rows_with back))

pub rows_one : (g : List ℕ × List Held) → rows_with (g ∷ []) ≡ row_if g.0 g.1
rows_one g = append-nil (row_if g.0 g.1)

one_back : (b : Bool) (r : ShownRow) → (if b then r ∷ [] else []) ≡ reverse (if b then r ∷ [] else [])
one_back true r = refl
one_back false r = refl

rows_reversed : (groups : List (List ℕ × List Held)) → rows_with (reverse groups) ≡ reverse (rows_with groups)
rows_reversed [] = refl
rows_reversed (g ∷ groups) =
    ap rows_with (reverse-append (g ∷ []) groups) ∙ rows_both (reverse groups) (g ∷ []) ∙ ap (λ (rows : List ShownRow). rows ++ rows_with (g ∷ [])) (rows_reversed groups)
    ∙ ap (λ (rows : List ShownRow). reverse (rows_with groups) ++ rows) (rows_one g ∙ one_back (list_any is_sign_of_row g.1) (row_shown g.0 g.1))
    ∙ sym (reverse-append (row_if g.0 g.1) (rows_with groups))

pub rows_in_direction : (reversed : Bool) (groups : List (List ℕ × List Held)) → rows_with (in_direction reversed groups) ≡ in_order reversed (rows_with groups)
rows_in_direction false groups = refl
rows_in_direction true groups = rows_reversed groups

-- ---- one change more

option_listed : (o : Option (ℕ × List ℕ)) → cons_option o [] ≡ option_to_list o
option_listed None = refl
option_listed (Some c) = refl

pub cells_more : (changes : List Held) (i : ℕ) (x : Held) → i < length changes → x ≡ get_or changes i x → cells_of (take (i + 1) changes) ≡ cells_of (take i changes) ++ cell_list x
cells_more changes i x below is =
    ap cells_of (front_more changes i x below is) ∙ ap (λ (cs : List (ℕ × List ℕ)). map cell_made cs) (filter_map-append cell_of_held (take i changes) (x ∷ []))
    ∙ map-append cell_made (filter_map cell_of_held (take i changes)) (cons_option (cell_of_held x) [])
    ∙ ap (λ (cs : List (ℕ × List ℕ)). cells_of (take i changes) ++ map cell_made cs) (option_listed (cell_of_held x))
