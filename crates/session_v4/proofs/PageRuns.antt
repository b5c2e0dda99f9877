-- Pages of a read, one after another.
use Rattle.std.proofs.Common.{◌≡◌, ℕ, ◌+◌, ◌-◌, ◌↔◌, inl, inr, List, [], ◌∷◌, ◌++◌, Bool, true, false, length, take, drop, map, reverse, refl, sym, ◌∙◌, ap, subst, arith, append_assoc, length-drop, Contains}
use Rattle.std.specs.Prelude.{nat_lt}
use Rattle.std.specs.List.{AllByRecursion}
use Rattle.std.specs.List.Sorted.{IsStrictlySortedBy}
use Rattle.std.specs.Ordering.{nat_cmp}
use Rattle.std.specs.declared.cmp.Ordering.{Ordering}
use Rattle.std.specs.declared.cmp.Ordering.TheVariants.{Less}
use Rattle.std.proofs.lemmas.Cmp.{nat_cmp_total, on_total}
use Rattle.std.proofs.lemmas.Grind.{common_steps}
use Rattle.std.proofs.lemmas.List.{take-append-drop, take-take, drop-take, reverse-append, reverse-reverse, length-reverse}
use Rattle.std.proofs.lemmas.List.Elements.{Contains-append_cases, Contains-append_left, Contains-append_right}
use Rattle.cs_base.proofs.Members.{contains_nil, contains_here, contains_there, contains_cases, contains_map, contains_from_map}
use Rattle.changes.specs.Order.{IsBetween, StandsBelow, row_signs}
use Rattle.changes.specs.Shown.{ShowsRow, AreShownCells, AreShownRows, IsShown, in_order, rows_of, row_cmp}
use Rattle.changes.specs.Totals.{signs_total}
use Rattle.changes.specs.declared.Held.{Held}
use Rattle.changes.specs.declared.Query.{Query}
use Rattle.changes.specs.declared.ShownCell.{ShownCell}
use Rattle.changes.specs.declared.ShownRow.{ShownRow}
use Rattle.changes.proofs.Signs.{not_both_below}
use Rattle.changes.proofs.Sorted.{all_at, all_from, sorted_one}
use Rattle.session_v4.specs.Paging.{behind_by, query_behind}
use Rattle.session_v4.specs.PageLaws.{StandsBehind, PagesGoOn}
use Rattle.session_v4.proofs.PageStarts.{pages_by}

-- ---- lists in order

all_map : {X Y : Type 0} (f : X → Y) (P : Y → Type 0) (xs : List X) → AllByRecursion P (map f xs) → AllByRecursion (λ x. P (f x)) xs
all_map f P [] all = tt
all_map f P (x ∷ xs) all = (all.0, all_map f P xs all.1)

all_mapped : {X Y : Type 0} (f : X → Y) (P : Y → Type 0) (xs : List X) → AllByRecursion (λ x. P (f x)) xs → AllByRecursion P (map f xs)
all_mapped f P [] all = tt
all_mapped f P (x ∷ xs) all = (all.0, all_mapped f P xs all.1)

sorted_map : {X Y : Type 0} (f : X → Y) (R : Y → Y → Ordering) (xs : List X) → IsStrictlySortedBy R (map f xs) → IsStrictlySortedBy (λ a b. R (f a) (f b)) xs
unfolding IsStrictlySortedBy
sorted_map f R [] up = tt
sorted_map f R (x ∷ xs) up = (all_map f (λ y. R (f x) y ≡ Less) xs up.0, sorted_map f R xs up.1)

sorted_mapped : {X Y : Type 0} (f : X → Y) (R : Y → Y → Ordering) (xs : List X) → IsStrictlySortedBy (λ a b. R (f a) (f b)) xs → IsStrictlySortedBy R (map f xs)
unfolding IsStrictlySortedBy
sorted_mapped f R [] up = tt
sorted_mapped f R (x ∷ xs) up = (all_mapped f (λ y. R (f x) y ≡ Less) xs up.0, sorted_mapped f R xs up.1)

module _ {X : Type 0} (R : X → X → Ordering) where
  sorted_behind : (xs : List X) (x : X) (ys : List X) → IsStrictlySortedBy R (xs ++ x ∷ ys) → IsStrictlySortedBy R (x ∷ ys)
  unfolding IsStrictlySortedBy
  sorted_behind [] x ys up = up
  sorted_behind (z ∷ zs) x ys up = sorted_behind zs x ys up.1

  sorted_later : (x : X) (ys : List X) → IsStrictlySortedBy R (x ∷ ys) → IsStrictlySortedBy R ys
  unfolding IsStrictlySortedBy
  sorted_later x ys up = up.1

  above_first : (x : X) (ys : List X) → IsStrictlySortedBy R (x ∷ ys) → (y : X) → Contains ys y → R x y ≡ Less
  unfolding IsStrictlySortedBy
  above_first x ys up y at = all_at (λ v. R x v ≡ Less) ys y up.0 at

  sorted_front : (xs : List X) (x : X) (ys : List X) → IsStrictlySortedBy R (xs ++ x ∷ ys) → IsStrictlySortedBy R xs
  unfolding IsStrictlySortedBy
  sorted_front [] x ys up = tt
  sorted_front (z ∷ zs) x ys up = (
    all_from (λ v. R z v ≡ Less) zs (λ v at. all_at (λ w. R z w ≡ Less) (zs ++ x ∷ ys) v up.0 (Contains-append_left zs (x ∷ ys) v at)),
    sorted_front zs x ys up.1,
  )

  below_last : (xs : List X) (x : X) (ys : List X) → IsStrictlySortedBy R (xs ++ x ∷ ys) → (v : X) → Contains xs v → R v x ≡ Less
  unfolding IsStrictlySortedBy
  below_last [] x ys up v at = absurd (contains_nil v at)
  below_last (z ∷ zs) x ys up v at =
      elim (contains_cases z zs v at) [
        | inl e ↦ subst (λ (w : X). R w x ≡ Less) e (all_at (λ w. R z w ≡ Less) (zs ++ x ∷ ys) x up.0 (Contains-append_right zs (x ∷ ys) x (contains_here x ys)))
        | inr later ↦ below_last zs x ys up.1 v later
      ]

-- ---- rows are determined

row_made : {a b : ShownRow} → a.row ≡ b.row → a.cells ≡ b.cells → a ≡ b
row_made {a} {b} p q =
    ap (λ (n : List ℕ). let r : ShownRow = record { row = n; cells = a.cells } in r) p
    ∙ ap (λ (cs : List ShownCell). let r : ShownRow = record { row = b.row; cells = cs } in r) q

module _ (S : Held → Type 0) where
  cells_one : (row : List ℕ) (a b : List ShownCell) → AreShownCells S row a → AreShownCells S row b → a ≡ b
  cells_one row a b h k =
      sorted_one (on_total (λ (c : ShownCell). c.column) nat_cmp_total) a b
      (sorted_map (λ (c : ShownCell). c.column) nat_cmp a h.sorted)
      (sorted_map (λ (c : ShownCell). c.column) nat_cmp b k.sorted)
      (λ z at. (k.each z.column z.value).1 ((h.each z.column z.value).0 at))
      (λ z at. (h.each z.column z.value).1 ((k.each z.column z.value).0 at))

  row_there : (q : Query) (all : List ShownRow) (z : ShownRow) → AreShownRows S q all → ShowsRow S z.row → IsBetween q.from q.upto z.row
      → AreShownCells S z.row z.cells → Contains all z
  row_there q all z h shows between cells =
      let found : (r : ShownRow) × Contains all r × (r.row ≡ z.row) = contains_from_map (λ (r : ShownRow). r.row) all z.row ((h.each z.row).1 (shows, between)) in
      let own : AreShownCells S z.row found.0.cells =
      (let P : List ℕ → Type 0 = λ row. AreShownCells S row found.0.cells in subst P found.2 (h.cells found.0 found.1)) in
      let same : found.0 ≡ z = row_made found.2 (cells_one z.row found.0.cells z.cells own cells) in
      subst (λ (r : ShownRow). Contains all r) same found.1

  row_shown : (q : Query) (all : List ShownRow) (z : ShownRow) → AreShownRows S q all → Contains all z → ShowsRow S z.row × IsBetween q.from q.upto z.row
  row_shown q all z h at = (h.each z.row).0 (contains_map (λ (r : ShownRow). r.row) all z at)

  in_order_of : (q : Query) (all : List ShownRow) → AreShownRows S q all → IsStrictlySortedBy (λ (a b : ShownRow). row_cmp a.row b.row) all
  in_order_of q all h = sorted_map (λ (r : ShownRow). r.row) row_cmp all h.sorted

  rows_one : (q : Query) (a b : List ShownRow) → AreShownRows S q a → AreShownRows S q b → a ≡ b
  rows_one q a b h k =
      sorted_one (on_total (λ (r : ShownRow). row_signs r.row) signs_total) a b (in_order_of q a h) (in_order_of q b k)
      (λ z at. let s = row_shown q a z h at in row_there q b z k s.0 s.1 (h.cells z at))
      (λ z at. let s = row_shown q b z k at in row_there q a z h s.0 s.1 (k.cells z at))

  -- the rows of a query that pass are those of a query whose bounds say so
  part_shown : (q q' : Query) (P : List ℕ → Type 0) (all part : List ShownRow) → AreShownRows S q all
      → IsStrictlySortedBy (λ (a b : ShownRow). row_cmp a.row b.row) part
      → ((r : ShownRow) → Contains part r ↔ (Contains all r × P r.row))
      → ((row : List ℕ) → IsBetween q'.from q'.upto row ↔ (IsBetween q.from q.upto row × P row))
      → AreShownRows S q' part
  part_shown q q' P all part h up of_part bounds = record {
    sorted = sorted_mapped (λ (r : ShownRow). r.row) row_cmp part up;
    each = λ row. (
      (λ at.
          let found : (r : ShownRow) × Contains part r × (r.row ≡ row) = contains_from_map (λ (r : ShownRow). r.row) part row at in
          let there = (of_part found.0).0 found.1 in
          let s = row_shown q all found.0 h there.0 in
          let Q : List ℕ → Type 0 = λ t. ShowsRow S t × IsBetween q'.from q'.upto t in
          subst Q found.2 (s.0, (bounds found.0.row).1 (s.1, there.1))),
      (λ s.
          let b = (bounds row).0 s.1 in
          let found : (r : ShownRow) × Contains all r × (r.row ≡ row) = contains_from_map (λ (r : ShownRow). r.row) all row ((h.each row).1 (s.0, b.0)) in
          let passes : P found.0.row = subst P (sym found.2) b.1 in
          let Q : List ℕ → Type 0 = λ t. Contains (rows_of part) t in
          subst Q found.2 (contains_map (λ (r : ShownRow). r.row) part found.0 ((of_part found.0).1 (found.1, passes)))),
    );
    cells = λ r at. h.cells r ((of_part r).0 at).0;
  }

  not_itself : (row : List ℕ) → StandsBelow (row_signs row) (row_signs row) → ⊥
  not_itself row h = not_both_below (row_signs row) (row_signs row) h h

  -- what stands behind the last row of a page, and what stands before it
  behind_part : (front : List ShownRow) (last : ShownRow) (later : List ShownRow) → IsStrictlySortedBy (λ (a b : ShownRow). row_cmp a.row b.row) (front ++ last ∷ later)
      → (r : ShownRow) → Contains later r ↔ (Contains (front ++ last ∷ later) r × StandsBelow (row_signs last.row) (row_signs r.row))
  behind_part front last later up r = (
    (λ at. (
      Contains-append_right front (last ∷ later) r (contains_there last later r at),
      above_first (λ (a b : ShownRow). row_cmp a.row b.row) last later (sorted_behind (λ (a b : ShownRow). row_cmp a.row b.row) front last later up) r at,
    )),
    (λ h. elim (Contains-append_cases front (last ∷ later) r h.0) [
      | inl before ↦ absurd (not_both_below (row_signs r.row) (row_signs last.row) (below_last (λ (a b : ShownRow). row_cmp a.row b.row) front last later up r before) h.1)
      | inr here ↦ elim (contains_cases last later r here) [
        | inl e ↦ absurd (not_itself last.row (let Q : ShownRow → Type 0 = λ t. StandsBelow (row_signs last.row) (row_signs t.row) in subst Q (sym e) h.1))
        | inr at ↦ at
      ]
    ]),
  )

  before_part : (front : List ShownRow) (last : ShownRow) (later : List ShownRow) → IsStrictlySortedBy (λ (a b : ShownRow). row_cmp a.row b.row) (front ++ last ∷ later)
      → (r : ShownRow) → Contains front r ↔ (Contains (front ++ last ∷ later) r × StandsBelow (row_signs r.row) (row_signs last.row))
  before_part front last later up r = (
    (λ at. (
      Contains-append_left front (last ∷ later) r at,
      below_last (λ (a b : ShownRow). row_cmp a.row b.row) front last later up r at,
    )),
    (λ h. elim (Contains-append_cases front (last ∷ later) r h.0) [
      | inl before ↦ before
      | inr here ↦ elim (contains_cases last later r here) [
        | inl e ↦ absurd (not_itself last.row (let Q : ShownRow → Type 0 = λ t. StandsBelow (row_signs t.row) (row_signs last.row) in subst Q (sym e) h.1))
        | inr at ↦ absurd (not_both_below (row_signs last.row) (row_signs r.row)
            (above_first (λ (a b : ShownRow). row_cmp a.row b.row) last later (sorted_behind (λ (a b : ShownRow). row_cmp a.row b.row) front last later up) r at) h.1)
      ]
    ]),
  )

  -- ---- what the next query shows of all rows

  next_forward : (q : Query) (front : List ShownRow) (last : ShownRow) (later all next : List ShownRow) → AreShownRows S q all
      → all ≡ front ++ last ∷ later → AreShownRows S (behind_by false last.row q) next → next ≡ later
  next_forward q front last later all next h e k =
      let P : List ShownRow → Type 0 = λ rows. AreShownRows S q rows in
      let whole : AreShownRows S q (front ++ last ∷ later) = subst P e h in
      let up = in_order_of q (front ++ last ∷ later) whole in
      rows_one (behind_by false last.row q) next later k
      (part_shown q (behind_by false last.row q) (StandsBehind false last.row) (front ++ last ∷ later) later whole
      (sorted_later (λ (a b : ShownRow). row_cmp a.row b.row) last later (sorted_behind (λ (a b : ShownRow). row_cmp a.row b.row) front last later up))
      (behind_part front last later up) (pages_by false q last.row))

  next_backward : (q : Query) (front : List ShownRow) (last : ShownRow) (later all next : List ShownRow) → AreShownRows S q all
      → all ≡ front ++ last ∷ later → AreShownRows S (behind_by true last.row q) next → next ≡ front
  next_backward q front last later all next h e k =
      let P : List ShownRow → Type 0 = λ rows. AreShownRows S q rows in
      let whole : AreShownRows S q (front ++ last ∷ later) = subst P e h in
      let up = in_order_of q (front ++ last ∷ later) whole in
      rows_one (behind_by true last.row q) next front k
      (part_shown q (behind_by true last.row q) (StandsBehind true last.row) (front ++ last ∷ later) front whole
      (sorted_front (λ (a b : ShownRow). row_cmp a.row b.row) front last later up) (before_part front last later up) (pages_by true q last.row))

  reversed_split : (all front : List ShownRow) (last : ShownRow) (later : List ShownRow) → reverse all ≡ front ++ last ∷ later → all ≡ reverse later ++ last ∷ reverse front
  reversed_split all front last later e =
      sym (reverse-reverse all) ∙ ap reverse e ∙ reverse-append front (last ∷ later) ∙ ap (λ (rs : List ShownRow). rs ++ reverse front) (reverse-append (last ∷ []) later)
      ∙ append_assoc (reverse later) (last ∷ []) (reverse front)

  next_rows : (b : Bool) (q : Query) (front : List ShownRow) (last : ShownRow) (later all next : List ShownRow) → AreShownRows S q all
      → in_order b all ≡ front ++ last ∷ later → AreShownRows S (behind_by b last.row q) next → in_order b next ≡ later
  next_rows false q front last later all next h e k = next_forward q front last later all next h e k
  next_rows true q front last later all next h e k =
      ap reverse (next_backward q (reverse later) last (reverse front) all next h (reversed_split all front last later e) k) ∙ reverse-reverse later

  -- ---- pages

  take_plus : (n m : ℕ) (rows : List ShownRow) → take (n + m) rows ≡ take n rows ++ take m (drop n rows)
  take_plus n m rows =
      sym (take-append-drop n (take (n + m) rows))
      ∙ ap (λ (rs : List ShownRow). rs ++ drop n (take (n + m) rows)) (take-take n (n + m) rows (omega arith))
      ∙ ap (λ (rs : List ShownRow). take n rows ++ rs) (drop-take n m rows)

  more_plus : (n m k : ℕ) → nat_lt m (k - n) ≡ nat_lt (n + m) k
  more_plus n m k = grind (arith, common_steps)

  length_in_order : (b : Bool) (rows : List ShownRow) → length (in_order b rows) ≡ length rows
  length_in_order false rows = refl
  length_in_order true rows = length-reverse rows

  same_but_limit : (q : Query) (n : ℕ) (rows : List ShownRow) → AreShownRows S (record q { limit = n }) rows → AreShownRows S q rows
  same_but_limit q n rows h = record { sorted = h.sorted; each = h.each; cells = h.cells }

  limited_again : (q : Query) (n : ℕ) (rows : List ShownRow) → AreShownRows S q rows → AreShownRows S (record q { limit = n }) rows
  limited_again q n rows h = record { sorted = h.sorted; each = h.each; cells = h.cells }

  go_on : (b : Bool) (q : Query) (n limit : ℕ) (front : List ShownRow) (last : ShownRow) (rest : List ShownRow) (more : Bool) (all next : List ShownRow)
      → AreShownRows S q all → front ++ last ∷ [] ≡ take n (in_order b all)
      → AreShownRows S (behind_by b last.row q) next → rest ≡ take limit (in_order b next) → more ≡ nat_lt limit (length next)
      → ((front ++ last ∷ []) ++ rest ≡ take (n + limit) (in_order b all)) × (more ≡ nat_lt (n + limit) (length all))
  go_on b q n limit front last rest more all next h page k e m =
      let rows : List ShownRow = in_order b all in
      let split : in_order b all ≡ front ++ last ∷ drop n (in_order b all) =
      sym (take-append-drop n (in_order b all)) ∙ ap (λ (rs : List ShownRow). rs ++ drop n (in_order b all)) (sym page) ∙ append_assoc front (last ∷ []) (drop n (in_order b all)) in
      let later : in_order b next ≡ drop n (in_order b all) = next_rows b q front last (drop n (in_order b all)) all next h split k in
      let count : length next ≡ length all - n =
      sym (length_in_order b next) ∙ ap length later ∙ length-drop n (in_order b all) ∙ ap (λ (c : ℕ). c - n) (length_in_order b all) in (
        ap (λ (rs : List ShownRow). rs ++ rest) page ∙ ap (λ (rs : List ShownRow). take n (in_order b all) ++ rs) (e ∙ ap (take limit) later) ∙ sym (take_plus n limit (in_order b all)),
        m ∙ ap (nat_lt limit) count ∙ more_plus n limit (length all),
      )

  behind_limit : (b : Bool) (row : List ℕ) (q : Query) → (behind_by b row q).limit ≡ q.limit
  behind_limit false row q = refl
  behind_limit true row q = refl

  behind_reversed : (b : Bool) (row : List ℕ) (q : Query) → (behind_by b row q).reversed ≡ q.reversed
  behind_reversed false row q = refl
  behind_reversed true row q = refl

  pages_of : (q : Query) (n : ℕ) (front : List ShownRow) (last : ShownRow) (rest : List ShownRow) (there more : Bool)
      → IsShown S (record q { limit = n }) (front ++ last ∷ []) there → IsShown S (query_behind last.row q) rest more
      → IsShown S (record q { limit = n + q.limit }) ((front ++ last ∷ []) ++ rest) more
  pages_of q n front last rest there more (all, h, page, m) (next, k, page', m') =
      let limit : (query_behind last.row q).limit ≡ q.limit = behind_limit q.reversed last.row q in
      let order : (query_behind last.row q).reversed ≡ q.reversed = behind_reversed q.reversed last.row q in
      let rest_is : rest ≡ take q.limit (in_order q.reversed next) =
      page' ∙ ap (λ (m : ℕ). take m (in_order (query_behind last.row q).reversed next)) limit ∙ ap (λ (b : Bool). take q.limit (in_order b next)) order in
      let more_is : more ≡ nat_lt q.limit (length next) = m' ∙ ap (λ (m : ℕ). nat_lt m (length next)) limit in
      let both = go_on q.reversed q n q.limit front last rest more all next (same_but_limit q n all h) page k rest_is more_is in
      (all, limited_again q (n + q.limit) all (same_but_limit q n all h), both.0, both.1)

pub pages_go_on : PagesGoOn
pages_go_on changes q n front last rest there more h k = pages_of (Contains changes) q n front last rest there more h k
