-- A page of the first rows, filled row by row until it is full and a further row is seen.
use Rattle.std.proofs.Common.{◌≡◌, ℕ, ◌+◌, ◌<◌, ◌≤◌, inr, Bool, true, false, List, [], ◌∷◌, ◌++◌, append_assoc, append-nil, length, take, sym, ◌∙◌, ap, subst, arith}
use Rattle.std.proofs.lemmas.List.{length-append, take_all, take-append-le}
use Rattle.std.proofs.lemmas.Bool.{lt-ltb, ltb-true, le-ltb, ltb-false}
use Rattle.changes.specs.declared.ShownRow.{ShownRow}
use Rattle.changes.specs.declared.Held.{Held}
use Rattle.row_select.specs.Rows.{row_if, rows_with, IsPageOf, StopsAt}
use Rattle.row_select.proofs.RowLaws.{rows_both, rows_one}

-- the walk is at its end
pub page_done : (limit : ℕ) (rows all : List ShownRow) (more : Bool) → length rows ≤ limit → more ≡ false → rows ≡ all → IsPageOf limit all rows more
page_done limit rows all more within none is =
    let short : length all ≤ limit = subst (λ (xs : List ShownRow). length xs ≤ limit) is within in
    (is ∙ sym (take_all limit all short), none ∙ sym (le-ltb limit (length all) short))

-- a further row was seen
pub page_full : (limit : ℕ) (rows all later : List ShownRow) (page : List ShownRow) (more : Bool) → IsPageOf limit rows page more → more ≡ true → rows ++ later ≡ all → IsPageOf limit all page more
page_full limit rows all later page more is full parts =
    let over : limit < length rows = ltb-true limit (length rows) (sym is.1 ∙ full) in
    let long : length rows + length later ≡ length all = sym (length-append rows later) ∙ ap (λ (xs : List ShownRow). length xs) parts in (
      is.0 ∙ sym (take-append-le limit rows later (omega (arith, over))) ∙ ap (λ (xs : List ShownRow). take limit xs) parts,
      full ∙ sym (lt-ltb limit (length all) (omega (arith, over, long))),
    )

-- there was room so far
pub page_more : (limit : ℕ) (rows page : List ShownRow) (more : Bool) → IsPageOf limit rows page more → more ≡ false → (page ≡ rows) × (length page ≤ limit)
page_more limit rows page more is room =
    let short : length rows ≤ limit = ltb-false limit (length rows) (sym is.1 ∙ room) in
    let all : page ≡ rows = is.0 ∙ take_all limit rows short in
    (all, subst (λ (xs : List ShownRow). length xs ≤ limit) (sym all) short)

-- ---- along the walk

abbrev pub Group : Type 0
Group = List ℕ × List Held

-- one row further
pub one_further : (front all now later : List Group) (row : List ℕ) (changes : List Held) → all ≡ front ++ now → now ≡ (row, changes) ∷ later → all ≡ front ++ (row, changes) ∷ later
one_further front all now later row changes e f = e ∙ ap (λ (l : List Group). front ++ l) f

pub stops_there : (limit : ℕ) (front all now later : List Group) (row : List ℕ) (changes : List Held) (rows : List ShownRow) → all ≡ front ++ now → now ≡ (row, changes) ∷ later → rows ≡ rows_with front → length rows ≤ limit → StopsAt limit all later
stops_there limit front all now later row changes rows e f is within =
    inr (front, (row, changes), one_further front all now later row changes e f, subst (λ (l : List ShownRow). length l ≤ limit) is within)

pub passed_more : (front all now later : List Group) (row : List ℕ) (changes : List Held) (rows next : List ShownRow) → all ≡ front ++ now → now ≡ (row, changes) ∷ later → rows ≡ rows_with front → next ≡ rows ++ row_if row changes
    → (longer : List Group) × (all ≡ longer ++ later) × (next ≡ rows_with longer)
passed_more front all now later row changes rows next e f is more = (
  front ++ (row, changes) ∷ [],
  one_further front all now later row changes e f ∙ sym (append_assoc front ((row, changes) ∷ []) later),
  more ∙ ap (λ (l : List ShownRow). l ++ row_if row changes) is ∙ ap (λ (l : List ShownRow). rows_with front ++ l) (sym (rows_one (row, changes))) ∙ sym (rows_both front ((row, changes) ∷ [])),
)

-- the rows so far, with one more, and those to come
pub parts_of : (front all now later : List Group) (row : List ℕ) (changes : List Held) (rows : List ShownRow) → all ≡ front ++ now → now ≡ (row, changes) ∷ later → rows ≡ rows_with front → (rows ++ row_if row changes) ++ rows_with later ≡ rows_with all
parts_of front all now later row changes rows e f is =
    append_assoc rows (row_if row changes) (rows_with later) ∙ ap (λ (l : List ShownRow). l ++ (row_if row changes ++ rows_with later)) is ∙ sym (rows_both front ((row, changes) ∷ later))
    ∙ ap rows_with (sym (one_further front all now later row changes e f))

pub all_passed : (front all now : List Group) (rows : List ShownRow) → all ≡ front ++ now → now ≡ [] → rows ≡ rows_with front → rows ≡ rows_with all
all_passed front all now rows e none is = is ∙ ap rows_with (sym (e ∙ ap (λ (l : List Group). front ++ l) none ∙ append-nil front))
