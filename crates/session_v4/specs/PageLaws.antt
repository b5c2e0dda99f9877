-- What is so of the pages of a read.
use Rattle.std.specs.Prelude.{◌↔◌, ◌+◌, Bool, true, false, ℕ, List, [], ◌∷◌, ◌++◌, Contains}
use Rattle.changes.specs.Order.{IsBetween, StandsBelow, row_signs}
use Rattle.changes.specs.Shown.{IsShown}
use Rattle.changes.specs.declared.Held.{Held}
use Rattle.changes.specs.declared.Query.{Query}
use Rattle.changes.specs.declared.ShownRow.{ShownRow}
use Rattle.session_v4.specs.Paging.{query_behind}

-- a row stands behind another, in the order of a read
abbrev pub StandsBehind : Bool → List ℕ → List ℕ → Type 0
StandsBehind false last row = StandsBelow (row_signs last) (row_signs row)
StandsBehind true last row = StandsBelow (row_signs row) (row_signs last)

-- the rows of a query behind a row are the rows of the query that stand behind it
abbrev pub PagesBegin : Type 0
PagesBegin =
    (q : Query) (last row : List ℕ)
    → IsBetween (query_behind last q).from (query_behind last q).upto row ↔ (IsBetween q.from q.upto row × StandsBehind q.reversed last row)

-- A page of at most n rows, and what the query behind its last row shows: together they are what one read shows of the same
-- changes, each row once.
abbrev pub PagesGoOn : Type 0
PagesGoOn =
    (changes : List Held) (q : Query) (n : ℕ) (front : List ShownRow) (last : ShownRow) (rest : List ShownRow) (there more : Bool)
    → IsShown (Contains changes) (record q { limit = n }) (front ++ last ∷ []) there
    → IsShown (Contains changes) (query_behind last.row q) rest more
    → IsShown (Contains changes) (record q { limit = n + q.limit }) ((front ++ last ∷ []) ++ rest) more
