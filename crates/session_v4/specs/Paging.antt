-- Pages of a read (native_protocol_v4.spec, section 8).
use Rattle.std.specs.Prelude.{◌≡◌, ℕ, pos, negsuc, ℤ, ◌&&◌, nat_lt, Bool, true, false, List, [], ◌∷◌, ◌++◌, Option, Some, None, Result, Ok, Err, if◌then◌else◌}
use Rattle.std.specs.declared.cmp.Ordering.{Ordering}
use Rattle.std.specs.declared.cmp.Ordering.TheVariants.{Less, Equal, Greater}
use Rattle.changes.specs.Places.{bound_cmp}
use Rattle.changes.specs.declared.Bound.{Bound}
use Rattle.changes.specs.declared.Query.{Query}
use Rattle.page_state.specs.Pages.{row_in}
use Rattle.page_state.specs.declared.state.PagingError.{PagingError}
use Rattle.page_state.specs.declared.state.PagingError.TheVariants as error
use Rattle.statement_plan.specs.declared.plan.Columns.{Columns}
use Rattle.statement_plan.specs.declared.plan.Columns.TheVariants.{Listed, Count}

-- ---- where a page begins

-- right behind a row: no row's bytes stand between it and those with a zero byte behind them
abbrev pub behind_row : List ℕ → Bound
behind_row row = record { at = row ++ 0 ∷ []; after = false }

abbrev pub before_row : List ℕ → Bound
before_row row = record { at = row; after = false }

abbrev pub later_by : Ordering → Bound → Bound → Bound
later_by Less a b = b
later_by Equal a b = a
later_by Greater a b = a

abbrev pub later_bound : Bound → Bound → Bound
later_bound a b = later_by (bound_cmp a b) a b

abbrev pub earlier_by : Ordering → Bound → Bound → Bound
earlier_by Less a b = a
earlier_by Equal a b = a
earlier_by Greater a b = b

abbrev pub earlier_bound : Bound → Bound → Bound
earlier_bound a b = earlier_by (bound_cmp a b) a b

-- the rows of a query that stand behind a row, in the query's order
abbrev pub behind_by : Bool → List ℕ → Query → Query
behind_by false row q = record q { from = later_bound (behind_row row) q.from }
behind_by true row q = record q { upto = earlier_bound (before_row row) q.upto }

abbrev pub query_behind : List ℕ → Query → Query
query_behind row q = behind_by q.reversed row q

-- the row behind which a page begins, if its state names one; a null state is none
abbrev pub row_named : Result (List ℕ) PagingError → Result (Option (List ℕ)) PagingError
row_named (Ok row) = Ok (Some row)
row_named (Err e) = Err e

abbrev pub row_before : Option (List ℕ) → Result (Option (List ℕ)) PagingError
row_before None = Ok None
row_before (Some state) = row_named (row_in state)

-- what was answered is this row or none, but that memory may have run out for one
abbrev pub RowAnswers : Result (Option (List ℕ)) PagingError → Result (Option (List ℕ)) PagingError → Type 0
RowAnswers (Ok row) meaning = meaning ≡ Ok row
RowAnswers (Err error.BadPaging) meaning = meaning ≡ Err error.BadPaging
RowAnswers (Err error.NoMemory) meaning = Unit {0}

-- ---- how many rows it has

-- a size above none and below the limit
abbrev pub size_within : Option ℤ → ℕ → Option ℕ
size_within None limit = None
size_within (Some (pos n)) limit = if nat_lt 0 n && nat_lt n limit then Some n else None
size_within (Some (negsuc n)) limit = None

-- the number of rows has one page
abbrev pub page_size : Columns → Option ℤ → ℕ → Option ℕ
page_size (Listed columns) size limit = size_within size limit
page_size Count size limit = None

abbrev pub page_begin : Columns → Option (List ℕ) → Option (List ℕ)
page_begin (Listed columns) row = row
page_begin Count row = None

-- ---- the query of a page

abbrev pub begun : Option (List ℕ) → Query → Query
begun None q = q
begun (Some row) q = query_behind row q

abbrev pub limited : Option ℕ → Query → Query
limited None q = q
limited (Some n) q = record q { limit = n }

abbrev pub page_query : Option (List ℕ) → Option ℕ → Query → Query
page_query row size q = limited size (begun row q)
