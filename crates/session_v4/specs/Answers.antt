-- What a client is answered once a node has told.
use Rattle.std.specs.Prelude.{◌≡◌, ◌-◌, ◌&&◌, ℕ, min, pos, Bool, List, [], ◌∷◌, ◌++◌, length, Option, Some, None, flat_map, slice_get, if◌then◌else◌}
use Rattle.changes.specs.declared.ShownRow.{ShownRow}
use Rattle.client_desk.specs.declared.answer.Answer.{Answer}
use Rattle.client_desk.specs.declared.answer.Answer.TheVariants as answers
use Rattle.cql_values.specs.Protocol.{value_bytes}
use Rattle.cql_values.specs.declared.value.CqlValue.{CqlValue}
use Rattle.cql_values.specs.declared.value.CqlValue.TheVariants.{Bigint}
use Rattle.page_state.specs.Pages.{state_of}
use Rattle.response_bodies.specs.declared.metadata.RowsMetadata.{RowsMetadata}
use Rattle.response_bodies.specs.declared.response.Response.{Response}
use Rattle.response_bodies.specs.declared.response.Response.TheVariants as responses
use Rattle.row_values.specs.Values.{AreValuesOf}
use Rattle.schema_book.specs.Books.{Book}
use Rattle.schema_book.specs.declared.table.ColumnDef.{ColumnDef}
use Rattle.schema_book.specs.declared.table.Table.{Table}
use Rattle.statement_plan.specs.declared.plan.Columns.{Columns}
use Rattle.statement_plan.specs.declared.plan.Columns.TheVariants.{Listed, Count}
use Rattle.session_v4.specs.Described.{table_numbered, columns_of, shown_in, told_columns, count_of}
use Rattle.session_v4.specs.Refusals.{refusal_error, no_memory}
use Rattle.session_v4.specs.declared.outcome.Shown.{Shown}
use Rattle.session_v4.specs.declared.outcome.Wanted.{Wanted}

-- ---- cells, in the encoding of the protocol

abbrev pub cell_of : Option CqlValue → Option (List ℕ)
cell_of None = None
cell_of (Some v) = Some (value_bytes v)

abbrev pub cell_at : Option (Option CqlValue) → List (Option (List ℕ))
cell_at None = []
cell_at (Some value) = cell_of value ∷ []

-- the cells of the columns of these numbers
abbrev pub cells_at : List ℕ → List (Option CqlValue) → List (Option (List ℕ))
cells_at numbers values = flat_map (λ n. cell_at (slice_get values n)) numbers

-- the cells of the rows of a partition, row by row
abbrev pub AreCells : List ColumnDef → List ℕ → List ℕ → List ShownRow → List (Option (List ℕ)) → Type 0
AreCells columns key numbers [] cells = cells ≡ []
AreCells columns key numbers (r ∷ rs) cells =
    (values : List (Option CqlValue)) × (later : List (Option (List ℕ)))
    × AreValuesOf columns key r values × AreCells columns key numbers rs later × (cells ≡ cells_at numbers values ++ later)

-- the number of rows as a bigint, which holds it
abbrev pub count_cell : ℕ → Option (List ℕ)
count_cell n = Some (value_bytes (Bigint (pos (min n 9223372036854775807))))

-- ---- rows

-- behind which row the next page begins
abbrev pub last_row : List ShownRow → Option ShownRow
last_row rows = slice_get rows (length rows - 1)

abbrev pub state_behind : Option ShownRow → Option (Option (List ℕ))
state_behind None = None
state_behind (Some r) = Some (Some (state_of r.row))

abbrev pub next_state : Bool → Bool → List ShownRow → Option (Option (List ℕ))
next_state is_paged more rows = if is_paged && more then state_behind (last_row rows) else None

abbrev pub metadata_of : Option Table → Shown → Bool → List ShownRow → RowsMetadata
metadata_of t s more rows = record { columns = told_columns s.skip_metadata (shown_in t s.columns); paging_state = next_state s.is_paged more rows }

abbrev pub rows_of : RowsMetadata → ℕ → List (Option (List ℕ)) → Response
rows_of metadata count cells = responses.Rows (record { metadata = metadata; row_count = count; cells = cells })

abbrev pub AreRows : Option Table → Shown → Columns → Bool → List ShownRow → Response → Type 0
AreRows t s (Listed numbers) more rows r =
    (cells : List (Option (List ℕ))) × AreCells (columns_of t) s.key numbers rows cells × (r ≡ rows_of (metadata_of t s more rows) (count_of (length rows)) cells)
AreRows t s Count more rows r = r ≡ rows_of (metadata_of t s more rows) 1 (count_cell (length rows) ∷ [])

-- ---- answers

-- rows that nobody asked for tell no more than that the request was done
abbrev pub IsRowsAnswer : Book → Option Shown → Bool → List ShownRow → Response → Type 0
IsRowsAnswer b None more rows r = r ≡ responses.Void
IsRowsAnswer b (Some s) more rows r = AreRows (table_numbered b s.table) s s.columns more rows r

abbrev pub IsAnswer : Book → Wanted → Answer → Response → Type 0
IsAnswer b w answers.Acknowledged r = r ≡ responses.Void
IsAnswer b w (answers.Rows rows more) r = IsRowsAnswer b w.shown more rows r
IsAnswer b w (answers.Refused refusal) r = r ≡ refusal_error w.consistency refusal
IsAnswer b w answers.NoMemory r = r ≡ no_memory
