-- Cells of rows, one row after another.
use Rattle.std.proofs.Common.{◌≡◌, ℕ, ◌+◌, ◌<◌, length, take, get_or, List, [], ◌∷◌, ◌++◌, Option, refl, sym, ◌∙◌, ap, subst, append_assoc, append-nil}
use Rattle.changes.specs.declared.ShownRow.{ShownRow}
use Rattle.cql_values.specs.declared.value.CqlValue.{CqlValue}
use Rattle.row_values.specs.Values.{AreValuesOf}
use Rattle.schema_book.specs.declared.table.ColumnDef.{ColumnDef}
use Rattle.session_v4.specs.Answers.{AreCells, cell_at, cells_at}
use Rattle.session_v4.specs.Described.{column_at, columns_at}
use Rattle.response_bodies.specs.declared.metadata.Column.{Column}
use Rattle.std.specs.Prelude.{slice_get}
use Rattle.std.proofs.lemmas.List.{take_more}
use Rattle.std.proofs.lemmas.List.Concat.{flat_map-append}

pub cells_append : (columns : List ColumnDef) (key numbers : List ℕ) (rs : List ShownRow) (r : ShownRow) (cells : List (Option (List ℕ)))
    (values : List (Option CqlValue)) → AreCells columns key numbers rs cells → AreValuesOf columns key r values
    → AreCells columns key numbers (rs ++ r ∷ []) (cells ++ cells_at numbers values)
cells_append columns key numbers [] r cells values h v =
    (values, [], v, refl, ap (λ (cs : List (Option (List ℕ))). cs ++ cells_at numbers values) h ∙ sym (append-nil (cells_at numbers values)))
cells_append columns key numbers (q ∷ qs) r cells values (first, later, w, rest, e) v = (
  first,
  later ++ cells_at numbers values,
  w,
  cells_append columns key numbers qs r later values rest v,
  ap (λ (cs : List (Option (List ℕ))). cs ++ cells_at numbers values) e ∙ append_assoc (cells_at numbers first) later (cells_at numbers values),
)

-- one row more
pub cells_grow : (columns : List ColumnDef) (key numbers : List ℕ) (rows : List ShownRow) (i : ℕ) (r : ShownRow) (cells more : List (Option (List ℕ)))
    (values : List (Option CqlValue)) → i < length rows → r ≡ get_or rows i r → AreCells columns key numbers (take i rows) cells
    → AreValuesOf columns key r values → more ≡ cells ++ cells_at numbers values → AreCells columns key numbers (take (i + 1) rows) more
cells_grow columns key numbers rows i r cells more values below is h v e =
    let P : List ShownRow → Type 0 = λ rs. AreCells columns key numbers rs more in
    let Q : List (Option (List ℕ)) → Type 0 = λ cs. AreCells columns key numbers (take i rows ++ r ∷ []) cs in
    subst P (sym (take_more rows i r below ∙ ap (λ (q : ShownRow). take i rows ++ q ∷ []) (sym is)))
    (subst Q (sym e) (cells_append columns key numbers (take i rows) r cells values h v))

-- one number more
pub cells_more : (numbers : List ℕ) (values : List (Option CqlValue)) (i : ℕ) → i < length numbers
    → cells_at (take (i + 1) numbers) values ≡ cells_at (take i numbers) values ++ cell_at (slice_get values (get_or numbers i 0))
cells_more numbers values i h =
    ap (λ (ns : List ℕ). cells_at ns values) (take_more numbers i 0 h)
    ∙ flat_map-append (λ n. cell_at (slice_get values n)) (take i numbers) (get_or numbers i 0 ∷ [])
    ∙ ap (λ (cs : List (Option (List ℕ))). cells_at (take i numbers) values ++ cs) (append-nil (cell_at (slice_get values (get_or numbers i 0))))

pub columns_more : (numbers : List ℕ) (defs : List ColumnDef) (i : ℕ) → i < length numbers
    → columns_at defs (take (i + 1) numbers) ≡ columns_at defs (take i numbers) ++ column_at (slice_get defs (get_or numbers i 0))
columns_more numbers defs i h =
    ap (columns_at defs) (take_more numbers i 0 h)
    ∙ flat_map-append (λ n. column_at (slice_get defs n)) (take i numbers) (get_or numbers i 0 ∷ [])
    ∙ ap (λ (cs : List Column). columns_at defs (take i numbers) ++ cs) (append-nil (column_at (slice_get defs (get_or numbers i 0))))
