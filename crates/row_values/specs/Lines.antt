-- The lines of rows.
use Rattle.std.specs.Prelude.{◌≡◌, ℕ, List, [], ◌∷◌, ◌++◌, Option}
use Rattle.changes.specs.declared.ShownRow.{ShownRow}
use Rattle.cql_values.specs.declared.value.CqlValue.{CqlValue}
use Rattle.schema_book.specs.declared.table.ColumnDef.{ColumnDef}
use Rattle.row_values.specs.Prints.{values_text}
use Rattle.row_values.specs.Values.{AreValuesOf}

-- the line of a row: a space, the values of these of its columns, and the line's end
abbrev pub IsLine : List ColumnDef → List ℕ → List ℕ → ShownRow → List ℕ → Type 0
IsLine columns key shown row line =
    (values : List (Option CqlValue)) × AreValuesOf columns key row values × (line ≡ 32 ∷ values_text values shown ++ 10 ∷ [])

-- one line for each row
abbrev pub AreLines : (ShownRow → List ℕ → Type 0) → List ShownRow → List ℕ → Type 0
AreLines IsOne [] lines = lines ≡ []
AreLines IsOne (row ∷ rows) lines = (first : List ℕ) × (later : List ℕ) × IsOne row first × AreLines IsOne rows later × (lines ≡ first ++ later)
