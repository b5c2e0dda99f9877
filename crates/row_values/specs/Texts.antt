-- The literals of values, one behind another, and what is shown of them.
use Rattle.std.specs.Prelude.{◌≡◌, ℕ, ◌+◌, ◌≤◌, List, [], ◌∷◌, ◌++◌, Option, Some, None, codes, length, flat_map, slice_get, slice_range}
use Rattle.changes.specs.declared.ShownRow.{ShownRow}
use Rattle.cql_values.specs.declared.value.CqlValue.{CqlValue}
use Rattle.schema_book.specs.declared.table.ColumnDef.{ColumnDef}
use Rattle.row_values.specs.Prints.{value_text, values_text}
use Rattle.row_values.specs.Values.{AreRead, AreValuesOf, clustering_columns, other_values}
use Rattle.row_values.specs.declared.literals.Literals.{Literals}
use Rattle.row_values.specs.declared.literals.Mark.{Mark}
use Rattle.row_values.specs.declared.literals.Span.{Span}

abbrev pub span_at : ℕ → ℕ → Span
span_at start end = record { start = start; end = end }

-- where the literals stand, from this place on
abbrev pub spans_of : ℕ → List (Option CqlValue) → List Span
spans_of start [] = []
spans_of start (v ∷ vs) = span_at start (start + length (value_text v)) ∷ spans_of (start + length (value_text v)) vs

pub record AreOf (values : List (Option CqlValue)) (literals : Literals) : Type 0 where
  pub text : literals.text.items ≡ flat_map value_text values
  pub spans : literals.spans.items ≡ spans_of 0 values

abbrev pub AreOfSome : Literals → Type 0
AreOfSome literals = (values : List (Option CqlValue)) × AreOf values literals

-- those of more values come behind
abbrev pub Extends : List (Option CqlValue) → Literals → Literals → Type 0
Extends added old new = (before : List (Option CqlValue)) → AreOf before old → AreOf (before ++ added) new

abbrev pub ExtendsBy : (List (Option CqlValue) → Type 0) → Literals → Literals → Type 0
ExtendsBy AreSuch old new = (added : List (Option CqlValue)) × AreSuch added × Extends added old new

-- ---- what is shown

abbrev pub piece_of : List ℕ → Option Span → List ℕ
piece_of text None = codes "null"
piece_of text (Some span) = slice_range text span.start span.end

abbrev pub shown_at : Literals → ℕ → List ℕ
shown_at literals number = piece_of literals.text.items (slice_get literals.spans.items number)

abbrev pub next_shown : Literals → ℕ → List ℕ
next_shown literals number = codes " | " ++ shown_at literals number

abbrev pub shown_text : Literals → List ℕ → List ℕ
shown_text literals [] = []
shown_text literals (number ∷ later) = shown_at literals number ++ flat_map (next_shown literals) later

-- ---- lines

-- the literals of the partition's key come first, up to the mark
pub record Begins (keys : List (Option CqlValue)) (mark : Mark) (literals : Literals) : Type 0 where
  pub later : List (Option CqlValue)
  pub are : AreOf (keys ++ later) literals
  pub text : mark.text ≡ length (flat_map value_text keys)
  pub spans : mark.spans ≡ length keys

abbrev pub IsMarked : Mark → Literals → Type 0
IsMarked mark literals = (keys : List (Option CqlValue)) × Begins keys mark literals

-- a row is printed, and those of the key stay
pub record HasLine (columns : List ColumnDef) (row : ShownRow) (shown : List ℕ) (keys : List (Option CqlValue)) (mark : Mark) (out : List ℕ) (literals : Literals) (out' : List ℕ) : Type 0 where
  pub begins : Begins keys mark literals
  pub clustering : List (Option CqlValue)
  pub read : AreRead (clustering_columns columns) row.row clustering
  pub printed : out' ≡ out ++ (32 ∷ values_text (keys ++ (clustering ++ other_values columns row.cells)) shown ++ 10 ∷ [])
