-- Which rows the bounds of relations enclose.
use Rattle.std.specs.Prelude.{◌≡◌, ◌≢◌, ◌↔◌, ℕ, ◌+◌, Bool, true, false, List, [], ◌∷◌, ◌++◌, Option, Some, None, if◌then◌else◌, slice_get}
use Rattle.std.specs.declared.cmp.Ordering.{Ordering}
use Rattle.std.specs.Ordering.{is_eq, is_lt, is_le, is_gt, is_ge}
use Rattle.cql_statement.specs.declared.term.RelationOperator.{RelationOperator}
use Rattle.cql_statement.specs.declared.term.RelationOperator.TheVariants as operators
use Rattle.cql_values.specs.Value.{type_of, IsValue}
use Rattle.cql_values.specs.Order.{order_word, value_order}
use Rattle.cql_values.specs.declared.value.CqlType.{CqlType}
use Rattle.cql_values.specs.declared.value.CqlType.TheVariants as types
use Rattle.cql_values.specs.declared.value.CqlValue.{CqlValue}
use Rattle.changes.specs.Order.{IsBetween}
use Rattle.schema_book.specs.declared.table.ColumnDef.{ColumnDef}
use Rattle.schema_book.specs.declared.table.ColumnKind.TheVariants.{Clustering}
use Rattle.key_restrictions.specs.declared.restriction.Restriction.{Restriction}
use Rattle.key_restrictions.specs.Places.{is_clustering}
use Rattle.key_restrictions.specs.Checks.{misses_slice, is_twice, filters, is_on_row}
use Rattle.key_restrictions.specs.Rows.{from_of, upto_of}

abbrev pub IsOfType : CqlType → CqlValue → Type 0
IsOfType ty v = (type_of v ≡ ty) × IsValue v

-- ---- relations

-- each relation has a value of its column's type
abbrev pub AreTyped : List ColumnDef → List (Restriction CqlValue) → Type 0
AreTyped columns rs = (i : ℕ) (r : Restriction CqlValue) (d : ColumnDef) → slice_get rs i ≡ Some r → slice_get columns r.column ≡ Some d
    → IsOfType d.ty r.value

-- nothing is wrong with the relations
pub record NameRows (columns : List ColumnDef) (rs : List (Restriction CqlValue)) : Type 0 where
  pub slice : misses_slice columns rs ≡ false
  pub once : is_twice columns rs ≡ false
  pub of_key : filters columns rs ≡ false
  pub typed : AreTyped columns rs

-- the order of a value to that of the relation is such as the operator says
abbrev pub is_met : RelationOperator → Ordering → Bool
is_met operators.Equal o = is_eq o
is_met operators.Less o = is_lt o
is_met operators.LessOrEqual o = is_le o
is_met operators.Greater o = is_gt o
is_met operators.GreaterOrEqual o = is_ge o

-- where the two compare
abbrev pub is_met_in : RelationOperator → Option Ordering → Bool
is_met_in operator None = false
is_met_in operator (Some o) = is_met operator o

-- the value is such as the relation says
abbrev pub meets : CqlValue → Restriction CqlValue → Bool
meets w r = is_met_in r.operator (value_order w r.value)

-- ---- rows

-- a row has a value at the place of each clustering column, none of them a uuid
abbrev pub IsRow : List ColumnDef → (ℕ → CqlValue) → Type 0
IsRow columns row = (place : ℕ) (d : ColumnDef) → slice_get columns place ≡ Some d → d.kind ≡ Clustering
    → IsOfType d.ty (row place) × (d.ty ≢ types.Uuid)

-- the order bytes of its clustering columns, from this place on
abbrev pub bytes_from : (ℕ → CqlValue) → ℕ → List ColumnDef → List ℕ
bytes_from row place [] = []
bytes_from row place (d ∷ ds) =
    if is_clustering d.kind then order_word d.is_descending (row place) ++ bytes_from row (place + 1) ds else bytes_from row (place + 1) ds

abbrev pub row_bytes : List ColumnDef → (ℕ → CqlValue) → List ℕ
row_bytes columns row = bytes_from row 0 columns

-- the row meets each relation on a clustering column
abbrev pub MeetsAll : List ColumnDef → List (Restriction CqlValue) → (ℕ → CqlValue) → Type 0
MeetsAll columns rs row = (i : ℕ) (r : Restriction CqlValue) → slice_get rs i ≡ Some r → is_on_row columns r ≡ true → meets (row r.column) r ≡ true

-- ---- the law

-- A row lies between the bounds exactly where it meets the relations.
abbrev pub BoundsEncloseRows : Type 0
BoundsEncloseRows = (columns : List ColumnDef) (rs : List (Restriction CqlValue)) (row : ℕ → CqlValue) → NameRows columns rs → IsRow columns row
    → IsBetween (from_of columns rs) (upto_of columns rs) (row_bytes columns row) ↔ MeetsAll columns rs row
