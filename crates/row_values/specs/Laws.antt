-- What was written is read again.
use Rattle.std.specs.Prelude.{◌≡◌, ◌≢◌, ◌<◌, ◌↔◌, ℕ, List, [], ◌∷◌, ◌++◌, Option, Some, None, length, map}
use Rattle.std.specs.List.{AllByRecursion}
use Rattle.changes.specs.declared.ShownRow.{ShownRow}
use Rattle.cql_values.specs.Order.{order_word}
use Rattle.cql_values.specs.Value.{type_of}
use Rattle.cql_values.specs.declared.value.CqlType.{CqlType}
use Rattle.cql_values.specs.declared.value.CqlType.TheVariants as types
use Rattle.cql_values.specs.declared.value.CqlValue.{CqlValue}
use Rattle.key_restrictions.specs.Laws.{IsOfType}
use Rattle.key_restrictions.specs.Rows.{joined}
use Rattle.schema_book.specs.Laws.{StandInOrder}
use Rattle.schema_book.specs.declared.table.ColumnDef.{ColumnDef}
use Rattle.row_values.specs.Keys.{key_parts}
use Rattle.row_values.specs.Values.{AreRead, AreValuesOf}

-- ---- the partition key

-- each part's length has two bytes
abbrev pub AreShort : List (List ℕ) → Type 0
AreShort parts = AllByRecursion (λ part. length part < 65536) parts

-- The parts of a key are those of which it was made.
abbrev pub KeysComeBack : Type 0
KeysComeBack = (parts : List (List ℕ)) → AreShort parts → key_parts (length parts) (joined parts) ≡ map Some parts

-- ---- the clustering columns

-- there is a value of each column's type, none of them a uuid
abbrev pub AreOfColumns : List ColumnDef → List CqlValue → Type 0
AreOfColumns [] [] = Unit {0}
AreOfColumns [] (v ∷ vs) = ⊥
AreOfColumns (c ∷ cs) [] = ⊥
AreOfColumns (c ∷ cs) (v ∷ vs) = IsOfType c.ty v × (c.ty ≢ types.Uuid) × AreOfColumns cs vs

-- the order bytes of the values, one behind another
abbrev pub order_words : List ColumnDef → List CqlValue → List ℕ
order_words [] vs = []
order_words (c ∷ cs) [] = []
order_words (c ∷ cs) (v ∷ vs) = order_word c.is_descending v ++ order_words cs vs

-- The values that are read from a row's order bytes are those of which they were made, and no others.
abbrev pub ClusteringValuesComeBack : Type 0
ClusteringValuesComeBack = (columns : List ColumnDef) (vs : List CqlValue) (values : List (Option CqlValue)) → AreOfColumns columns vs
    → AreRead columns (order_words columns vs) values ↔ (values ≡ map Some vs)

-- ---- the whole row

-- There is a value for each column.
abbrev pub EachColumnHasAValue : Type 0
EachColumnHasAValue = (columns : List ColumnDef) (key : List ℕ) (row : ShownRow) (values : List (Option CqlValue)) → AreValuesOf columns key row values
    → length values ≡ length columns

-- No others are the values of the row.
abbrev pub ValuesAreDetermined : Type 0
ValuesAreDetermined = (columns : List ColumnDef) (key : List ℕ) (row : ShownRow) (values others : List (Option CqlValue)) → AreValuesOf columns key row values
    → AreValuesOf columns key row others → values ≡ others

-- a value is one of the type, if there is one
abbrev pub HasType : CqlType → Option CqlValue → Type 0
HasType ty None = Unit {0}
HasType ty (Some v) = type_of v ≡ ty

-- each column's value stands at its place
abbrev pub AreOfTypes : List ColumnDef → List (Option CqlValue) → Type 0
AreOfTypes [] [] = Unit {0}
AreOfTypes [] (value ∷ values) = ⊥
AreOfTypes (c ∷ cs) [] = ⊥
AreOfTypes (c ∷ cs) (value ∷ values) = HasType c.ty value × AreOfTypes cs values

-- Where columns stand in the order of a table, each value is of the type of the column with its number.
abbrev pub ValuesAreOfTypes : Type 0
ValuesAreOfTypes = (columns : List ColumnDef) (key : List ℕ) (row : ShownRow) (values : List (Option CqlValue)) → StandInOrder columns
    → AreValuesOf columns key row values → AreOfTypes columns values
