-- What is so of every schema.
use Rattle.std.specs.Prelude.{◌≡◌, ℕ, ◌≤◌, ◌++◌, [], ◌∷◌, ⊤, List, Ok, Err, length, slice_get, take, Some}
use Rattle.std.specs.List.{AllByRecursion, find}
use Rattle.std.specs.declared.cmp.Ordering.TheVariants.{Less}
use Rattle.std.specs.Ordering.{nat_cmp}
use Rattle.std.specs.Cmp.Lexicographic.{slice_cmp}
use Rattle.cql_statement.specs.declared.statement.Statement.{Statement}
use Rattle.schema_book.specs.declared.error.Refused.{Refused}
use Rattle.schema_book.specs.declared.table.ColumnDef.{ColumnDef}
use Rattle.schema_book.specs.declared.table.ColumnKind.{ColumnKind}
use Rattle.schema_book.specs.declared.table.ColumnKind.TheVariants.{Partition, Clustering, Regular}
use Rattle.schema_book.specs.declared.table.Table.{Table}
use Rattle.schema_book.specs.Books.{Book, book_of, book_after, is_of, most_columns, most_tables}

-- the statements before it are taken, and then it is refused for this
pub record IsRefusedFirst (nodes factor grace : ℕ) (statements : List Statement) (r : Refused) : Type 0 where
  pub book : Book
  pub before : book_of nodes factor grace (take r.statement statements) ≡ Ok book
  pub statement : Statement
  pub stands : slice_get statements r.statement ≡ Some statement
  pub refused : book_after nodes grace book statement ≡ Err r.fault

abbrev pub RefusalsAreFirst : Type 0
RefusalsAreFirst = (nodes factor grace : ℕ) (statements : List Statement) (r : Refused)
    → book_of nodes factor grace statements ≡ Err r → IsRefusedFirst nodes factor grace statements r

-- each table's number is its place
abbrev pub IsNumbered : List Table → Type 0
IsNumbered tables = (i : ℕ) (t : Table) → slice_get tables i ≡ Some t → t.number ≡ i

abbrev pub TablesAreNumbered : Type 0
TablesAreNumbered = (nodes factor grace : ℕ) (statements : List Statement) (b : Book)
    → book_of nodes factor grace statements ≡ Ok b → IsNumbered b.tables

abbrev pub TablesAreFew : Type 0
TablesAreFew = (nodes factor grace : ℕ) (statements : List Statement) (b : Book)
    → book_of nodes factor grace statements ≡ Ok b → length b.tables ≤ most_tables

-- a table has no more columns than fit
abbrev pub AreNarrow : List Table → Type 0
AreNarrow tables = (i : ℕ) (t : Table) → slice_get tables i ≡ Some t → length t.columns ≤ most_columns

abbrev pub ColumnsAreFew : Type 0
ColumnsAreFew = (nodes factor grace : ℕ) (statements : List Statement) (b : Book)
    → book_of nodes factor grace statements ≡ Ok b → AreNarrow b.tables

-- strictly ascending by name
abbrev pub Ascend : List ColumnDef → Type 0
Ascend [] = ⊤
Ascend (d ∷ ds) = AllByRecursion (λ e. slice_cmp nat_cmp d.name e.name ≡ Less) ds × Ascend ds

abbrev pub AreAll : ColumnKind → List ColumnDef → Type 0
AreAll kind defs = AllByRecursion (λ d. d.kind ≡ kind) defs

-- the columns of the partition key, then the clustering columns, then the others by name
pub record StandInOrder (columns : List ColumnDef) : Type 0 where
  pub partition : List ColumnDef
  pub clustering : List ColumnDef
  pub others : List ColumnDef
  pub all : columns ≡ partition ++ (clustering ++ others)
  pub of_partition : AreAll Partition partition
  pub of_clustering : AreAll Clustering clustering
  pub of_others : AreAll Regular others
  pub by_name : Ascend others

abbrev pub AreInOrder : List Table → Type 0
AreInOrder tables = (i : ℕ) (t : Table) → slice_get tables i ≡ Some t → StandInOrder t.columns

abbrev pub ColumnsAreInOrder : Type 0
ColumnsAreInOrder = (nodes factor grace : ℕ) (statements : List Statement) (b : Book)
    → book_of nodes factor grace statements ≡ Ok b → AreInOrder b.tables

-- each table is the one of its names
abbrev pub AreFound : List Table → Type 0
AreFound tables = (i : ℕ) (t : Table) → slice_get tables i ≡ Some t → find (is_of t.keyspace t.name) tables ≡ Some t

abbrev pub TablesAreFound : Type 0
TablesAreFound = (nodes factor grace : ℕ) (statements : List Statement) (b : Book)
    → book_of nodes factor grace statements ≡ Ok b → AreFound b.tables
