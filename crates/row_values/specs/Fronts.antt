-- What is found at the front of bytes.
use Rattle.std.specs.Prelude.{◌≡◌, ℕ, List, ◌++◌, Option, Some, None, length}
use Rattle.cql_values.specs.declared.value.CqlValue.{CqlValue}
use Rattle.schema_book.specs.declared.table.ColumnDef.{ColumnDef}
use Rattle.row_values.specs.Values.{IsFront, HasNoFront}
use Rattle.row_values.specs.declared.front.Front.{Front}

abbrev pub IsFrontAs : ColumnDef → List ℕ → Option CqlValue → ℕ → Type 0
IsFrontAs column bytes None n = HasNoFront column bytes × (n ≡ length bytes)
IsFrontAs column bytes (Some v) n = IsFront column bytes n v

-- the value of a clustering column, or none, with all bytes
abbrev pub IsFrontOf : ColumnDef → List ℕ → Front → Type 0
IsFrontOf column bytes front = IsFrontAs column bytes front.value front.len

-- values that are such come behind those from before
abbrev pub Adds : (List (Option CqlValue) → Type 0) → List (Option CqlValue) → List (Option CqlValue) → Type 0
Adds AreSuch old new = (added : List (Option CqlValue)) × AreSuch added × (new ≡ old ++ added)
