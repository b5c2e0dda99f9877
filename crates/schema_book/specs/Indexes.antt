-- An index of tables, by keyspace and name.
use Rattle.std.specs.Prelude.{◌≡◌, ℕ, if◌then◌else◌, List, Option, None, Some}
use Rattle.std.specs.List.{find}
use Rattle.std.specs.Option.{option_or}
use Rattle.std.specs.Str.{bytes_eq}
use Rattle.std.specs.BTreeMap.{get_by_text}
use Rattle.schema_book.specs.declared.index.Index.{Index}
use Rattle.schema_book.specs.declared.index.Names.{Names}
use Rattle.schema_book.specs.declared.table.Table.{Table}
use Rattle.schema_book.specs.Books.{is_of}
use Rattle.schema_book.specs.Places.{StandsAt}

abbrev pub place_named : Option Names → List ℕ → Option ℕ
place_named None name = None
place_named (Some names) name = get_by_text names.places name

-- the place that the index has for these names
abbrev pub place_of : Index → List ℕ → List ℕ → Option ℕ
place_of index keyspace name = place_named (get_by_text index.keyspaces keyspace) name

-- the names of a keyspace, which the index loses
abbrev pub TakesOut : Index → List ℕ → Index → Names → Type 0
TakesOut index keyspace index' names =
    ((q : List ℕ) → get_by_text names.places q ≡ place_of index keyspace q)
    × ((k : List ℕ) → get_by_text index'.keyspaces k ≡ (if bytes_eq keyspace k then None else get_by_text index.keyspaces k))

-- a place for these names alone
abbrev pub table_place : ℕ → Table → List ℕ → List ℕ → Option ℕ
table_place place t keyspace name = if is_of keyspace name t then Some place else None

-- an index, with the place of a table, unless its names had one
abbrev pub EntersTable : Index → Table → ℕ → Index → Type 0
EntersTable index t place index' =
    (keyspace name : List ℕ) → place_of index' keyspace name ≡ option_or (place_of index keyspace name) (table_place place t keyspace name)

-- the first table of these names
abbrev pub table_in : List Table → List ℕ → List ℕ → Option Table
table_in tables keyspace name = find (is_of keyspace name) tables

-- the index has the places of these tables
abbrev pub IsIndexOf : List Table → Index → Type 0
IsIndexOf tables index = (keyspace name : List ℕ) → StandsAt tables (place_of index keyspace name) (table_in tables keyspace name)
