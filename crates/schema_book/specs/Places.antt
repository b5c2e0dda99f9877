-- Where what has a name stands in a list.
use Rattle.std.specs.Prelude.{◌≡◌, ℕ, if◌then◌else◌, is_some, true, false, List, Option, None, Some, slice_get}
use Rattle.std.specs.List.{find}
use Rattle.std.specs.Option.{option_or}
use Rattle.std.specs.Str.{bytes_eq}
use Rattle.std.specs.BTreeMap.{get_by_text}
use Rattle.cql_statement.specs.declared.schema.ColumnItem.{ColumnItem}
use Rattle.schema_book.specs.declared.index.Names.{Names}
use Rattle.schema_book.specs.declared.table.Keyspace.{Keyspace}

-- a place for this name alone
abbrev pub lone_place : ℕ → List ℕ → List ℕ → Option ℕ
lone_place place name q = if bytes_eq name q then Some place else None

-- names, with a place for one of them, unless it had one
abbrev pub Enters : Names → List ℕ → ℕ → Names → Type 0
Enters names name place names' = (q : List ℕ) → get_by_text names'.places q ≡ option_or (get_by_text names.places q) (lone_place place name q)

-- names, with a place for one that had none; none where it had one
abbrev pub AddsNew : Names → List ℕ → Option Names → Type 0
AddsNew names name None = is_some (get_by_text names.places name) ≡ true
AddsNew names name (Some names') = (is_some (get_by_text names.places name) ≡ false) × Enters names name 0 names'

-- what is found stands at the place
abbrev pub StandsAt : {A : Type 0} → List A → Option ℕ → Option A → Type 0
StandsAt listed None found = found ≡ None
StandsAt {A} listed (Some place) found = (x : A) × (found ≡ Some x) × (slice_get listed place ≡ Some x)

-- the first keyspace of this name
abbrev pub keyspace_in : List Keyspace → List ℕ → Option Keyspace
keyspace_in keyspaces name = find (λ k. bytes_eq k.name name) keyspaces

-- the names have the places of these keyspaces
abbrev pub AreKeyspacePlaces : List Keyspace → Names → Type 0
AreKeyspacePlaces keyspaces names = (name : List ℕ) → StandsAt keyspaces (get_by_text names.places name) (keyspace_in keyspaces name)

-- the first column of this name
abbrev pub column_in : List ColumnItem → List ℕ → Option ColumnItem
column_in columns name = find (λ c. bytes_eq c.name name) columns

-- the names have the places of these columns
abbrev pub AreItemPlaces : List ColumnItem → Names → Type 0
AreItemPlaces columns names = (name : List ℕ) → StandsAt columns (get_by_text names.places name) (column_in columns name)
