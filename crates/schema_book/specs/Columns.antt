-- The columns of a table, in the order in which it keeps them.
use Rattle.std.specs.Prelude.{◌≡◌, ℕ, ◌||◌, if◌then◌else◌, Bool, false, List, [], ◌∷◌, ◌++◌, Option, None, Some, flat_map, fold, position}
use Rattle.std.specs.Map.{values_of}
use Rattle.std.specs.BTreeMap.{insert_entry, get_by_text}
use Rattle.std.specs.Str.{bytes_eq}
use Rattle.std.specs.Ordering.{nat_cmp}
use Rattle.std.specs.Cmp.Lexicographic.{slice_cmp}
use Rattle.cql_statement.specs.declared.schema.ColumnItem.{ColumnItem}
use Rattle.cql_statement.specs.declared.schema.TableOption.{TableOption}
use Rattle.schema_book.specs.declared.index.Names.{Names}
use Rattle.schema_book.specs.declared.table.ColumnDef.{ColumnDef}
use Rattle.schema_book.specs.declared.table.ColumnKind.{ColumnKind}
use Rattle.schema_book.specs.declared.table.ColumnKind.TheVariants.{Partition, Clustering, Regular}
use Rattle.schema_book.specs.Names.{is_among}
use Rattle.schema_book.specs.Options.{falls_in}
use Rattle.schema_book.specs.Places.{column_in}
use Rattle.schema_book.specs.Outlines.{partition_in, clustering_in}
use Rattle.schema_book.specs.declared.outline.Outline.{Outline}

abbrev pub def_of : ColumnKind → Bool → ColumnItem → ColumnDef
def_of kind falls c = record { name = c.name; ty = c.ty; kind = kind; is_descending = falls }

-- what a name stands for, if there is a column of it
abbrev pub found : (ColumnItem → ColumnDef) → Option ColumnItem → List ColumnDef
found def None = []
found def (Some c) = def c ∷ []

abbrev pub partition_def : List ColumnItem → List ℕ → List ColumnDef
partition_def columns name = found (def_of Partition false) (column_in columns name)

abbrev pub partition_defs : Outline → List ColumnDef
partition_defs o = flat_map (partition_def o.columns) (partition_in o.keys)

abbrev pub clustering_item : List TableOption → ColumnItem → ColumnDef
clustering_item options c = def_of Clustering (falls_in options c.name) c

abbrev pub clustering_def : List TableOption → List ColumnItem → List ℕ → List ColumnDef
clustering_def options columns name = found (clustering_item options) (column_in columns name)

abbrev pub clustering_defs : List TableOption → Outline → List ColumnDef
clustering_defs options o = flat_map (clustering_def options o.columns) (clustering_in o.keys)

abbrev pub is_of_key : Outline → ColumnItem → Bool
is_of_key o c = is_among c.name (partition_in o.keys) || is_among c.name (clustering_in o.keys)

-- one more column, at its place by name, unless it is of the key
abbrev pub with_other : Outline → List (List ℕ × ColumnDef) → ColumnItem → List (List ℕ × ColumnDef)
with_other o defs c = if is_of_key o c then defs else insert_entry (slice_cmp nat_cmp) defs c.name (def_of Regular false c)

-- the columns that are not of the key, by name
abbrev pub sorted_others : Outline → List (List ℕ × ColumnDef)
sorted_others o = fold (with_other o) [] o.columns

-- the columns of the partition key, the clustering columns, and the others by name
abbrev pub defs_of : List TableOption → Outline → List ColumnDef
defs_of options o = partition_defs o ++ (clustering_defs options o ++ values_of (sorted_others o))

-- the place of the first column of this name
abbrev pub column_place : List ColumnDef → List ℕ → Option ℕ
column_place columns name = position (λ d. bytes_eq d.name name) columns

-- the map has each name's place
abbrev pub ArePlacesOf : List ColumnDef → Names → Type 0
ArePlacesOf columns names = (name : List ℕ) → get_by_text names.places name ≡ column_place columns name
