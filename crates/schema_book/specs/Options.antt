-- The options of CREATE TABLE (CQL reference, "Table options").
use Rattle.std.specs.Prelude.{ℕ, ◌||◌, ◌&&◌, ◌^◌, nat_lt, not, is_some, if◌then◌else◌, Bool, false, List, Option, None, Some, map, length, codes, fold}
use Rattle.std.specs.List.{list_any}
use Rattle.std.specs.Str.{bytes_eq, all_ascii_digits}
use Rattle.std.specs.Str.Parse.{digits_value, without_leading_plus}
use Rattle.cql_statement.specs.declared.schema.ColumnOrder.{ColumnOrder}
use Rattle.cql_statement.specs.declared.schema.OptionItem.{OptionItem}
use Rattle.cql_statement.specs.declared.schema.TableOption.{TableOption}
use Rattle.cql_statement.specs.declared.schema.TableOption.TheVariants.{ClusteringOrder, Named}
use Rattle.schema_book.specs.Names.{is_front}

-- the number that a text writes, below 2 ^ 64: decimal digits, at least one, and perhaps a plus before them
abbrev pub digits_number : List ℕ → Option ℕ
digits_number ds = if nat_lt 0 (length ds) && (all_ascii_digits ds && nat_lt (digits_value 10 ds) (2 ^ 64)) then Some (digits_value 10 ds) else None

abbrev pub number_in : List ℕ → Option ℕ
number_in text = digits_number (without_leading_plus text)

abbrev pub within : ℕ → ℕ → Option ℕ → Option ℕ
within low high None = None
within low high (Some n) = if nat_lt n low || nat_lt high n then None else Some n

-- seconds
abbrev pub most_grace : ℕ
most_grace = 100000000

abbrev pub is_grace : OptionItem → Bool
is_grace o = bytes_eq o.name (codes "gc_grace_seconds")

abbrev pub grace_of : OptionItem → Option ℕ
grace_of o = within 0 most_grace (number_in o.value.text)

-- the last of such options counts
abbrev pub or_keep : ℕ → Option ℕ → ℕ
or_keep grace None = grace
or_keep grace (Some n) = n

abbrev pub grace_after : ℕ → TableOption → ℕ
grace_after grace (ClusteringOrder orders) = grace
grace_after grace (Named o) = if is_grace o then or_keep grace (grace_of o) else grace

abbrev pub grace_in : ℕ → List TableOption → ℕ
grace_in grace options = fold grace_after grace options

-- an order has DESC for a column
abbrev pub falls : List ℕ → List ColumnOrder → Bool
falls name orders = list_any (λ o. bytes_eq o.column name && o.is_descending) orders

-- the last CLUSTERING ORDER counts
abbrev pub falls_after : List ℕ → Bool → TableOption → Bool
falls_after name before (ClusteringOrder orders) = falls name orders
falls_after name before (Named o) = before

abbrev pub falls_in : List TableOption → List ℕ → Bool
falls_in options name = fold (falls_after name) false options

abbrev pub order_names : List ColumnOrder → List (List ℕ)
order_names orders = map (λ o. o.column) orders

-- A clustering order names the clustering columns from the first on. Of named options there are two: a grace, which is
-- a number of seconds within its limit, and a comment, which is anything
abbrev pub is_bad_option : List (List ℕ) → TableOption → Bool
is_bad_option clustering (ClusteringOrder orders) = not (is_front (order_names orders) clustering)
is_bad_option clustering (Named o) =
    if is_grace o then not (is_some (grace_of o)) else not (bytes_eq o.name (codes "comment"))

abbrev pub has_bad_option : List (List ℕ) → List TableOption → Bool
has_bad_option clustering options = list_any (is_bad_option clustering) options
