-- The map behind REPLICATION (CQL reference, "CREATE KEYSPACE").
use Rattle.std.specs.Prelude.{ℕ, ◌&&◌, if◌then◌else◌, Bool, true, false, List, [], ◌∷◌, Option, None, Some, codes}
use Rattle.std.specs.Str.{bytes_eq}
use Rattle.cql_values.specs.declared.value.Literal.{Literal}
use Rattle.cql_values.specs.declared.value.LiteralKind.{LiteralKind}
use Rattle.cql_values.specs.declared.value.LiteralKind.TheVariants as kinds
use Rattle.cql_values.specs.Literals.{unquoted}
use Rattle.cql_statement.specs.declared.schema.ReplicationEntry.{ReplicationEntry}
use Rattle.schema_book.specs.Options.{number_in, within}

-- 'class': 'SimpleStrategy'
abbrev pub is_strategy : ReplicationEntry → Bool
is_strategy e = bytes_eq e.key.text (codes "'class'") && bytes_eq e.value.text (codes "'SimpleStrategy'")

abbrev pub number_inside : Option (List ℕ) → Option ℕ
number_inside None = None
number_inside (Some text) = number_in text

-- whether it is a string
abbrev pub is_string : LiteralKind → Bool
is_string kinds.Str = true
is_string kinds.Whole = false
is_string kinds.Blob = false
is_string kinds.Uuid = false
is_string kinds.Bool = false

-- a number, with quotes round it or without them
abbrev pub literal_number : Literal → Option ℕ
literal_number l = if is_string l.kind then number_inside (unquoted l.text) else number_in l.text

-- 'replication_factor' with one replica to one on every node
abbrev pub entry_factor : ℕ → ReplicationEntry → Option ℕ
entry_factor nodes e = if bytes_eq e.key.text (codes "'replication_factor'") then within 1 nodes (literal_number e.value) else None

-- both, in either order, and nothing else
abbrev pub pair_factor : ℕ → ReplicationEntry → ReplicationEntry → Option ℕ
pair_factor nodes a b = if is_strategy a then entry_factor nodes b else if is_strategy b then entry_factor nodes a else None

abbrev pub factor_in : ℕ → List ReplicationEntry → Option ℕ
factor_in nodes [] = None
factor_in nodes (a ∷ []) = None
factor_in nodes (a ∷ b ∷ []) = pair_factor nodes a b
factor_in nodes (a ∷ b ∷ c ∷ es) = None
