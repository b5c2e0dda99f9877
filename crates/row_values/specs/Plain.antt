-- Texts of which each byte stands for itself, in order bytes and in a literal.
use Rattle.std.specs.Prelude.{◌≡◌, ℕ, suc, ◌+◌, ◌≤◌, ◌==◌, ◌&&◌, not, Bool, true, false, nat_lt, List, [], ◌∷◌, ◌++◌, if◌then◌else◌, length, take}
use Rattle.cql_values.specs.Literals.{literal_text, quote}
use Rattle.cql_values.specs.declared.value.CqlType.{CqlType}
use Rattle.cql_values.specs.declared.value.CqlType.TheVariants as types
use Rattle.cql_values.specs.declared.value.CqlValue.TheVariants as values
use Rattle.schema_book.specs.declared.table.ColumnDef.{ColumnDef}
use Rattle.row_values.specs.Values.{IsFront}

-- ASCII, but for the zero, which order bytes escape, and the quote, which a literal doubles
abbrev pub is_plain : ℕ → Bool
is_plain b = nat_lt 0 b && nat_lt b 128 && not (b == quote)

-- how many bytes from the first one on are such
abbrev pub plain_count : List ℕ → ℕ
plain_count [] = 0
plain_count (b ∷ bs) = if is_plain b then plain_count bs + 1 else 0

-- the literal of such a text
abbrev pub plain_text : List ℕ → List ℕ
plain_text text = quote ∷ text ++ quote ∷ []

abbrev pub is_text : CqlType → Bool
is_text types.Text = true
is_text _ = false

-- the first bytes are such a text, which the two behind it end
pub record IsPlainFront (column : ColumnDef) (bytes : List ℕ) (len : ℕ) : Type 0 where
  pub within : len + 2 ≤ length bytes
  pub front : IsFront column bytes (len + 2) (values.Text (take len bytes))
  pub literal : literal_text (values.Text (take len bytes)) ≡ plain_text (take len bytes)
