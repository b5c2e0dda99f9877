-- Values in print.
use Rattle.std.specs.Prelude.{ℕ, List, [], ◌∷◌, ◌++◌, Option, Some, None, codes, slice_get, flat_map}
use Rattle.cql_values.specs.Literals.{literal_text}
use Rattle.cql_values.specs.declared.value.CqlValue.{CqlValue}

abbrev pub value_text : Option CqlValue → List ℕ
value_text None = codes "null"
value_text (Some v) = literal_text v

-- the same of what a number has no column for
abbrev pub found_text : Option (Option CqlValue) → List ℕ
found_text None = codes "null"
found_text (Some value) = value_text value

abbrev pub text_at : List (Option CqlValue) → ℕ → List ℕ
text_at values number = found_text (slice_get values number)

-- a value behind another
abbrev pub next_text : List (Option CqlValue) → ℕ → List ℕ
next_text values number = codes " | " ++ text_at values number

-- the values of the columns that are shown, in their order
abbrev pub values_text : List (Option CqlValue) → List ℕ → List ℕ
values_text values [] = []
values_text values (number ∷ later) = text_at values number ++ flat_map (next_text values) later
