-- The prepared statements that a connection keeps, from the oldest on.
use Rattle.std.specs.Prelude.{ℕ, nat_lt, Bool, true, false, List, [], ◌∷◌, ◌++◌, Option, Some, None, length, drop, is_some, if◌then◌else◌}
use Rattle.std.specs.List.{find}
use Rattle.std.specs.Str.{bytes_eq}
use Rattle.session_v4.specs.declared.kept.KeptStatement.{KeptStatement}

abbrev pub keyspace_or_none : Option (List ℕ) → List ℕ
keyspace_or_none None = []
keyspace_or_none (Some name) = name

-- the id of a text that is prepared with this keyspace in use
abbrev pub id_of : Option (List ℕ) → List ℕ → List ℕ
id_of used text = keyspace_or_none used ++ 0 ∷ text

abbrev pub kept_at : List KeptStatement → List ℕ → Option KeptStatement
kept_at kept id = find (λ k. bytes_eq k.id id) kept

-- where there are as many as can be, the oldest goes
abbrev pub without_oldest : List KeptStatement → List KeptStatement
without_oldest kept = if nat_lt (length kept) 1024 then kept else drop 1 kept

-- one that is kept stays where it is
abbrev pub keep : List KeptStatement → KeptStatement → List KeptStatement
keep kept k = if is_some (kept_at kept k.id) then kept else without_oldest kept ++ k ∷ []

-- a statement is kept where it may be
abbrev pub kept_if : Bool → List KeptStatement → KeptStatement → List KeptStatement
kept_if true kept k = keep kept k
kept_if false kept k = kept
