-- A schema as a script writes it.
use Rattle.std.specs.Prelude.{ℕ, List, [], ◌∷◌, ◌++◌, slice_index}
use Rattle.cql_statement.specs.declared.statement.Statement.{Statement}

-- its statements, with the numbers of their lines and their texts
pub record WrittenSchema : Type 0 where
  pub numbers : List ℕ
  pub texts : List (List ℕ)
  pub statements : List Statement

abbrev pub no_statements : WrittenSchema
no_statements = record { numbers = []; texts = []; statements = [] }

-- and the statement of one line more
abbrev pub with_line : WrittenSchema → ℕ → List ℕ → Statement → WrittenSchema
with_line written number text s = record {
  numbers = written.numbers ++ number ∷ [];
  texts = written.texts ++ text ∷ [];
  statements = written.statements ++ s ∷ [];
}

abbrev pub line_of : WrittenSchema → ℕ → ℕ
line_of written statement = slice_index written.numbers statement
