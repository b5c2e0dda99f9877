-- Four operations on a single copy, one after another: a row is inserted if it is not there, another one tries the same, a
-- read asks for all rows, and the row is deleted if it is there.
use Rattle.std.specs.Prelude.{ℕ, pos, ◌==◌, ◌&&◌, Bool, true, false, if◌then◌else◌, Some, None, List, [], ◌∷◌}
use Rattle.std.specs.Ordering.{nat_cmp, is_eq}
use Rattle.std.specs.Cmp.Lexicographic.{slice_cmp}
use Rattle.changes.specs.declared.Partition.{Partition}
use Rattle.changes.specs.declared.Place.TheVariants.{Cell, Marker, RowGone}
use Rattle.changes.specs.declared.Draft.{Draft}
use Rattle.changes.specs.declared.Query.{Query}
use Rattle.changes.specs.declared.ShownRow.{ShownRow}
use Rattle.statement_plan.specs.declared.plan.Columns.TheVariants.{Listed}
use Rattle.statement_plan.specs.declared.operation.Test.{Test}
use Rattle.statement_plan.specs.declared.operation.Test.TheVariants as test
use Rattle.statement_plan.specs.declared.operation.ConditionalOperation.{ConditionalOperation}
use Rattle.single_copy.specs.Maps.{PartitionMap, empty_map}
use Rattle.single_copy.specs.ConditionalStep.{ConditionalReply, ConditionalStep}

abbrev pub partition : Partition
partition = record { token = pos 0; table = 0; key = [] }

-- one row, with one column
abbrev pub row : List ℕ
row = 1 ∷ []

abbrev pub column : ℕ
column = 2

abbrev pub operation : Test → List Draft → ConditionalOperation
operation t drafts = record { partition = partition; row = row; test = t; changes = drafts; shown = Listed [] }

-- INSERT .. IF NOT EXISTS, with this value
abbrev pub inserted : ℕ → List Draft
inserted v =
    record { place = Marker row; value = Some []; timestamp = None } ∷ record { place = Cell row column; value = Some (v ∷ []); timestamp = None } ∷ []

abbrev pub insert : ℕ → ConditionalOperation
insert v = operation test.Absent (inserted v)

-- DELETE .. IF EXISTS
abbrev pub deleted : List Draft
deleted = record { place = RowGone row; value = None; timestamp = None } ∷ []

abbrev pub delete : ConditionalOperation
delete = operation test.Present deleted

-- SELECT at a serial level
abbrev pub all_rows : Query
all_rows = record { partition = partition; from = record { at = []; after = false }; upto = record { at = []; after = true }; reversed = false; limit = 10 }

abbrev pub read : ConditionalOperation
read = operation (test.Read all_rows) []

-- the map with the row and this value
abbrev pub is_row : List ℕ → Bool
is_row other = is_eq (slice_cmp nat_cmp row other)

abbrev pub map_with : ℕ → PartitionMap
map_with v = record { marker = λ other. is_row other; value = λ other c. if is_row other && (column == c) then Some (v ∷ []) else None }

abbrev pub shown_with : ℕ → ShownRow
shown_with v = record { row = row; cells = record { column = column; value = v ∷ [] } ∷ [] }

abbrev pub applied : ConditionalReply
applied = record { applied = true; rows = [] }

-- not applied, or read
abbrev pub told_row : ℕ → ConditionalReply
told_row v = record { applied = false; rows = shown_with v ∷ [] }

abbrev pub ARowIsInsertedOnce : Type 0
ARowIsInsertedOnce =
    (v u : ℕ)
    → ConditionalStep empty_map (insert v) (map_with v) applied × ConditionalStep (map_with v) (insert u) (map_with v) (told_row v)
    × ConditionalStep (map_with v) read (map_with v) (told_row v) × ConditionalStep (map_with v) delete empty_map applied
