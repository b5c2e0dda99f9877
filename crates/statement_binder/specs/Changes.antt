-- The changes that a statement makes in the rows that it names (CQL reference: INSERT makes a row, UPDATE and INSERT
-- write cells, null deletes a cell, and DELETE deletes cells, a row, a range of rows or a partition).
use Rattle.std.specs.Prelude.{ℕ, ℤ, ◌||◌, not, nat_lt, Bool, false, List, [], ◌∷◌, Option, Some, None, if◌then◌else◌, length, map}
use Rattle.changes.specs.declared.Draft.{Draft}
use Rattle.changes.specs.declared.Partition.{Partition}
use Rattle.changes.specs.declared.Place.{Place}
use Rattle.changes.specs.declared.Place.TheVariants.{Cell, Marker, RowGone, RangeGone, PartGone}
use Rattle.cql_values.specs.declared.value.CqlValue.{CqlValue}
use Rattle.key_restrictions.specs.Rows.{prefix_bytes, bounds_of, is_long}
use Rattle.key_restrictions.specs.declared.restriction.Restriction.{Restriction}
use Rattle.schema_book.specs.declared.table.ColumnDef.{ColumnDef}
use Rattle.statement_plan.specs.declared.fault.Fault.{Fault}
use Rattle.statement_plan.specs.declared.fault.Fault.TheVariants as fault
use Rattle.prepared_statement.specs.declared.change.Action.{Action}
use Rattle.prepared_statement.specs.declared.change.Action.TheVariants as actions
use Rattle.statement_binder.specs.declared.filled.CellValue.{CellValue}
use Rattle.statement_binder.specs.declared.reach.Reach.{Reach}
use Rattle.statement_binder.specs.declared.reach.Reach.TheVariants as reach

-- ---- where they are

abbrev pub reach_of : Action → List ColumnDef → List (Restriction CqlValue) → Reach
reach_of actions.Insert columns keys = reach.Row (prefix_bytes columns keys)
reach_of actions.Set columns keys = reach.Row (prefix_bytes columns keys)
reach_of actions.DeleteRow columns keys = reach.Row (prefix_bytes columns keys)
reach_of actions.DeleteRows columns keys = reach.Rows (bounds_of columns keys)
reach_of actions.DeletePartition columns keys = reach.Whole

-- a row or a bound has more bytes than are allowed
abbrev pub is_long_reach : Reach → Bool
is_long_reach (reach.Row row) = is_long row
is_long_reach (reach.Rows b) = is_long b.from.at || is_long b.upto.at
is_long_reach reach.Whole = false

abbrev pub is_empty : List ℕ → Bool
is_empty key = not (nat_lt 0 (length key))

abbrev pub size_fault : Partition → Reach → Option Fault
size_fault partition at =
    if is_long partition.key || is_long_reach at then Some fault.KeyTooLong
    else if is_empty partition.key then Some fault.EmptyKey
    else None

abbrev pub row_in : Reach → List ℕ
row_in (reach.Row row) = row
row_in (reach.Rows b) = []
row_in reach.Whole = []

-- ---- changes

-- a statement's own timestamp, or else this one
abbrev pub timestamp_or : Option ℤ → Option ℤ → Option ℤ
timestamp_or (Some own) other = Some own
timestamp_or None other = other

abbrev pub draft_at : Option ℤ → Place → Option (List ℕ) → Draft
draft_at timestamp place value = record { place = place; value = value; timestamp = timestamp }

abbrev pub cell_draft : Option ℤ → List ℕ → CellValue → Draft
cell_draft timestamp row c = draft_at timestamp (Cell row c.column) c.value

abbrev pub cell_drafts : Option ℤ → List ℕ → List CellValue → List Draft
cell_drafts timestamp row cells = map (cell_draft timestamp row) cells

abbrev pub row_drafts : Action → Option ℤ → List ℕ → List CellValue → List Draft
row_drafts actions.Insert timestamp row cells = draft_at timestamp (Marker row) (Some []) ∷ cell_drafts timestamp row cells
row_drafts actions.Set timestamp row cells = cell_drafts timestamp row cells
row_drafts actions.DeleteRow timestamp row cells = draft_at timestamp (RowGone row) None ∷ []
row_drafts actions.DeleteRows timestamp row cells = draft_at timestamp (RowGone row) None ∷ []
row_drafts actions.DeletePartition timestamp row cells = draft_at timestamp (RowGone row) None ∷ []

-- the changes, at this timestamp or else at the start time of the request
abbrev pub drafts_at : Action → Option ℤ → Reach → List CellValue → List Draft
drafts_at action timestamp (reach.Row row) cells = row_drafts action timestamp row cells
drafts_at action timestamp (reach.Rows b) cells = draft_at timestamp (RangeGone b.from b.upto) None ∷ []
drafts_at action timestamp reach.Whole cells = draft_at timestamp PartGone None ∷ []
