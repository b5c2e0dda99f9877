-- The values of a request: one list for the whole text, or a list for each statement of a batch
-- (native_protocol_v4.spec, sections 4.1.4 and 4.1.7).
use Rattle.std.specs.Prelude.{List, [], ◌∷◌, Option, Some, None, if◌then◌else◌}
use Rattle.statement_plan.specs.declared.fault.Fault.{Fault}
use Rattle.statement_plan.specs.declared.fault.Fault.TheVariants as fault
use Rattle.statement_values.specs.Sources.{left_in}
use Rattle.statement_values.specs.Supply.{has_left}
use Rattle.statement_values.specs.declared.params.Params.{Params}
use Rattle.statement_values.specs.declared.params.Params.TheVariants as from
use Rattle.prepared_statement.specs.declared.slot.Slot.{Slot}
use Rattle.statement_binder.specs.Filled.{left_after, filled_of, with_fault}
use Rattle.statement_binder.specs.declared.filled.Filled.{Filled}
use Rattle.statement_binder.specs.declared.supply.Supply.{Supply}
use Rattle.statement_binder.specs.declared.supply.Supply.TheVariants as supply
use Rattle.statement_binder.specs.declared.supply.Values.{Values}
use Rattle.statement_binder.specs.declared.supply.Values.TheVariants as values

-- what is left for the statements that follow
pub data Left : Type 0 where
  whole : Params → Left
  each : List Params → Left

abbrev pub values_in : Values → Left
values_in (values.Whole params) = whole params.now
values_in (values.Each lists) = each lists.now

abbrev pub left_for : Supply → Left
left_for (supply.Whole supplier) = whole (left_in supplier)
left_for (supply.Each lists) = each lists.now

-- more values than markers
abbrev pub excess : Params → Option Fault
excess left = if has_left left then Some fault.ValueCount else None

-- ---- the next statement

-- one behind the last list has no values
abbrev pub next_params : Left → Params
next_params (whole params) = params
next_params (each []) = from.ByPlace []
next_params (each (params ∷ later)) = params

-- it has a list of its own, which it is to use up
abbrev pub own_excess : Left → List Slot → Option Fault
own_excess (whole params) slots = None
own_excess (each []) slots = None
own_excess (each (params ∷ later)) slots = excess (left_after params slots)

abbrev pub behind_next : Left → List Slot → Left
behind_next (whole params) slots = whole (left_after params slots)
behind_next (each []) slots = each []
behind_next (each (params ∷ later)) slots = each later

abbrev pub next_filled : Left → List Slot → Filled
next_filled left slots = with_fault (filled_of (next_params left) slots) (own_excess left slots)

-- ---- what stands before the statements of a batch, which no list is for

abbrev pub front_params : Left → Params
front_params (whole params) = params
front_params (each lists) = from.ByPlace []

abbrev pub behind_front : Left → List Slot → Left
behind_front (whole params) slots = whole (left_after params slots)
behind_front (each lists) slots = each lists

abbrev pub front_filled : Left → List Slot → Filled
front_filled left slots = filled_of (front_params left) slots

-- ---- at the end

-- values that no marker took, or a list that no statement took
abbrev pub rest_excess : Left → Option Fault
rest_excess (whole params) = excess params
rest_excess (each []) = None
rest_excess (each (params ∷ later)) = Some fault.ValueCount
