-- What is told of a statement is the lowest of its refusals that hold.
use Rattle.std.proofs.Common.{◌≡◌, ◌⊎◌, ◌≤◌, ℕ, ℤ, inl, inr, Bool, true, false, cond, not, ◌||◌, List, [], ◌∷◌, ◌++◌, Option, Some, None, Result, Ok, Err, fold, map, refl, sym, ap, subst, ◌∙◌, append_assoc, append-nil, arith}
use Rattle.std.specs.Prelude.{is_some}
use Rattle.std.proofs.lemmas.Bool.{false≢true}
use Rattle.changes.specs.declared.Draft.{Draft}
use Rattle.changes.specs.declared.Partition.{Partition}
use Rattle.cql_statement.specs.declared.modification.Batch.{Batch}
use Rattle.cql_statement.specs.declared.modification.Modification.{Modification}
use Rattle.cql_statement.specs.declared.modification.Modification.TheVariants as modifications
use Rattle.cql_statement.specs.declared.schema.ColumnOrder.{ColumnOrder}
use Rattle.cql_statement.specs.declared.select.Select.{Select}
use Rattle.cql_statement.specs.declared.statement.Statement.TheVariants as statement
use Rattle.cql_statement.specs.declared.term.RelationOperator.{RelationOperator}
use Rattle.cql_statement.specs.declared.term.TestOperator.{TestOperator}
use Rattle.cql_values.specs.declared.value.CqlType.{CqlType}
use Rattle.cql_values.specs.declared.value.CqlValue.{CqlValue}
use Rattle.key_restrictions.specs.Checks.{misses_slice, is_twice}
use Rattle.key_restrictions.specs.Rows.{partition_of, bounds_of, is_long as is_long_key}
use Rattle.key_restrictions.specs.declared.restriction.Restriction.{Restriction}
use Rattle.key_restrictions.specs.declared.rows.RowBounds.{RowBounds}
use Rattle.mutation_drafts.specs.Counted.{is_long_mutation}
use Rattle.mutation_drafts.specs.Laws.{KeptAreOne}
use Rattle.schema_book.specs.Books.{Book, keyspace_at}
use Rattle.schema_book.specs.declared.table.ColumnDef.{ColumnDef}
use Rattle.schema_book.specs.declared.table.Table.{Table}
use Rattle.statement_plan.specs.Faults.{lower, number_of}
use Rattle.statement_plan.specs.declared.fault.Fault.{Fault}
use Rattle.statement_plan.specs.declared.fault.Fault.TheVariants as fault
use Rattle.statement_plan.specs.declared.fault.Feature.{Feature}
use Rattle.statement_plan.specs.declared.fault.Feature.TheVariants as feature
use Rattle.statement_plan.specs.declared.plan.Plan.{Plan}
use Rattle.statement_plan.specs.declared.plan.Plan.TheVariants as plan
use Rattle.statement_values.specs.Supply.{has_left}
use Rattle.statement_values.specs.declared.params.Param.{Param}
use Rattle.statement_values.specs.declared.params.Params.{Params}
use Rattle.prepared_statement.specs.Faults.{mismatches, misses, is_null_key, is_long, slot_fault, value_at}
use Rattle.prepared_statement.specs.Names.{table_named}
use Rattle.prepared_statement.specs.Orders.{has_bad_order}
use Rattle.prepared_statement.specs.Prepared.{columns_in, table_fault, change_in, change_of, read_in, condition_fault, outline_of}
use Rattle.prepared_statement.specs.Slots.{slots_of, select_slots, stamp_slots}
use Rattle.prepared_statement.specs.Structure.{keys_of, table_of_modification, names_unknown, misses_key, fixes_twice, is_timed_condition, deletes_key, filters, tests_key, guard_of, is_conditional, change_fault, unsupported, selects_unknown, select_fault, shown_places}
use Rattle.prepared_statement.specs.declared.change.Change.{Change}
use Rattle.prepared_statement.specs.declared.change.Guard.{Guard}
use Rattle.prepared_statement.specs.declared.change.Read.{Read}
use Rattle.prepared_statement.specs.declared.slot.Role.{Role}
use Rattle.prepared_statement.specs.declared.slot.Role.TheVariants as roles
use Rattle.prepared_statement.specs.declared.slot.Slot.{Slot}
use Rattle.statement_binder.specs.Changes.{reach_of, is_long_reach, is_empty, size_fault, timestamp_or, drafts_at}
use Rattle.statement_binder.specs.Filled.{value_in, written, with_key, with_cell, with_test, by_role, with_fault, with_slot, given_to, behind, left_after, filled_from, filled_of, unfilled}
use Rattle.statement_binder.specs.Laws.{LowestIsTold, TellsLowest}
use Rattle.statement_binder.specs.Meanings.{Answers, IsPlanOf, IsLongPlan, IsTooLong}
use Rattle.statement_binder.specs.Plans.{refused_or, partition_by, own_fault, piece_of, operation_of, operation_plan, write_plan, mutation_of, read_size_fault, query_of, batch_piece, pieces_of, lower_piece, pieces_fault, is_scattered, scatter_fault, gathered, drafts_of, behind_all, idle_fault, refused_before, change_plan, read_plan, plan_of}
use Rattle.statement_binder.specs.Refusals.{IsLowest, Holds, Refusal, refused_if, slot_refusals, slots_refusals, excess_refusals, own_excess_refusals, next_refusals, rest_refusals, table_refusals, structure_refusals, form_refusals, size_refusals, row_refusals, change_refusals, alone_refusals, select_structure_refusals, select_form_refusals, bounds_refusals, read_refusals, condition_refusals, entry_refusals, entries_refusals, scatter_refusals, entries_batch_refusals, idle_refusals, IsLongChange, IsLongBatch, IsRefusedFor}
use Rattle.statement_binder.specs.Supplies.{Left, whole, each, excess, next_params, own_excess, next_filled, behind_next, front_params, front_filled, behind_front, rest_excess}
use Rattle.statement_binder.specs.declared.error.BindError.{BindError}
use Rattle.statement_binder.specs.declared.error.BindError.TheVariants as error
use Rattle.statement_binder.specs.declared.filled.Filled.{Filled}
use Rattle.statement_binder.specs.declared.piece.Piece.{Piece}
use Rattle.statement_binder.specs.declared.reach.Reach.{Reach}
use Rattle.statement_binder.proofs.Lowest.{AtMost, all_least, at_most, holds_append, most_append, Tells, tells_none, tells_if, tells_both, tells_at, tells_of}

-- ---- values

pub slot_told : (s : Slot) (given : Option Param) → Tells (slot_refusals s given) (slot_fault s given)
slot_told s given =
    tells_if (mismatches s given) fault.TypeMismatch refl
    (tells_if (misses s given) fault.ValueCount refl
    (tells_if (is_null_key s given) fault.NullKey refl (tells_if (is_long s given) fault.ValueTooLong refl tells_none)))

key_keeps : (f : Filled) (place : ℕ) (operator : RelationOperator) (v : Option CqlValue) → (with_key f place operator v).fault ≡ f.fault
key_keeps f place operator None = refl
key_keeps f place operator (Some v) = refl

cell_keeps : (f : Filled) (place : ℕ) (v : Option (Option (List ℕ))) → (with_cell f place v).fault ≡ f.fault
cell_keeps f place None = refl
cell_keeps f place (Some v) = refl

test_keeps : (f : Filled) (place : ℕ) (operator : TestOperator) (ty : CqlType) (v : Option (Option (List ℕ))) → (with_test f place operator ty v).fault ≡ f.fault
test_keeps f place operator ty None = refl
test_keeps f place operator ty (Some v) = refl

role_keeps : (f : Filled) (role : Role) (ty : CqlType) (p : Option Param) → (by_role f role ty p).fault ≡ f.fault
role_keeps f (roles.Key place operator) ty p = key_keeps f place operator (value_in ty p)
role_keeps f (roles.Filter place) ty p = refl
role_keeps f (roles.Cell place) ty p = cell_keeps f place (written ty p)
role_keeps f (roles.Test place operator) ty p = test_keeps f place operator ty (written ty p)
role_keeps f roles.Timestamp ty p = refl
role_keeps f roles.Limit ty p = refl
role_keeps f (roles.Unfilled place) ty p = refl
role_keeps f roles.Unplaced ty p = refl

-- behind other slots, of which this is told
slots_told : (rs : List Refusal) (f : Filled) (left : Params) (ss : List Slot) → Tells rs f.fault → Tells (rs ++ slots_refusals left ss) (filled_from f left ss).fault
slots_told rs f left [] t = tells_of (sym (append-nil rs)) t
slots_told rs f left (s ∷ ss) t =
    let given = given_to left s in
    let kept = role_keeps (with_fault f (slot_fault s given)) s.role s.ty (value_at s.stands given) in
    let now : Tells (rs ++ slot_refusals s given) (with_slot f s given).fault = tells_at (sym kept) (tells_both t (slot_told s given)) in
    tells_of (append_assoc rs (slot_refusals s given) (slots_refusals (behind left s) ss)) (slots_told (rs ++ slot_refusals s given) (with_slot f s given) (behind left s) ss now)

filled_told : (left : Params) (ss : List Slot) → Tells (slots_refusals left ss) (filled_of left ss).fault
filled_told left ss = slots_told [] unfilled left ss tells_none

excess_told : (left : Params) → Tells (excess_refusals left) (excess left)
excess_told left = tells_if (has_left left) fault.ValueCount refl tells_none

own_excess_told : (left : Left) (ss : List Slot) → Tells (own_excess_refusals left ss) (own_excess left ss)
own_excess_told (whole params) ss = tells_none
own_excess_told (each []) ss = tells_none
own_excess_told (each (params ∷ later)) ss = excess_told (left_after params ss)

next_told : (left : Left) (ss : List Slot) → Tells (next_refusals left ss) (next_filled left ss).fault
next_told left ss = tells_both (filled_told (next_params left) ss) (own_excess_told left ss)

rest_told : (left : Left) → Tells (rest_refusals left) (rest_excess left)
rest_told (whole params) = excess_told params
rest_told (each []) = tells_none
rest_told (each (params ∷ later)) = tells_if true fault.ValueCount refl tells_none

-- ---- a statement that changes rows

table_told : (t : Option Table) → Tells (table_refusals t) (table_fault t)
table_told None = tells_if true fault.UnknownTable refl tells_none
table_told (Some t) = tells_if false fault.UnknownTable refl tells_none

feature_told : {rs : List Refusal} (o : Option Feature) (b : Bool) (x : Feature) → all_least 9 rs ≡ true → Tells rs (unsupported o) → Tells (refused_if (fault.NotSupported x) b ∷ rs) (unsupported (cond b (Some x) o))
feature_told o true x e t = tells_if true (fault.NotSupported x) e t
feature_told o false x e t = tells_if false (fault.NotSupported x) e t

structure_told : (columns : List ColumnDef) (m : Modification) (slots : List Slot) (keys : List (Restriction (Unit {0}))) → Tells (structure_refusals columns m slots keys) (change_fault columns m slots keys)
structure_told columns m slots keys =
    tells_if (names_unknown columns slots) fault.UnknownColumn refl
    (tells_if (misses_key columns keys m) fault.KeyMissing refl
    (tells_if (fixes_twice columns keys m slots) fault.KeyTwice refl
    (tells_if (is_timed_condition m slots) fault.TimestampOnCondition refl
    (feature_told (cond (filters slots) (Some feature.Filtering) (cond (tests_key columns slots) (Some feature.Condition) None)) (deletes_key columns m slots) feature.DeletedKey refl
    (feature_told (cond (tests_key columns slots) (Some feature.Condition) None) (filters slots) feature.Filtering refl
    (feature_told None (tests_key columns slots) feature.Condition refl tells_none))))))

pub form_told : (t : Option Table) (m : Modification) → Tells (form_refusals t m) (change_in t m).fault
form_told t m = tells_both (table_told t) (structure_told (columns_in t) m (slots_of (columns_in t) m) (keys_of (slots_of (columns_in t) m)))

size_told : (partition : Partition) (at : Reach) → Tells (size_refusals partition at) (size_fault partition at)
size_told partition at =
    tells_if (is_long_key partition.key || is_long_reach at) fault.KeyTooLong refl (tells_if (is_empty partition.key) fault.EmptyKey refl tells_none)

-- the lowest of a statement by itself
abbrev own_of : Change → Filled → Option Fault
own_of c f = own_fault c f (partition_by c f) (reach_of c.action c.columns f.keys)

change_told : (t : Option Table) (m : Modification) (left : Left) → Tells (change_refusals t m left) (own_of (change_in t m) (next_filled left (slots_of (columns_in t) m)))
change_told t m left =
    let c = change_in t m in
    let f = next_filled left (slots_of (columns_in t) m) in
    tells_both (form_told t m) (tells_both (next_told left (slots_of (columns_in t) m)) (size_told (partition_by c f) (reach_of c.action c.columns f.keys)))

alone_told : (t : Option Table) (m : Modification) (left : Left)
    → Tells (alone_refusals t m left) (lower (own_of (change_in t m) (next_filled left (slots_of (columns_in t) m))) (rest_excess (behind_next left (slots_of (columns_in t) m))))
alone_told t m left = tells_both (change_told t m left) (rest_told (behind_next left (slots_of (columns_in t) m)))

-- ---- SELECT

select_structure_told : (columns : List ColumnDef) (slots : List Slot) (keys : List (Restriction (Unit {0}))) (places : List ℕ) (os : List ColumnOrder)
    → Tells (select_structure_refusals columns slots keys places os) (select_fault columns slots keys places os)
select_structure_told columns slots keys places os =
    tells_if (selects_unknown columns slots places os) fault.UnknownColumn refl
    (tells_if (misses_slice columns keys) fault.KeyMissing refl
    (tells_if (is_twice columns keys) fault.KeyTwice refl
    (feature_told (cond (has_bad_order columns os) (Some feature.OrderBy) None) (filters slots) feature.Filtering refl
    (feature_told None (has_bad_order columns os) feature.OrderBy refl tells_none))))

pub select_form_told : (t : Option Table) (s : Select) → Tells (select_form_refusals t s) (read_in t s).fault
select_form_told t s =
    tells_both (table_told t)
    (select_structure_told (columns_in t) (select_slots (columns_in t) s) (keys_of (select_slots (columns_in t) s)) (shown_places (columns_in t) s.selection) s.orders)

bounds_told : (partition : Partition) (b : RowBounds) → Tells (bounds_refusals partition b) (read_size_fault partition b)
bounds_told partition b =
    tells_if (is_long_key partition.key || (is_long_key b.from.at || is_long_key b.upto.at)) fault.KeyTooLong refl
    (tells_if (is_empty partition.key) fault.EmptyKey refl tells_none)

-- the lowest of a SELECT
abbrev read_fault : Read → Filled → Option Fault → Option Fault
read_fault r f rest = lower (lower r.fault (lower f.fault (read_size_fault (partition_of r.table r.columns f.keys) (bounds_of r.columns f.keys)))) rest

read_told : (t : Option Table) (s : Select) (left : Left)
    → Tells (read_refusals t s left) (read_fault (read_in t s) (next_filled left (select_slots (columns_in t) s)) (rest_excess (behind_next left (select_slots (columns_in t) s))))
read_told t s left =
    let r = read_in t s in
    let f = next_filled left (select_slots (columns_in t) s) in
    tells_both
    (tells_both (select_form_told t s) (tells_both (next_told left (select_slots (columns_in t) s)) (bounds_told (partition_of r.table r.columns f.keys) (bounds_of r.columns f.keys))))
    (rest_told (behind_next left (select_slots (columns_in t) s)))

-- ---- BATCH

pub condition_told : (guard : Guard) → Tells (condition_refusals guard) (condition_fault guard)
condition_told guard = tells_if (is_conditional guard) (fault.NotSupported feature.Condition) refl tells_none

entry_told : (t : Option Table) (m : Modification) (left : Left) (timestamp : Option ℤ)
    → Tells (entry_refusals t m left) (batch_piece timestamp (change_in t m) (next_filled left (slots_of (columns_in t) m))).fault
entry_told t m left timestamp = tells_both (condition_told (guard_of m)) (change_told t m left)

-- behind other statements, of which this is told
entries_told : (b : Book) (used : Option (List ℕ)) (timestamp : Option ℤ) (rs : List Refusal) (o : Option Fault) (left : Left) (ms : List Modification)
    → Tells rs o → Tells (rs ++ entries_refusals b used left ms) (fold lower_piece o (pieces_of timestamp left (map (change_of b used) ms)))
entries_told b used timestamp rs o left [] told = tells_of (sym (append-nil rs)) told
entries_told b used timestamp rs o left (m ∷ ms) told =
    let t = table_named b used (table_of_modification m) in
    let now = tells_both told (entry_told t m left timestamp) in
    let o' = lower o (batch_piece timestamp (change_in t m) (next_filled left (slots_of (columns_in t) m))).fault in
    let later = behind_next left (slots_of (columns_in t) m) in
    tells_of (append_assoc rs (entry_refusals t m left) (entries_refusals b used later ms))
    (entries_told b used timestamp (rs ++ entry_refusals t m left) o' later ms now)

scatter_told : (ps : List Piece) → Tells (scatter_refusals ps) (scatter_fault ps)
scatter_told ps = tells_if (is_scattered ps) (fault.NotSupported feature.Batch) refl tells_none

-- ---- changes that are too long

-- what stays of them is one list, which is too long or is not
not_long : KeptAreOne → (p q : Plan) → IsPlanOf p q → IsLongPlan q → ⊥
not_long one p (plan.Write m) h long =
    let same : h.0 ≡ long.0 = one m.changes h.0 long.0 h.2.0 long.1 in
    false≢true (sym h.2.1 ∙ (ap (λ (kept : List Draft). is_long_mutation (record { partition = m.partition; changes = kept })) same ∙ long.2))
not_long one p (plan.Read query columns) h long = long
not_long one p (plan.Conditional o) h long =
    let same : h.0 ≡ long.0 = one o.changes h.0 long.0 h.2.0 long.1 in
    false≢true (sym h.2.1 ∙ (ap (λ (kept : List Draft). is_long_mutation (record { partition = o.partition; changes = kept })) same ∙ long.2))
not_long one p (plan.Use name) h long = long

abbrev Refused : List Refusal → Type 0 → Fault → Type 0
Refused rs Long f = Holds rs f ⊎ ((fault.MutationTooLong ≡ f) × Long)

same_or_more : (f g : Fault) → f ≡ g → number_of f ≤ number_of g
same_or_more f g e = subst (λ (x : Fault). number_of f ≤ number_of x) e (omega arith)

told : KeptAreOne → (rs : List Refusal) (o : Option Fault) (q : Plan) (Long : Type 0) → Tells rs o → (Long → AtMost 13 rs) → (Long → IsLongPlan q) → (IsLongPlan q → Long) → (answer : Result Plan BindError)
    → Answers answer (refused_or o q) → TellsLowest (Refused rs Long) answer
told one rs None q Long t most there back (Ok p) h = λ g k. elim k [ inl x ↦ t.is g x | inr x ↦ not_long one p q h (there x.1) ]
told one rs None q Long t most there back (Err (error.Refused f)) h =
    (inr (sym h.0, back h.1), λ g k. elim k [ inl x ↦ absurd (t.is g x) | inr x ↦ same_or_more f g (h.0 ∙ x.0) ])
told one rs None q Long t most there back (Err error.NoMemory) h = tt
told one rs (Some x) q Long t most there back (Ok p) h = absurd h
told one rs (Some x) q Long t most there back (Err (error.Refused f)) h =
    subst (λ (y : Fault). IsLowest (Refused rs Long) (Some y)) (sym h) (
      inl t.is.0,
      λ g k. elim k [
        | inl y ↦ t.is.1 g y
        | inr y ↦ subst (λ (z : Fault). number_of x ≤ number_of z) y.0 (most y.1 x t.is.0)
      ],
    )
told one rs (Some x) q Long t most there back (Err error.NoMemory) h = tt

-- of statements that make no changes
none_told : KeptAreOne → (rs : List Refusal) (o : Option Fault) (q : Plan) → Tells rs o → (IsLongPlan q → ⊥) → (answer : Result Plan BindError) → Answers answer (refused_or o q) → TellsLowest (Refused rs ⊥) answer
none_told one rs o q t never answer h = told one rs o q ⊥ t (λ long. absurd long) (λ long. absurd long) never answer h

-- ---- numbers

slots_most : (left : Params) (ss : List Slot) → AtMost 13 (slots_refusals left ss)
slots_most left [] = at_most 13 [] refl
slots_most left (s ∷ ss) =
    most_append 13 (slot_refusals s (given_to left s)) (slots_refusals (behind left s) ss) (at_most 13 (slot_refusals s (given_to left s)) refl) (slots_most (behind left s) ss)

own_excess_most : (left : Left) (ss : List Slot) → AtMost 13 (own_excess_refusals left ss)
own_excess_most (whole params) ss = at_most 13 [] refl
own_excess_most (each []) ss = at_most 13 [] refl
own_excess_most (each (params ∷ later)) ss = at_most 13 (excess_refusals (left_after params ss)) refl

rest_most : (left : Left) → AtMost 13 (rest_refusals left)
rest_most (whole params) = at_most 13 (excess_refusals params) refl
rest_most (each []) = at_most 13 [] refl
rest_most (each (params ∷ later)) = at_most 13 (refused_if fault.ValueCount true ∷ []) refl

next_most : (left : Left) (ss : List Slot) → AtMost 13 (next_refusals left ss)
next_most left ss = most_append 13 (slots_refusals (next_params left) ss) (own_excess_refusals left ss) (slots_most (next_params left) ss) (own_excess_most left ss)

form_most : (t : Option Table) (m : Modification) → AtMost 13 (form_refusals t m)
form_most t m = at_most 13 (form_refusals t m) refl

change_most : (t : Option Table) (m : Modification) (left : Left) → AtMost 13 (change_refusals t m left)
change_most t m left =
    let slots = slots_of (columns_in t) m in
    let rows = row_refusals (change_in t m) (next_filled left slots) in
    most_append 13 (form_refusals t m) (next_refusals left slots ++ rows) (form_most t m)
    (most_append 13 (next_refusals left slots) rows (next_most left slots) (at_most 13 rows refl))

alone_most : (t : Option Table) (m : Modification) (left : Left) → AtMost 13 (alone_refusals t m left)
alone_most t m left =
    let rest = rest_refusals (behind_next left (slots_of (columns_in t) m)) in
    most_append 13 (change_refusals t m left) rest (change_most t m left) (rest_most (behind_next left (slots_of (columns_in t) m)))

entries_most : (b : Book) (used : Option (List ℕ)) (left : Left) (ms : List Modification) → AtMost 13 (entries_refusals b used left ms)
entries_most b used left [] = at_most 13 [] refl
entries_most b used left (m ∷ ms) =
    let t = table_named b used (table_of_modification m) in
    let later = behind_next left (slots_of (columns_in t) m) in
    most_append 13 (entry_refusals t m left) (entries_refusals b used later ms)
    (most_append 13 (condition_refusals (guard_of m)) (change_refusals t m left) (at_most 13 (condition_refusals (guard_of m)) refl) (change_most t m left))
    (entries_most b used later ms)

-- ---- statements

change_answer : KeptAreOne → (rs : List Refusal) (c : Change) (f : Filled) (rest : Option Fault) (timestamp : Option ℤ) → Tells rs (lower (own_of c f) rest) → AtMost 13 rs → (conditional : Bool) (answer : Result Plan BindError)
    → Answers answer (cond conditional (operation_plan rest (operation_of c f)) (write_plan rest (piece_of timestamp c f)))
    → TellsLowest
    (Refused rs (IsTooLong (partition_by c f) (drafts_at c.action (cond conditional None (timestamp_or f.timestamp timestamp)) (reach_of c.action c.columns f.keys) f.cells)))
    answer
change_answer one rs c f rest timestamp t most true answer h =
    told one rs (lower (own_of c f) rest) (plan.Conditional (operation_of c f).1)
    (IsTooLong (partition_by c f) (drafts_at c.action None (reach_of c.action c.columns f.keys) f.cells)) t (λ long. most) (λ long. long) (λ long. long) answer h
change_answer one rs c f rest timestamp t most false answer h =
    told one rs (lower (own_of c f) rest) (mutation_of (piece_of timestamp c f))
    (IsTooLong (partition_by c f) (drafts_at c.action (timestamp_or f.timestamp timestamp) (reach_of c.action c.columns f.keys) f.cells)) t (λ long. most) (λ long. long) (λ long. long) answer h

modification_answer : KeptAreOne → (t : Option Table) (m : Modification) (left : Left) (timestamp : Option ℤ) (answer : Result Plan BindError)
    → Answers answer (change_plan timestamp (change_in t m) left)
    → TellsLowest (Refused (alone_refusals t m left) (IsLongChange (change_in t m) (next_filled left (slots_of (columns_in t) m)) timestamp)) answer
modification_answer one t m left timestamp answer h =
    let slots = slots_of (columns_in t) m in
    change_answer one (alone_refusals t m left) (change_in t m) (next_filled left slots) (rest_excess (behind_next left slots)) timestamp (alone_told t m left) (alone_most t m left) (is_conditional (guard_of m)) answer h

gathered_is : (o : Option Fault) (p : Piece) (ps : List Piece) → gathered o (p ∷ ps) ≡ refused_or o (plan.Write (record { partition = p.partition; changes = drafts_of (p ∷ ps) }))
gathered_is None p ps = refl
gathered_is (Some f) p ps = refl

pieces_answer : KeptAreOne → (rs : List Refusal) (o : Option Fault) (ps : List Piece) → Tells rs o → AtMost 13 rs → (is_scattered ps ≡ true → Holds rs (fault.NotSupported feature.Batch)) → (answer : Result Plan BindError)
    → Answers answer (gathered o ps) → TellsLowest (Refused rs (IsLongBatch ps)) answer
pieces_answer one rs None [] t most none answer h = absurd (t.is (fault.NotSupported feature.Batch) (none refl))
pieces_answer one rs (Some f) [] t most none answer h = none_told one rs (Some f) (plan.Use []) t (λ long. long) answer h
pieces_answer one rs o (p ∷ ps) t most none answer h =
    told one rs o (plan.Write (record { partition = p.partition; changes = drafts_of (p ∷ ps) })) (IsTooLong p.partition (drafts_of (p ∷ ps))) t (λ long. most) (λ long. long) (λ long. long) answer
    (subst (λ (r : Result Plan Fault). Answers answer r) (gathered_is o p ps) h)

scatter_holds : (ps : List Piece) → is_scattered ps ≡ true → Holds (scatter_refusals ps) (fault.NotSupported feature.Batch)
scatter_holds ps e = inl (refl, e)

entries_answer : KeptAreOne → (b : Book) (used : Option (List ℕ)) (rs : List Refusal) (o : Option Fault) (left : Left) (timestamp : Option ℤ) (ms : List Modification) → Tells rs o → AtMost 13 rs → (answer : Result Plan BindError)
    → Answers answer (gathered (lower o (lower (pieces_fault (pieces_of timestamp left (map (change_of b used) ms))) (scatter_fault (pieces_of timestamp left (map (change_of b used) ms))))) (pieces_of timestamp left (map (change_of b used) ms)))
    → TellsLowest (Refused (rs ++ entries_batch_refusals b used left timestamp ms) (IsLongBatch (pieces_of timestamp left (map (change_of b used) ms)))) answer
entries_answer one b used rs o left timestamp ms t most answer h =
    let ps = pieces_of timestamp left (map (change_of b used) ms) in
    let entries = entries_refusals b used left ms in
    let all = entries ++ scatter_refusals ps in
    let later : Tells all (lower (pieces_fault ps) (scatter_fault ps)) = tells_both (entries_told b used timestamp [] None left ms tells_none) (scatter_told ps) in
    pieces_answer one (rs ++ all) (lower o (lower (pieces_fault ps) (scatter_fault ps))) ps (tells_both t later)
    (most_append 13 rs all most (most_append 13 entries (scatter_refusals ps) (entries_most b used left ms) (at_most 13 (scatter_refusals ps) refl)))
    (λ e. holds_append rs all (fault.NotSupported feature.Batch) (inr (holds_append entries (scatter_refusals ps) (fault.NotSupported feature.Batch) (inr (scatter_holds ps e)))))
    answer h

batch_answer : KeptAreOne → (b : Book) (used : Option (List ℕ)) (left : Left) (timestamp : Option ℤ) (x : Batch) (answer : Result Plan BindError)
    → Answers answer (plan_of (outline_of b used (statement.Batch x)) left timestamp) → TellsLowest (IsRefusedFor b used left timestamp (statement.Batch x)) answer
batch_answer one b used left timestamp x answer h =
    let slots = stamp_slots x.stamp in
    let later = behind_front left slots in
    let rest = behind_all later (map (change_of b used) x.statements) in
    entries_answer one b used (slots_refusals (front_params left) slots ++ rest_refusals rest) (lower (front_filled left slots).fault (rest_excess rest)) later (timestamp_or (front_filled left slots).timestamp timestamp) x.statements
    (tells_both (filled_told (front_params left) slots) (rest_told rest))
    (most_append 13 (slots_refusals (front_params left) slots) (rest_refusals rest) (slots_most (front_params left) slots) (rest_most rest))
    answer h

idle_told : (left : Left) → Tells (idle_refusals left) (idle_fault left)
idle_told left = tells_both (next_told left []) (rest_told (behind_next left []))

before_is : (o : Option Fault) (f : Fault) → lower o (Some f) ≡ Some (refused_before o f)
before_is None f = refl
before_is (Some g) f = refl

create_answer : KeptAreOne → (left : Left) (answer : Result Plan BindError) → Answers answer (Err (refused_before (idle_fault left) (fault.NotSupported feature.Create)))
    → TellsLowest (Refused (idle_refusals left ++ refused_if (fault.NotSupported feature.Create) true ∷ []) ⊥) answer
create_answer one left answer h =
    let create = fault.NotSupported feature.Create in
    let t = tells_at (before_is (idle_fault left) create) (tells_both (idle_told left) (tells_if true create refl tells_none)) in
    none_told one (idle_refusals left ++ refused_if create true ∷ []) (Some (refused_before (idle_fault left) create)) (plan.Use []) t (λ long. long) answer h

pub there_told : (there : Bool) → Tells (refused_if fault.UnknownKeyspace (not there) ∷ []) (cond there None (Some fault.UnknownKeyspace))
there_told true = tells_if false fault.UnknownKeyspace refl tells_none
there_told false = tells_if true fault.UnknownKeyspace refl tells_none

use_answer : KeptAreOne → (there : Bool) (name : List ℕ) (left : Left) (answer : Result Plan BindError) → Answers answer (refused_or (lower (cond there None (Some fault.UnknownKeyspace)) (idle_fault left)) (plan.Use name))
    → TellsLowest (Refused (refused_if fault.UnknownKeyspace (not there) ∷ idle_refusals left) ⊥) answer
use_answer one there name left answer h =
    none_told one (refused_if fault.UnknownKeyspace (not there) ∷ idle_refusals left) (lower (cond there None (Some fault.UnknownKeyspace)) (idle_fault left)) (plan.Use name) (tells_both (there_told there) (idle_told left)) (λ long. long) answer h

select_answer : KeptAreOne → (t : Option Table) (s : Select) (left : Left) (answer : Result Plan BindError) → Answers answer (read_plan (read_in t s) left) → TellsLowest (Refused (read_refusals t s left) ⊥) answer
select_answer one t s left answer h =
    let r = read_in t s in
    let slots = select_slots (columns_in t) s in
    let f = next_filled left slots in
    none_told one (read_refusals t s left) (read_fault r f (rest_excess (behind_next left slots))) (plan.Read (query_of r f (partition_of r.table r.columns f.keys) (bounds_of r.columns f.keys)) r.shown) (read_told t s left) (λ long. long) answer h

pub lowest_is_told : KeptAreOne → LowestIsTold
lowest_is_told one b used left timestamp (statement.CreateKeyspace c) answer h = create_answer one left answer h
lowest_is_told one b used left timestamp (statement.CreateTable c) answer h = create_answer one left answer h
lowest_is_told one b used left timestamp (statement.Use u) answer h = use_answer one (is_some (keyspace_at b u.keyspace)) u.keyspace left answer h
lowest_is_told one b used left timestamp (statement.Insert i) answer h = modification_answer one (table_named b used i.table) (modifications.Insert i) left timestamp answer h
lowest_is_told one b used left timestamp (statement.Update u) answer h = modification_answer one (table_named b used u.table) (modifications.Update u) left timestamp answer h
lowest_is_told one b used left timestamp (statement.Delete d) answer h = modification_answer one (table_named b used d.table) (modifications.Delete d) left timestamp answer h
lowest_is_told one b used left timestamp (statement.Select s) answer h = select_answer one (table_named b used s.table) s left answer h
lowest_is_told one b used left timestamp (statement.Batch x) answer h = batch_answer one b used left timestamp x answer h
