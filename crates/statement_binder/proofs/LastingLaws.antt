-- What is refused before the values are known is refused with all values.
use Rattle.std.proofs.Common.{ℕ, ℤ, inl, inr, Bool, true, false, cond, not, ◌&&◌, List, [], ◌∷◌, ◌++◌, Option, None, fold, map, refl, sym, append_assoc, append-nil}
use Rattle.std.specs.Prelude.{is_some}
use Rattle.std.proofs.lemmas.Bool.{false≢true}
use Rattle.cql_statement.specs.declared.modification.Batch.{Batch}
use Rattle.cql_statement.specs.declared.modification.Modification.{Modification}
use Rattle.cql_statement.specs.declared.modification.Modification.TheVariants as modifications
use Rattle.cql_statement.specs.declared.select.Select.{Select}
use Rattle.cql_statement.specs.declared.statement.Statement.TheVariants as statement
use Rattle.cql_values.specs.declared.value.CqlType.{CqlType}
use Rattle.schema_book.specs.Books.{Book, keyspace_at}
use Rattle.schema_book.specs.declared.table.Table.{Table}
use Rattle.statement_plan.specs.Faults.{lower}
use Rattle.statement_plan.specs.declared.fault.Fault.{Fault}
use Rattle.statement_plan.specs.declared.fault.Fault.TheVariants as fault
use Rattle.statement_plan.specs.declared.fault.Feature.TheVariants as feature
use Rattle.statement_values.specs.Supply.{next_given}
use Rattle.statement_values.specs.declared.params.Param.{Param}
use Rattle.statement_values.specs.declared.params.Params.{Params}
use Rattle.prepared_statement.specs.Faults.{is_lone, is_long_param, is_marker, slot_fault, own_slot_fault, lower_own}
use Rattle.prepared_statement.specs.Names.{table_named}
use Rattle.prepared_statement.specs.Prepared.{columns_in, change_in, change_of, read_in, lower_change, empty_fault}
use Rattle.prepared_statement.specs.Slots.{slots_of, select_slots, stamp_slots}
use Rattle.prepared_statement.specs.Structure.{table_of_modification, guard_of}
use Rattle.prepared_statement.specs.declared.slot.Role.{Role}
use Rattle.prepared_statement.specs.declared.slot.Role.TheVariants as roles
use Rattle.prepared_statement.specs.declared.slot.Slot.{Slot}
use Rattle.prepared_statement.specs.declared.slot.Stands.{Stands}
use Rattle.prepared_statement.specs.declared.slot.Stands.TheVariants.{Own, Mismatched, Marker}
use Rattle.statement_binder.specs.Changes.{timestamp_or}
use Rattle.statement_binder.specs.Filled.{given_to, behind}
use Rattle.statement_binder.specs.Laws.{LastingRefusalsHold, PreparingTellsLowest}
use Rattle.statement_binder.specs.Plans.{behind_all, pieces_of}
use Rattle.statement_binder.specs.Refusals.{Holds, Refusal, refused_if, slot_refusals, slots_refusals, own_excess_refusals, next_refusals, rest_refusals, form_refusals, row_refusals, change_refusals, alone_refusals, select_form_refusals, rows_refusals, read_refusals, condition_refusals, entry_refusals, entries_refusals, scatter_refusals, batch_refusals, idle_refusals, own_slot_refusals, own_slots_refusals, lasting_change_refusals, lasting_entry_refusals, lasting_entries_refusals, is_empty_batch, lasting_batch_refusals}
use Rattle.statement_binder.specs.Supplies.{Left, next_params, next_filled, behind_next, front_params, front_filled, behind_front}
use Rattle.statement_binder.proofs.Lowest.{holds_append, holds_split, Tells, tells_none, tells_if, tells_both, tells_of}
use Rattle.statement_binder.proofs.RefusalLaws.{slot_told, form_told, select_form_told, condition_told, there_told}

-- ---- the lowest of them

tells_unless : {rs : List Refusal} (o : Option Fault) (b : Bool) → Tells rs o → Tells (cond b [] rs) (cond b None o)
tells_unless o true t = tells_none
tells_unless o false t = t

own_slot_told : (s : Slot) → Tells (own_slot_refusals s) (own_slot_fault s)
own_slot_told s = tells_unless (slot_fault s None) (is_marker s.stands && not (is_lone s.role)) (slot_told s None)

own_slots_told : (rs : List Refusal) (o : Option Fault) (ss : List Slot) → Tells rs o → Tells (rs ++ own_slots_refusals ss) (fold lower_own o ss)
own_slots_told rs o [] t = tells_of (sym (append-nil rs)) t
own_slots_told rs o (s ∷ ss) t =
    tells_of (append_assoc rs (own_slot_refusals s) (own_slots_refusals ss)) (own_slots_told (rs ++ own_slot_refusals s) (lower o (own_slot_fault s)) ss (tells_both t (own_slot_told s)))

own_told : (ss : List Slot) → Tells (own_slots_refusals ss) (fold lower_own None ss)
own_told ss = own_slots_told [] None ss tells_none

lasting_change_told : (t : Option Table) (m : Modification) → Tells (lasting_change_refusals t m) (lower (change_in t m).fault (fold lower_own None (slots_of (columns_in t) m)))
lasting_change_told t m = tells_both (form_told t m) (own_told (slots_of (columns_in t) m))

lasting_entries_told : (b : Book) (used : Option (List ℕ)) (rs : List Refusal) (o : Option Fault) (ms : List Modification)
    → Tells rs o → Tells (rs ++ lasting_entries_refusals b used ms) (fold lower_change o (map (change_of b used) ms))
lasting_entries_told b used rs o [] told = tells_of (sym (append-nil rs)) told
lasting_entries_told b used rs o (m ∷ ms) told =
    let t = table_named b used (table_of_modification m) in
    let now = tells_both told (tells_both (condition_told (guard_of m)) (lasting_change_told t m)) in
    tells_of (append_assoc rs (lasting_entry_refusals t m) (lasting_entries_refusals b used ms))
    (lasting_entries_told b used (rs ++ lasting_entry_refusals t m) (lower_change o (change_in t m)) ms now)

empty_told : (b : Book) (used : Option (List ℕ)) (ms : List Modification)
    → Tells (refused_if (fault.NotSupported feature.Batch) (is_empty_batch ms) ∷ []) (empty_fault (map (change_of b used) ms))
empty_told b used [] = tells_if true (fault.NotSupported feature.Batch) refl tells_none
empty_told b used (m ∷ ms) = tells_if false (fault.NotSupported feature.Batch) refl tells_none

pub preparing_tells_lowest : PreparingTellsLowest
preparing_tells_lowest b used (statement.CreateKeyspace c) = (tells_if true (fault.NotSupported feature.Create) refl tells_none).is
preparing_tells_lowest b used (statement.CreateTable c) = (tells_if true (fault.NotSupported feature.Create) refl tells_none).is
preparing_tells_lowest b used (statement.Use u) = (there_told (is_some (keyspace_at b u.keyspace))).is
preparing_tells_lowest b used (statement.Insert i) = (lasting_change_told (table_named b used i.table) (modifications.Insert i)).is
preparing_tells_lowest b used (statement.Update u) = (lasting_change_told (table_named b used u.table) (modifications.Update u)).is
preparing_tells_lowest b used (statement.Delete d) = (lasting_change_told (table_named b used d.table) (modifications.Delete d)).is
preparing_tells_lowest b used (statement.Select s) =
    let t = table_named b used s.table in
    (tells_both (select_form_told t s) (own_told (select_slots (columns_in t) s))).is
preparing_tells_lowest b used (statement.Batch x) =
    (tells_both (own_told (stamp_slots x.stamp)) (tells_both (lasting_entries_told b used [] None x.statements tells_none) (empty_told b used x.statements))).is

-- ---- they hold with all values

last_holds : (x y z : Refusal) (long : Bool) (f : Fault) → Holds (x ∷ y ∷ z ∷ refused_if fault.ValueTooLong false ∷ []) f → Holds (x ∷ y ∷ z ∷ refused_if fault.ValueTooLong long ∷ []) f
last_holds x y z long f (inl h) = inl h
last_holds x y z long f (inr (inl h)) = inr (inl h)
last_holds x y z long f (inr (inr (inl h))) = inr (inr (inl h))
last_holds x y z long f (inr (inr (inr (inl h)))) = absurd (false≢true h.1)
last_holds x y z long f (inr (inr (inr (inr h)))) = absurd h

abbrev slot_at : List ℕ → CqlType → Role → Stands → Slot
slot_at name ty role stands = record { name = name; ty = ty; role = role; stands = stands }

abbrev unplaced : Bool → Refusal
unplaced b = refused_if fault.ValueCount b

-- for a marker a request may give a value, unless it has no column
marker_lasts : (name : List ℕ) (ty : CqlType) (role : Role) (given : Option Param) (f : Fault) → Holds (own_slot_refusals (slot_at name ty role Marker)) f → Holds (slot_refusals (slot_at name ty role Marker) given) f
marker_lasts name ty (roles.Key place operator) given f h = absurd h
marker_lasts name ty (roles.Filter place) given f h = absurd h
marker_lasts name ty (roles.Cell place) given f h = absurd h
marker_lasts name ty (roles.Test place operator) given f h = absurd h
marker_lasts name ty roles.Timestamp given f h = absurd h
marker_lasts name ty roles.Limit given f h = absurd h
marker_lasts name ty (roles.Unfilled place) given f h =
    last_holds (refused_if fault.TypeMismatch false) (unplaced true) (refused_if fault.NullKey false) (is_long_param given) f h
marker_lasts name ty roles.Unplaced given f h =
    last_holds (refused_if fault.TypeMismatch false) (unplaced true) (refused_if fault.NullKey false) (is_long_param given) f h

slot_lasts : (name : List ℕ) (ty : CqlType) (role : Role) (stands : Stands) (left : Params) (f : Fault) → Holds (own_slot_refusals (slot_at name ty role stands)) f
    → Holds (slot_refusals (slot_at name ty role stands) (given_to left (slot_at name ty role stands))) f
slot_lasts name ty role (Own p) left f h = h
slot_lasts name ty role Mismatched left f h = h
slot_lasts name ty role Marker left f h = marker_lasts name ty role (next_given left name) f h

slots_last : (left : Params) (ss : List Slot) (f : Fault) → Holds (own_slots_refusals ss) f → Holds (slots_refusals left ss) f
slots_last left [] f h = h
slots_last left (s ∷ ss) f h =
    holds_append (slot_refusals s (given_to left s)) (slots_refusals (behind left s) ss) f (elim (holds_split (own_slot_refusals s) (own_slots_refusals ss) f h) [
      | inl k ↦ inl (slot_lasts s.name s.ty s.role s.stands left f k)
      | inr k ↦ inr (slots_last (behind left s) ss f k)
    ])

next_last : (left : Left) (ss : List Slot) (f : Fault) → Holds (own_slots_refusals ss) f → Holds (next_refusals left ss) f
next_last left ss f h = holds_append (slots_refusals (next_params left) ss) (own_excess_refusals left ss) f (inl (slots_last (next_params left) ss f h))

change_lasts : (t : Option Table) (m : Modification) (left : Left) (f : Fault) → Holds (lasting_change_refusals t m) f → Holds (change_refusals t m left) f
change_lasts t m left f h =
    let slots = slots_of (columns_in t) m in
    let rows = row_refusals (change_in t m) (next_filled left slots) in
    holds_append (form_refusals t m) (next_refusals left slots ++ rows) f (elim (holds_split (form_refusals t m) (own_slots_refusals slots) f h) [
      | inl k ↦ inl k
      | inr k ↦ inr (holds_append (next_refusals left slots) rows f (inl (next_last left slots f k)))
    ])

alone_lasts : (t : Option Table) (m : Modification) (left : Left) (f : Fault) → Holds (lasting_change_refusals t m) f → Holds (alone_refusals t m left) f
alone_lasts t m left f h =
    holds_append (change_refusals t m left) (rest_refusals (behind_next left (slots_of (columns_in t) m))) f (inl (change_lasts t m left f h))

read_lasts : (t : Option Table) (s : Select) (left : Left) (f : Fault) → Holds (select_form_refusals t s ++ own_slots_refusals (select_slots (columns_in t) s)) f → Holds (read_refusals t s left) f
read_lasts t s left f h =
    let slots = select_slots (columns_in t) s in
    let rows = rows_refusals (read_in t s) (next_filled left slots) in
    let all = select_form_refusals t s ++ (next_refusals left slots ++ rows) in
    let held : Holds all f = holds_append (select_form_refusals t s) (next_refusals left slots ++ rows) f (elim (holds_split (select_form_refusals t s) (own_slots_refusals slots) f h) [
      | inl k ↦ inl k
      | inr k ↦ inr (holds_append (next_refusals left slots) rows f (inl (next_last left slots f k)))
    ]) in
    holds_append all (rest_refusals (behind_next left slots)) f (inl held)

entries_last : (b : Book) (used : Option (List ℕ)) (left : Left) (ms : List Modification) (f : Fault) → Holds (lasting_entries_refusals b used ms) f → Holds (entries_refusals b used left ms) f
entries_last b used left [] f h = h
entries_last b used left (m ∷ ms) f h =
    let t = table_named b used (table_of_modification m) in
    let later = behind_next left (slots_of (columns_in t) m) in
    holds_append (entry_refusals t m left) (entries_refusals b used later ms) f (elim (holds_split (lasting_entry_refusals t m) (lasting_entries_refusals b used ms) f h) [
      | inl k ↦ inl (holds_append (condition_refusals (guard_of m)) (change_refusals t m left) f (elim (holds_split (condition_refusals (guard_of m)) (lasting_change_refusals t m) f k) [
        | inl x ↦ inl x
        | inr x ↦ inr (change_lasts t m left f x)
      ]))
      | inr k ↦ inr (entries_last b used later ms f k)
    ])

empty_lasts : (b : Book) (used : Option (List ℕ)) (left : Left) (timestamp : Option ℤ) (ms : List Modification) (f : Fault) → Holds (refused_if (fault.NotSupported feature.Batch) (is_empty_batch ms) ∷ []) f
    → Holds (scatter_refusals (pieces_of timestamp left (map (change_of b used) ms))) f
empty_lasts b used left timestamp [] f h = h
empty_lasts b used left timestamp (m ∷ ms) f (inl h) = absurd (false≢true h.1)
empty_lasts b used left timestamp (m ∷ ms) f (inr h) = absurd h

batch_lasts : (b : Book) (used : Option (List ℕ)) (left : Left) (timestamp : Option ℤ) (x : Batch) (f : Fault) → Holds (lasting_batch_refusals b used x) f → Holds (batch_refusals b used left timestamp x) f
batch_lasts b used left timestamp x f h =
    let slots = stamp_slots x.stamp in
    let later = behind_front left slots in
    let time = timestamp_or (front_filled left slots).timestamp timestamp in
    let front = slots_refusals (front_params left) slots in
    let rest = rest_refusals (behind_all later (map (change_of b used) x.statements)) in
    let entries = entries_refusals b used later x.statements in
    let scatter = scatter_refusals (pieces_of time later (map (change_of b used) x.statements)) in
    let empty = refused_if (fault.NotSupported feature.Batch) (is_empty_batch x.statements) ∷ [] in
    holds_append (front ++ rest) (entries ++ scatter) f (elim (holds_split (own_slots_refusals slots) (lasting_entries_refusals b used x.statements ++ empty) f h) [
      | inl k ↦ inl (holds_append front rest f (inl (slots_last (front_params left) slots f k)))
      | inr k ↦ inr (holds_append entries scatter f (elim (holds_split (lasting_entries_refusals b used x.statements) empty f k) [
        | inl y ↦ inl (entries_last b used later x.statements f y)
        | inr y ↦ inr (empty_lasts b used later time x.statements f y)
      ]))
    ])

use_lasts : (r : Refusal) (rs : List Refusal) (f : Fault) → Holds (r ∷ []) f → Holds (r ∷ rs) f
use_lasts r rs f (inl h) = inl h
use_lasts r rs f (inr h) = absurd h

pub lasting_refusals_hold : LastingRefusalsHold
lasting_refusals_hold b used left timestamp (statement.CreateKeyspace c) f h = holds_append (idle_refusals left) (refused_if (fault.NotSupported feature.Create) true ∷ []) f (inr h)
lasting_refusals_hold b used left timestamp (statement.CreateTable c) f h = holds_append (idle_refusals left) (refused_if (fault.NotSupported feature.Create) true ∷ []) f (inr h)
lasting_refusals_hold b used left timestamp (statement.Use u) f h = use_lasts (refused_if fault.UnknownKeyspace (not (is_some (keyspace_at b u.keyspace)))) (idle_refusals left) f h
lasting_refusals_hold b used left timestamp (statement.Insert i) f h = alone_lasts (table_named b used i.table) (modifications.Insert i) left f h
lasting_refusals_hold b used left timestamp (statement.Update u) f h = alone_lasts (table_named b used u.table) (modifications.Update u) left f h
lasting_refusals_hold b used left timestamp (statement.Delete d) f h = alone_lasts (table_named b used d.table) (modifications.Delete d) left f h
lasting_refusals_hold b used left timestamp (statement.Select s) f h = read_lasts (table_named b used s.table) s left f h
lasting_refusals_hold b used left timestamp (statement.Batch x) f h = batch_lasts b used left timestamp x f h
