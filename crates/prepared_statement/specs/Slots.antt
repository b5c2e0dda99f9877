-- The slots of a statement, in the order of its text: the columns and terms that it gives values for (CQL reference,
-- "INSERT", "UPDATE", "DELETE", "SELECT"; native_protocol_v4.spec, section 4.2.5.4).
use Rattle.std.specs.Prelude.{ℕ, Bool, true, false, List, [], ◌∷◌, ◌++◌, Option, Some, None, Result, Ok, Err, if◌then◌else◌, codes, map}
use Rattle.cql_statement.specs.declared.modification.Assignment.{Assignment}
use Rattle.cql_statement.specs.declared.modification.Condition.{Condition}
use Rattle.cql_statement.specs.declared.modification.Condition.TheVariants as conditions
use Rattle.cql_statement.specs.declared.modification.Delete.{Delete}
use Rattle.cql_statement.specs.declared.modification.Insert.{Insert}
use Rattle.cql_statement.specs.declared.modification.Modification.{Modification}
use Rattle.cql_statement.specs.declared.modification.Modification.TheVariants as modifications
use Rattle.cql_statement.specs.declared.modification.Stamp.{Stamp}
use Rattle.cql_statement.specs.declared.modification.Test.{Test}
use Rattle.cql_statement.specs.declared.modification.Update.{Update}
use Rattle.cql_statement.specs.declared.select.Select.{Select}
use Rattle.cql_statement.specs.declared.term.Relation.{Relation}
use Rattle.cql_statement.specs.declared.term.RelationOperator.{RelationOperator}
use Rattle.cql_statement.specs.declared.term.RelationOperator.TheVariants as relations
use Rattle.cql_statement.specs.declared.term.Term.{Term}
use Rattle.cql_statement.specs.declared.term.Term.TheVariants as terms
use Rattle.cql_values.specs.Literals.{kind_of, literal_value}
use Rattle.cql_values.specs.Protocol.{value_bytes}
use Rattle.cql_values.specs.declared.error.LiteralError.{LiteralError}
use Rattle.cql_values.specs.declared.value.CqlType.{CqlType}
use Rattle.cql_values.specs.declared.value.CqlType.TheVariants as types
use Rattle.cql_values.specs.declared.value.CqlValue.{CqlValue}
use Rattle.cql_values.specs.declared.value.Literal.{Literal}
use Rattle.cql_values.specs.declared.value.LiteralKind.{LiteralKind}
use Rattle.cql_values.specs.declared.value.LiteralKind.TheVariants as kinds
use Rattle.key_restrictions.specs.Places.{is_key_at}
use Rattle.schema_book.specs.declared.table.ColumnDef.{ColumnDef}
use Rattle.statement_values.specs.declared.params.Param.TheVariants as params
use Rattle.prepared_statement.specs.Names.{place_of, type_at}
use Rattle.prepared_statement.specs.declared.slot.Role.{Role}
use Rattle.prepared_statement.specs.declared.slot.Role.TheVariants as roles
use Rattle.prepared_statement.specs.declared.slot.Slot.{Slot}
use Rattle.prepared_statement.specs.declared.slot.Stands.{Stands}
use Rattle.prepared_statement.specs.declared.slot.Stands.TheVariants.{Own, Mismatched, Marker}

-- ---- a term

abbrev pub same_kind : LiteralKind → LiteralKind → Bool
same_kind kinds.Str kinds.Str = true
same_kind kinds.Whole kinds.Whole = true
same_kind kinds.Blob kinds.Blob = true
same_kind kinds.Uuid kinds.Uuid = true
same_kind kinds.Bool kinds.Bool = true
same_kind _ _ = false

abbrev pub stands_by : Result CqlValue LiteralError → Stands
stands_by (Ok v) = Own (params.Given (value_bytes v))
stands_by (Err e) = Mismatched

-- the value of the type that a constant writes
abbrev pub constant : CqlType → Literal → Stands
constant ty l = if same_kind l.kind (kind_of ty) then stands_by (literal_value ty l.text) else Mismatched

abbrev pub stands_for : CqlType → Term → Stands
stands_for ty (terms.Constant l) = constant ty l
stands_for ty terms.Null = Own params.Null
stands_for ty terms.Marker = Marker
stands_for ty (terms.NamedMarker name) = Marker

-- a marker without a name has this one
abbrev pub slot_name : List ℕ → Term → List ℕ
slot_name name (terms.Constant l) = name
slot_name name terms.Null = name
slot_name name terms.Marker = name
slot_name name (terms.NamedMarker own) = own

abbrev pub slot_of : List ℕ → CqlType → Role → Term → Slot
slot_of name ty role term = record { name = slot_name name term; ty = ty; role = role; stands = stands_for ty term }

-- a slot of a column that null stands for
abbrev pub null_slot : List ℕ → CqlType → Role → Slot
null_slot name ty role = record { name = name; ty = ty; role = role; stands = Own params.Null }

-- ---- WHERE

abbrev pub relation_role : List ColumnDef → ℕ → RelationOperator → Role
relation_role columns place operator = if is_key_at columns place then roles.Key place operator else roles.Filter place

abbrev pub relation_slot : List ColumnDef → Relation → Slot
relation_slot columns r =
    slot_of r.column (type_at columns (place_of columns r.column)) (relation_role columns (place_of columns r.column) r.operator) r.term

-- ---- SET, and the columns of DELETE

abbrev pub assignment_slot : List ColumnDef → Assignment → Slot
assignment_slot columns a = slot_of a.column (type_at columns (place_of columns a.column)) (roles.Cell (place_of columns a.column)) a.term

abbrev pub deleted_slot : List ColumnDef → List ℕ → Slot
deleted_slot columns name = null_slot name (type_at columns (place_of columns name)) (roles.Cell (place_of columns name))

-- ---- the columns and values of INSERT

abbrev pub entry_role : List ColumnDef → ℕ → Role
entry_role columns place = if is_key_at columns place then roles.Key place relations.Equal else roles.Cell place

abbrev pub entry_slot : List ColumnDef → List ℕ → Term → Slot
entry_slot columns name term = slot_of name (type_at columns (place_of columns name)) (entry_role columns (place_of columns name)) term

abbrev pub unfilled_slot : List ColumnDef → List ℕ → Slot
unfilled_slot columns name = null_slot name (type_at columns (place_of columns name)) (roles.Unfilled (place_of columns name))

abbrev pub unplaced_slot : Term → Slot
unplaced_slot term = slot_of [] types.Blob roles.Unplaced term

-- the values with their columns, and behind these what is left of the longer list
abbrev pub entry_slots : List ColumnDef → List (List ℕ) → List Term → List Slot
entry_slots columns names [] = map (unfilled_slot columns) names
entry_slots columns [] (term ∷ terms) = unplaced_slot term ∷ entry_slots columns [] terms
entry_slots columns (name ∷ names) (term ∷ terms) = entry_slot columns name term ∷ entry_slots columns names terms

-- ---- IF

abbrev pub test_slot : List ColumnDef → Test → Slot
test_slot columns t = slot_of t.column (type_at columns (place_of columns t.column)) (roles.Test (place_of columns t.column) t.operator) t.term

abbrev pub condition_slots : List ColumnDef → Option Condition → List Slot
condition_slots columns None = []
condition_slots columns (Some conditions.Exists) = []
condition_slots columns (Some (conditions.Tests tests)) = map (test_slot columns) tests

-- ---- USING TIMESTAMP, LIMIT

abbrev pub stamp_slot : Stamp → Slot
stamp_slot s = slot_of (codes "[timestamp]") types.Bigint roles.Timestamp s.timestamp

abbrev pub stamp_slots : Option Stamp → List Slot
stamp_slots None = []
stamp_slots (Some s) = stamp_slot s ∷ []

abbrev pub limit_slot : Term → Slot
limit_slot term = slot_of (codes "[limit]") types.Int roles.Limit term

abbrev pub limit_slots : Option Term → List Slot
limit_slots None = []
limit_slots (Some term) = limit_slot term ∷ []

-- ---- statements

abbrev pub insert_slots : List ColumnDef → Insert → List Slot
insert_slots columns i = entry_slots columns i.columns i.values ++ stamp_slots i.stamp

abbrev pub update_slots : List ColumnDef → Update → List Slot
update_slots columns u =
    stamp_slots u.stamp ++ (map (assignment_slot columns) u.assignments ++ (map (relation_slot columns) u.relations ++ condition_slots columns u.condition))

abbrev pub delete_slots : List ColumnDef → Delete → List Slot
delete_slots columns d =
    map (deleted_slot columns) d.columns ++ (stamp_slots d.stamp ++ (map (relation_slot columns) d.relations ++ condition_slots columns d.condition))

abbrev pub slots_of : List ColumnDef → Modification → List Slot
slots_of columns (modifications.Insert i) = insert_slots columns i
slots_of columns (modifications.Update u) = update_slots columns u
slots_of columns (modifications.Delete d) = delete_slots columns d

abbrev pub select_slots : List ColumnDef → Select → List Slot
select_slots columns s = map (relation_slot columns) s.relations ++ limit_slots s.limit
