-- What the lines put and get ask by their prepared statements they ask by their own.
use Rattle.std.proofs.Common.{◌≡◌, ◌++◌, ℕ, ℤ, false, List, [], ◌∷◌, Option, Some, None, Result, Ok, Err, inl, inr, refl, sym, ap, ◌∙◌, codes}
use Rattle.std.specs.Prelude.{FitsSigned}
use Rattle.std.specs.Int.{cast_unsigned, to_be_bytes, w64}
use Rattle.std.specs.List.{find}
use Rattle.std.specs.Option.{option_or}
use Rattle.std.specs.Str.{IsUtf8}
use Rattle.std.proofs.lemmas.List.Folds.{find-append}
use Rattle.cs_base.specs.declared.level.Level.{Level}
use Rattle.cql_statement.specs.declared.modification.Modification.{Modification}
use Rattle.cql_statement.specs.declared.modification.Modification.TheVariants as modifications
use Rattle.cql_statement.specs.declared.modification.Update.{Update}
use Rattle.cql_statement.specs.declared.select.Select.{Select}
use Rattle.cql_statement.specs.declared.select.Selection.TheVariants as selection
use Rattle.cql_statement.specs.declared.statement.Statement.{Statement}
use Rattle.cql_statement.specs.declared.term.RelationOperator.TheVariants.{Equal}
use Rattle.cql_statement.specs.declared.term.Term.{Term}
use Rattle.cql_statement.specs.declared.term.Term.TheVariants as terms
use Rattle.cql_values.specs.Literals.{literal_text, literal_value}
use Rattle.cql_values.specs.Value.{IsValue, type_of}
use Rattle.cql_values.specs.declared.value.CqlType.TheVariants as types
use Rattle.cql_values.specs.declared.value.CqlValue.{CqlValue}
use Rattle.cql_values.specs.declared.value.CqlValue.TheVariants as values
use Rattle.schema_book.specs.Books.{Book, first_book, is_of, script_columns, script_table, table_of}
use Rattle.schema_book.specs.declared.table.ColumnDef.{ColumnDef}
use Rattle.schema_book.specs.declared.table.Table.{Table}
use Rattle.schema_book.proofs.Steps.{Grows, stays, made}
use Rattle.schema_book.proofs.Runs.{keeps}
use Rattle.statement_plan.specs.declared.fault.Fault.{Fault}
use Rattle.statement_plan.specs.declared.plan.Columns.TheVariants.{Listed}
use Rattle.statement_plan.specs.declared.plan.Plan.{Plan}
use Rattle.statement_values.specs.declared.params.Param.TheVariants.{Given}
use Rattle.prepared_statement.specs.Prepared.{change_in, change_with, outline_of, read_in, read_with}
use Rattle.prepared_statement.specs.Slots.{slots_of, select_slots, stands_by, stands_for}
use Rattle.prepared_statement.specs.Structure.{keys_of, shown_places}
use Rattle.prepared_statement.specs.declared.change.Action.TheVariants as actions
use Rattle.prepared_statement.specs.declared.change.Guard.TheVariants as guards
use Rattle.prepared_statement.specs.declared.prepared.Prepared.TheVariants as prepared
use Rattle.prepared_statement.specs.declared.slot.Role.TheVariants as roles
use Rattle.prepared_statement.specs.declared.slot.Slot.{Slot}
use Rattle.prepared_statement.specs.declared.slot.Stands.{Stands}
use Rattle.prepared_statement.specs.declared.slot.Stands.TheVariants.{Own, Marker}
use Rattle.statement_binder.specs.Meanings.{Answers, meaning_of}
use Rattle.statement_binder.specs.Plans.{change_plan, plan_of, read_plan}
use Rattle.statement_binder.specs.Supplies.{Left, whole}
use Rattle.statement_binder.specs.declared.error.BindError.{BindError}
use Rattle.statement_binder.specs.declared.error.BindError.TheVariants as error
use Rattle.cluster_model.specs.declared.event.ClusterEvent.{ClusterEvent}
use Rattle.fault_script.specs.Laws.{ScriptsHaveTheirSchema}
use Rattle.fault_script.specs.declared.script.PutRequest.{PutRequest}
use Rattle.fault_script.specs.declared.script.GetRequest.{GetRequest}
use Rattle.script_program.specs.Requests.{kv_table, text_term, number_term, put_by, put_statement, get_statement, equals_by, no_values, AsksAt, AsksBy}
use Rattle.script_program.specs.Lines.{HasKv, ScriptsHaveKv, marked_put, marked_get, put_values, get_values}

-- ---- the table is there

kv_more : (more : List Table) (b : Book) (t : Table) → find (is_of (codes "script") (codes "kv")) b.tables ≡ Some t → find (is_of (codes "script") (codes "kv")) (b.tables ++ more) ≡ Some t
kv_more more b t at =
    find-append (is_of (codes "script") (codes "kv")) b.tables more ∙ ap (λ (o : Option Table). option_or o (find (is_of (codes "script") (codes "kv")) more)) at

kv_step : (grace : ℕ) (b b' : Book) → Grows grace b b' → HasKv b → HasKv b'
kv_step grace b b' (stays e) h = record { table = h.table; found = ap (find (is_of (codes "script") (codes "kv"))) e ∙ h.found; columns = h.columns }
kv_step grace b b' (made m) h = record {
  table = h.table;
  found = ap (find (is_of (codes "script") (codes "kv"))) m.tables ∙ kv_more (table_of grace m.create m.outline m.keyspace m.number ∷ []) b h.table h.found;
  columns = h.columns;
}

pub kv_is_there : ScriptsHaveTheirSchema → ScriptsHaveKv
kv_is_there laws text script is =
    let h = laws text script is in
    keeps _ script.grace HasKv (kv_step script.grace) h.statements 0 (first_book script.factor script.grace) script.schema h.made
    (record { table = script_table script.factor script.grace; found = refl; columns = refl })

-- ---- constants

-- what is printed is read as it
abbrev pub ReadsBack : Type 0
ReadsBack = (v : CqlValue) → IsValue v → literal_value (type_of v) (literal_text v) ≡ Ok v

pub text_stands : ReadsBack → (text : List ℕ) → IsUtf8 text → stands_for types.Text (text_term text) ≡ Own (Given text)
text_stands back text is = ap stands_by (back (values.Text text) is)

-- the constant of a text stands for it
abbrev pub IsRead : List ℕ → Type 0
IsRead text = stands_for types.Text (text_term text) ≡ Own (Given text)

pub number_stands : ReadsBack → (n : ℤ) → FitsSigned w64 n → stands_for types.Bigint (number_term n) ≡ Own (Given (to_be_bytes w64 (cast_unsigned w64 n)))
number_stands back n is = ap stands_by (back (values.Bigint n) is)

-- ---- put

abbrev put_slots : Stands → Stands → Stands → Stands → List Slot
put_slots timestamp value key row =
    record { name = codes "[timestamp]"; ty = types.Bigint; role = roles.Timestamp; stands = timestamp }
    ∷ record { name = codes "v"; ty = types.Text; role = roles.Cell 2; stands = value }
    ∷ record { name = codes "k"; ty = types.Text; role = roles.Key 0 Equal; stands = key }
    ∷ record { name = codes "c"; ty = types.Text; role = roles.Key 1 Equal; stands = row }
    ∷ []

abbrev put_plan : ℕ → Left → Stands → Stands → Stands → Stands → Result Plan Fault
put_plan number left timestamp value key row = change_plan None (record {
  fault = None;
  table = number;
  columns = script_columns;
  slots = put_slots timestamp value key row;
  action = actions.Set;
  guard = guards.Always;
  shown = [];
}) left

abbrev put_update : Term → Term → Term → Term → Update
put_update timestamp value key row = record {
  table = kv_table;
  stamp = Some (record { timestamp = timestamp });
  assignments = record { column = codes "v"; term = value } ∷ [];
  relations = equals_by (codes "k") key ∷ equals_by (codes "c") row ∷ [];
  condition = None;
}

-- in the table as it is
put_in : (book : Book) (keyspace : Option (List ℕ)) (left : Left) (h : HasKv book) (timestamp value key row : Term)
    → plan_of (outline_of book keyspace (put_by timestamp value key row)) left None
    ≡ plan_of (prepared.Change (change_with h.table.number None script_columns (modifications.Update (put_update timestamp value key row)) (slots_of script_columns (modifications.Update (put_update timestamp value key row))) (keys_of (slots_of script_columns (modifications.Update (put_update timestamp value key row)))))) left None
put_in book keyspace left h timestamp value key row =
    let m : Modification = modifications.Update (put_update timestamp value key row) in
    ap (λ (o : Option Table). plan_of (prepared.Change (change_in o m)) left None) h.found
    ∙ ap (λ (cs : List ColumnDef). plan_of (prepared.Change (change_with h.table.number None cs m (slots_of cs m) (keys_of (slots_of cs m)))) left None) h.columns

put_marked : (book : Book) (left : Left) (h : HasKv book) → plan_of (outline_of book None marked_put) left None ≡ put_plan h.table.number left Marker Marker Marker Marker
put_marked book left h = put_in book None left h terms.Marker terms.Marker terms.Marker terms.Marker

put_own : (book : Book) (keyspace : Option (List ℕ)) (left : Left) (h : HasKv book) (put : PutRequest)
    → plan_of (outline_of book keyspace (put_statement put)) left None
    ≡ put_plan h.table.number left (stands_for types.Bigint (number_term put.timestamp)) (stands_for types.Text (text_term put.value)) (stands_for types.Text (text_term put.key)) (stands_for types.Text (text_term put.row))
put_own book keyspace left h put = put_in book keyspace left h (number_term put.timestamp) (text_term put.value) (text_term put.key) (text_term put.row)

put_filled : (number : ℕ) (put : PutRequest)
    → put_plan number (whole (put_values put)) Marker Marker Marker Marker
    ≡ put_plan number (whole no_values) (Own (Given (to_be_bytes w64 (cast_unsigned w64 put.timestamp)))) (Own (Given put.value)) (Own (Given put.key)) (Own (Given put.row))
put_filled number put = refl

put_same : (number : ℕ) (left : Left) (a a' v v' k k' r r' : Stands) → a ≡ a' → v ≡ v' → k ≡ k' → r ≡ r' → put_plan number left a v k r ≡ put_plan number left a' v' k' r'
put_same number left a a' v v' k k' r r' ea ev ek er =
    ap (λ (x : Stands). put_plan number left x v k r) ea
    ∙ (ap (λ (x : Stands). put_plan number left a' x k r) ev ∙ (ap (λ (x : Stands). put_plan number left a' v' x r) ek ∙ ap (λ (x : Stands). put_plan number left a' v' k' x) er))

pub put_means : (book : Book) (keyspace : Option (List ℕ)) (put : PutRequest) → HasKv book
    → stands_for types.Bigint (number_term put.timestamp) ≡ Own (Given (to_be_bytes w64 (cast_unsigned w64 put.timestamp)))
    → IsRead put.value → IsRead put.key → IsRead put.row
    → plan_of (outline_of book None marked_put) (whole (put_values put)) None ≡ meaning_of book keyspace no_values None (put_statement put)
put_means book keyspace put h ea ev ek er =
    put_marked book (whole (put_values put)) h
    ∙ (put_filled h.table.number put ∙ (sym (put_same h.table.number (whole no_values) _ _ _ _ _ _ _ _ ea ev ek er) ∙ sym (put_own book keyspace (whole no_values) h put)))

-- ---- get

abbrev get_plan : ℕ → Left → Stands → Result Plan Fault
get_plan number left key = read_plan (record {
  fault = None;
  table = number;
  columns = script_columns;
  slots = record { name = codes "k"; ty = types.Text; role = roles.Key 0 Equal; stands = key } ∷ [];
  reversed = false;
  shown = Listed (1 ∷ 2 ∷ []);
}) left

abbrev get_select : Term → Select
get_select key = record {
  selection = selection.Columns (codes "c" ∷ codes "v" ∷ []);
  table = kv_table;
  relations = equals_by (codes "k") key ∷ [];
  orders = [];
  limit = None;
}

get_marked : (book : Book) (left : Left) (h : HasKv book) → plan_of (outline_of book None marked_get) left None ≡ get_plan h.table.number left Marker
get_marked book left h =
    let s : Select = get_select terms.Marker in
    ap (λ (o : Option Table). plan_of (prepared.Read (read_in o s)) left None) h.found
    ∙ ap (λ (cs : List ColumnDef). plan_of (prepared.Read (read_with h.table.number None cs s (select_slots cs s) (keys_of (select_slots cs s)) (shown_places cs s.selection))) left None) h.columns

get_own : (book : Book) (keyspace : Option (List ℕ)) (left : Left) (h : HasKv book) (get : GetRequest)
    → plan_of (outline_of book keyspace (get_statement get)) left None ≡ get_plan h.table.number left (stands_for types.Text (text_term get.key))
get_own book keyspace left h get =
    let s : Select = get_select (text_term get.key) in
    ap (λ (o : Option Table). plan_of (prepared.Read (read_in o s)) left None) h.found
    ∙ ap (λ (cs : List ColumnDef). plan_of (prepared.Read (read_with h.table.number None cs s (select_slots cs s) (keys_of (select_slots cs s)) (shown_places cs s.selection))) left None) h.columns

get_filled : (number : ℕ) (get : GetRequest) → get_plan number (whole (get_values get)) Marker ≡ get_plan number (whole no_values) (Own (Given get.key))
get_filled number get = refl

pub get_means : (book : Book) (keyspace : Option (List ℕ)) (get : GetRequest) → HasKv book
    → IsRead get.key
    → plan_of (outline_of book None marked_get) (whole (get_values get)) None ≡ meaning_of book keyspace no_values None (get_statement get)
get_means book keyspace get h ek =
    get_marked book (whole (get_values get)) h
    ∙ (get_filled h.table.number get ∙ (sym (ap (get_plan h.table.number (whole no_values)) ek) ∙ sym (get_own book keyspace (whole no_values) h get)))

-- ---- what was bound is asked

pub asks : (book : Book) (keyspace : Option (List ℕ)) (s : Statement) (bound : Result Plan BindError) (node : ℕ) (level : Level) (e : ClusterEvent)
    → Answers bound (meaning_of book keyspace no_values None s) → AsksBy bound node level e → AsksAt book keyspace node level s e
asks book keyspace s (Ok p) node level e h (q, is, same) = (q, inl (p, h, is), same)
asks book keyspace s (Err (error.Refused f)) node level e h (q, is, same) = (q, inr (f, h, is), same)
asks book keyspace s (Err error.NoMemory) node level e h (q, is, same) = absurd is
