-- What is written of a response is a word of the grammar, whatever follows it.
use Rattle.std.proofs.Common.{◌≡◌, ℕ, zero, suc, ◌<◌, ◌^◌, List, [], ◌∷◌, ◌++◌, length, Option, Some, None, refl, sym, subst, append_assoc, arith}
use Rattle.std.specs.Prelude.{pos, codes, is_some}
use Rattle.std.specs.List.{flat_map}
use Rattle.std.specs.Str.{IsUtf8, IsAscii}
use Rattle.std.proofs.lemmas.List.{append-nil}
use Rattle.std.proofs.lemmas.Str.{IsUtf8-from_ascii}
use Rattle.cql_values.specs.declared.value.CqlType.{CqlType}
use Rattle.cql_values.specs.declared.value.CqlType.TheVariants as types
use Rattle.body_notations.specs.Notations.{IsShort, IsInt, IsString, IsBytes, IsList}
use Rattle.body_notations.specs.Spelling.{short, int, count, consistency, string, short_bytes, bytes as bytes_or_null, list, part, BytesFit, ListFits, IsShortNumber, IsStringText}
use Rattle.body_notations.proofs.Spelled.{IsSpelled, short_spelled, int_spelled, count_is, consistency_spelled, string_spelled, short_bytes_spelled, bytes_spelled, words_spelled, list_spelled, part_spelled, two_spelled}
use Rattle.response_bodies.specs.declared.error.WriteType.{WriteType}
use Rattle.response_bodies.specs.declared.error.WriteType.TheVariants as write_types
use Rattle.response_bodies.specs.declared.error.ErrorCause.{ErrorCause}
use Rattle.response_bodies.specs.declared.error.ErrorCause.TheVariants as causes
use Rattle.response_bodies.specs.declared.metadata.TableColumns.{TableColumns}
use Rattle.response_bodies.specs.declared.metadata.Columns.{Columns}
use Rattle.response_bodies.specs.declared.metadata.Columns.TheVariants as given
use Rattle.response_bodies.specs.declared.response.Response.{Response}
use Rattle.response_bodies.specs.declared.response.Response.TheVariants as responses
use Rattle.response_bodies.specs.Responses.{IsOption, IsUnavailable, IsWriteType, IsWriteTimeout, IsReadTimeout, AreFields, IsError, IsColumn, IsTable, AreColumns, IsMetadata, AreVariables, IsPrepared, AreRows, IsBody, opcode_of, IsResponse}
use Rattle.response_bodies.specs.Spelling.{option, code_of, counts, unavailable, type_text, write_timeout, present_byte, read_timeout, cause, error, type_id, column, table, columns, column_count, flags_with, flags_of, metadata, variables, prepared, rows, body, OptionHasWord, UnavailableHasWord, WriteTimeoutHasWord, ReadTimeoutHasWord, CauseHasWord, ErrorHasWord, ColumnHasWord, TableHasWord, ColumnsHaveWord, MetadataHasWord, VariablesHaveWord, PreparedHasWord, RowsHaveWord, HasWord}

three : (a b c rest : List ℕ) → ((a ++ b) ++ c) ++ rest ≡ a ++ (b ++ (c ++ rest))
three a b c rest = simp append_assoc

four : (a b c d rest : List ℕ) → (((a ++ b) ++ c) ++ d) ++ rest ≡ a ++ (b ++ (c ++ (d ++ rest)))
four a b c d rest = simp append_assoc

five : (a b c d e rest : List ℕ) → ((((a ++ b) ++ c) ++ d) ++ e) ++ rest ≡ a ++ (b ++ (c ++ (d ++ (e ++ rest))))
five a b c d e rest = simp append_assoc

-- ---- SUPPORTED

pub option_spelled : IsSpelled option IsOption OptionHasWord
option_spelled = record {
  first = λ o rest has.
      two_spelled string (list string) IsString (IsList IsString) IsStringText (ListFits IsStringText) string_spelled (list_spelled string IsString IsStringText string_spelled) o.name o.values rest has.0 has.1;
}

-- ---- ERROR

pub unavailable_spelled : IsSpelled unavailable IsUnavailable UnavailableHasWord
unfolding counts
unavailable_spelled = record {
  first = λ u rest has.
      subst (λ (b : List ℕ). IsUnavailable b u rest) (sym (three (consistency u.consistency) (int u.required) (int u.alive) rest)) (record {
        behind_consistency = int u.required ++ (int u.alive ++ rest);
        behind_required = int u.alive ++ rest;
        consistency = consistency_spelled.first u.consistency (int u.required ++ (int u.alive ++ rest)) tt;
        required = int_spelled.first u.required (int u.alive ++ rest) has.0;
        alive = int_spelled.first u.alive rest has.1;
      });
}

ascii_nil : IsAscii []
ascii_nil i = omega arith

ascii_cons : (x : ℕ) (xs : List ℕ) → x < 128 → IsAscii xs → IsAscii (x ∷ xs)
ascii_cons x xs low small zero = low
ascii_cons x xs low small (suc i) = small i

simple_is : IsUtf8 (codes "SIMPLE")
simple_is = IsUtf8-from_ascii (codes "SIMPLE") (ascii_cons 83 (73 ∷ 77 ∷ 80 ∷ 76 ∷ 69 ∷ []) (omega arith) (ascii_cons 73 (77 ∷ 80 ∷ 76 ∷ 69 ∷ []) (omega arith) (ascii_cons 77 (80 ∷ 76 ∷ 69 ∷ []) (omega arith) (ascii_cons 80 (76 ∷ 69 ∷ []) (omega arith) (ascii_cons 76 (69 ∷ []) (omega arith) (ascii_cons 69 [] (omega arith) ascii_nil))))))

cas_is : IsUtf8 (codes "CAS")
cas_is = IsUtf8-from_ascii (codes "CAS") (ascii_cons 67 (65 ∷ 83 ∷ []) (omega arith) (ascii_cons 65 (83 ∷ []) (omega arith) (ascii_cons 83 [] (omega arith) ascii_nil)))

type_is : (t : WriteType) (rest : List ℕ) → IsWriteType (type_text t ++ rest) t rest
type_is write_types.Simple rest = string_spelled.first (codes "SIMPLE") rest (omega arith, simple_is)
type_is write_types.Cas rest = string_spelled.first (codes "CAS") rest (omega arith, cas_is)

pub write_timeout_spelled : IsSpelled write_timeout IsWriteTimeout WriteTimeoutHasWord
unfolding counts
write_timeout_spelled = record {
  first = λ t rest has.
      let behind_block_for = type_text t.write_type ++ rest in
      subst (λ (b : List ℕ). IsWriteTimeout b t rest) (sym (four (consistency t.consistency) (int t.received) (int t.block_for) (type_text t.write_type) rest)) (record {
        behind_consistency = int t.received ++ (int t.block_for ++ behind_block_for);
        behind_received = int t.block_for ++ behind_block_for;
        behind_block_for = behind_block_for;
        consistency = consistency_spelled.first t.consistency (int t.received ++ (int t.block_for ++ behind_block_for)) tt;
        received = int_spelled.first t.received (int t.block_for ++ behind_block_for) has.0;
        block_for = int_spelled.first t.block_for behind_block_for has.1;
        write_type = type_is t.write_type rest;
      });
}

pub read_timeout_spelled : IsSpelled read_timeout IsReadTimeout ReadTimeoutHasWord
unfolding counts
read_timeout_spelled = record {
  first = λ t rest has.
      let behind_block_for = present_byte t.data_present ∷ rest in
      subst (λ (b : List ℕ). IsReadTimeout b t rest) (sym (four (consistency t.consistency) (int t.received) (int t.block_for) (present_byte t.data_present ∷ []) rest)) (record {
        behind_consistency = int t.received ++ (int t.block_for ++ behind_block_for);
        behind_received = int t.block_for ++ behind_block_for;
        behind_block_for = behind_block_for;
        consistency = consistency_spelled.first t.consistency (int t.received ++ (int t.block_for ++ behind_block_for)) tt;
        received = int_spelled.first t.received (int t.block_for ++ behind_block_for) has.0;
        block_for = int_spelled.first t.block_for behind_block_for has.1;
        data_present = refl;
      });
}

fields_spelled : (c : ErrorCause) (rest : List ℕ) → CauseHasWord c → AreFields (cause c ++ rest) c rest
fields_spelled causes.Server rest has = refl
fields_spelled causes.Protocol rest has = refl
fields_spelled (causes.Unavailable u) rest has = unavailable_spelled.first u rest has
fields_spelled causes.Overloaded rest has = refl
fields_spelled (causes.WriteTimeout t) rest has = write_timeout_spelled.first t rest has
fields_spelled (causes.ReadTimeout t) rest has = read_timeout_spelled.first t rest has
fields_spelled causes.Syntax rest has = refl
fields_spelled causes.Invalid rest has = refl
fields_spelled (causes.Unprepared id) rest has = short_bytes_spelled.first id rest has

code_is : (c : ErrorCause) (rest : List ℕ) → IsInt (int (code_of c) ++ rest) (code_of c) rest
code_is causes.Server rest = count_is 0 rest (omega arith)
code_is causes.Protocol rest = count_is 10 rest (omega arith)
code_is (causes.Unavailable u) rest = count_is 4096 rest (omega arith)
code_is causes.Overloaded rest = count_is 4097 rest (omega arith)
code_is (causes.WriteTimeout t) rest = count_is 4352 rest (omega arith)
code_is (causes.ReadTimeout t) rest = count_is 4608 rest (omega arith)
code_is causes.Syntax rest = count_is 8192 rest (omega arith)
code_is causes.Invalid rest = count_is 8704 rest (omega arith)
code_is (causes.Unprepared id) rest = count_is 9472 rest (omega arith)

pub error_spelled : IsSpelled error IsError ErrorHasWord
error_spelled = record {
  first = λ e rest has.
      subst (λ (b : List ℕ). IsError b e rest) (sym (three (int (code_of e.cause)) (string e.text) (cause e.cause) rest)) (record {
        behind_code = string e.text ++ (cause e.cause ++ rest);
        behind_text = cause e.cause ++ rest;
        code = code_is e.cause (string e.text ++ (cause e.cause ++ rest));
        text = string_spelled.first e.text (cause e.cause ++ rest) has.0;
        fields = fields_spelled e.cause rest has.1;
      });
}

-- ---- metadata

id_fits : (ty : CqlType) → type_id ty < 2 ^ 16
id_fits types.Ascii = omega arith
id_fits types.Bigint = omega arith
id_fits types.Blob = omega arith
id_fits types.Boolean = omega arith
id_fits types.Int = omega arith
id_fits types.Timestamp = omega arith
id_fits types.Uuid = omega arith
id_fits types.Text = omega arith
id_fits types.Timeuuid = omega arith
id_fits types.Smallint = omega arith
id_fits types.Tinyint = omega arith

pub column_spelled : IsSpelled column IsColumn ColumnHasWord
column_spelled = record {
  first = λ c rest has.
      two_spelled string short IsString IsShort IsStringText IsShortNumber string_spelled short_spelled c.name (type_id c.ty) rest has (id_fits c.ty);
}

table_is : (t : TableColumns) (rest : List ℕ) → TableHasWord t → IsTable (table t ++ rest) t rest
table_is t rest has =
    let behind_table = flat_map column t.columns ++ rest in
    subst (λ (b : List ℕ). IsTable b t rest) (sym (three (string t.keyspace) (string t.table) (flat_map column t.columns) rest)) (record {
      behind_keyspace = string t.table ++ behind_table;
      behind_table = behind_table;
      keyspace = string_spelled.first t.keyspace (string t.table ++ behind_table) has.keyspace;
      table = string_spelled.first t.table behind_table has.table;
      columns = (words_spelled column IsColumn ColumnHasWord column_spelled).first t.columns rest has.columns;
    })

columns_are : (c : Columns) (rest : List ℕ) → ColumnsHaveWord c → AreColumns (columns c ++ rest) c rest
columns_are (given.Counted n) rest has = refl
columns_are (given.Described t) rest has = table_is t rest has

columns_counted : (c : Columns) → ColumnsHaveWord c → column_count c < 2 ^ 31
columns_counted (given.Counted n) has = has
columns_counted (given.Described t) has = has.count

flags_are : (c : Columns) (s : Option (Option (List ℕ))) (rest : List ℕ) → IsInt (int (flags_with c s) ++ rest) (flags_with c s) rest
flags_are (given.Described t) None rest = count_is 1 rest (omega arith)
flags_are (given.Described t) (Some s) rest = count_is 3 rest (omega arith)
flags_are (given.Counted n) None rest = count_is 4 rest (omega arith)
flags_are (given.Counted n) (Some s) rest = count_is 6 rest (omega arith)

pub metadata_spelled : IsSpelled metadata IsMetadata MetadataHasWord
metadata_spelled = record {
  first = λ m rest has.
      let behind_paging_state = columns m.columns ++ rest in
      let behind_count = part bytes_or_null m.paging_state ++ behind_paging_state in
      let behind_flags = count (column_count m.columns) ++ behind_count in
      subst (λ (b : List ℕ). IsMetadata b m rest) (sym (four (int (flags_of m)) (count (column_count m.columns)) (part bytes_or_null m.paging_state) (columns m.columns) rest)) (record {
        behind_flags = behind_flags;
        behind_count = behind_count;
        behind_paging_state = behind_paging_state;
        flags = flags_are m.columns m.paging_state behind_flags;
        count = count_is (column_count m.columns) behind_count (columns_counted m.columns has.1);
        paging_state = part_spelled bytes_or_null IsBytes BytesFit bytes_spelled (is_some m.paging_state) m.paging_state behind_paging_state refl has.0;
        columns = columns_are m.columns rest has.1;
      });
}

pub variables_spelled : IsSpelled variables AreVariables VariablesHaveWord
variables_spelled = record {
  first = λ v rest has.
      let behind_key = table v.variables ++ rest in
      let behind_key_count = flat_map short v.key_indexes ++ behind_key in
      let behind_count = count (length v.key_indexes) ++ behind_key_count in
      let behind_flags = count (length v.variables.columns) ++ behind_count in
      subst (λ (b : List ℕ). AreVariables b v rest) (sym (five (int (pos 1)) (count (length v.variables.columns)) (count (length v.key_indexes)) (flat_map short v.key_indexes) (table v.variables) rest)) (record {
        behind_flags = behind_flags;
        behind_count = behind_count;
        behind_key_count = behind_key_count;
        behind_key = behind_key;
        flags = count_is 1 behind_flags (omega arith);
        count = count_is (length v.variables.columns) behind_count has.variables.count;
        key_count = count_is (length v.key_indexes) behind_key_count has.key_count;
        key_indexes = (words_spelled short IsShort IsShortNumber short_spelled).first v.key_indexes behind_key has.key_indexes;
        variables = table_is v.variables rest has.variables;
      });
}

pub prepared_spelled : IsSpelled prepared IsPrepared PreparedHasWord
prepared_spelled = record {
  first = λ p rest has.
      let behind_variables = metadata p.result ++ rest in
      subst (λ (b : List ℕ). IsPrepared b p rest) (sym (three (short_bytes p.id) (variables p.variables) (metadata p.result) rest)) (record {
        behind_id = variables p.variables ++ behind_variables;
        behind_variables = behind_variables;
        id = short_bytes_spelled.first p.id (variables p.variables ++ behind_variables) has.0;
        variables = variables_spelled.first p.variables behind_variables has.1;
        result = metadata_spelled.first p.result rest has.2;
      });
}

-- ---- rows

pub rows_spelled : IsSpelled rows AreRows RowsHaveWord
unfolding rows
rows_spelled = record {
  first = λ r rest has.
      let behind_count = flat_map bytes_or_null r.cells ++ rest in
      subst (λ (b : List ℕ). AreRows b r rest) (sym (three (metadata r.metadata) (count r.row_count) (flat_map bytes_or_null r.cells) rest)) (record {
        behind_metadata = count r.row_count ++ behind_count;
        behind_count = behind_count;
        metadata = metadata_spelled.first r.metadata (count r.row_count ++ behind_count) has.metadata;
        count = count_is r.row_count behind_count has.row_count;
        whole_rows = has.whole_rows;
        cells = (words_spelled bytes_or_null IsBytes BytesFit bytes_spelled).first r.cells rest has.cells;
      });
}

-- ---- responses

-- a kind, and what it says
kind_and : (k : ℕ) (text rest : List ℕ) → k < 2 ^ 31 → IsInt ((int (pos k) ++ text) ++ rest) (pos k) (text ++ rest)
kind_and k text rest lt = subst (λ (b : List ℕ). IsInt b (pos k) (text ++ rest)) (sym (append_assoc (int (pos k)) text rest)) (count_is k (text ++ rest) lt)

body_spelled : (r : Response) (rest : List ℕ) → HasWord r → IsBody (body r ++ rest) r rest
body_spelled (responses.Error e) rest has = error_spelled.first e rest has
body_spelled responses.Ready rest has = refl
body_spelled (responses.Supported options) rest has = (list_spelled option IsOption OptionHasWord option_spelled).first options rest has
body_spelled responses.Void rest has = count_is 1 rest (omega arith)
body_spelled (responses.Rows r) rest has = (rows r ++ rest, kind_and 2 (rows r) rest (omega arith), rows_spelled.first r rest has)
body_spelled (responses.SetKeyspace keyspace) rest has = (string keyspace ++ rest, kind_and 3 (string keyspace) rest (omega arith), string_spelled.first keyspace rest has)
body_spelled (responses.Prepared p) rest has = (prepared p ++ rest, kind_and 4 (prepared p) rest (omega arith), prepared_spelled.first p rest has)

pub response_spelled : (r : Response) → HasWord r → IsResponse (opcode_of r) (body r) r
response_spelled r has = record { of_opcode = refl; body = subst (λ (b : List ℕ). IsBody b r []) (append-nil (body r)) (body_spelled r [] has) }
