-- Where bytes are the body of a response, they are what is written for it.
use Rattle.std.proofs.Common.{◌≡◌, ℕ, List, [], ◌∷◌, ◌++◌, length, sym, ap, ◌∙◌, append_assoc}
use Rattle.std.specs.Prelude.{pos, codes, is_some}
use Rattle.std.specs.List.{flat_map, AllByRecursion}
use Rattle.std.proofs.lemmas.List.{append-nil}
use Rattle.body_notations.specs.Notations.{AreBytes, IsShort, IsString, IsBytes, IsList}
use Rattle.body_notations.specs.Spelling.{short, int, count, consistency, string, short_bytes, bytes as bytes_or_null, list, part, Always, IsNotNull}
use Rattle.body_notations.proofs.Respelled.{Respells, AreBytes-rest, short_respells, int_back, consistency_respells, string_respells, short_bytes_respells, bytes_respells, words_back, list_respells, part_back, two_back, all_always}
use Rattle.response_bodies.specs.declared.error.Unavailable.{Unavailable}
use Rattle.response_bodies.specs.declared.error.WriteType.{WriteType}
use Rattle.response_bodies.specs.declared.error.WriteType.TheVariants as write_types
use Rattle.response_bodies.specs.declared.error.WriteTimeout.{WriteTimeout}
use Rattle.response_bodies.specs.declared.error.ReadTimeout.{ReadTimeout}
use Rattle.response_bodies.specs.declared.error.ErrorCause.{ErrorCause}
use Rattle.response_bodies.specs.declared.error.ErrorCause.TheVariants as causes
use Rattle.response_bodies.specs.declared.error.ErrorResponse.{ErrorResponse}
use Rattle.response_bodies.specs.declared.metadata.TableColumns.{TableColumns}
use Rattle.response_bodies.specs.declared.metadata.Columns.{Columns}
use Rattle.response_bodies.specs.declared.metadata.Columns.TheVariants as given
use Rattle.response_bodies.specs.declared.metadata.RowsMetadata.{RowsMetadata}
use Rattle.response_bodies.specs.declared.metadata.VariablesMetadata.{VariablesMetadata}
use Rattle.response_bodies.specs.declared.metadata.Prepared.{Prepared}
use Rattle.response_bodies.specs.declared.rows.Rows.{Rows}
use Rattle.response_bodies.specs.declared.response.Response.{Response}
use Rattle.response_bodies.specs.declared.response.Response.TheVariants as responses
use Rattle.response_bodies.specs.Responses.{IsOption, IsUnavailable, IsWriteType, IsWriteTimeout, IsReadTimeout, AreFields, IsError, IsColumn, IsTable, AreColumns, IsMetadata, AreVariables, IsPrepared, AreRows, IsBody, opcode_of, IsResponse}
use Rattle.response_bodies.specs.Spelling.{option, code_of, counts, unavailable, type_text, write_timeout, present_byte, read_timeout, cause, error, type_id, column, table, columns, column_count, flags_of, metadata, variables, prepared, rows, body, OneSpelling, HasOneSpelling}

-- a text, and what stands behind it
next : (a b c tail rest : List ℕ) → a ≡ b ++ c → c ≡ tail ++ rest → a ≡ (b ++ tail) ++ rest
next a b c tail rest e f = e ∙ ap (λ (x : List ℕ). b ++ x) f ∙ sym (append_assoc b tail rest)

three : (a b c rest : List ℕ) → (a ++ (b ++ c)) ++ rest ≡ ((a ++ b) ++ c) ++ rest
three a b c rest = ap (λ (x : List ℕ). x ++ rest) (sym (append_assoc a b c))

four : (a b c d rest : List ℕ) → (a ++ (b ++ (c ++ d))) ++ rest ≡ (((a ++ b) ++ c) ++ d) ++ rest
four a b c d rest = ap (λ (x : List ℕ). x ++ rest) (sym (append_assoc a b (c ++ d)) ∙ sym (append_assoc (a ++ b) c d))

list_back : {A : Type 0} (N : List ℕ → A → List ℕ → Type 0) (spelling : A → List ℕ) → Respells N spelling Always → Respells (IsList N) (list spelling) Always
list_back {A} N spelling respells = record { back = λ bytes xs rest small always word. (list_respells N spelling Always respells).back bytes xs rest small (all_always xs) word }

-- ---- SUPPORTED

pub option_respells : Respells IsOption option Always
option_respells = record {
  back = λ bytes o rest small always word.
      two_back IsString (IsList IsString) string (list string) Always Always string_respells (list_back IsString string string_respells) bytes o.name word.0 o.values rest small tt tt word.1 word.2;
}

-- ---- ERROR

unavailable_back : (bytes : List ℕ) (u : Unavailable) (rest : List ℕ) → AreBytes bytes → IsUnavailable bytes u rest → bytes ≡ unavailable u ++ rest
unfolding counts
unavailable_back bytes u rest small word =
    let a = consistency_respells.back bytes u.consistency word.behind_consistency small tt word.consistency in
    let small_a = AreBytes-rest bytes (consistency u.consistency) word.behind_consistency small a in
    let b = int_back word.behind_consistency u.required word.behind_required small_a word.required in
    let small_b = AreBytes-rest word.behind_consistency (int u.required) word.behind_required small_a b in
    let c = int_back word.behind_required u.alive rest small_b word.alive in
    next bytes (consistency u.consistency) word.behind_consistency (int u.required ++ int u.alive) rest a (next word.behind_consistency (int u.required) word.behind_required (int u.alive) rest b c)
    ∙ three (consistency u.consistency) (int u.required) (int u.alive) rest

type_back : (bytes : List ℕ) (t : WriteType) (rest : List ℕ) → AreBytes bytes → IsWriteType bytes t rest → bytes ≡ type_text t ++ rest
type_back bytes write_types.Simple rest small word = string_respells.back bytes (codes "SIMPLE") rest small tt word
type_back bytes write_types.Cas rest small word = string_respells.back bytes (codes "CAS") rest small tt word

write_timeout_back : (bytes : List ℕ) (t : WriteTimeout) (rest : List ℕ) → AreBytes bytes → IsWriteTimeout bytes t rest → bytes ≡ write_timeout t ++ rest
unfolding counts
write_timeout_back bytes t rest small word =
    let a = consistency_respells.back bytes t.consistency word.behind_consistency small tt word.consistency in
    let small_a = AreBytes-rest bytes (consistency t.consistency) word.behind_consistency small a in
    let b = int_back word.behind_consistency t.received word.behind_received small_a word.received in
    let small_b = AreBytes-rest word.behind_consistency (int t.received) word.behind_received small_a b in
    let c = int_back word.behind_received t.block_for word.behind_block_for small_b word.block_for in
    let small_c = AreBytes-rest word.behind_received (int t.block_for) word.behind_block_for small_b c in
    let d = type_back word.behind_block_for t.write_type rest small_c word.write_type in
    next bytes (consistency t.consistency) word.behind_consistency (int t.received ++ (int t.block_for ++ type_text t.write_type)) rest a
    (next word.behind_consistency (int t.received) word.behind_received (int t.block_for ++ type_text t.write_type) rest b (next word.behind_received (int t.block_for) word.behind_block_for (type_text t.write_type) rest c d))
    ∙ four (consistency t.consistency) (int t.received) (int t.block_for) (type_text t.write_type) rest

read_timeout_back : (bytes : List ℕ) (t : ReadTimeout) (rest : List ℕ) → AreBytes bytes → IsReadTimeout bytes t rest → bytes ≡ read_timeout t ++ rest
unfolding counts
read_timeout_back bytes t rest small word =
    let a = consistency_respells.back bytes t.consistency word.behind_consistency small tt word.consistency in
    let small_a = AreBytes-rest bytes (consistency t.consistency) word.behind_consistency small a in
    let b = int_back word.behind_consistency t.received word.behind_received small_a word.received in
    let small_b = AreBytes-rest word.behind_consistency (int t.received) word.behind_received small_a b in
    let c = int_back word.behind_received t.block_for word.behind_block_for small_b word.block_for in
    next bytes (consistency t.consistency) word.behind_consistency (int t.received ++ (int t.block_for ++ present_byte t.data_present ∷ [])) rest a
    (next word.behind_consistency (int t.received) word.behind_received (int t.block_for ++ present_byte t.data_present ∷ []) rest b (next word.behind_received (int t.block_for) word.behind_block_for (present_byte t.data_present ∷ []) rest c word.data_present))
    ∙ four (consistency t.consistency) (int t.received) (int t.block_for) (present_byte t.data_present ∷ []) rest

fields_back : (bytes : List ℕ) (c : ErrorCause) (rest : List ℕ) → AreBytes bytes → AreFields bytes c rest → bytes ≡ cause c ++ rest
fields_back bytes causes.Server rest small word = word
fields_back bytes causes.Protocol rest small word = word
fields_back bytes (causes.Unavailable u) rest small word = unavailable_back bytes u rest small word
fields_back bytes causes.Overloaded rest small word = word
fields_back bytes (causes.WriteTimeout t) rest small word = write_timeout_back bytes t rest small word
fields_back bytes (causes.ReadTimeout t) rest small word = read_timeout_back bytes t rest small word
fields_back bytes causes.Syntax rest small word = word
fields_back bytes causes.Invalid rest small word = word
fields_back bytes (causes.Unprepared id) rest small word = short_bytes_respells.back bytes id rest small tt word

error_back : (bytes : List ℕ) (e : ErrorResponse) (rest : List ℕ) → AreBytes bytes → IsError bytes e rest → bytes ≡ error e ++ rest
error_back bytes e rest small word =
    let a = int_back bytes (code_of e.cause) word.behind_code small word.code in
    let small_a = AreBytes-rest bytes (int (code_of e.cause)) word.behind_code small a in
    let b = string_respells.back word.behind_code e.text word.behind_text small_a tt word.text in
    let small_b = AreBytes-rest word.behind_code (string e.text) word.behind_text small_a b in
    let c = fields_back word.behind_text e.cause rest small_b word.fields in
    next bytes (int (code_of e.cause)) word.behind_code (string e.text ++ cause e.cause) rest a (next word.behind_code (string e.text) word.behind_text (cause e.cause) rest b c)
    ∙ three (int (code_of e.cause)) (string e.text) (cause e.cause) rest

-- ---- metadata

pub column_respells : Respells IsColumn column Always
column_respells = record {
  back = λ bytes c rest small always word.
      two_back IsString IsShort string short Always Always string_respells short_respells bytes c.name word.0 (type_id c.ty) rest small tt tt word.1 word.2;
}

table_back : (bytes : List ℕ) (t : TableColumns) (rest : List ℕ) → AreBytes bytes → IsTable bytes t rest → bytes ≡ table t ++ rest
table_back bytes t rest small word =
    let a = string_respells.back bytes t.keyspace word.behind_keyspace small tt word.keyspace in
    let small_a = AreBytes-rest bytes (string t.keyspace) word.behind_keyspace small a in
    let b = string_respells.back word.behind_keyspace t.table word.behind_table small_a tt word.table in
    let small_b = AreBytes-rest word.behind_keyspace (string t.table) word.behind_table small_a b in
    let c = words_back IsColumn column Always column_respells word.behind_table t.columns rest small_b (all_always t.columns) word.columns in
    next bytes (string t.keyspace) word.behind_keyspace (string t.table ++ flat_map column t.columns) rest a (next word.behind_keyspace (string t.table) word.behind_table (flat_map column t.columns) rest b c)
    ∙ three (string t.keyspace) (string t.table) (flat_map column t.columns) rest

columns_back : (bytes : List ℕ) (c : Columns) (rest : List ℕ) → AreBytes bytes → AreColumns bytes c rest → bytes ≡ columns c ++ rest
columns_back bytes (given.Counted n) rest small word = word
columns_back bytes (given.Described t) rest small word = table_back bytes t rest small word

metadata_back : (bytes : List ℕ) (m : RowsMetadata) (rest : List ℕ) → AreBytes bytes → OneSpelling m → IsMetadata bytes m rest → bytes ≡ metadata m ++ rest
metadata_back bytes m rest small one word =
    let n = count (column_count m.columns) in
    let s = part bytes_or_null m.paging_state in
    let a = int_back bytes (flags_of m) word.behind_flags small word.flags in
    let small_a = AreBytes-rest bytes (int (flags_of m)) word.behind_flags small a in
    let b = int_back word.behind_flags (pos (column_count m.columns)) word.behind_count small_a word.count in
    let small_b = AreBytes-rest word.behind_flags n word.behind_count small_a b in
    let c = part_back IsBytes bytes_or_null IsNotNull bytes_respells (is_some m.paging_state) word.behind_count m.paging_state word.behind_paging_state small_b one word.paging_state in
    let small_c = AreBytes-rest word.behind_count s word.behind_paging_state small_b c in
    let d = columns_back word.behind_paging_state m.columns rest small_c word.columns in
    next bytes (int (flags_of m)) word.behind_flags (n ++ (s ++ columns m.columns)) rest a
    (next word.behind_flags n word.behind_count (s ++ columns m.columns) rest b (next word.behind_count s word.behind_paging_state (columns m.columns) rest c d))
    ∙ four (int (flags_of m)) n s (columns m.columns) rest

variables_back : (bytes : List ℕ) (v : VariablesMetadata) (rest : List ℕ) → AreBytes bytes → AreVariables bytes v rest → bytes ≡ variables v ++ rest
variables_back bytes v rest small word =
    let n = count (length v.variables.columns) in
    let k = count (length v.key_indexes) in
    let i = flat_map short v.key_indexes in
    let t = table v.variables in
    let a = int_back bytes (pos 1) word.behind_flags small word.flags in
    let small_a = AreBytes-rest bytes (int (pos 1)) word.behind_flags small a in
    let b = int_back word.behind_flags (pos (length v.variables.columns)) word.behind_count small_a word.count in
    let small_b = AreBytes-rest word.behind_flags n word.behind_count small_a b in
    let c = int_back word.behind_count (pos (length v.key_indexes)) word.behind_key_count small_b word.key_count in
    let small_c = AreBytes-rest word.behind_count k word.behind_key_count small_b c in
    let d = words_back IsShort short Always short_respells word.behind_key_count v.key_indexes word.behind_key small_c (all_always v.key_indexes) word.key_indexes in
    let small_d = AreBytes-rest word.behind_key_count i word.behind_key small_c d in
    let e = table_back word.behind_key v.variables rest small_d word.variables in
    next bytes (int (pos 1)) word.behind_flags (n ++ (k ++ (i ++ t))) rest a
    (next word.behind_flags n word.behind_count (k ++ (i ++ t)) rest b (next word.behind_count k word.behind_key_count (i ++ t) rest c (next word.behind_key_count i word.behind_key t rest d e)))
    ∙ ap (λ (x : List ℕ). x ++ rest) (sym (append_assoc (int (pos 1)) n (k ++ (i ++ t))) ∙ sym (append_assoc (int (pos 1) ++ n) k (i ++ t)) ∙ sym (append_assoc ((int (pos 1) ++ n) ++ k) i t))

prepared_back : (bytes : List ℕ) (p : Prepared) (rest : List ℕ) → AreBytes bytes → OneSpelling p.result → IsPrepared bytes p rest → bytes ≡ prepared p ++ rest
prepared_back bytes p rest small one word =
    let a = short_bytes_respells.back bytes p.id word.behind_id small tt word.id in
    let small_a = AreBytes-rest bytes (short_bytes p.id) word.behind_id small a in
    let b = variables_back word.behind_id p.variables word.behind_variables small_a word.variables in
    let small_b = AreBytes-rest word.behind_id (variables p.variables) word.behind_variables small_a b in
    let c = metadata_back word.behind_variables p.result rest small_b one word.result in
    next bytes (short_bytes p.id) word.behind_id (variables p.variables ++ metadata p.result) rest a (next word.behind_id (variables p.variables) word.behind_variables (metadata p.result) rest b c)
    ∙ three (short_bytes p.id) (variables p.variables) (metadata p.result) rest

-- ---- rows

rows_back : (bytes : List ℕ) (r : Rows) (rest : List ℕ) → AreBytes bytes → OneSpelling r.metadata → AllByRecursion IsNotNull r.cells → AreRows bytes r rest → bytes ≡ rows r ++ rest
unfolding rows
rows_back bytes r rest small one given word =
    let cells = flat_map bytes_or_null r.cells in
    let a = metadata_back bytes r.metadata word.behind_metadata small one word.metadata in
    let small_a = AreBytes-rest bytes (metadata r.metadata) word.behind_metadata small a in
    let b = int_back word.behind_metadata (pos r.row_count) word.behind_count small_a word.count in
    let small_b = AreBytes-rest word.behind_metadata (count r.row_count) word.behind_count small_a b in
    let c = words_back IsBytes bytes_or_null IsNotNull bytes_respells word.behind_count r.cells rest small_b given word.cells in
    next bytes (metadata r.metadata) word.behind_metadata (count r.row_count ++ cells) rest a (next word.behind_metadata (count r.row_count) word.behind_count cells rest b c)
    ∙ three (metadata r.metadata) (count r.row_count) cells rest

-- ---- responses

body_back : (bytes : List ℕ) (r : Response) (rest : List ℕ) → AreBytes bytes → HasOneSpelling r → IsBody bytes r rest → bytes ≡ body r ++ rest
body_back bytes (responses.Error e) rest small one word = error_back bytes e rest small word
body_back bytes responses.Ready rest small one word = word
body_back bytes (responses.Supported options) rest small one word = (list_back IsOption option option_respells).back bytes options rest small tt word
body_back bytes responses.Void rest small one word = int_back bytes (pos 1) rest small word
body_back bytes (responses.Rows r) rest small one word =
    let a = int_back bytes (pos 2) word.0 small word.1 in
    next bytes (int (pos 2)) word.0 (rows r) rest a (rows_back word.0 r rest (AreBytes-rest bytes (int (pos 2)) word.0 small a) one.0 one.1 word.2)
body_back bytes (responses.SetKeyspace keyspace) rest small one word =
    let a = int_back bytes (pos 3) word.0 small word.1 in
    next bytes (int (pos 3)) word.0 (string keyspace) rest a (string_respells.back word.0 keyspace rest (AreBytes-rest bytes (int (pos 3)) word.0 small a) tt word.2)
body_back bytes (responses.Prepared p) rest small one word =
    let a = int_back bytes (pos 4) word.0 small word.1 in
    next bytes (int (pos 4)) word.0 (prepared p) rest a (prepared_back word.0 p rest (AreBytes-rest bytes (int (pos 4)) word.0 small a) one word.2)

pub response_respelled : (opcode : ℕ) (bytes : List ℕ) (r : Response) → AreBytes bytes → HasOneSpelling r → IsResponse opcode bytes r → (opcode ≡ opcode_of r) × (bytes ≡ body r)
response_respelled opcode bytes r small one word = (word.of_opcode, body_back bytes r [] small one word.body ∙ append-nil (body r))
