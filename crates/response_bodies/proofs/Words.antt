-- What is read of a response is a word of the grammar, and a word is read.
use Rattle.std.proofs.Common.{◌≡◌, ℕ, ◌*◌, Bool, true, false, cond, eqb, List, [], length, Option, Some, None, Result, Ok, Err, refl, sym, ap, subst, ◌∙◌, arith}
use Rattle.std.specs.Prelude.{ℤ, pos, negsuc, int_lt, unsigned_abs, codes, is_some}
use Rattle.std.specs.Str.{bytes_eq}
use Rattle.std.proofs.lemmas.Bool.{eqb-true, le-ltb}
use Rattle.std.proofs.lemmas.Slice.Eq.{bytes_eq-Decides}
use Rattle.cql_values.specs.declared.value.CqlType.{CqlType}
use Rattle.cql_values.specs.declared.value.CqlType.TheVariants as types
use Rattle.body_notations.specs.declared.fault.Fault.{Fault}
use Rattle.body_notations.specs.declared.fault.Fault.TheVariants.{BadFlag, BadValue}
use Rattle.body_notations.specs.declared.consistency.Consistency.{Consistency}
use Rattle.body_notations.specs.Notations.{IsByte, IsShort, IsInt, IsString, IsBytes, IsList, IsPart}
use Rattle.body_notations.specs.Reading.{◌>>=◌, Read, byte_at, short_at, int_at, count_at, consistency_at, string_at, short_bytes_at, bytes_at, items_at, list_at, part_at, whole}
use Rattle.body_notations.proofs.Words.{Agrees, bind_ok, ok_is, whole_ok, mapped_ok, two_ok, IsCount, byte_agrees, short_agrees, int_agrees, count_agrees, consistency_agrees, string_agrees, short_bytes_agrees, bytes_agrees, items_agree, list_agrees, part_agrees}
use Rattle.response_bodies.specs.declared.supported.SupportedOption.{SupportedOption}
use Rattle.response_bodies.specs.declared.error.Unavailable.{Unavailable}
use Rattle.response_bodies.specs.declared.error.WriteType.{WriteType}
use Rattle.response_bodies.specs.declared.error.WriteType.TheVariants as write_types
use Rattle.response_bodies.specs.declared.error.WriteTimeout.{WriteTimeout}
use Rattle.response_bodies.specs.declared.error.ReadTimeout.{ReadTimeout}
use Rattle.response_bodies.specs.declared.error.ErrorCause.{ErrorCause}
use Rattle.response_bodies.specs.declared.error.ErrorCause.TheVariants as causes
use Rattle.response_bodies.specs.declared.error.ErrorCode.{ErrorCode}
use Rattle.response_bodies.specs.declared.error.ErrorCode.TheVariants as error_codes
use Rattle.response_bodies.specs.declared.error.ErrorResponse.{ErrorResponse}
use Rattle.response_bodies.specs.declared.metadata.Column.{Column}
use Rattle.response_bodies.specs.declared.metadata.TableColumns.{TableColumns}
use Rattle.response_bodies.specs.declared.metadata.Columns.{Columns}
use Rattle.response_bodies.specs.declared.metadata.Columns.TheVariants as given
use Rattle.response_bodies.specs.declared.metadata.MetadataFront.{MetadataFront}
use Rattle.response_bodies.specs.declared.metadata.RowsMetadata.{RowsMetadata}
use Rattle.response_bodies.specs.declared.metadata.VariablesMetadata.{VariablesMetadata}
use Rattle.response_bodies.specs.declared.metadata.Prepared.{Prepared}
use Rattle.response_bodies.specs.declared.rows.Rows.{Rows}
use Rattle.response_bodies.specs.declared.response.Response.{Response}
use Rattle.response_bodies.specs.declared.response.Response.TheVariants as responses
use Rattle.response_bodies.specs.declared.response.ResponseKind.{ResponseKind}
use Rattle.response_bodies.specs.declared.response.ResponseKind.TheVariants as kinds
use Rattle.response_bodies.specs.declared.response.ResultKind.{ResultKind}
use Rattle.response_bodies.specs.declared.response.ResultKind.TheVariants as results
use Rattle.response_bodies.specs.Reading.{option_at, error_code_of, error_code, unavailable_at, write_type_of, write_type_at, write_timeout_at, data_present, read_timeout_at, cause_at, error_at, type_of_id, column_at, table_at, flags_number, metadata_flags, columns_at, front_at, metadata_behind, metadata_at, one_table, variables_at, prepared_at, rows_at, result_kind_of, result_kind, result_body_at, result_at, body_at, kind_of, response_of, response_in}
use Rattle.response_bodies.specs.Responses.{IsOption, IsUnavailable, IsWriteType, IsWriteTimeout, IsReadTimeout, AreFields, IsError, IsColumn, IsTable, AreColumns, IsMetadata, AreVariables, IsPrepared, AreRows, IsBody, opcode_of, IsResponse}
use Rattle.response_bodies.specs.Spelling.{code_of, column_count, flags_with, flags_of, present_byte, type_id}

-- one test of a table
pub tested : {A : Type 0} (number : A → ℕ) (n k : ℕ) (x y : A) (others : Result A Fault) → number x ≡ k → cond (eqb n k) (Ok x) others ≡ Ok y → (others ≡ Ok y → n ≡ number y) → n ≡ number y
tested {A} number n k x y others is e next = go (eqb n k) refl e
  where
    go : (b : Bool) → eqb n k ≡ b → cond b (Ok x) others ≡ Ok y → n ≡ number y
    go true t e = eqb-true n k t ∙ sym is ∙ ap number (ok_is x y e)
    go false t e = next e

not_low : (n : ℕ) → int_lt (pos n) (pos 0) ≡ false
not_low n = le-ltb n 0 (omega arith)

-- a number that is not below 0, and passed a test
passed : {A : Type 0} (n : ℤ) (f : Fault) (test : ℕ → Result A Fault) (x : A) → cond (int_lt n (pos 0)) (Err f) (test (unsigned_abs n)) ≡ Ok x → (k : ℕ) × (n ≡ pos k) × (test k ≡ Ok x)
passed {A} (pos n) f test x e = (n, refl, rw (not_low n) at e)
passed (negsuc n) f test x e = absurd (cc (e))

-- ---- SUPPORTED

list_of_strings : Agrees (list_at string_at) (IsList IsString)
list_of_strings = list_agrees string_at IsString string_agrees

pub option_agrees : Agrees option_at IsOption
unfolding option_at
option_agrees = record {
  is_word = λ bytes o rest e.
      let t = two_ok string_at (list_at string_at) IsString (IsList IsString) string_agrees list_of_strings (λ (n : List ℕ) (v : List (List ℕ)). let q : SupportedOption = record { name = n; values = v } in q) bytes o rest e in
      (t.2, subst (λ (q : SupportedOption). IsString bytes q.name t.2) t.5 t.3, subst (λ (q : SupportedOption). IsList IsString t.2 q.values rest) t.5 t.4);
  is_read = λ bytes o rest word. rw (string_agrees.is_read bytes o.name word.0 word.1, list_of_strings.is_read word.0 o.values rest word.2) refl;
}

list_of_options : Agrees (list_at option_at) (IsList IsOption)
list_of_options = list_agrees option_at IsOption option_agrees

-- ---- ERROR

abbrev number_of : ErrorCode → ℕ
number_of error_codes.Server = 0
number_of error_codes.Protocol = 10
number_of error_codes.Unavailable = 4096
number_of error_codes.Overloaded = 4097
number_of error_codes.WriteTimeout = 4352
number_of error_codes.ReadTimeout = 4608
number_of error_codes.Syntax = 8192
number_of error_codes.Invalid = 8704
number_of error_codes.Unprepared = 9472

code_tests : (n : ℤ) (k : ℕ) (code : ErrorCode) → error_code_of n k ≡ Ok code → k ≡ number_of code
code_tests n k code e =
    tested number_of k 0 error_codes.Server code _ refl e (λ e. tested number_of k 10 error_codes.Protocol code _ refl e (λ e. tested number_of k 4096 error_codes.Unavailable code _ refl e (λ e. tested number_of k 4097 error_codes.Overloaded code _ refl e (λ e. tested number_of k 4352 error_codes.WriteTimeout code _ refl e (λ e. tested number_of k 4608 error_codes.ReadTimeout code _ refl e (λ e. tested number_of k 8192 error_codes.Syntax code _ refl e (λ e. tested number_of k 8704 error_codes.Invalid code _ refl e (λ e. tested number_of k 9472 error_codes.Unprepared code _ refl e (λ e. absurd (cc (e)))))))))))

code_known : (n : ℤ) (code : ErrorCode) → error_code n ≡ Ok code → n ≡ pos (number_of code)
code_known n code e =
    let p = passed n (BadValue n) (error_code_of n) code e in
    p.1 ∙ ap pos (code_tests n p.0 code p.2)

unavailable_word : (bytes : List ℕ) (u : Unavailable) (rest : List ℕ) → unavailable_at bytes ≡ Ok (u, rest) → IsUnavailable bytes u rest
unfolding unavailable_at
unavailable_word bytes u rest e =
    let result : Consistency → ℤ → ℤ → Unavailable = λ c r a. record { consistency = c; required = r; alive = a } in
    let c = bind_ok (consistency_at bytes) (λ c. int_at c.1 >>= λ r. int_at r.1 >>= λ a. Ok (result c.0 r.0 a.0, a.1)) (u, rest) e in
    let r = bind_ok (int_at c.0.1) (λ r. int_at r.1 >>= λ a. Ok (result c.0.0 r.0 a.0, a.1)) (u, rest) c.2 in
    let a = bind_ok (int_at r.0.1) (λ a. Ok (result c.0.0 r.0.0 a.0, a.1)) (u, rest) r.2 in
    let whole : Unavailable × List ℕ = (result c.0.0 r.0.0 a.0.0, a.0.1) in
    subst (λ (q : Unavailable × List ℕ). IsUnavailable bytes q.0 q.1) (ok_is whole (u, rest) a.2) (record {
      behind_consistency = c.0.1;
      behind_required = r.0.1;
      consistency = consistency_agrees.is_word bytes c.0.0 c.0.1 c.1;
      required = int_agrees.is_word c.0.1 r.0.0 r.0.1 r.1;
      alive = int_agrees.is_word r.0.1 a.0.0 a.0.1 a.1;
    })

pub unavailable_agrees : Agrees unavailable_at IsUnavailable
unfolding unavailable_at
unavailable_agrees = record {
  is_word = unavailable_word;
  is_read = λ bytes u rest word.
      rw (consistency_agrees.is_read bytes u.consistency word.behind_consistency word.consistency, int_agrees.is_read word.behind_consistency u.required word.behind_required word.required, int_agrees.is_read word.behind_required u.alive rest word.alive) refl;
}

abbrev name_of : WriteType → List ℕ
name_of write_types.Simple = codes "SIMPLE"
name_of write_types.Cas = codes "CAS"

name_known : (text : List ℕ) (t : WriteType) → write_type_of text ≡ Ok t → text ≡ name_of t
name_known text t e = go (bytes_eq text (codes "SIMPLE")) (bytes_eq text (codes "CAS")) refl refl e
  where
    go : (a b : Bool) → bytes_eq text (codes "SIMPLE") ≡ a → bytes_eq text (codes "CAS") ≡ b → cond a (Ok write_types.Simple) (cond b (Ok write_types.Cas) (Err BadFlag)) ≡ Ok t → text ≡ name_of t
    go true b ea eb e = (bytes_eq-Decides text (codes "SIMPLE")).0 ea ∙ ap name_of (ok_is write_types.Simple t e)
    go false true ea eb e = (bytes_eq-Decides text (codes "CAS")).0 eb ∙ ap name_of (ok_is write_types.Cas t e)
    go false false ea eb e = absurd (cc (e))

write_type_is : (bytes : List ℕ) (t : WriteType) (rest : List ℕ) → IsString bytes (name_of t) rest → IsWriteType bytes t rest
write_type_is bytes write_types.Simple rest word = word
write_type_is bytes write_types.Cas rest word = word

write_type_word : (bytes : List ℕ) (t : WriteType) (rest : List ℕ) → write_type_at bytes ≡ Ok (t, rest) → IsWriteType bytes t rest
unfolding write_type_at
write_type_word bytes t rest e =
    let a = bind_ok (string_at bytes) (λ x. write_type_of x.0 >>= λ w. Ok (w, x.1)) (t, rest) e in
    let b = bind_ok (write_type_of a.0.0) (λ w. Ok (w, a.0.1)) (t, rest) a.2 in
    let whole : WriteType × List ℕ = (b.0, a.0.1) in
    subst (λ (q : WriteType × List ℕ). IsWriteType bytes q.0 q.1) (ok_is whole (t, rest) b.2)
    (write_type_is bytes b.0 a.0.1 (subst (λ (x : List ℕ). IsString bytes x a.0.1) (name_known a.0.0 b.0 b.1) (string_agrees.is_word bytes a.0.0 a.0.1 a.1)))

simple_known : write_type_of (codes "SIMPLE") ≡ Ok write_types.Simple
simple_known = refl

cas_known : write_type_of (codes "CAS") ≡ Ok write_types.Cas
cas_known = refl

write_type_read : (bytes : List ℕ) (t : WriteType) (rest : List ℕ) → IsWriteType bytes t rest → write_type_at bytes ≡ Ok (t, rest)
unfolding write_type_at
write_type_read bytes write_types.Simple rest word = rw (string_agrees.is_read bytes (codes "SIMPLE") rest word) refl
write_type_read bytes write_types.Cas rest word = rw (string_agrees.is_read bytes (codes "CAS") rest word) refl

pub write_type_agrees : Agrees write_type_at IsWriteType
write_type_agrees = record { is_word = write_type_word; is_read = write_type_read }

write_timeout_word : (bytes : List ℕ) (t : WriteTimeout) (rest : List ℕ) → write_timeout_at bytes ≡ Ok (t, rest) → IsWriteTimeout bytes t rest
unfolding write_timeout_at
write_timeout_word bytes t rest e =
    let result : Consistency → ℤ → ℤ → WriteType → WriteTimeout = λ c r b w. record { consistency = c; received = r; block_for = b; write_type = w } in
    let c = bind_ok (consistency_at bytes) (λ c. int_at c.1 >>= λ r. int_at r.1 >>= λ b. write_type_at b.1 >>= λ w. Ok (result c.0 r.0 b.0 w.0, w.1)) (t, rest) e in
    let r = bind_ok (int_at c.0.1) (λ r. int_at r.1 >>= λ b. write_type_at b.1 >>= λ w. Ok (result c.0.0 r.0 b.0 w.0, w.1)) (t, rest) c.2 in
    let b = bind_ok (int_at r.0.1) (λ b. write_type_at b.1 >>= λ w. Ok (result c.0.0 r.0.0 b.0 w.0, w.1)) (t, rest) r.2 in
    let w = bind_ok (write_type_at b.0.1) (λ w. Ok (result c.0.0 r.0.0 b.0.0 w.0, w.1)) (t, rest) b.2 in
    let whole : WriteTimeout × List ℕ = (result c.0.0 r.0.0 b.0.0 w.0.0, w.0.1) in
    subst (λ (q : WriteTimeout × List ℕ). IsWriteTimeout bytes q.0 q.1) (ok_is whole (t, rest) w.2) (record {
      behind_consistency = c.0.1;
      behind_received = r.0.1;
      behind_block_for = b.0.1;
      consistency = consistency_agrees.is_word bytes c.0.0 c.0.1 c.1;
      received = int_agrees.is_word c.0.1 r.0.0 r.0.1 r.1;
      block_for = int_agrees.is_word r.0.1 b.0.0 b.0.1 b.1;
      write_type = write_type_agrees.is_word b.0.1 w.0.0 w.0.1 w.1;
    })

pub write_timeout_agrees : Agrees write_timeout_at IsWriteTimeout
unfolding write_timeout_at
write_timeout_agrees = record {
  is_word = write_timeout_word;
  is_read = λ bytes t rest word.
      rw (
        consistency_agrees.is_read bytes t.consistency word.behind_consistency word.consistency,
        int_agrees.is_read word.behind_consistency t.received word.behind_received word.received,
        int_agrees.is_read word.behind_received t.block_for word.behind_block_for word.block_for,
        write_type_agrees.is_read word.behind_block_for t.write_type rest word.write_type,
      ) refl;
}

present_known : (byte : ℕ) (b : Bool) → data_present byte ≡ Ok b → byte ≡ present_byte b
present_known byte b e = tested present_byte byte 0 false b _ refl e (λ e. tested present_byte byte 1 true b _ refl e (λ e. absurd (cc (e))))

present_read : (b : Bool) → data_present (present_byte b) ≡ Ok b
present_read true = refl
present_read false = refl

read_timeout_word : (bytes : List ℕ) (t : ReadTimeout) (rest : List ℕ) → read_timeout_at bytes ≡ Ok (t, rest) → IsReadTimeout bytes t rest
unfolding read_timeout_at
read_timeout_word bytes t rest e =
    let result : Consistency → ℤ → ℤ → Bool → ReadTimeout = λ c r b p. record { consistency = c; received = r; block_for = b; data_present = p } in
    let c = bind_ok (consistency_at bytes) (λ c. int_at c.1 >>= λ r. int_at r.1 >>= λ b. byte_at b.1 >>= λ y. data_present y.0 >>= λ p. Ok (result c.0 r.0 b.0 p, y.1)) (t, rest) e in
    let r = bind_ok (int_at c.0.1) (λ r. int_at r.1 >>= λ b. byte_at b.1 >>= λ y. data_present y.0 >>= λ p. Ok (result c.0.0 r.0 b.0 p, y.1)) (t, rest) c.2 in
    let b = bind_ok (int_at r.0.1) (λ b. byte_at b.1 >>= λ y. data_present y.0 >>= λ p. Ok (result c.0.0 r.0.0 b.0 p, y.1)) (t, rest) r.2 in
    let y = bind_ok (byte_at b.0.1) (λ y. data_present y.0 >>= λ p. Ok (result c.0.0 r.0.0 b.0.0 p, y.1)) (t, rest) b.2 in
    let p = bind_ok (data_present y.0.0) (λ p. Ok (result c.0.0 r.0.0 b.0.0 p, y.0.1)) (t, rest) y.2 in
    let whole : ReadTimeout × List ℕ = (result c.0.0 r.0.0 b.0.0 p.0, y.0.1) in
    subst (λ (q : ReadTimeout × List ℕ). IsReadTimeout bytes q.0 q.1) (ok_is whole (t, rest) p.2) (record {
      behind_consistency = c.0.1;
      behind_received = r.0.1;
      behind_block_for = b.0.1;
      consistency = consistency_agrees.is_word bytes c.0.0 c.0.1 c.1;
      received = int_agrees.is_word c.0.1 r.0.0 r.0.1 r.1;
      block_for = int_agrees.is_word r.0.1 b.0.0 b.0.1 b.1;
      data_present = subst (λ (n : ℕ). IsByte b.0.1 n y.0.1) (present_known y.0.0 p.0 p.1) (byte_agrees.is_word b.0.1 y.0.0 y.0.1 y.1);
    })

pub read_timeout_agrees : Agrees read_timeout_at IsReadTimeout
unfolding read_timeout_at
read_timeout_agrees = record {
  is_word = read_timeout_word;
  is_read = λ bytes t rest word.
      rw (
        consistency_agrees.is_read bytes t.consistency word.behind_consistency word.consistency,
        int_agrees.is_read word.behind_consistency t.received word.behind_received word.received,
        int_agrees.is_read word.behind_received t.block_for word.behind_block_for word.block_for,
        byte_agrees.is_read word.behind_block_for (present_byte t.data_present) rest word.data_present,
        present_read t.data_present,
      ) refl;
}

abbrev code_of_cause : ErrorCause → ErrorCode
code_of_cause causes.Server = error_codes.Server
code_of_cause causes.Protocol = error_codes.Protocol
code_of_cause (causes.Unavailable u) = error_codes.Unavailable
code_of_cause causes.Overloaded = error_codes.Overloaded
code_of_cause (causes.WriteTimeout t) = error_codes.WriteTimeout
code_of_cause (causes.ReadTimeout t) = error_codes.ReadTimeout
code_of_cause causes.Syntax = error_codes.Syntax
code_of_cause causes.Invalid = error_codes.Invalid
code_of_cause (causes.Unprepared id) = error_codes.Unprepared

no_fields : (cause : ErrorCause) (bytes : List ℕ) (c : ErrorCause) (rest : List ℕ) (P : ErrorCause → List ℕ → Type 0) → (let r : Read ErrorCause = Ok (cause, bytes) in r) ≡ Ok (c, rest) → P cause bytes → P c rest
no_fields cause bytes c rest P e p =
    let q : ErrorCause × List ℕ = (cause, bytes) in
    subst (λ (q : ErrorCause × List ℕ). P q.0 q.1) (ok_is q (c, rest) e) p

cause_word : (code : ErrorCode) (bytes : List ℕ) (c : ErrorCause) (rest : List ℕ) → cause_at code bytes ≡ Ok (c, rest) → AreFields bytes c rest × (code_of c ≡ pos (number_of code))
cause_word error_codes.Server bytes c rest e = no_fields causes.Server bytes c rest (λ c rest. AreFields bytes c rest × (code_of c ≡ pos 0)) e (refl, refl)
cause_word error_codes.Protocol bytes c rest e = no_fields causes.Protocol bytes c rest (λ c rest. AreFields bytes c rest × (code_of c ≡ pos 10)) e (refl, refl)
cause_word error_codes.Unavailable bytes c rest e =
    let x = mapped_ok (unavailable_at bytes) causes.Unavailable c rest e in
    subst (λ (q : ErrorCause). AreFields bytes q rest × (code_of q ≡ pos 4096)) x.2 (unavailable_agrees.is_word bytes x.0 rest x.1, refl)
cause_word error_codes.Overloaded bytes c rest e = no_fields causes.Overloaded bytes c rest (λ c rest. AreFields bytes c rest × (code_of c ≡ pos 4097)) e (refl, refl)
cause_word error_codes.WriteTimeout bytes c rest e =
    let x = mapped_ok (write_timeout_at bytes) causes.WriteTimeout c rest e in
    subst (λ (q : ErrorCause). AreFields bytes q rest × (code_of q ≡ pos 4352)) x.2 (write_timeout_agrees.is_word bytes x.0 rest x.1, refl)
cause_word error_codes.ReadTimeout bytes c rest e =
    let x = mapped_ok (read_timeout_at bytes) causes.ReadTimeout c rest e in
    subst (λ (q : ErrorCause). AreFields bytes q rest × (code_of q ≡ pos 4608)) x.2 (read_timeout_agrees.is_word bytes x.0 rest x.1, refl)
cause_word error_codes.Syntax bytes c rest e = no_fields causes.Syntax bytes c rest (λ c rest. AreFields bytes c rest × (code_of c ≡ pos 8192)) e (refl, refl)
cause_word error_codes.Invalid bytes c rest e = no_fields causes.Invalid bytes c rest (λ c rest. AreFields bytes c rest × (code_of c ≡ pos 8704)) e (refl, refl)
cause_word error_codes.Unprepared bytes c rest e =
    let x = mapped_ok (short_bytes_at bytes) causes.Unprepared c rest e in
    subst (λ (q : ErrorCause). AreFields bytes q rest × (code_of q ≡ pos 9472)) x.2 (short_bytes_agrees.is_word bytes x.0 rest x.1, refl)

abbrev with_cause : ErrorCause → List ℕ → Read ErrorCause
with_cause c rest = Ok (c, rest)

cause_read : (bytes : List ℕ) (c : ErrorCause) (rest : List ℕ) → AreFields bytes c rest → cause_at (code_of_cause c) bytes ≡ Ok (c, rest)
cause_read bytes causes.Server rest word = ap (with_cause causes.Server) word
cause_read bytes causes.Protocol rest word = ap (with_cause causes.Protocol) word
cause_read bytes (causes.Unavailable u) rest word = rw (unavailable_agrees.is_read bytes u rest word) refl
cause_read bytes causes.Overloaded rest word = ap (with_cause causes.Overloaded) word
cause_read bytes (causes.WriteTimeout t) rest word = rw (write_timeout_agrees.is_read bytes t rest word) refl
cause_read bytes (causes.ReadTimeout t) rest word = rw (read_timeout_agrees.is_read bytes t rest word) refl
cause_read bytes causes.Syntax rest word = ap (with_cause causes.Syntax) word
cause_read bytes causes.Invalid rest word = ap (with_cause causes.Invalid) word
cause_read bytes (causes.Unprepared id) rest word = rw (short_bytes_agrees.is_read bytes id rest word) refl

code_read : (c : ErrorCause) → error_code (code_of c) ≡ Ok (code_of_cause c)
code_read causes.Server = refl
code_read causes.Protocol = refl
code_read (causes.Unavailable u) = refl
code_read causes.Overloaded = refl
code_read (causes.WriteTimeout t) = refl
code_read (causes.ReadTimeout t) = refl
code_read causes.Syntax = refl
code_read causes.Invalid = refl
code_read (causes.Unprepared id) = refl

error_word : (bytes : List ℕ) (x : ErrorResponse) (rest : List ℕ) → error_at bytes ≡ Ok (x, rest) → IsError bytes x rest
unfolding error_at
error_word bytes x rest e =
    let result : ErrorCause → List ℕ → ErrorResponse = λ c t. record { cause = c; text = t } in
    let n = bind_ok (int_at bytes) (λ n. error_code n.0 >>= λ k. string_at n.1 >>= λ t. cause_at k t.1 >>= λ c. Ok (result c.0 t.0, c.1)) (x, rest) e in
    let k = bind_ok (error_code n.0.0) (λ k. string_at n.0.1 >>= λ t. cause_at k t.1 >>= λ c. Ok (result c.0 t.0, c.1)) (x, rest) n.2 in
    let t = bind_ok (string_at n.0.1) (λ t. cause_at k.0 t.1 >>= λ c. Ok (result c.0 t.0, c.1)) (x, rest) k.2 in
    let c = bind_ok (cause_at k.0 t.0.1) (λ c. Ok (result c.0 t.0.0, c.1)) (x, rest) t.2 in
    let fields = cause_word k.0 t.0.1 c.0.0 c.0.1 c.1 in
    let whole : ErrorResponse × List ℕ = (result c.0.0 t.0.0, c.0.1) in
    subst (λ (q : ErrorResponse × List ℕ). IsError bytes q.0 q.1) (ok_is whole (x, rest) c.2) (record {
      behind_code = n.0.1;
      behind_text = t.0.1;
      code = subst (λ (m : ℤ). IsInt bytes m n.0.1) (code_known n.0.0 k.0 k.1 ∙ sym fields.1) (int_agrees.is_word bytes n.0.0 n.0.1 n.1);
      text = string_agrees.is_word n.0.1 t.0.0 t.0.1 t.1;
      fields = fields.0;
    })

pub error_agrees : Agrees error_at IsError
unfolding error_at
error_agrees = record {
  is_word = error_word;
  is_read = λ bytes x rest word.
      rw (int_agrees.is_read bytes (code_of x.cause) word.behind_code word.code, code_read x.cause, string_agrees.is_read word.behind_code x.text word.behind_text word.text, cause_read word.behind_text x.cause rest word.fields) refl;
}

-- ---- metadata

type_known : (id : ℕ) (ty : CqlType) → type_of_id id ≡ Ok ty → id ≡ type_id ty
type_known id ty e =
    tested type_id id 1 types.Ascii ty _ refl e (λ e. tested type_id id 2 types.Bigint ty _ refl e (λ e. tested type_id id 3 types.Blob ty _ refl e (λ e. tested type_id id 4 types.Boolean ty _ refl e (λ e. tested type_id id 9 types.Int ty _ refl e (λ e. tested type_id id 11 types.Timestamp ty _ refl e (λ e. tested type_id id 12 types.Uuid ty _ refl e (λ e. tested type_id id 13 types.Text ty _ refl e (λ e. tested type_id id 15 types.Timeuuid ty _ refl e (λ e. tested type_id id 19 types.Smallint ty _ refl e (λ e. tested type_id id 20 types.Tinyint ty _ refl e (λ e. absurd (cc (e)))))))))))))

type_read : (ty : CqlType) → type_of_id (type_id ty) ≡ Ok ty
type_read types.Ascii = refl
type_read types.Bigint = refl
type_read types.Blob = refl
type_read types.Boolean = refl
type_read types.Int = refl
type_read types.Timestamp = refl
type_read types.Uuid = refl
type_read types.Text = refl
type_read types.Timeuuid = refl
type_read types.Smallint = refl
type_read types.Tinyint = refl

column_word : (bytes : List ℕ) (c : Column) (rest : List ℕ) → column_at bytes ≡ Ok (c, rest) → IsColumn bytes c rest
unfolding column_at
column_word bytes c rest e =
    let result : List ℕ → CqlType → Column = λ n t. record { name = n; ty = t } in
    let n = bind_ok (string_at bytes) (λ n. short_at n.1 >>= λ i. type_of_id i.0 >>= λ t. Ok (result n.0 t, i.1)) (c, rest) e in
    let i = bind_ok (short_at n.0.1) (λ i. type_of_id i.0 >>= λ t. Ok (result n.0.0 t, i.1)) (c, rest) n.2 in
    let t = bind_ok (type_of_id i.0.0) (λ t. Ok (result n.0.0 t, i.0.1)) (c, rest) i.2 in
    let whole : Column × List ℕ = (result n.0.0 t.0, i.0.1) in
    subst (λ (q : Column × List ℕ). IsColumn bytes q.0 q.1) (ok_is whole (c, rest) t.2)
    (n.0.1, string_agrees.is_word bytes n.0.0 n.0.1 n.1, subst (λ (k : ℕ). IsShort n.0.1 k i.0.1) (type_known i.0.0 t.0 t.1) (short_agrees.is_word n.0.1 i.0.0 i.0.1 i.1))

pub column_agrees : Agrees column_at IsColumn
unfolding column_at
column_agrees = record {
  is_word = column_word;
  is_read = λ bytes c rest word. rw (string_agrees.is_read bytes c.name word.0 word.1, short_agrees.is_read word.0 (type_id c.ty) rest word.2, type_read c.ty) refl;
}

-- the columns that are counted
abbrev IsTableOf : ℕ → List ℕ → TableColumns → List ℕ → Type 0
IsTableOf n bytes t rest = IsTable bytes t rest × (n ≡ length t.columns)

table_word : (n : ℕ) (bytes : List ℕ) (t : TableColumns) (rest : List ℕ) → table_at n bytes ≡ Ok (t, rest) → IsTableOf n bytes t rest
unfolding table_at
table_word n bytes t rest e =
    let result : List ℕ → List ℕ → List Column → TableColumns = λ k t c. record { keyspace = k; table = t; columns = c } in
    let k = bind_ok (string_at bytes) (λ k. string_at k.1 >>= λ t. items_at column_at n t.1 >>= λ c. Ok (result k.0 t.0 c.0, c.1)) (t, rest) e in
    let s = bind_ok (string_at k.0.1) (λ t. items_at column_at n t.1 >>= λ c. Ok (result k.0.0 t.0 c.0, c.1)) (t, rest) k.2 in
    let c = bind_ok (items_at column_at n s.0.1) (λ c. Ok (result k.0.0 s.0.0 c.0, c.1)) (t, rest) s.2 in
    let columns = (items_agree column_at IsColumn column_agrees n).is_word s.0.1 c.0.0 c.0.1 c.1 in
    let whole : TableColumns × List ℕ = (result k.0.0 s.0.0 c.0.0, c.0.1) in
    subst (λ (q : TableColumns × List ℕ). IsTableOf n bytes q.0 q.1) (ok_is whole (t, rest) c.2) (
      record {
        behind_keyspace = k.0.1;
        behind_table = s.0.1;
        keyspace = string_agrees.is_word bytes k.0.0 k.0.1 k.1;
        table = string_agrees.is_word k.0.1 s.0.0 s.0.1 s.1;
        columns = columns.0;
      },
      columns.1,
    )

table_read : (bytes : List ℕ) (t : TableColumns) (rest : List ℕ) → IsTable bytes t rest → table_at (length t.columns) bytes ≡ Ok (t, rest)
unfolding table_at
table_read bytes t rest word =
    rw (
      string_agrees.is_read bytes t.keyspace word.behind_keyspace word.keyspace,
      string_agrees.is_read word.behind_keyspace t.table word.behind_table word.table,
      (items_agree column_at IsColumn column_agrees (length t.columns)).is_read word.behind_table t.columns rest (word.columns, refl),
    ) refl

columns_word : (omitted : Bool) (n : ℕ) (bytes : List ℕ) (c : Columns) (rest : List ℕ) → columns_at omitted n bytes ≡ Ok (c, rest) → AreColumns bytes c rest × (n ≡ column_count c)
columns_word true n bytes c rest e =
    let counted : Columns × List ℕ = (given.Counted n, bytes) in
    subst (λ (q : Columns × List ℕ). AreColumns bytes q.0 q.1 × (n ≡ column_count q.0)) (ok_is counted (c, rest) e) (refl, refl)
columns_word false n bytes c rest e =
    let x = mapped_ok (table_at n bytes) given.Described c rest e in
    subst (λ (q : Columns). AreColumns bytes q rest × (n ≡ column_count q)) x.2 (table_word n bytes x.0 rest x.1)

abbrev is_omitted : Columns → Bool
is_omitted (given.Counted n) = true
is_omitted (given.Described t) = false

columns_omitted : (omitted : Bool) (n : ℕ) (bytes : List ℕ) (c : Columns) (rest : List ℕ) → columns_at omitted n bytes ≡ Ok (c, rest) → omitted ≡ is_omitted c
columns_omitted true n bytes c rest e =
    let counted : Columns × List ℕ = (given.Counted n, bytes) in
    ap (λ (q : Columns × List ℕ). is_omitted q.0) (ok_is counted (c, rest) e)
columns_omitted false n bytes c rest e =
    let x = mapped_ok (table_at n bytes) given.Described c rest e in ap is_omitted x.2

columns_read : (bytes : List ℕ) (c : Columns) (rest : List ℕ) → AreColumns bytes c rest → columns_at (is_omitted c) (column_count c) bytes ≡ Ok (c, rest)
columns_read bytes (given.Counted n) rest word = ap (λ (r : List ℕ). Ok (given.Counted n, r)) word
columns_read bytes (given.Described t) rest word = rw (table_read bytes t rest word) refl

-- the number of the flags
abbrev flags_value : Bool × Bool → ℕ
flags_value (false, false) = 1
flags_value (true, false) = 3
flags_value (false, true) = 4
flags_value (true, true) = 6

flags_tests : (n : ℕ) (p : Bool × Bool) → flags_number n ≡ Ok p → n ≡ flags_value p
flags_tests n p e =
    tested flags_value n 1 (false, false) p _ refl e (λ e. tested flags_value n 3 (true, false) p _ refl e (λ e. tested flags_value n 4 (false, true) p _ refl e (λ e. tested flags_value n 6 (true, true) p _ refl e (λ e. absurd (cc (e))))))

flags_known : (n : ℤ) (p : Bool × Bool) → metadata_flags n ≡ Ok p → n ≡ pos (flags_value p)
flags_known n p e =
    let q = passed n BadFlag flags_number p e in
    q.1 ∙ ap pos (flags_tests q.0 p q.2)

flags_are : (m : RowsMetadata) → pos (flags_value (is_some m.paging_state, is_omitted m.columns)) ≡ flags_of m
flags_are m = go m.columns m.paging_state
  where
    go : (c : Columns) (s : Option (Option (List ℕ))) → pos (flags_value (is_some s, is_omitted c)) ≡ flags_with c s
    go (given.Counted n) None = refl
    go (given.Counted n) (Some s) = refl
    go (given.Described t) None = refl
    go (given.Described t) (Some s) = refl

flags_read : (a b : Bool) → metadata_flags (pos (flags_value (a, b))) ≡ Ok (a, b)
flags_read false false = refl
flags_read true false = refl
flags_read false true = refl
flags_read true true = refl

-- what stands at the front of metadata
record IsFront (bytes : List ℕ) (f : MetadataFront) (rest : List ℕ) : Type 0 where
  behind_flags : List ℕ
  flags : IsInt bytes (pos (flags_value (f.more, f.omitted))) behind_flags
  count : IsInt behind_flags (pos f.column_count) rest

front_word : (bytes : List ℕ) (f : MetadataFront) (rest : List ℕ) → front_at bytes ≡ Ok (f, rest) → IsFront bytes f rest
unfolding front_at
front_word bytes f rest e =
    let result : Bool × Bool → ℕ → MetadataFront = λ p n. record { more = p.0; omitted = p.1; column_count = n } in
    let n = bind_ok (int_at bytes) (λ n. metadata_flags n.0 >>= λ p. count_at n.1 >>= λ c. Ok (result p c.0, c.1)) (f, rest) e in
    let p = bind_ok (metadata_flags n.0.0) (λ p. count_at n.0.1 >>= λ c. Ok (result p c.0, c.1)) (f, rest) n.2 in
    let c = bind_ok (count_at n.0.1) (λ c. Ok (result p.0 c.0, c.1)) (f, rest) p.2 in
    let whole : MetadataFront × List ℕ = (result p.0 c.0.0, c.0.1) in
    subst (λ (q : MetadataFront × List ℕ). IsFront bytes q.0 q.1) (ok_is whole (f, rest) c.2) (record {
      behind_flags = n.0.1;
      flags = subst (λ (m : ℤ). IsInt bytes m n.0.1) (flags_known n.0.0 p.0 p.1) (int_agrees.is_word bytes n.0.0 n.0.1 n.1);
      count = count_agrees.is_word n.0.1 c.0.0 c.0.1 c.1;
    })

front_read : (bytes : List ℕ) (f : MetadataFront) (rest : List ℕ) → IsFront bytes f rest → front_at bytes ≡ Ok (f, rest)
unfolding front_at
front_read bytes f rest word =
    rw (int_agrees.is_read bytes (pos (flags_value (f.more, f.omitted))) word.behind_flags word.flags, flags_read f.more f.omitted, count_agrees.is_read word.behind_flags f.column_count rest word.count) refl

-- what stands behind it
record IsBehind (f : MetadataFront) (bytes : List ℕ) (m : RowsMetadata) (rest : List ℕ) : Type 0 where
  behind_paging_state : List ℕ
  more : f.more ≡ is_some m.paging_state
  omitted : f.omitted ≡ is_omitted m.columns
  count : f.column_count ≡ column_count m.columns
  paging_state : IsPart (is_some m.paging_state) IsBytes bytes m.paging_state behind_paging_state
  columns : AreColumns behind_paging_state m.columns rest

part_is_there : {A : Type 0} (set : Bool) (N : List ℕ → A → List ℕ → Type 0) (bytes : List ℕ) (o : Option A) (rest : List ℕ) → IsPart set N bytes o rest → set ≡ is_some o
part_is_there {A} set N bytes None rest word = word.0
part_is_there set N bytes (Some x) rest word = word.0

behind_word : (f : MetadataFront) (bytes : List ℕ) (m : RowsMetadata) (rest : List ℕ) → metadata_behind f bytes ≡ Ok (m, rest) → IsBehind f bytes m rest
unfolding metadata_behind
behind_word f bytes m rest e =
    let result : Option (Option (List ℕ)) → Columns → RowsMetadata = λ s c. record { columns = c; paging_state = s } in
    let s = bind_ok (part_at f.more bytes_at bytes) (λ s. columns_at f.omitted f.column_count s.1 >>= λ c. Ok (result s.0 c.0, c.1)) (m, rest) e in
    let c = bind_ok (columns_at f.omitted f.column_count s.0.1) (λ c. Ok (result s.0.0 c.0, c.1)) (m, rest) s.2 in
    let part = (part_agrees bytes_at IsBytes bytes_agrees f.more).is_word bytes s.0.0 s.0.1 s.1 in
    let there = part_is_there f.more IsBytes bytes s.0.0 s.0.1 part in
    let columns = columns_word f.omitted f.column_count s.0.1 c.0.0 c.0.1 c.1 in
    let whole : RowsMetadata × List ℕ = (result s.0.0 c.0.0, c.0.1) in
    subst (λ (q : RowsMetadata × List ℕ). IsBehind f bytes q.0 q.1) (ok_is whole (m, rest) c.2) (record {
      behind_paging_state = s.0.1;
      more = there;
      omitted = columns_omitted f.omitted f.column_count s.0.1 c.0.0 c.0.1 c.1;
      count = columns.1;
      paging_state = subst (λ (b : Bool). IsPart b IsBytes bytes s.0.0 s.0.1) there part;
      columns = columns.0;
    })

behind_read : (f : MetadataFront) (bytes : List ℕ) (m : RowsMetadata) (rest : List ℕ) → IsBehind f bytes m rest → metadata_behind f bytes ≡ Ok (m, rest)
unfolding metadata_behind
behind_read f bytes m rest word =
    rw (
      word.more,
      word.omitted,
      word.count,
      (part_agrees bytes_at IsBytes bytes_agrees (is_some m.paging_state)).is_read bytes m.paging_state word.behind_paging_state word.paging_state,
      columns_read word.behind_paging_state m.columns rest word.columns,
    ) refl

-- both together
both_is : (bytes : List ℕ) (f : MetadataFront) (behind_front : List ℕ) (m : RowsMetadata) (rest : List ℕ) → IsFront bytes f behind_front → IsBehind f behind_front m rest → IsMetadata bytes m rest
both_is bytes f behind_front m rest front behind = record {
  behind_flags = front.behind_flags;
  behind_count = behind_front;
  behind_paging_state = behind.behind_paging_state;
  flags = subst (λ (n : ℤ). IsInt bytes n front.behind_flags) (ap (λ (x : Bool). pos (flags_value (x, f.omitted))) behind.more ∙ ap (λ (x : Bool). pos (flags_value (is_some m.paging_state, x))) behind.omitted ∙ flags_are m) front.flags;
  count = subst (λ (n : ℕ). IsInt front.behind_flags (pos n) behind_front) behind.count front.count;
  paging_state = behind.paging_state;
  columns = behind.columns;
}

abbrev front_of : RowsMetadata → MetadataFront
front_of m = record { more = is_some m.paging_state; omitted = is_omitted m.columns; column_count = column_count m.columns }

front_is : (bytes : List ℕ) (m : RowsMetadata) (rest : List ℕ) → (word : IsMetadata bytes m rest) → IsFront bytes (front_of m) word.behind_count
front_is bytes m rest word = record { behind_flags = word.behind_flags; flags = subst (λ (n : ℤ). IsInt bytes n word.behind_flags) (sym (flags_are m)) word.flags; count = word.count }

behind_is : (bytes : List ℕ) (m : RowsMetadata) (rest : List ℕ) → (word : IsMetadata bytes m rest) → IsBehind (front_of m) word.behind_count m rest
behind_is bytes m rest word = record { behind_paging_state = word.behind_paging_state; more = refl; omitted = refl; count = refl; paging_state = word.paging_state; columns = word.columns }

pub metadata_agrees : Agrees metadata_at IsMetadata
unfolding metadata_at
metadata_agrees = record {
  is_word = λ bytes m rest e.
      let f = bind_ok (front_at bytes) (λ f. metadata_behind f.0 f.1) (m, rest) e in
      both_is bytes f.0.0 f.0.1 m rest (front_word bytes f.0.0 f.0.1 f.1) (behind_word f.0.0 f.0.1 m rest f.2);
  is_read = λ bytes m rest word.
      rw (front_read bytes (front_of m) word.behind_count (front_is bytes m rest word)) (behind_read (front_of m) word.behind_count m rest (behind_is bytes m rest word));
}

one_tests : (k : ℕ) (u : Unit {0}) → cond (eqb k 1) (Ok tt) (Err BadFlag) ≡ Ok u → k ≡ 1
one_tests k u e = tested (λ (x : Unit {0}). 1) k 1 tt u (Err BadFlag) refl e (λ e. absurd (cc (e)))

one_known : (n : ℤ) (u : Unit {0}) → one_table n ≡ Ok u → n ≡ pos 1
one_known n u e =
    let q = passed n BadFlag (λ k. cond (eqb k 1) (Ok tt) (Err BadFlag)) u e in
    q.1 ∙ ap pos (one_tests q.0 u q.2)

variables_word : (bytes : List ℕ) (v : VariablesMetadata) (rest : List ℕ) → variables_at bytes ≡ Ok (v, rest) → AreVariables bytes v rest
unfolding variables_at
variables_word bytes v rest e =
    let result : List ℕ → TableColumns → VariablesMetadata = λ k t. record { variables = t; key_indexes = k } in
    let f = bind_ok (int_at bytes) (λ f. one_table f.0 >>= λ o. count_at f.1 >>= λ n. count_at n.1 >>= λ k. items_at short_at k.0 k.1 >>= λ i. table_at n.0 i.1 >>= λ t. Ok (result i.0 t.0, t.1)) (v, rest) e in
    let o = bind_ok (one_table f.0.0) (λ o. count_at f.0.1 >>= λ n. count_at n.1 >>= λ k. items_at short_at k.0 k.1 >>= λ i. table_at n.0 i.1 >>= λ t. Ok (result i.0 t.0, t.1)) (v, rest) f.2 in
    let n = bind_ok (count_at f.0.1) (λ n. count_at n.1 >>= λ k. items_at short_at k.0 k.1 >>= λ i. table_at n.0 i.1 >>= λ t. Ok (result i.0 t.0, t.1)) (v, rest) o.2 in
    let k = bind_ok (count_at n.0.1) (λ k. items_at short_at k.0 k.1 >>= λ i. table_at n.0.0 i.1 >>= λ t. Ok (result i.0 t.0, t.1)) (v, rest) n.2 in
    let i = bind_ok (items_at short_at k.0.0 k.0.1) (λ i. table_at n.0.0 i.1 >>= λ t. Ok (result i.0 t.0, t.1)) (v, rest) k.2 in
    let t = bind_ok (table_at n.0.0 i.0.1) (λ t. Ok (result i.0.0 t.0, t.1)) (v, rest) i.2 in
    let indexes = (items_agree short_at IsShort short_agrees k.0.0).is_word k.0.1 i.0.0 i.0.1 i.1 in
    let table = table_word n.0.0 i.0.1 t.0.0 t.0.1 t.1 in
    let whole : VariablesMetadata × List ℕ = (result i.0.0 t.0.0, t.0.1) in
    subst (λ (q : VariablesMetadata × List ℕ). AreVariables bytes q.0 q.1) (ok_is whole (v, rest) t.2) (record {
      behind_flags = f.0.1;
      behind_count = n.0.1;
      behind_key_count = k.0.1;
      behind_key = i.0.1;
      flags = subst (λ (m : ℤ). IsInt bytes m f.0.1) (one_known f.0.0 o.0 o.1) (int_agrees.is_word bytes f.0.0 f.0.1 f.1);
      count = subst (λ (m : ℕ). IsCount f.0.1 m n.0.1) table.1 (count_agrees.is_word f.0.1 n.0.0 n.0.1 n.1);
      key_count = subst (λ (m : ℕ). IsCount n.0.1 m k.0.1) indexes.1 (count_agrees.is_word n.0.1 k.0.0 k.0.1 k.1);
      key_indexes = indexes.0;
      variables = table.0;
    })

variables_read : (bytes : List ℕ) (v : VariablesMetadata) (rest : List ℕ) → AreVariables bytes v rest → variables_at bytes ≡ Ok (v, rest)
unfolding variables_at
variables_read bytes v rest word =
    rw (
      int_agrees.is_read bytes (pos 1) word.behind_flags word.flags,
      count_agrees.is_read word.behind_flags (length v.variables.columns) word.behind_count word.count,
      count_agrees.is_read word.behind_count (length v.key_indexes) word.behind_key_count word.key_count,
      (items_agree short_at IsShort short_agrees (length v.key_indexes)).is_read word.behind_key_count v.key_indexes word.behind_key (word.key_indexes, refl),
      table_read word.behind_key v.variables rest word.variables,
    ) refl

pub variables_agree : Agrees variables_at AreVariables
variables_agree = record { is_word = variables_word; is_read = variables_read }

prepared_word : (bytes : List ℕ) (p : Prepared) (rest : List ℕ) → prepared_at bytes ≡ Ok (p, rest) → IsPrepared bytes p rest
unfolding prepared_at
prepared_word bytes p rest e =
    let result : List ℕ → VariablesMetadata → RowsMetadata → Prepared = λ i v m. record { id = i; variables = v; result = m } in
    let i = bind_ok (short_bytes_at bytes) (λ i. variables_at i.1 >>= λ v. metadata_at v.1 >>= λ m. Ok (result i.0 v.0 m.0, m.1)) (p, rest) e in
    let v = bind_ok (variables_at i.0.1) (λ v. metadata_at v.1 >>= λ m. Ok (result i.0.0 v.0 m.0, m.1)) (p, rest) i.2 in
    let m = bind_ok (metadata_at v.0.1) (λ m. Ok (result i.0.0 v.0.0 m.0, m.1)) (p, rest) v.2 in
    let whole : Prepared × List ℕ = (result i.0.0 v.0.0 m.0.0, m.0.1) in
    subst (λ (q : Prepared × List ℕ). IsPrepared bytes q.0 q.1) (ok_is whole (p, rest) m.2) (record {
      behind_id = i.0.1;
      behind_variables = v.0.1;
      id = short_bytes_agrees.is_word bytes i.0.0 i.0.1 i.1;
      variables = variables_agree.is_word i.0.1 v.0.0 v.0.1 v.1;
      result = metadata_agrees.is_word v.0.1 m.0.0 m.0.1 m.1;
    })

pub prepared_agrees : Agrees prepared_at IsPrepared
unfolding prepared_at
prepared_agrees = record {
  is_word = prepared_word;
  is_read = λ bytes p rest word.
      rw (short_bytes_agrees.is_read bytes p.id word.behind_id word.id, variables_agree.is_read word.behind_id p.variables word.behind_variables word.variables, metadata_agrees.is_read word.behind_variables p.result rest word.result) refl;
}

-- ---- rows

rows_word : (bytes : List ℕ) (r : Rows) (rest : List ℕ) → rows_at bytes ≡ Ok (r, rest) → AreRows bytes r rest
unfolding rows_at
rows_word bytes r rest e =
    let result : RowsMetadata → ℕ → List (Option (List ℕ)) → Rows = λ m n c. record { metadata = m; row_count = n; cells = c } in
    let f = bind_ok (front_at bytes) (λ f. metadata_behind f.0 f.1 >>= λ m. count_at m.1 >>= λ n. items_at bytes_at (n.0 * f.0.column_count) n.1 >>= λ c. Ok (result m.0 n.0 c.0, c.1)) (r, rest) e in
    let m = bind_ok (metadata_behind f.0.0 f.0.1) (λ m. count_at m.1 >>= λ n. items_at bytes_at (n.0 * f.0.0.column_count) n.1 >>= λ c. Ok (result m.0 n.0 c.0, c.1)) (r, rest) f.2 in
    let n = bind_ok (count_at m.0.1) (λ n. items_at bytes_at (n.0 * f.0.0.column_count) n.1 >>= λ c. Ok (result m.0.0 n.0 c.0, c.1)) (r, rest) m.2 in
    let c = bind_ok (items_at bytes_at (n.0.0 * f.0.0.column_count) n.0.1) (λ c. Ok (result m.0.0 n.0.0 c.0, c.1)) (r, rest) n.2 in
    let behind = behind_word f.0.0 f.0.1 m.0.0 m.0.1 m.1 in
    let cells = (items_agree bytes_at IsBytes bytes_agrees (n.0.0 * f.0.0.column_count)).is_word n.0.1 c.0.0 c.0.1 c.1 in
    let whole : Rows × List ℕ = (result m.0.0 n.0.0 c.0.0, c.0.1) in
    subst (λ (q : Rows × List ℕ). AreRows bytes q.0 q.1) (ok_is whole (r, rest) c.2) (record {
      behind_metadata = m.0.1;
      behind_count = n.0.1;
      metadata = both_is bytes f.0.0 f.0.1 m.0.0 m.0.1 (front_word bytes f.0.0 f.0.1 f.1) behind;
      count = count_agrees.is_word m.0.1 n.0.0 n.0.1 n.1;
      whole_rows = ap (λ (k : ℕ). n.0.0 * k) (sym behind.count) ∙ cells.1;
      cells = cells.0;
    })

rows_read : (bytes : List ℕ) (r : Rows) (rest : List ℕ) → AreRows bytes r rest → rows_at bytes ≡ Ok (r, rest)
unfolding rows_at
rows_read bytes r rest word =
    rw (
      front_read bytes (front_of r.metadata) word.metadata.behind_count (front_is bytes r.metadata word.behind_metadata word.metadata),
      behind_read (front_of r.metadata) word.metadata.behind_count r.metadata word.behind_metadata (behind_is bytes r.metadata word.behind_metadata word.metadata),
      count_agrees.is_read word.behind_metadata r.row_count word.behind_count word.count,
      (items_agree bytes_at IsBytes bytes_agrees (r.row_count * column_count r.metadata.columns)).is_read word.behind_count r.cells rest (word.cells, word.whole_rows),
    ) refl

pub rows_agree : Agrees rows_at AreRows
rows_agree = record { is_word = rows_word; is_read = rows_read }

-- ---- responses

abbrev number_of_result : ResultKind → ℕ
number_of_result results.Void = 1
number_of_result results.Rows = 2
number_of_result results.SetKeyspace = 3
number_of_result results.Prepared = 4

result_tests : (n : ℤ) (k : ℕ) (kind : ResultKind) → result_kind_of n k ≡ Ok kind → k ≡ number_of_result kind
result_tests n k kind e =
    tested number_of_result k 1 results.Void kind _ refl e (λ e. tested number_of_result k 2 results.Rows kind _ refl e (λ e. tested number_of_result k 3 results.SetKeyspace kind _ refl e (λ e. tested number_of_result k 4 results.Prepared kind _ refl e (λ e. absurd (cc (e))))))

result_known : (n : ℤ) (kind : ResultKind) → result_kind n ≡ Ok kind → n ≡ pos (number_of_result kind)
result_known n kind e =
    let p = passed n (BadValue n) (result_kind_of n) kind e in
    p.1 ∙ ap pos (result_tests n p.0 kind p.2)

result_body_word : (kind : ResultKind) (bytes : List ℕ) (r : Response) (rest : List ℕ) → result_body_at kind bytes ≡ Ok (r, rest)
    → (start : List ℕ) → IsInt start (pos (number_of_result kind)) bytes → IsBody start r rest × (opcode_of r ≡ 8)
result_body_word results.Void bytes r rest e start word =
    let q : Response × List ℕ = (responses.Void, bytes) in
    subst (λ (q : Response × List ℕ). IsBody start q.0 q.1 × (opcode_of q.0 ≡ 8)) (ok_is q (r, rest) e) (word, refl)
result_body_word results.Rows bytes r rest e start word =
    let x = mapped_ok (rows_at bytes) responses.Rows r rest e in
    subst (λ (q : Response). IsBody start q rest × (opcode_of q ≡ 8)) x.2 ((bytes, word, rows_agree.is_word bytes x.0 rest x.1), refl)
result_body_word results.SetKeyspace bytes r rest e start word =
    let x = mapped_ok (string_at bytes) responses.SetKeyspace r rest e in
    subst (λ (q : Response). IsBody start q rest × (opcode_of q ≡ 8)) x.2 ((bytes, word, string_agrees.is_word bytes x.0 rest x.1), refl)
result_body_word results.Prepared bytes r rest e start word =
    let x = mapped_ok (prepared_at bytes) responses.Prepared r rest e in
    subst (λ (q : Response). IsBody start q rest × (opcode_of q ≡ 8)) x.2 ((bytes, word, prepared_agrees.is_word bytes x.0 rest x.1), refl)

result_word : (bytes : List ℕ) (r : Response) (rest : List ℕ) → result_at bytes ≡ Ok (r, rest) → IsBody bytes r rest × (opcode_of r ≡ 8)
unfolding result_at
result_word bytes r rest e =
    let n = bind_ok (int_at bytes) (λ n. result_kind n.0 >>= λ k. result_body_at k n.1) (r, rest) e in
    let k = bind_ok (result_kind n.0.0) (λ k. result_body_at k n.0.1) (r, rest) n.2 in
    result_body_word k.0 n.0.1 r rest k.2 bytes (subst (λ (m : ℤ). IsInt bytes m n.0.1) (result_known n.0.0 k.0 k.1) (int_agrees.is_word bytes n.0.0 n.0.1 n.1))

abbrev code_of_kind : ResponseKind → ℕ
code_of_kind kinds.Error = 0
code_of_kind kinds.Ready = 2
code_of_kind kinds.Supported = 6
code_of_kind kinds.Result = 8

abbrev kind_of_response : Response → ResponseKind
kind_of_response (responses.Error x) = kinds.Error
kind_of_response responses.Ready = kinds.Ready
kind_of_response (responses.Supported options) = kinds.Supported
kind_of_response responses.Void = kinds.Result
kind_of_response (responses.Rows r) = kinds.Result
kind_of_response (responses.SetKeyspace keyspace) = kinds.Result
kind_of_response (responses.Prepared p) = kinds.Result

body_word : (kind : ResponseKind) (bytes : List ℕ) (r : Response) (rest : List ℕ) → body_at kind bytes ≡ Ok (r, rest) → IsBody bytes r rest × (opcode_of r ≡ code_of_kind kind)
body_word kinds.Error bytes r rest e =
    let x = mapped_ok (error_at bytes) responses.Error r rest e in
    subst (λ (q : Response). IsBody bytes q rest × (opcode_of q ≡ 0)) x.2 (error_agrees.is_word bytes x.0 rest x.1, refl)
body_word kinds.Ready bytes r rest e =
    let q : Response × List ℕ = (responses.Ready, bytes) in
    subst (λ (q : Response × List ℕ). IsBody bytes q.0 q.1 × (opcode_of q.0 ≡ 2)) (ok_is q (r, rest) e) (refl, refl)
body_word kinds.Supported bytes r rest e =
    let x = mapped_ok (list_at option_at bytes) responses.Supported r rest e in
    subst (λ (q : Response). IsBody bytes q rest × (opcode_of q ≡ 6)) x.2 (list_of_options.is_word bytes x.0 rest x.1, refl)
body_word kinds.Result bytes r rest e = result_word bytes r rest e

body_read : (bytes : List ℕ) (r : Response) (rest : List ℕ) → IsBody bytes r rest → body_at (kind_of_response r) bytes ≡ Ok (r, rest)
unfolding result_at
body_read bytes (responses.Error x) rest word = rw (error_agrees.is_read bytes x rest word) refl
body_read bytes responses.Ready rest word = ap (λ (b : List ℕ). Ok (responses.Ready, b)) word
body_read bytes (responses.Supported options) rest word = rw (list_of_options.is_read bytes options rest word) refl
body_read bytes responses.Void rest word = rw (int_agrees.is_read bytes (pos 1) rest word) refl
body_read bytes (responses.Rows r) rest word = rw (int_agrees.is_read bytes (pos 2) word.0 word.1, rows_agree.is_read word.0 r rest word.2) refl
body_read bytes (responses.SetKeyspace keyspace) rest word = rw (int_agrees.is_read bytes (pos 3) word.0 word.1, string_agrees.is_read word.0 keyspace rest word.2) refl
body_read bytes (responses.Prepared p) rest word = rw (int_agrees.is_read bytes (pos 4) word.0 word.1, prepared_agrees.is_read word.0 p rest word.2) refl

kind_known : (r : Response) → kind_of (opcode_of r) ≡ Some (kind_of_response r)
kind_known (responses.Error x) = refl
kind_known responses.Ready = refl
kind_known (responses.Supported options) = refl
kind_known responses.Void = refl
kind_known (responses.Rows r) = refl
kind_known (responses.SetKeyspace keyspace) = refl
kind_known (responses.Prepared p) = refl

-- one test of the table of opcodes
opcode_tested : (opcode k : ℕ) (x kind : ResponseKind) (others : Option ResponseKind) → code_of_kind x ≡ k → cond (eqb opcode k) (Some x) others ≡ Some kind → (others ≡ Some kind → opcode ≡ code_of_kind kind) → opcode ≡ code_of_kind kind
opcode_tested opcode k x kind others is e next = go (eqb opcode k) refl e
  where
    go : (b : Bool) → eqb opcode k ≡ b → cond b (Some x) others ≡ Some kind → opcode ≡ code_of_kind kind
    go true t e = let same : x ≡ kind = cc (e) in eqb-true opcode k t ∙ sym is ∙ ap code_of_kind same
    go false t e = next e

opcode_known : (opcode : ℕ) (kind : ResponseKind) → kind_of opcode ≡ Some kind → opcode ≡ code_of_kind kind
opcode_known opcode kind e =
    opcode_tested opcode 0 kinds.Error kind _ refl e (λ e. opcode_tested opcode 2 kinds.Ready kind _ refl e (λ e. opcode_tested opcode 6 kinds.Supported kind _ refl e (λ e. opcode_tested opcode 8 kinds.Result kind _ refl e (λ e. absurd (cc (e))))))

pub response_word : (opcode : ℕ) (bytes : List ℕ) (r : Response) → response_in opcode bytes ≡ Ok r → IsResponse opcode bytes r
response_word opcode bytes r e = go (kind_of opcode) refl e
  where
    go : (o : Option ResponseKind) → kind_of opcode ≡ o → response_of opcode bytes o ≡ Ok r → IsResponse opcode bytes r
    go None k e = absurd (cc (e))
    go (Some kind) k e =
        let body = body_word kind bytes r [] (whole_ok (length bytes) (body_at kind bytes) r e) in
        record { of_opcode = opcode_known opcode kind k ∙ sym body.1; body = body.0 }

pub response_read : (opcode : ℕ) (bytes : List ℕ) (r : Response) → IsResponse opcode bytes r → response_in opcode bytes ≡ Ok r
response_read opcode bytes r word =
    ap (λ (k : ℕ). response_of opcode bytes (kind_of k)) word.of_opcode
    ∙ ap (response_of opcode bytes) (kind_known r)
    ∙ ap (whole (length bytes)) (body_read bytes r [] word.body)
