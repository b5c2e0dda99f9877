-- What is read of a request is a word of the grammar, and a word is read.
use Rattle.std.proofs.Common.{◌≡◌, ℕ, zero, suc, Bool, true, false, cond, not, eqb, ◌&&◌, ◌||◌, List, [], ◌∷◌, length, Option, Some, None, Result, Ok, Err, refl, sym, ap, subst, ◌∙◌}
use Rattle.std.specs.Prelude.{ℤ, is_some}
use Rattle.std.proofs.lemmas.Bool.{eqb-true}
use Rattle.body_notations.specs.declared.fault.Fault.{Fault}
use Rattle.body_notations.specs.declared.fault.Fault.TheVariants.{BadFlag}
use Rattle.body_notations.specs.declared.consistency.Consistency.{Consistency}
use Rattle.body_notations.specs.declared.value.Value.{Value}
use Rattle.body_notations.specs.Notations.{IsByte, IsInt, IsLong, IsConsistency, IsString, IsLongString, IsShortBytes, IsBytes, IsValue, IsList, IsPart, AreWords, IsShort}
use Rattle.body_notations.specs.Reading.{◌>>=◌, Read, behind, byte_at, short_at, int_at, long_at, consistency_at, string_at, long_string_at, short_bytes_at, bytes_at, value_at, list_at, part_at, is_set, whole}
use Rattle.body_notations.proofs.Words.{Agrees, bind_ok, ok_is, whole_ok, made, mapped_ok, two_ok, byte_agrees, short_agrees, int_agrees, long_agrees, consistency_agrees, string_agrees, long_string_agrees, short_bytes_agrees, bytes_agrees, value_agrees, list_agrees, part_agrees}
use Rattle.request_bodies.specs.declared.startup.StringPair.{StringPair}
use Rattle.request_bodies.specs.declared.parameters.NamedValue.{NamedValue}
use Rattle.request_bodies.specs.declared.parameters.Values.{Values}
use Rattle.request_bodies.specs.declared.parameters.Values.TheVariants as values
use Rattle.request_bodies.specs.declared.parameters.QueryParameters.{QueryParameters}
use Rattle.request_bodies.specs.declared.batch.BatchKind.{BatchKind}
use Rattle.request_bodies.specs.declared.batch.BatchKind.TheVariants as batch_kinds
use Rattle.request_bodies.specs.declared.batch.BatchStatement.{BatchStatement}
use Rattle.request_bodies.specs.declared.batch.BatchStatement.TheVariants as statements
use Rattle.request_bodies.specs.declared.batch.BatchEntry.{BatchEntry}
use Rattle.request_bodies.specs.declared.batch.BatchEnd.{BatchEnd}
use Rattle.request_bodies.specs.declared.batch.Batch.{Batch}
use Rattle.request_bodies.specs.declared.request.Query.{Query}
use Rattle.request_bodies.specs.declared.request.Execute.{Execute}
use Rattle.request_bodies.specs.declared.request.Request.{Request}
use Rattle.request_bodies.specs.declared.request.Request.TheVariants as requests
use Rattle.request_bodies.specs.declared.request.RequestKind.{RequestKind}
use Rattle.request_bodies.specs.declared.request.RequestKind.TheVariants as kinds
use Rattle.request_bodies.specs.Requests.{IsPair, IsNamedValue, AreValues, AreParts, AreKnown, AreParameters, IsStatement, IsEntry, IsBatch, IsPayloadEntry, IsPayload, IsQuery, IsExecute, IsBody, opcode_of, IsRequest}
use Rattle.request_bodies.specs.Reading.{pair_at, named_value_at, values_at, are_known, parts_at, parameters_at, statement_of, statement_at, entry_at, batch_kind, batch_flags, batch_end_at, batch_at, behind_entry, behind_entries, payload_at, query_at, execute_at, body_at, framed_at, kind_of, request_of, request_in}
use Rattle.request_bodies.specs.Spelling.{batch_flags_of, kind_code}

-- ---- STARTUP

pub pair_agrees : Agrees pair_at IsPair
unfolding pair_at
pair_agrees = record {
  is_word = λ bytes p rest e.
      let t = two_ok string_at string_at IsString IsString string_agrees string_agrees (λ (k v : List ℕ). let q : StringPair = record { key = k; value = v } in q) bytes p rest e in
      (t.2, subst (λ (q : StringPair). IsString bytes q.key t.2) t.5 t.3, subst (λ (q : StringPair). IsString t.2 q.value rest) t.5 t.4);
  is_read = λ bytes p rest word. rw (string_agrees.is_read bytes p.key word.0 word.1, string_agrees.is_read word.0 p.value rest word.2) refl;
}

-- ---- query parameters

pub named_value_agrees : Agrees named_value_at IsNamedValue
unfolding named_value_at
named_value_agrees = record {
  is_word = λ bytes p rest e.
      let t = two_ok string_at value_at IsString IsValue string_agrees value_agrees (λ (n : List ℕ) (v : Value). let q : NamedValue = record { name = n; value = v } in q) bytes p rest e in
      (t.2, subst (λ (q : NamedValue). IsString bytes q.name t.2) t.5 t.3, subst (λ (q : NamedValue). IsValue t.2 q.value rest) t.5 t.4);
  is_read = λ bytes p rest word. rw (string_agrees.is_read bytes p.name word.0 word.1, value_agrees.is_read word.0 p.value rest word.2) refl;
}

list_of_values : Agrees (list_at value_at) (IsList IsValue)
list_of_values = list_agrees value_at IsValue value_agrees

list_of_named_values : Agrees (list_at named_value_at) (IsList IsNamedValue)
list_of_named_values = list_agrees named_value_at IsNamedValue named_value_agrees

values_word : (present named : Bool) (bytes : List ℕ) (vs : Values) (rest : List ℕ) → values_at present named bytes ≡ Ok (vs, rest) → AreValues present named bytes vs rest
values_word false named bytes vs rest e =
    let none : Values × List ℕ = (values.Absent, bytes) in
    subst (λ (q : Values × List ℕ). AreValues false named bytes q.0 q.1) (ok_is none (vs, rest) e) (refl, refl)
values_word true false bytes vs rest e =
    let a = mapped_ok (list_at value_at bytes) values.ByPlace vs rest e in
    subst (λ (q : Values). AreValues true false bytes q rest) a.2 (refl, refl, list_of_values.is_word bytes a.0 rest a.1)
values_word true true bytes vs rest e =
    let a = mapped_ok (list_at named_value_at bytes) values.ByName vs rest e in
    subst (λ (q : Values). AreValues true true bytes q rest) a.2 (refl, refl, list_of_named_values.is_word bytes a.0 rest a.1)

values_read : (present named : Bool) (bytes : List ℕ) (vs : Values) (rest : List ℕ) → AreValues present named bytes vs rest → values_at present named bytes ≡ Ok (vs, rest)
values_read false named bytes values.Absent rest word = ap (λ (r : List ℕ). Ok (values.Absent, r)) word.1
values_read true named bytes values.Absent rest word = absurd (cc (word.0))
values_read true false bytes (values.ByPlace vs) rest word = rw (list_of_values.is_read bytes vs rest word.2) refl
values_read true true bytes (values.ByPlace vs) rest word = absurd (cc (word.1))
values_read false named bytes (values.ByPlace vs) rest word = absurd (cc (word.0))
values_read true true bytes (values.ByName vs) rest word = rw (list_of_named_values.is_read bytes vs rest word.2) refl
values_read true false bytes (values.ByName vs) rest word = absurd (cc (word.1))
values_read false named bytes (values.ByName vs) rest word = absurd (cc (word.0))

pub values_agree : (present named : Bool) → Agrees (values_at present named) (AreValues present named)
values_agree present named = record { is_word = values_word present named; is_read = values_read present named }

parts_word : (c : Consistency) (flags : ℕ) (bytes : List ℕ) (p : QueryParameters) (rest : List ℕ) → parts_at c flags bytes ≡ Ok (p, rest) → AreParts flags bytes p rest × (c ≡ p.consistency)
unfolding parts_at
parts_word c flags bytes p rest e =
    let result : Values → Option ℤ → Option (Option (List ℕ)) → Option Consistency → Option ℤ → QueryParameters =
    λ v n s k t. record { consistency = c; values = v; skip_metadata = is_set flags 2; page_size = n; paging_state = s; serial_consistency = k; timestamp = t } in
    let a = bind_ok (values_at (is_set flags 1) (is_set flags 64) bytes)
    (λ v. part_at (is_set flags 4) int_at v.1 >>= λ n. part_at (is_set flags 8) bytes_at n.1 >>= λ s. part_at (is_set flags 16) consistency_at s.1 >>= λ k. part_at (is_set flags 32) long_at k.1 >>= λ t. Ok (result v.0 n.0 s.0 k.0 t.0, t.1)) (p, rest) e in
    let b = bind_ok (part_at (is_set flags 4) int_at a.0.1)
    (λ n. part_at (is_set flags 8) bytes_at n.1 >>= λ s. part_at (is_set flags 16) consistency_at s.1 >>= λ k. part_at (is_set flags 32) long_at k.1 >>= λ t. Ok (result a.0.0 n.0 s.0 k.0 t.0, t.1)) (p, rest) a.2 in
    let s = bind_ok (part_at (is_set flags 8) bytes_at b.0.1)
    (λ s. part_at (is_set flags 16) consistency_at s.1 >>= λ k. part_at (is_set flags 32) long_at k.1 >>= λ t. Ok (result a.0.0 b.0.0 s.0 k.0 t.0, t.1)) (p, rest) b.2 in
    let k = bind_ok (part_at (is_set flags 16) consistency_at s.0.1)
    (λ k. part_at (is_set flags 32) long_at k.1 >>= λ t. Ok (result a.0.0 b.0.0 s.0.0 k.0 t.0, t.1)) (p, rest) s.2 in
    let t = bind_ok (part_at (is_set flags 32) long_at k.0.1) (λ t. Ok (result a.0.0 b.0.0 s.0.0 k.0.0 t.0, t.1)) (p, rest) k.2 in
    let whole : QueryParameters × List ℕ = (result a.0.0 b.0.0 s.0.0 k.0.0 t.0.0, t.0.1) in
    subst (λ (q : QueryParameters × List ℕ). AreParts flags bytes q.0 q.1 × (c ≡ q.0.consistency)) (ok_is whole (p, rest) t.2) (
      record {
        behind_values = a.0.1;
        behind_page_size = b.0.1;
        behind_paging_state = s.0.1;
        behind_serial = k.0.1;
        skip_metadata = refl;
        values = (values_agree (is_set flags 1) (is_set flags 64)).is_word bytes a.0.0 a.0.1 a.1;
        page_size = (part_agrees int_at IsInt int_agrees (is_set flags 4)).is_word a.0.1 b.0.0 b.0.1 b.1;
        paging_state = (part_agrees bytes_at IsBytes bytes_agrees (is_set flags 8)).is_word b.0.1 s.0.0 s.0.1 s.1;
        serial = (part_agrees consistency_at IsConsistency consistency_agrees (is_set flags 16)).is_word s.0.1 k.0.0 k.0.1 k.1;
        timestamp = (part_agrees long_at IsLong long_agrees (is_set flags 32)).is_word k.0.1 t.0.0 t.0.1 t.1;
      },
      refl,
    )

parts_read : (flags : ℕ) (bytes : List ℕ) (p : QueryParameters) (rest : List ℕ) → AreParts flags bytes p rest → parts_at p.consistency flags bytes ≡ Ok (p, rest)
unfolding parts_at
parts_read flags bytes p rest word =
    rw (
      (values_agree (is_set flags 1) (is_set flags 64)).is_read bytes p.values word.behind_values word.values,
      (part_agrees int_at IsInt int_agrees (is_set flags 4)).is_read word.behind_values p.page_size word.behind_page_size word.page_size,
      (part_agrees bytes_at IsBytes bytes_agrees (is_set flags 8)).is_read word.behind_page_size p.paging_state word.behind_paging_state word.paging_state,
      (part_agrees consistency_at IsConsistency consistency_agrees (is_set flags 16)).is_read word.behind_paging_state p.serial_consistency word.behind_serial word.serial,
      (part_agrees long_at IsLong long_agrees (is_set flags 32)).is_read word.behind_serial p.timestamp rest word.timestamp,
      ← word.skip_metadata,
    ) refl

known_from_test : (flags : ℕ) → are_known flags ≡ true → AreKnown flags
known_from_test flags e = go (is_set flags 128) (is_set flags 64) (is_set flags 1) refl refl refl e
  where
    go : (a b c : Bool) → is_set flags 128 ≡ a → is_set flags 64 ≡ b → is_set flags 1 ≡ c → (not a && (not b || c)) ≡ true → AreKnown flags
    go true b c ea eb ec e = absurd (cc (e))
    go false true true ea eb ec e = record { no_other = ea; names_of_values = λ h. ec }
    go false true false ea eb ec e = absurd (cc (e))
    go false false c ea eb ec e = record { no_other = ea; names_of_values = λ h. absurd (cc (h, eb)) }

test_from_known : (flags : ℕ) → AreKnown flags → are_known flags ≡ true
test_from_known flags known = go (is_set flags 128) (is_set flags 64) (is_set flags 1) refl refl refl
  where
    go : (a b c : Bool) → is_set flags 128 ≡ a → is_set flags 64 ≡ b → is_set flags 1 ≡ c → (not a && (not b || c)) ≡ true
    go true b c ea eb ec = absurd (cc (ea, known.no_other))
    go false true true ea eb ec = refl
    go false true false ea eb ec = absurd (cc (ec, known.names_of_values eb))
    go false false c ea eb ec = refl

-- a choice that did not fail
chosen_ok : {A : Type 0} (b : Bool) (r : Result A Fault) (x : A) → cond b r (Err BadFlag) ≡ Ok x → (b ≡ true) × (r ≡ Ok x)
chosen_ok true r x e = (refl, e)
chosen_ok false r x e = absurd (cc (e))

parameters_word : (bytes : List ℕ) (p : QueryParameters) (rest : List ℕ) → parameters_at bytes ≡ Ok (p, rest) → AreParameters bytes p rest
unfolding parameters_at
parameters_word bytes p rest e =
    let c = bind_ok (consistency_at bytes) (λ c. byte_at c.1 >>= λ f. cond (are_known f.0) (parts_at c.0 f.0 f.1) (Err BadFlag)) (p, rest) e in
    let f = bind_ok (byte_at c.0.1) (λ f. cond (are_known f.0) (parts_at c.0.0 f.0 f.1) (Err BadFlag)) (p, rest) c.2 in
    let g = chosen_ok (are_known f.0.0) (parts_at c.0.0 f.0.0 f.0.1) (p, rest) f.2 in
    let parts = parts_word c.0.0 f.0.0 f.0.1 p rest g.1 in
    record {
      behind_consistency = c.0.1;
      flags = f.0.0;
      behind_flags = f.0.1;
      consistency = subst (λ (k : Consistency). IsConsistency bytes k c.0.1) parts.1 (consistency_agrees.is_word bytes c.0.0 c.0.1 c.1);
      flags_byte = byte_agrees.is_word c.0.1 f.0.0 f.0.1 f.1;
      known = known_from_test f.0.0 g.0;
      parts = parts.0;
    }

parameters_read : (bytes : List ℕ) (p : QueryParameters) (rest : List ℕ) → AreParameters bytes p rest → parameters_at bytes ≡ Ok (p, rest)
unfolding parameters_at
parameters_read bytes p rest word =
    rw (consistency_agrees.is_read bytes p.consistency word.behind_consistency word.consistency, byte_agrees.is_read word.behind_consistency word.flags word.behind_flags word.flags_byte, test_from_known word.flags word.known)
    (parts_read word.flags word.behind_flags p rest word.parts)

pub parameters_agree : Agrees parameters_at AreParameters
parameters_agree = record { is_word = parameters_word; is_read = parameters_read }

-- ---- BATCH

statement_word : (kind : ℕ) (bytes : List ℕ) (s : BatchStatement) (rest : List ℕ) → statement_of kind bytes ≡ Ok (s, rest) → (start : List ℕ) → IsByte start kind bytes → IsStatement start s rest
statement_word kind bytes s rest e start byte = go (eqb kind 0) (eqb kind 1) refl refl e
  where
    go : (a b : Bool) → eqb kind 0 ≡ a → eqb kind 1 ≡ b
        → cond a (long_string_at bytes >>= made statements.Query) (cond b (short_bytes_at bytes >>= made statements.Prepared) (Err BadFlag)) ≡ Ok (s, rest) → IsStatement start s rest
    go true b ea eb e =
        let x = mapped_ok (long_string_at bytes) statements.Query s rest e in
        subst (λ (q : BatchStatement). IsStatement start q rest) x.2 (bytes, subst (λ (k : ℕ). IsByte start k bytes) (eqb-true kind 0 ea) byte, long_string_agrees.is_word bytes x.0 rest x.1)
    go false true ea eb e =
        let x = mapped_ok (short_bytes_at bytes) statements.Prepared s rest e in
        subst (λ (q : BatchStatement). IsStatement start q rest) x.2 (bytes, subst (λ (k : ℕ). IsByte start k bytes) (eqb-true kind 1 eb) byte, short_bytes_agrees.is_word bytes x.0 rest x.1)
    go false false ea eb e = absurd (cc (e))

statement_read : (bytes : List ℕ) (s : BatchStatement) (rest : List ℕ) → IsStatement bytes s rest → statement_at bytes ≡ Ok (s, rest)
unfolding statement_at
statement_read bytes (statements.Query query) rest word = rw (byte_agrees.is_read bytes 0 word.0 word.1, long_string_agrees.is_read word.0 query rest word.2) refl
statement_read bytes (statements.Prepared id) rest word = rw (byte_agrees.is_read bytes 1 word.0 word.1, short_bytes_agrees.is_read word.0 id rest word.2) refl

pub statement_agrees : Agrees statement_at IsStatement
unfolding statement_at
statement_agrees = record {
  is_word = λ bytes s rest e.
      let k = bind_ok (byte_at bytes) (λ k. statement_of k.0 k.1) (s, rest) e in
      statement_word k.0.0 k.0.1 s rest k.2 bytes (byte_agrees.is_word bytes k.0.0 k.0.1 k.1);
  is_read = statement_read;
}

pub entry_agrees : Agrees entry_at IsEntry
unfolding entry_at
entry_agrees = record {
  is_word = λ bytes p rest e.
      let t = two_ok statement_at (list_at value_at) IsStatement (IsList IsValue) statement_agrees list_of_values (λ (s : BatchStatement) (v : List Value). let q : BatchEntry = record { statement = s; values = v } in q) bytes p rest e in
      (t.2, subst (λ (q : BatchEntry). IsStatement bytes q.statement t.2) t.5 t.3, subst (λ (q : BatchEntry). IsList IsValue t.2 q.values rest) t.5 t.4);
  is_read = λ bytes p rest word. rw (statement_agrees.is_read bytes p.statement word.0 word.1, list_of_values.is_read word.0 p.values rest word.2) refl;
}

list_of_entries : Agrees (list_at entry_at) (IsList IsEntry)
list_of_entries = list_agrees entry_at IsEntry entry_agrees

kind_word : (code : ℕ) (kind : BatchKind) → batch_kind code ≡ Ok kind → code ≡ kind_code kind
kind_word code kind e = go (eqb code 0) (eqb code 1) refl refl e
  where
    go : (a b : Bool) → eqb code 0 ≡ a → eqb code 1 ≡ b → cond a (Ok batch_kinds.Logged) (cond b (Ok batch_kinds.Unlogged) (Err BadFlag)) ≡ Ok kind → code ≡ kind_code kind
    go true b ea eb e = eqb-true code 0 ea ∙ ap kind_code (ok_is batch_kinds.Logged kind e)
    go false true ea eb e = eqb-true code 1 eb ∙ ap kind_code (ok_is batch_kinds.Unlogged kind e)
    go false false ea eb e = absurd (cc (e))

kind_read : (kind : BatchKind) → batch_kind (kind_code kind) ≡ Ok kind
kind_read batch_kinds.Logged = refl
kind_read batch_kinds.Unlogged = refl

abbrev flags_pair : Bool × Bool → ℕ
flags_pair p = batch_flags_of p.0 p.1

flags_word : (flags : ℕ) (p : Bool × Bool) → batch_flags flags ≡ Ok p → flags ≡ batch_flags_of p.0 p.1
flags_word flags p e = go (eqb flags 0) (eqb flags 16) (eqb flags 32) (eqb flags 48) refl refl refl refl e
  where
    go : (a b c d : Bool) → eqb flags 0 ≡ a → eqb flags 16 ≡ b → eqb flags 32 ≡ c → eqb flags 48 ≡ d
        → cond a (Ok (false, false)) (cond b (Ok (true, false)) (cond c (Ok (false, true)) (cond d (Ok (true, true)) (Err BadFlag)))) ≡ Ok p → flags ≡ batch_flags_of p.0 p.1
    go true b c d ea eb ec ed e = eqb-true flags 0 ea ∙ ap flags_pair (ok_is (false, false) p e)
    go false true c d ea eb ec ed e = eqb-true flags 16 eb ∙ ap flags_pair (ok_is (true, false) p e)
    go false false true d ea eb ec ed e = eqb-true flags 32 ec ∙ ap flags_pair (ok_is (false, true) p e)
    go false false false true ea eb ec ed e = eqb-true flags 48 ed ∙ ap flags_pair (ok_is (true, true) p e)
    go false false false false ea eb ec ed e = absurd (cc (e))

flags_read : (a b : Bool) → batch_flags (batch_flags_of a b) ≡ Ok (a, b)
flags_read false false = refl
flags_read true false = refl
flags_read false true = refl
flags_read true true = refl

-- a part is there exactly where it was announced
part_is_there : {A : Type 0} (set : Bool) (N : List ℕ → A → List ℕ → Type 0) (bytes : List ℕ) (o : Option A) (rest : List ℕ) → IsPart set N bytes o rest → set ≡ is_some o
part_is_there {A} set N bytes None rest word = word.0
part_is_there set N bytes (Some x) rest word = word.0

-- what stands behind the entries of a batch
record IsBatchEnd (bytes : List ℕ) (b : BatchEnd) (rest : List ℕ) : Type 0 where
  behind_consistency : List ℕ
  behind_flags : List ℕ
  behind_serial : List ℕ
  consistency : IsConsistency bytes b.consistency behind_consistency
  flags : IsByte behind_consistency (batch_flags_of (is_some b.serial_consistency) (is_some b.timestamp)) behind_flags
  serial : IsPart (is_some b.serial_consistency) IsConsistency behind_flags b.serial_consistency behind_serial
  timestamp : IsPart (is_some b.timestamp) IsLong behind_serial b.timestamp rest

batch_end_word : (bytes : List ℕ) (b : BatchEnd) (rest : List ℕ) → batch_end_at bytes ≡ Ok (b, rest) → IsBatchEnd bytes b rest
unfolding batch_end_at
batch_end_word bytes b rest e =
    let result : Consistency → Option Consistency → Option ℤ → BatchEnd = λ c s t. record { consistency = c; serial_consistency = s; timestamp = t } in
    let c = bind_ok (consistency_at bytes) (λ c. byte_at c.1 >>= λ f. batch_flags f.0 >>= λ p. part_at p.0 consistency_at f.1 >>= λ s. part_at p.1 long_at s.1 >>= λ t. Ok (result c.0 s.0 t.0, t.1)) (b, rest) e in
    let f = bind_ok (byte_at c.0.1) (λ f. batch_flags f.0 >>= λ p. part_at p.0 consistency_at f.1 >>= λ s. part_at p.1 long_at s.1 >>= λ t. Ok (result c.0.0 s.0 t.0, t.1)) (b, rest) c.2 in
    let p = bind_ok (batch_flags f.0.0) (λ p. part_at p.0 consistency_at f.0.1 >>= λ s. part_at p.1 long_at s.1 >>= λ t. Ok (result c.0.0 s.0 t.0, t.1)) (b, rest) f.2 in
    let s = bind_ok (part_at p.0.0 consistency_at f.0.1) (λ s. part_at p.0.1 long_at s.1 >>= λ t. Ok (result c.0.0 s.0 t.0, t.1)) (b, rest) p.2 in
    let t = bind_ok (part_at p.0.1 long_at s.0.1) (λ t. Ok (result c.0.0 s.0.0 t.0, t.1)) (b, rest) s.2 in
    let serial = (part_agrees consistency_at IsConsistency consistency_agrees p.0.0).is_word f.0.1 s.0.0 s.0.1 s.1 in
    let stamp = (part_agrees long_at IsLong long_agrees p.0.1).is_word s.0.1 t.0.0 t.0.1 t.1 in
    let e0 : p.0.0 ≡ is_some s.0.0 = part_is_there p.0.0 IsConsistency f.0.1 s.0.0 s.0.1 serial in
    let e1 : p.0.1 ≡ is_some t.0.0 = part_is_there p.0.1 IsLong s.0.1 t.0.0 t.0.1 stamp in
    let whole : BatchEnd × List ℕ = (result c.0.0 s.0.0 t.0.0, t.0.1) in
    subst (λ (q : BatchEnd × List ℕ). IsBatchEnd bytes q.0 q.1) (ok_is whole (b, rest) t.2) (record {
      behind_consistency = c.0.1;
      behind_flags = f.0.1;
      behind_serial = s.0.1;
      consistency = consistency_agrees.is_word bytes c.0.0 c.0.1 c.1;
      flags = subst (λ (k : ℕ). IsByte c.0.1 k f.0.1) (flags_word f.0.0 p.0 p.1 ∙ ap (λ (x : Bool). batch_flags_of x p.0.1) e0 ∙ ap (λ (x : Bool). batch_flags_of (is_some s.0.0) x) e1) (byte_agrees.is_word c.0.1 f.0.0 f.0.1 f.1);
      serial = subst (λ (x : Bool). IsPart x IsConsistency f.0.1 s.0.0 s.0.1) e0 serial;
      timestamp = subst (λ (x : Bool). IsPart x IsLong s.0.1 t.0.0 t.0.1) e1 stamp;
    })

batch_end_read : (bytes : List ℕ) (b : BatchEnd) (rest : List ℕ) → IsBatchEnd bytes b rest → batch_end_at bytes ≡ Ok (b, rest)
unfolding batch_end_at
batch_end_read bytes b rest word =
    rw (
      consistency_agrees.is_read bytes b.consistency word.behind_consistency word.consistency,
      byte_agrees.is_read word.behind_consistency (batch_flags_of (is_some b.serial_consistency) (is_some b.timestamp)) word.behind_flags word.flags,
      flags_read (is_some b.serial_consistency) (is_some b.timestamp),
      (part_agrees consistency_at IsConsistency consistency_agrees (is_some b.serial_consistency)).is_read word.behind_flags b.serial_consistency word.behind_serial word.serial,
      (part_agrees long_at IsLong long_agrees (is_some b.timestamp)).is_read word.behind_serial b.timestamp rest word.timestamp,
    ) refl

abbrev end_of : Batch → BatchEnd
end_of b = record { consistency = b.consistency; serial_consistency = b.serial_consistency; timestamp = b.timestamp }

batch_word : (bytes : List ℕ) (b : Batch) (rest : List ℕ) → batch_at bytes ≡ Ok (b, rest) → IsBatch bytes b rest
unfolding batch_at
batch_word bytes b rest e =
    let result : BatchKind → List BatchEntry → BatchEnd → Batch = λ k es x. record { kind = k; entries = es; consistency = x.consistency; serial_consistency = x.serial_consistency; timestamp = x.timestamp } in
    let c = bind_ok (byte_at bytes) (λ c. batch_kind c.0 >>= λ k. list_at entry_at c.1 >>= λ es. batch_end_at es.1 >>= λ x. Ok (result k es.0 x.0, x.1)) (b, rest) e in
    let k = bind_ok (batch_kind c.0.0) (λ k. list_at entry_at c.0.1 >>= λ es. batch_end_at es.1 >>= λ x. Ok (result k es.0 x.0, x.1)) (b, rest) c.2 in
    let es = bind_ok (list_at entry_at c.0.1) (λ es. batch_end_at es.1 >>= λ x. Ok (result k.0 es.0 x.0, x.1)) (b, rest) k.2 in
    let x = bind_ok (batch_end_at es.0.1) (λ x. Ok (result k.0 es.0.0 x.0, x.1)) (b, rest) es.2 in
    let end = batch_end_word es.0.1 x.0.0 x.0.1 x.1 in
    let whole : Batch × List ℕ = (result k.0 es.0.0 x.0.0, x.0.1) in
    subst (λ (q : Batch × List ℕ). IsBatch bytes q.0 q.1) (ok_is whole (b, rest) x.2) (record {
      behind_kind = c.0.1;
      behind_entries = es.0.1;
      behind_consistency = end.behind_consistency;
      behind_flags = end.behind_flags;
      behind_serial = end.behind_serial;
      kind = subst (λ (n : ℕ). IsByte bytes n c.0.1) (kind_word c.0.0 k.0 k.1) (byte_agrees.is_word bytes c.0.0 c.0.1 c.1);
      entries = list_of_entries.is_word c.0.1 es.0.0 es.0.1 es.1;
      consistency = end.consistency;
      flags = end.flags;
      serial = end.serial;
      timestamp = end.timestamp;
    })

batch_read : (bytes : List ℕ) (b : Batch) (rest : List ℕ) → IsBatch bytes b rest → batch_at bytes ≡ Ok (b, rest)
unfolding batch_at
batch_read bytes b rest word =
    let end : IsBatchEnd word.behind_entries (end_of b) rest = record {
      behind_consistency = word.behind_consistency;
      behind_flags = word.behind_flags;
      behind_serial = word.behind_serial;
      consistency = word.consistency;
      flags = word.flags;
      serial = word.serial;
      timestamp = word.timestamp;
    } in
    rw (byte_agrees.is_read bytes (kind_code b.kind) word.behind_kind word.kind, kind_read b.kind, list_of_entries.is_read word.behind_kind b.entries word.behind_entries word.entries, batch_end_read word.behind_entries (end_of b) rest end) refl

pub batch_agrees : Agrees batch_at IsBatch
batch_agrees = record { is_word = batch_word; is_read = batch_read }

-- ---- custom payloads

behind_ok : {A : Type 0} (read : Read A) (rest : List ℕ) → behind read ≡ Ok rest → (x : A) × (read ≡ Ok (x, rest))
behind_ok {A} (Ok x) rest e = (x.0, ap (λ (r : List ℕ). Ok (x.0, r)) (ok_is x.1 rest e))
behind_ok (Err d) rest e = absurd (cc (e))

entry_behind : (bytes rest : List ℕ) → behind_entry bytes ≡ Ok rest → (x : List ℕ × Option (List ℕ)) × IsPayloadEntry bytes x rest
entry_behind bytes rest e =
    let a = bind_ok (behind (string_at bytes)) (λ r. behind (bytes_at r)) rest e in
    let name = behind_ok (string_at bytes) a.0 a.1 in
    let content = behind_ok (bytes_at a.0) rest a.2 in
    ((name.0, content.0), (a.0, string_agrees.is_word bytes name.0 a.0 name.1, bytes_agrees.is_word a.0 content.0 rest content.1))

entry_passed : (bytes : List ℕ) (x : List ℕ × Option (List ℕ)) (rest : List ℕ) → IsPayloadEntry bytes x rest → behind_entry bytes ≡ Ok rest
entry_passed bytes x rest word = rw (string_agrees.is_read bytes x.0 word.0 word.1, bytes_agrees.is_read word.0 x.1 rest word.2) refl

entries_behind : (n : ℕ) (bytes rest : List ℕ) → behind_entries n bytes ≡ Ok rest → (xs : List (List ℕ × Option (List ℕ))) × AreWords IsPayloadEntry bytes xs rest × (n ≡ length xs)
unfolding behind_entries
entries_behind zero bytes rest e = ([], ok_is bytes rest e, refl)
entries_behind (suc n) bytes rest e =
    let a = bind_ok (behind_entry bytes) (λ r. behind_entries n r) rest e in
    let x = entry_behind bytes a.0 a.1 in
    let xs = entries_behind n a.0 rest a.2 in
    (x.0 ∷ xs.0, (a.0, x.1, xs.1), ap suc xs.2)

entries_passed : (bytes : List ℕ) (xs : List (List ℕ × Option (List ℕ))) (rest : List ℕ) → AreWords IsPayloadEntry bytes xs rest → behind_entries (length xs) bytes ≡ Ok rest
unfolding behind_entries
entries_passed bytes [] rest word = ap Ok word
entries_passed bytes (x ∷ xs) rest word = rw (entry_passed bytes x word.0 word.1) (entries_passed word.0 xs rest word.2)

pub payload_word : (set : Bool) (bytes rest : List ℕ) → payload_at set bytes ≡ Ok rest → IsPayload set bytes rest
payload_word false bytes rest e = ok_is bytes rest e
payload_word true bytes rest e =
    let n = bind_ok (short_at bytes) (λ n. behind_entries n.0 n.1) rest e in
    let xs = entries_behind n.0.0 n.0.1 rest n.2 in
    (xs.0, (n.0.1, subst (λ (k : ℕ). IsShort bytes k n.0.1) xs.2 (short_agrees.is_word bytes n.0.0 n.0.1 n.1), xs.1))

pub payload_passed : (set : Bool) (bytes rest : List ℕ) → IsPayload set bytes rest → payload_at set bytes ≡ Ok rest
payload_passed false bytes rest word = ap Ok word
payload_passed true bytes rest word = rw (short_agrees.is_read bytes (length word.0) word.1.0 word.1.1) (entries_passed word.1.0 word.0 rest word.1.2)

-- ---- requests

pub query_agrees : Agrees query_at IsQuery
unfolding query_at
query_agrees = record {
  is_word = λ bytes p rest e.
      let t = two_ok long_string_at parameters_at IsLongString AreParameters long_string_agrees parameters_agree (λ (s : List ℕ) (v : QueryParameters). let q : Query = record { query = s; parameters = v } in q) bytes p rest e in
      (t.2, subst (λ (q : Query). IsLongString bytes q.query t.2) t.5 t.3, subst (λ (q : Query). AreParameters t.2 q.parameters rest) t.5 t.4);
  is_read = λ bytes p rest word. rw (long_string_agrees.is_read bytes p.query word.0 word.1, parameters_agree.is_read word.0 p.parameters rest word.2) refl;
}

pub execute_agrees : Agrees execute_at IsExecute
unfolding execute_at
execute_agrees = record {
  is_word = λ bytes p rest e.
      let t = two_ok short_bytes_at parameters_at IsShortBytes AreParameters short_bytes_agrees parameters_agree (λ (s : List ℕ) (v : QueryParameters). let q : Execute = record { id = s; parameters = v } in q) bytes p rest e in
      (t.2, subst (λ (q : Execute). IsShortBytes bytes q.id t.2) t.5 t.3, subst (λ (q : Execute). AreParameters t.2 q.parameters rest) t.5 t.4);
  is_read = λ bytes p rest word. rw (short_bytes_agrees.is_read bytes p.id word.0 word.1, parameters_agree.is_read word.0 p.parameters rest word.2) refl;
}

list_of_pairs : Agrees (list_at pair_at) (IsList IsPair)
list_of_pairs = list_agrees pair_at IsPair pair_agrees

list_of_strings : Agrees (list_at string_at) (IsList IsString)
list_of_strings = list_agrees string_at IsString string_agrees

-- the code of a kind of request
abbrev code_of_kind : RequestKind → ℕ
code_of_kind kinds.Startup = 1
code_of_kind kinds.Options = 5
code_of_kind kinds.Query = 7
code_of_kind kinds.Prepare = 9
code_of_kind kinds.Execute = 10
code_of_kind kinds.Register = 11
code_of_kind kinds.Batch = 13

abbrev kind_of_request : Request → RequestKind
kind_of_request (requests.Startup options) = kinds.Startup
kind_of_request requests.Options = kinds.Options
kind_of_request (requests.Query q) = kinds.Query
kind_of_request (requests.Prepare query) = kinds.Prepare
kind_of_request (requests.Execute e) = kinds.Execute
kind_of_request (requests.Register events) = kinds.Register
kind_of_request (requests.Batch b) = kinds.Batch

body_word : (kind : RequestKind) (bytes : List ℕ) (r : Request) (rest : List ℕ) → body_at kind bytes ≡ Ok (r, rest) → IsBody bytes r rest × (opcode_of r ≡ code_of_kind kind)
body_word kinds.Startup bytes r rest e =
    let x = mapped_ok (list_at pair_at bytes) requests.Startup r rest e in
    subst (λ (q : Request). IsBody bytes q rest × (opcode_of q ≡ 1)) x.2 (list_of_pairs.is_word bytes x.0 rest x.1, refl)
body_word kinds.Options bytes r rest e =
    let q : Request × List ℕ = (requests.Options, bytes) in
    subst (λ (q : Request × List ℕ). IsBody bytes q.0 q.1 × (opcode_of q.0 ≡ 5)) (ok_is q (r, rest) e) (refl, refl)
body_word kinds.Query bytes r rest e =
    let x = mapped_ok (query_at bytes) requests.Query r rest e in
    subst (λ (q : Request). IsBody bytes q rest × (opcode_of q ≡ 7)) x.2 (query_agrees.is_word bytes x.0 rest x.1, refl)
body_word kinds.Prepare bytes r rest e =
    let x = mapped_ok (long_string_at bytes) requests.Prepare r rest e in
    subst (λ (q : Request). IsBody bytes q rest × (opcode_of q ≡ 9)) x.2 (long_string_agrees.is_word bytes x.0 rest x.1, refl)
body_word kinds.Execute bytes r rest e =
    let x = mapped_ok (execute_at bytes) requests.Execute r rest e in
    subst (λ (q : Request). IsBody bytes q rest × (opcode_of q ≡ 10)) x.2 (execute_agrees.is_word bytes x.0 rest x.1, refl)
body_word kinds.Register bytes r rest e =
    let x = mapped_ok (list_at string_at bytes) requests.Register r rest e in
    subst (λ (q : Request). IsBody bytes q rest × (opcode_of q ≡ 11)) x.2 (list_of_strings.is_word bytes x.0 rest x.1, refl)
body_word kinds.Batch bytes r rest e =
    let x = mapped_ok (batch_at bytes) requests.Batch r rest e in
    subst (λ (q : Request). IsBody bytes q rest × (opcode_of q ≡ 13)) x.2 (batch_agrees.is_word bytes x.0 rest x.1, refl)

body_read : (bytes : List ℕ) (r : Request) (rest : List ℕ) → IsBody bytes r rest → body_at (kind_of_request r) bytes ≡ Ok (r, rest)
body_read bytes (requests.Startup options) rest word = rw (list_of_pairs.is_read bytes options rest word) refl
body_read bytes requests.Options rest word = ap (λ (b : List ℕ). Ok (requests.Options, b)) word
body_read bytes (requests.Query q) rest word = rw (query_agrees.is_read bytes q rest word) refl
body_read bytes (requests.Prepare query) rest word = rw (long_string_agrees.is_read bytes query rest word) refl
body_read bytes (requests.Execute x) rest word = rw (execute_agrees.is_read bytes x rest word) refl
body_read bytes (requests.Register events) rest word = rw (list_of_strings.is_read bytes events rest word) refl
body_read bytes (requests.Batch b) rest word = rw (batch_agrees.is_read bytes b rest word) refl

kind_known : (r : Request) → kind_of (opcode_of r) ≡ Some (kind_of_request r)
kind_known (requests.Startup options) = refl
kind_known requests.Options = refl
kind_known (requests.Query q) = refl
kind_known (requests.Prepare query) = refl
kind_known (requests.Execute x) = refl
kind_known (requests.Register events) = refl
kind_known (requests.Batch b) = refl

-- one test of the table of opcodes
tested : (opcode k : ℕ) (x kind : RequestKind) (others : Option RequestKind) → code_of_kind x ≡ k → cond (eqb opcode k) (Some x) others ≡ Some kind → (others ≡ Some kind → opcode ≡ code_of_kind kind) → opcode ≡ code_of_kind kind
tested opcode k x kind others is e next = go (eqb opcode k) refl e
  where
    go : (b : Bool) → eqb opcode k ≡ b → cond b (Some x) others ≡ Some kind → opcode ≡ code_of_kind kind
    go true t e = let same : x ≡ kind = cc (e) in eqb-true opcode k t ∙ sym is ∙ ap code_of_kind same
    go false t e = next e

opcode_known : (opcode : ℕ) (kind : RequestKind) → kind_of opcode ≡ Some kind → opcode ≡ code_of_kind kind
opcode_known opcode kind e =
    tested opcode 1 kinds.Startup kind _ refl e (λ e. tested opcode 5 kinds.Options kind _ refl e (λ e. tested opcode 7 kinds.Query kind _ refl e (λ e. tested opcode 9 kinds.Prepare kind _ refl e
    (λ e. tested opcode 10 kinds.Execute kind _ refl e (λ e. tested opcode 11 kinds.Register kind _ refl e (λ e. tested opcode 13 kinds.Batch kind _ refl e (λ e. absurd (cc (e)))))))))

pub request_word : (flags opcode : ℕ) (bytes : List ℕ) (r : Request) → request_in flags opcode bytes ≡ Ok r → IsRequest flags opcode bytes r
request_word flags opcode bytes r e = go (kind_of opcode) refl e
  where
    go : (o : Option RequestKind) → kind_of opcode ≡ o → request_of flags opcode bytes o ≡ Ok r → IsRequest flags opcode bytes r
    go None k e = absurd (cc (e))
    go (Some kind) k e =
        let read = whole_ok (length bytes) (framed_at flags kind bytes) r e in
        let p = bind_ok (payload_at (is_set flags 4) bytes) (λ rest. body_at kind rest) (r, []) read in
        let body = body_word kind p.0 r [] p.2 in
        record { behind_payload = p.0; of_opcode = opcode_known opcode kind k ∙ sym body.1; payload = payload_word (is_set flags 4) bytes p.0 p.1; body = body.0 }

pub request_read : (flags opcode : ℕ) (bytes : List ℕ) (r : Request) → IsRequest flags opcode bytes r → request_in flags opcode bytes ≡ Ok r
request_read flags opcode bytes r word =
    let framed : framed_at flags (kind_of_request r) bytes ≡ Ok (r, []) = rw (payload_passed (is_set flags 4) bytes word.behind_payload word.payload) (body_read word.behind_payload r [] word.body) in
    ap (λ (k : ℕ). request_of flags opcode bytes (kind_of k)) word.of_opcode
    ∙ ap (request_of flags opcode bytes) (kind_known r)
    ∙ ap (whole (length bytes)) framed
