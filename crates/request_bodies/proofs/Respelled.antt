-- Where bytes are the body of a request, they are what is written for it.
use Rattle.std.proofs.Common.{◌≡◌, ℕ, suc, Bool, true, false, List, [], ◌∷◌, ◌++◌, Option, Some, None, refl, sym, ap, subst, ◌∙◌, append_assoc}
use Rattle.std.specs.Prelude.{is_some}
use Rattle.std.proofs.lemmas.List.{append-nil}
use Rattle.body_notations.specs.Notations.{AreBytes, IsInt, IsLong, IsConsistency, IsString, IsLongString, IsShortBytes, IsBytes, IsValue, IsList, IsPart}
use Rattle.body_notations.specs.Reading.{is_set}
use Rattle.body_notations.specs.Spelling.{int, long, consistency, string, long_string, short_bytes, bytes as bytes_or_null, value, list, part, Always, PartFits, IsNotNull}
use Rattle.body_notations.proofs.Respelled.{Respells, AreBytes-rest, int_respells, long_respells, consistency_respells, string_respells, long_string_respells, short_bytes_respells, bytes_respells, value_respells, list_respells, part_back, two_back, all_always}
use Rattle.request_bodies.specs.declared.parameters.Values.{Values}
use Rattle.request_bodies.specs.declared.parameters.Values.TheVariants as given
use Rattle.request_bodies.specs.declared.parameters.QueryParameters.{QueryParameters}
use Rattle.request_bodies.specs.declared.batch.BatchStatement.{BatchStatement}
use Rattle.request_bodies.specs.declared.batch.BatchStatement.TheVariants as statements
use Rattle.request_bodies.specs.declared.batch.Batch.{Batch}
use Rattle.request_bodies.specs.declared.request.Request.{Request}
use Rattle.request_bodies.specs.declared.request.Request.TheVariants as requests
use Rattle.request_bodies.specs.Requests.{IsPair, IsNamedValue, AreValues, AreParts, AreParameters, IsStatement, IsEntry, IsBatch, IsPayload, IsBody, opcode_of, IsRequest}
use Rattle.request_bodies.specs.Spelling.{pair, named_value, values, flags_of, parts, parameters, statement, entry, kind_code, batch_flags_of, batch_end, batch, body, HasOneSpelling}
use Rattle.request_bodies.proofs.Flags.{is_present, is_named, FlagsTell, flags_same}

pub pair_respells : Respells IsPair pair Always
pair_respells = record { back = λ bytes p rest small always word. two_back IsString IsString string string Always Always string_respells string_respells bytes p.key word.0 p.value rest small tt tt word.1 word.2 }

pub named_value_respells : Respells IsNamedValue named_value Always
named_value_respells = record { back = λ bytes v rest small always word. two_back IsString IsValue string value Always Always string_respells value_respells bytes v.name word.0 v.value rest small tt tt word.1 word.2 }

list_back : {A : Type 0} (N : List ℕ → A → List ℕ → Type 0) (spelling : A → List ℕ) → Respells N spelling Always → Respells (IsList N) (list spelling) Always
list_back {A} N spelling respells = record { back = λ bytes xs rest small always word. (list_respells N spelling Always respells).back bytes xs rest small (all_always xs) word }

values_back : (present named : Bool) (bytes : List ℕ) (vs : Values) (rest : List ℕ) → AreBytes bytes → AreValues present named bytes vs rest → bytes ≡ values vs ++ rest
values_back present named bytes given.Absent rest small word = word.1
values_back present named bytes (given.ByPlace vs) rest small word = (list_back IsValue value value_respells).back bytes vs rest small tt word.2
values_back present named bytes (given.ByName vs) rest small word = (list_back IsNamedValue named_value named_value_respells).back bytes vs rest small tt word.2

always_fits : {A : Type 0} (o : Option A) → PartFits Always o
always_fits {A} None = tt
always_fits (Some x) = tt

five : (a b c d e rest : List ℕ) → a ++ (b ++ (c ++ (d ++ (e ++ rest)))) ≡ ((((a ++ b) ++ c) ++ d) ++ e) ++ rest
five a b c d e rest = sym (simp append_assoc)

parts_back : (flags : ℕ) (bytes : List ℕ) (p : QueryParameters) (rest : List ℕ) → AreBytes bytes → PartFits IsNotNull p.paging_state → AreParts flags bytes p rest → bytes ≡ parts p ++ rest
parts_back flags bytes p rest small given word =
    let a = values_back (is_set flags 1) (is_set flags 64) bytes p.values word.behind_values small word.values in
    let small_a = AreBytes-rest bytes (values p.values) word.behind_values small a in
    let b = part_back IsInt int Always int_respells (is_set flags 4) word.behind_values p.page_size word.behind_page_size small_a (always_fits p.page_size) word.page_size in
    let small_b = AreBytes-rest word.behind_values (part int p.page_size) word.behind_page_size small_a b in
    let c = part_back IsBytes bytes_or_null IsNotNull bytes_respells (is_set flags 8) word.behind_page_size p.paging_state word.behind_paging_state small_b given word.paging_state in
    let small_c = AreBytes-rest word.behind_page_size (part bytes_or_null p.paging_state) word.behind_paging_state small_b c in
    let d = part_back IsConsistency consistency Always consistency_respells (is_set flags 16) word.behind_paging_state p.serial_consistency word.behind_serial small_c (always_fits p.serial_consistency) word.serial in
    let small_d = AreBytes-rest word.behind_paging_state (part consistency p.serial_consistency) word.behind_serial small_c d in
    let e = part_back IsLong long Always long_respells (is_set flags 32) word.behind_serial p.timestamp rest small_d (always_fits p.timestamp) word.timestamp in
    a ∙ ap (λ (x : List ℕ). values p.values ++ x) (b ∙ ap (λ (x : List ℕ). part int p.page_size ++ x) (c ∙ ap (λ (x : List ℕ). part bytes_or_null p.paging_state ++ x) (d ∙ ap (λ (x : List ℕ). part consistency p.serial_consistency ++ x) e)))
    ∙ five (values p.values) (part int p.page_size) (part bytes_or_null p.paging_state) (part consistency p.serial_consistency) (part long p.timestamp) rest

part_tells : {A : Type 0} (set : Bool) (N : List ℕ → A → List ℕ → Type 0) (bytes : List ℕ) (o : Option A) (rest : List ℕ) → IsPart set N bytes o rest → set ≡ is_some o
part_tells {A} set N bytes None rest word = word.0
part_tells set N bytes (Some x) rest word = word.0

values_tell : (present named : Bool) (bytes : List ℕ) (vs : Values) (rest : List ℕ) → (named ≡ true → present ≡ true) → AreValues present named bytes vs rest → (present ≡ is_present vs) × (named ≡ is_named vs)
values_tell present true bytes given.Absent rest names word = absurd (cc (names refl, word.0))
values_tell present false bytes given.Absent rest names word = (word.0, refl)
values_tell present named bytes (given.ByPlace vs) rest names word = (word.0, word.1)
values_tell present named bytes (given.ByName vs) rest names word = (word.0, word.1)

parameters_back : (bytes : List ℕ) (p : QueryParameters) (rest : List ℕ) → AreBytes bytes → PartFits IsNotNull p.paging_state → AreParameters bytes p rest → bytes ≡ parameters p ++ rest
parameters_back bytes p rest small given word =
    let a = consistency_respells.back bytes p.consistency word.behind_consistency small tt word.consistency in
    let small_a = AreBytes-rest bytes (consistency p.consistency) word.behind_consistency small a in
    let small_f = subst AreBytes word.flags_byte small_a in
    let b = parts_back word.flags word.behind_flags p rest (λ i. small_f (suc i)) given word.parts in
    let vs = values_tell (is_set word.flags 1) (is_set word.flags 64) word.behind_flags p.values word.parts.behind_values word.known.names_of_values word.parts.values in
    let told : FlagsTell word.flags p = record {
      present = vs.0;
      named = vs.1;
      skip_metadata = sym word.parts.skip_metadata;
      page_size = part_tells (is_set word.flags 4) IsInt word.parts.behind_values p.page_size word.parts.behind_page_size word.parts.page_size;
      paging_state = part_tells (is_set word.flags 8) IsBytes word.parts.behind_page_size p.paging_state word.parts.behind_paging_state word.parts.paging_state;
      serial = part_tells (is_set word.flags 16) IsConsistency word.parts.behind_paging_state p.serial_consistency word.parts.behind_serial word.parts.serial;
      timestamp = part_tells (is_set word.flags 32) IsLong word.parts.behind_serial p.timestamp rest word.parts.timestamp;
      no_other = word.known.no_other;
    } in
    let f = flags_same word.flags p (small_f 0) word.known told in
    a ∙ ap (λ (x : List ℕ). consistency p.consistency ++ x) (word.flags_byte ∙ ap (λ (n : ℕ). n ∷ word.behind_flags) f ∙ ap (λ (x : List ℕ). flags_of p ∷ x) b)
    ∙ sym (append_assoc (consistency p.consistency) (flags_of p ∷ parts p) rest)

pub parameters_respells : Respells AreParameters parameters (λ p. PartFits IsNotNull p.paging_state)
parameters_respells = record { back = parameters_back }

statement_back : (bytes : List ℕ) (s : BatchStatement) (rest : List ℕ) → AreBytes bytes → IsStatement bytes s rest → bytes ≡ statement s ++ rest
statement_back bytes (statements.Query query) rest small word =
    word.1 ∙ ap (λ (x : List ℕ). 0 ∷ x) (long_string_respells.back word.0 query rest (AreBytes-rest bytes (0 ∷ []) word.0 small word.1) tt word.2)
statement_back bytes (statements.Prepared id) rest small word =
    word.1 ∙ ap (λ (x : List ℕ). 1 ∷ x) (short_bytes_respells.back word.0 id rest (AreBytes-rest bytes (1 ∷ []) word.0 small word.1) tt word.2)

statement_respells : Respells IsStatement statement Always
statement_respells = record { back = λ bytes s rest small always word. statement_back bytes s rest small word }

pub entry_respells : Respells IsEntry entry Always
entry_respells = record {
  back = λ bytes e rest small always word.
      two_back IsStatement (IsList IsValue) statement (list value) Always Always statement_respells (list_back IsValue value value_respells) bytes e.statement word.0 e.values rest small tt tt word.1 word.2;
}

batch_back : (bytes : List ℕ) (b : Batch) (rest : List ℕ) → AreBytes bytes → IsBatch bytes b rest → bytes ≡ batch b ++ rest
batch_back bytes b rest small word =
    let flags = batch_flags_of (is_some b.serial_consistency) (is_some b.timestamp) in
    let small_k = AreBytes-rest bytes (kind_code b.kind ∷ []) word.behind_kind small word.kind in
    let es = (list_back IsEntry entry entry_respells).back word.behind_kind b.entries word.behind_entries small_k tt word.entries in
    let small_e = AreBytes-rest word.behind_kind (list entry b.entries) word.behind_entries small_k es in
    let c = consistency_respells.back word.behind_entries b.consistency word.behind_consistency small_e tt word.consistency in
    let small_c = AreBytes-rest word.behind_entries (consistency b.consistency) word.behind_consistency small_e c in
    let small_f = AreBytes-rest word.behind_consistency (flags ∷ []) word.behind_flags small_c word.flags in
    let s = part_back IsConsistency consistency Always consistency_respells (is_some b.serial_consistency) word.behind_flags b.serial_consistency word.behind_serial small_f (always_fits b.serial_consistency) word.serial in
    let small_s = AreBytes-rest word.behind_flags (part consistency b.serial_consistency) word.behind_serial small_f s in
    let t = part_back IsLong long Always long_respells (is_some b.timestamp) word.behind_serial b.timestamp rest small_s (always_fits b.timestamp) word.timestamp in
    let ends : word.behind_flags ≡ (part consistency b.serial_consistency ++ part long b.timestamp) ++ rest =
    s ∙ ap (λ (x : List ℕ). part consistency b.serial_consistency ++ x) t ∙ sym (append_assoc (part consistency b.serial_consistency) (part long b.timestamp) rest) in
    let end_is : word.behind_entries ≡ batch_end b ++ rest =
    c ∙ ap (λ (x : List ℕ). consistency b.consistency ++ x) (word.flags ∙ ap (λ (x : List ℕ). flags ∷ x) ends)
    ∙ sym (append_assoc (consistency b.consistency) (flags ∷ (part consistency b.serial_consistency ++ part long b.timestamp)) rest) in
    word.kind ∙ ap (λ (x : List ℕ). kind_code b.kind ∷ x) (es ∙ ap (λ (x : List ℕ). list entry b.entries ++ x) end_is ∙ sym (append_assoc (list entry b.entries) (batch_end b) rest))

body_back : (bytes : List ℕ) (r : Request) (rest : List ℕ) → AreBytes bytes → HasOneSpelling r → IsBody bytes r rest → bytes ≡ body r ++ rest
body_back bytes (requests.Startup options) rest small one word = (list_back IsPair pair pair_respells).back bytes options rest small tt word
body_back bytes requests.Options rest small one word = word
body_back bytes (requests.Query q) rest small one word =
    two_back IsLongString AreParameters long_string parameters Always (λ p. PartFits IsNotNull p.paging_state) long_string_respells parameters_respells bytes q.query word.0 q.parameters rest small tt one word.1 word.2
body_back bytes (requests.Prepare query) rest small one word = long_string_respells.back bytes query rest small tt word
body_back bytes (requests.Execute e) rest small one word =
    two_back IsShortBytes AreParameters short_bytes parameters Always (λ p. PartFits IsNotNull p.paging_state) short_bytes_respells parameters_respells bytes e.id word.0 e.parameters rest small tt one word.1 word.2
body_back bytes (requests.Register events) rest small one word = (list_back IsString string string_respells).back bytes events rest small tt word
body_back bytes (requests.Batch b) rest small one word = batch_back bytes b rest small word

pub request_respelled : (flags opcode : ℕ) (bytes : List ℕ) (r : Request) → is_set flags 4 ≡ false → AreBytes bytes → HasOneSpelling r → IsRequest flags opcode bytes r → (opcode ≡ opcode_of r) × (bytes ≡ body r)
request_respelled flags opcode bytes r unset small one word =
    let same : bytes ≡ word.behind_payload = subst (λ (b : Bool). IsPayload b bytes word.behind_payload) unset word.payload in
    (word.of_opcode, same ∙ body_back word.behind_payload r [] (subst AreBytes same small) one word.body ∙ append-nil (body r))
