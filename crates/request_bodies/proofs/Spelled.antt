-- What is written of a request is a word of the grammar, whatever follows it.
use Rattle.std.proofs.Common.{◌≡◌, ℕ, Bool, false, List, [], ◌∷◌, ◌++◌, Option, Some, None, refl, sym, ap, subst, ◌∙◌, append_assoc}
use Rattle.std.specs.Prelude.{is_some}
use Rattle.std.proofs.lemmas.List.{append-nil}
use Rattle.body_notations.specs.Notations.{IsInt, IsLong, IsConsistency, IsString, IsLongString, IsShortBytes, IsBytes, IsValue, IsList}
use Rattle.body_notations.specs.Reading.{is_set}
use Rattle.body_notations.specs.Spelling.{int, long, consistency, string, long_string, short_bytes, bytes as bytes_or_null, value, list, part, Always, FitsShort, BytesFit, ValueFits, ListFits, PartFits, IsIntNumber, IsLongNumber, IsStringText, IsLongStringText}
use Rattle.body_notations.proofs.Spelled.{IsSpelled, int_spelled, long_spelled, consistency_spelled, string_spelled, long_string_spelled, short_bytes_spelled, bytes_spelled, value_spelled, list_spelled, part_spelled, two_spelled}
use Rattle.request_bodies.specs.declared.parameters.Values.{Values}
use Rattle.request_bodies.specs.declared.parameters.Values.TheVariants as given
use Rattle.request_bodies.specs.declared.parameters.QueryParameters.{QueryParameters}
use Rattle.request_bodies.specs.declared.batch.BatchStatement.{BatchStatement}
use Rattle.request_bodies.specs.declared.batch.BatchStatement.TheVariants as statements
use Rattle.request_bodies.specs.declared.request.Request.{Request}
use Rattle.request_bodies.specs.declared.request.Request.TheVariants as requests
use Rattle.request_bodies.specs.Requests.{IsPair, IsNamedValue, AreValues, AreParts, AreParameters, IsStatement, IsEntry, IsBatch, IsPayload, IsBody, opcode_of, IsRequest}
use Rattle.request_bodies.specs.Spelling.{pair, named_value, values, flags_of, parts, parameters, statement, entry, batch_flags_of, batch_end, batch, body, PairHasWord, NamedValueHasWord, ValuesHaveWord, ParametersHaveWord, StatementHasWord, EntryHasWord, BatchHasWord, HasWord}
use Rattle.request_bodies.proofs.Flags.{is_present, is_named, flags_tell, flags_known}

pub pair_spelled : IsSpelled pair IsPair PairHasWord
pair_spelled = record { first = λ p rest has. two_spelled string string IsString IsString IsStringText IsStringText string_spelled string_spelled p.key p.value rest has.0 has.1 }

pub named_value_spelled : IsSpelled named_value IsNamedValue NamedValueHasWord
named_value_spelled = record { first = λ v rest has. two_spelled string value IsString IsValue IsStringText ValueFits string_spelled value_spelled v.name v.value rest has.0 has.1 }

values_spelled : (present named : Bool) (vs : Values) (rest : List ℕ) → present ≡ is_present vs → named ≡ is_named vs → ValuesHaveWord vs → AreValues present named (values vs ++ rest) vs rest
values_spelled present named given.Absent rest e f has = (e, refl)
values_spelled present named (given.ByPlace vs) rest e f has = (e, f, (list_spelled value IsValue ValueFits value_spelled).first vs rest has)
values_spelled present named (given.ByName vs) rest e f has = (e, f, (list_spelled named_value IsNamedValue NamedValueHasWord named_value_spelled).first vs rest has)

five : (a b c d e rest : List ℕ) → ((((a ++ b) ++ c) ++ d) ++ e) ++ rest ≡ a ++ (b ++ (c ++ (d ++ (e ++ rest))))
five a b c d e rest = simp append_assoc

always_fits : {A : Type 0} (o : Option A) → PartFits Always o
always_fits {A} None = tt
always_fits (Some x) = tt

parts_spelled : (p : QueryParameters) (rest : List ℕ) → ParametersHaveWord p → AreParts (flags_of p) (parts p ++ rest) p rest
parts_spelled p rest has =
    let told = flags_tell p in
    let behind_serial = part long p.timestamp ++ rest in
    let behind_paging_state = part consistency p.serial_consistency ++ behind_serial in
    let behind_page_size = part bytes_or_null p.paging_state ++ behind_paging_state in
    let behind_values = part int p.page_size ++ behind_page_size in
    subst (λ (b : List ℕ). AreParts (flags_of p) b p rest) (sym (five (values p.values) (part int p.page_size) (part bytes_or_null p.paging_state) (part consistency p.serial_consistency) (part long p.timestamp) rest)) (record {
      behind_values = behind_values;
      behind_page_size = behind_page_size;
      behind_paging_state = behind_paging_state;
      behind_serial = behind_serial;
      skip_metadata = sym told.skip_metadata;
      values = values_spelled (is_set (flags_of p) 1) (is_set (flags_of p) 64) p.values behind_values told.present told.named has.values;
      page_size = part_spelled int IsInt IsIntNumber int_spelled (is_set (flags_of p) 4) p.page_size behind_page_size told.page_size has.page_size;
      paging_state = part_spelled bytes_or_null IsBytes BytesFit bytes_spelled (is_set (flags_of p) 8) p.paging_state behind_paging_state told.paging_state has.paging_state;
      serial = part_spelled consistency IsConsistency Always consistency_spelled (is_set (flags_of p) 16) p.serial_consistency behind_serial told.serial (always_fits p.serial_consistency);
      timestamp = part_spelled long IsLong IsLongNumber long_spelled (is_set (flags_of p) 32) p.timestamp rest told.timestamp has.timestamp;
    })

pub parameters_spelled : IsSpelled parameters AreParameters ParametersHaveWord
parameters_spelled = record {
  first = λ p rest has. record {
    behind_consistency = flags_of p ∷ (parts p ++ rest);
    flags = flags_of p;
    behind_flags = parts p ++ rest;
    consistency = subst (λ (b : List ℕ). IsConsistency b p.consistency (flags_of p ∷ (parts p ++ rest))) (sym (append_assoc (consistency p.consistency) (flags_of p ∷ parts p) rest)) (consistency_spelled.first p.consistency (flags_of p ∷ (parts p ++ rest)) tt);
    flags_byte = refl;
    known = flags_known p;
    parts = parts_spelled p rest has;
  };
}

statement_is : (s : BatchStatement) (rest : List ℕ) → StatementHasWord s → IsStatement (statement s ++ rest) s rest
statement_is (statements.Query query) rest has = (long_string query ++ rest, refl, long_string_spelled.first query rest has)
statement_is (statements.Prepared id) rest has = (short_bytes id ++ rest, refl, short_bytes_spelled.first id rest has)

pub statement_spelled : IsSpelled statement IsStatement StatementHasWord
statement_spelled = record { first = statement_is }

pub entry_spelled : IsSpelled entry IsEntry EntryHasWord
entry_spelled = record {
  first = λ e rest has.
      two_spelled statement (list value) IsStatement (IsList IsValue) StatementHasWord (ListFits ValueFits) statement_spelled (list_spelled value IsValue ValueFits value_spelled) e.statement e.values rest has.0 has.1;
}

pub batch_spelled : IsSpelled batch IsBatch BatchHasWord
batch_spelled = record {
  first = λ b rest has.
      let flags = batch_flags_of (is_some b.serial_consistency) (is_some b.timestamp) in
      let behind_serial = part long b.timestamp ++ rest in
      let behind_flags = part consistency b.serial_consistency ++ behind_serial in
      let behind_consistency = flags ∷ behind_flags in
      let behind_entries = consistency b.consistency ++ behind_consistency in
      let end_is : batch_end b ++ rest ≡ behind_entries =
      append_assoc (consistency b.consistency) (flags ∷ (part consistency b.serial_consistency ++ part long b.timestamp)) rest
      ∙ ap (λ (x : List ℕ). consistency b.consistency ++ (flags ∷ x)) (append_assoc (part consistency b.serial_consistency) (part long b.timestamp) rest) in
      let whole : (list entry b.entries ++ batch_end b) ++ rest ≡ list entry b.entries ++ behind_entries =
      append_assoc (list entry b.entries) (batch_end b) rest ∙ ap (λ (x : List ℕ). list entry b.entries ++ x) end_is in
      record {
        behind_kind = (list entry b.entries ++ batch_end b) ++ rest;
        behind_entries = behind_entries;
        behind_consistency = behind_consistency;
        behind_flags = behind_flags;
        behind_serial = behind_serial;
        kind = refl;
        entries = subst (λ (x : List ℕ). IsList IsEntry x b.entries behind_entries) (sym whole) ((list_spelled entry IsEntry EntryHasWord entry_spelled).first b.entries behind_entries has.0);
        consistency = consistency_spelled.first b.consistency behind_consistency tt;
        flags = refl;
        serial = part_spelled consistency IsConsistency Always consistency_spelled (is_some b.serial_consistency) b.serial_consistency behind_serial refl (always_fits b.serial_consistency);
        timestamp = part_spelled long IsLong IsLongNumber long_spelled (is_some b.timestamp) b.timestamp rest refl has.1;
      };
}

body_spelled : (r : Request) (rest : List ℕ) → HasWord r → IsBody (body r ++ rest) r rest
body_spelled (requests.Startup options) rest has = (list_spelled pair IsPair PairHasWord pair_spelled).first options rest has
body_spelled requests.Options rest has = refl
body_spelled (requests.Query q) rest has =
    two_spelled long_string parameters IsLongString AreParameters IsLongStringText ParametersHaveWord long_string_spelled parameters_spelled q.query q.parameters rest has.0 has.1
body_spelled (requests.Prepare query) rest has = long_string_spelled.first query rest has
body_spelled (requests.Execute e) rest has =
    two_spelled short_bytes parameters IsShortBytes AreParameters FitsShort ParametersHaveWord short_bytes_spelled parameters_spelled e.id e.parameters rest has.0 has.1
body_spelled (requests.Register events) rest has = (list_spelled string IsString IsStringText string_spelled).first events rest has
body_spelled (requests.Batch b) rest has = batch_spelled.first b rest has

pub request_spelled : (flags : ℕ) (r : Request) → is_set flags 4 ≡ false → HasWord r → IsRequest flags (opcode_of r) (body r) r
request_spelled flags r unset has = record {
  behind_payload = body r;
  of_opcode = refl;
  payload = subst (λ (b : Bool). IsPayload b (body r) (body r)) (sym unset) refl;
  body = subst (λ (b : List ℕ). IsBody b r []) (append-nil (body r)) (body_spelled r [] has);
}
