-- How requests are written.
use Rattle.std.specs.Prelude.{ℕ, ◌+◌, Bool, true, false, List, [], ◌∷◌, ◌++◌, is_some, if◌then◌else◌}
use Rattle.body_notations.specs.Spelling.{int, long, consistency, string, long_string, short_bytes, bytes as bytes_or_null, value, list, part, FitsShort, FitsInt, BytesFit, ValueFits, ListFits, PartFits, IsIntNumber, IsLongNumber, IsStringText, IsLongStringText, IsNotNull}
use Rattle.request_bodies.specs.declared.startup.StringPair.{StringPair}
use Rattle.request_bodies.specs.declared.parameters.NamedValue.{NamedValue}
use Rattle.request_bodies.specs.declared.parameters.Values.{Values}
use Rattle.request_bodies.specs.declared.parameters.Values.TheVariants as given
use Rattle.request_bodies.specs.declared.parameters.QueryParameters.{QueryParameters}
use Rattle.request_bodies.specs.declared.batch.BatchKind.{BatchKind}
use Rattle.request_bodies.specs.declared.batch.BatchKind.TheVariants as batch_kinds
use Rattle.request_bodies.specs.declared.batch.BatchStatement.{BatchStatement}
use Rattle.request_bodies.specs.declared.batch.BatchStatement.TheVariants as statements
use Rattle.request_bodies.specs.declared.batch.BatchEntry.{BatchEntry}
use Rattle.request_bodies.specs.declared.batch.Batch.{Batch}
use Rattle.request_bodies.specs.declared.request.Request.{Request}
use Rattle.request_bodies.specs.declared.request.Request.TheVariants as requests

-- ---- STARTUP

abbrev pub pair : StringPair → List ℕ
pair p = string p.key ++ string p.value

abbrev pub PairFits : StringPair → Type 0
PairFits p = FitsShort p.key × FitsShort p.value

-- ---- query parameters

abbrev pub named_value : NamedValue → List ℕ
named_value v = string v.name ++ value v.value

abbrev pub NamedValueFits : NamedValue → Type 0
NamedValueFits v = FitsShort v.name × ValueFits v.value

abbrev pub values : Values → List ℕ
values given.Absent = []
values (given.ByPlace vs) = list value vs
values (given.ByName vs) = list named_value vs

abbrev pub ValuesFit : Values → Type 0
ValuesFit given.Absent = Unit {0}
ValuesFit (given.ByPlace vs) = ListFits ValueFits vs
ValuesFit (given.ByName vs) = ListFits NamedValueFits vs

abbrev pub values_flags : Values → ℕ
values_flags given.Absent = 0
values_flags (given.ByPlace vs) = 1
values_flags (given.ByName vs) = 65

abbrev pub flags_of : QueryParameters → ℕ
flags_of p =
    values_flags p.values + (if p.skip_metadata then 2 else 0) + (if is_some p.page_size then 4 else 0) + (if is_some p.paging_state then 8 else 0)
    + (if is_some p.serial_consistency then 16 else 0) + (if is_some p.timestamp then 32 else 0)

abbrev pub parts : QueryParameters → List ℕ
parts p = values p.values ++ part int p.page_size ++ part bytes_or_null p.paging_state ++ part consistency p.serial_consistency ++ part long p.timestamp

abbrev pub parameters : QueryParameters → List ℕ
parameters p = consistency p.consistency ++ flags_of p ∷ parts p

abbrev pub ParametersFit : QueryParameters → Type 0
ParametersFit p = ValuesFit p.values × PartFits BytesFit p.paging_state

-- ---- BATCH

abbrev pub statement : BatchStatement → List ℕ
statement (statements.Query query) = 0 ∷ long_string query
statement (statements.Prepared id) = 1 ∷ short_bytes id

abbrev pub StatementFits : BatchStatement → Type 0
StatementFits (statements.Query query) = FitsInt query
StatementFits (statements.Prepared id) = FitsShort id

abbrev pub entry : BatchEntry → List ℕ
entry e = statement e.statement ++ list value e.values

abbrev pub EntryFits : BatchEntry → Type 0
EntryFits e = StatementFits e.statement × ListFits ValueFits e.values

abbrev pub kind_code : BatchKind → ℕ
kind_code batch_kinds.Logged = 0
kind_code batch_kinds.Unlogged = 1

abbrev pub batch_flags_of : Bool → Bool → ℕ
batch_flags_of false false = 0
batch_flags_of true false = 16
batch_flags_of false true = 32
batch_flags_of true true = 48

abbrev pub batch_end : Batch → List ℕ
batch_end b =
    consistency b.consistency ++ batch_flags_of (is_some b.serial_consistency) (is_some b.timestamp) ∷ (part consistency b.serial_consistency ++ part long b.timestamp)

abbrev pub batch : Batch → List ℕ
batch b = kind_code b.kind ∷ (list entry b.entries ++ batch_end b)

abbrev pub BatchFits : Batch → Type 0
BatchFits b = ListFits EntryFits b.entries

-- ---- requests

abbrev pub body : Request → List ℕ
body (requests.Startup options) = list pair options
body requests.Options = []
body (requests.Query q) = long_string q.query ++ parameters q.parameters
body (requests.Prepare query) = long_string query
body (requests.Execute e) = short_bytes e.id ++ parameters e.parameters
body (requests.Register events) = list string events
body (requests.Batch b) = batch b

-- no part is too long for its length
abbrev pub Fits : Request → Type 0
Fits (requests.Startup options) = ListFits PairFits options
Fits requests.Options = Unit {0}
Fits (requests.Query q) = FitsInt q.query × ParametersFit q.parameters
Fits (requests.Prepare query) = FitsInt query
Fits (requests.Execute e) = FitsShort e.id × ParametersFit e.parameters
Fits (requests.Register events) = ListFits FitsShort events
Fits (requests.Batch b) = BatchFits b

-- ---- what has a word: no part is too long for its length, texts are UTF-8, and numbers are of their width

abbrev pub PairHasWord : StringPair → Type 0
PairHasWord p = IsStringText p.key × IsStringText p.value

abbrev pub NamedValueHasWord : NamedValue → Type 0
NamedValueHasWord v = IsStringText v.name × ValueFits v.value

abbrev pub ValuesHaveWord : Values → Type 0
ValuesHaveWord given.Absent = Unit {0}
ValuesHaveWord (given.ByPlace vs) = ListFits ValueFits vs
ValuesHaveWord (given.ByName vs) = ListFits NamedValueHasWord vs

pub record ParametersHaveWord (p : QueryParameters) : Type 0 where
  pub values : ValuesHaveWord p.values
  pub page_size : PartFits IsIntNumber p.page_size
  pub paging_state : PartFits BytesFit p.paging_state
  pub timestamp : PartFits IsLongNumber p.timestamp

abbrev pub StatementHasWord : BatchStatement → Type 0
StatementHasWord (statements.Query query) = IsLongStringText query
StatementHasWord (statements.Prepared id) = FitsShort id

abbrev pub EntryHasWord : BatchEntry → Type 0
EntryHasWord e = StatementHasWord e.statement × ListFits ValueFits e.values

abbrev pub BatchHasWord : Batch → Type 0
BatchHasWord b = ListFits EntryHasWord b.entries × PartFits IsLongNumber b.timestamp

abbrev pub HasWord : Request → Type 0
HasWord (requests.Startup options) = ListFits PairHasWord options
HasWord requests.Options = Unit {0}
HasWord (requests.Query q) = IsLongStringText q.query × ParametersHaveWord q.parameters
HasWord (requests.Prepare query) = IsLongStringText query
HasWord (requests.Execute e) = FitsShort e.id × ParametersHaveWord e.parameters
HasWord (requests.Register events) = ListFits IsStringText events
HasWord (requests.Batch b) = BatchHasWord b

-- Only a paging state that is null has more than one spelling.
abbrev pub HasOneSpelling : Request → Type 0
HasOneSpelling (requests.Query q) = PartFits IsNotNull q.parameters.paging_state
HasOneSpelling (requests.Execute e) = PartFits IsNotNull e.parameters.paging_state
HasOneSpelling r = Unit {0}
