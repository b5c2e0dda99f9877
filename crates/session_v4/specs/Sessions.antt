-- A connection: what is due for each frame of its client, and what it is afterwards (native_protocol_v4.spec, sections 2 to 4).
use Rattle.std.specs.Prelude.{◌≡◌, ◌≢◌, ◌≤◌, ◌^◌, ◌↔◌, ◌&&◌, IsTrue, IsSomeAnd, ℕ, ℤ, nat_lt, not, codes, Bool, true, false, List, [], ◌∷◌, ◌++◌, length, Option, Some, None, Result, Ok, Err, map, MatchBool, if◌then◌else◌}
use Rattle.cql_parser.specs.Parsing.{IsStatement, IsRefused, most_tokens}
use Rattle.cql_parser.specs.declared.error.ParseError.{ParseError}
use Rattle.cql_parser.specs.declared.error.ParseError.TheVariants as parsing
use Rattle.cql_statement.specs.declared.statement.Statement.{Statement}
use Rattle.cql_tokens.specs.declared.token.Token.{Token}
use Rattle.body_notations.specs.declared.fault.BodyError.{BodyError}
use Rattle.client_desk.specs.declared.answer.Answer.{Answer}
use Rattle.frame_v4.specs.declared.error.FrameError.{FrameError}
use Rattle.frame_v4.specs.declared.frame.Frame.{Frame}
use Rattle.peer_messages.specs.declared.chronicle.Invalid.TheVariants as invalid
use Rattle.prepared_statement.specs.Prepared.{outline_of, refusal_of}
use Rattle.prepared_statement.specs.declared.change.Change.{Change}
use Rattle.prepared_statement.specs.declared.prepared.Prepared.{Prepared}
use Rattle.prepared_statement.specs.declared.prepared.Prepared.TheVariants as prepared
use Rattle.request_bodies.specs.Reading.{request_in}
use Rattle.request_bodies.specs.declared.batch.Batch.{Batch}
use Rattle.request_bodies.specs.declared.batch.BatchEntry.{BatchEntry}
use Rattle.request_bodies.specs.declared.batch.BatchStatement.{BatchStatement}
use Rattle.request_bodies.specs.declared.batch.BatchStatement.TheVariants as entries
use Rattle.request_bodies.specs.declared.parameters.QueryParameters.{QueryParameters}
use Rattle.request_bodies.specs.declared.request.Execute.{Execute}
use Rattle.request_bodies.specs.declared.request.Query.{Query}
use Rattle.request_bodies.specs.declared.request.Request.{Request}
use Rattle.request_bodies.specs.declared.request.Request.TheVariants as requests
use Rattle.request_bodies.specs.declared.startup.StringPair.{StringPair}
use Rattle.response_bodies.specs.declared.response.Response.{Response}
use Rattle.response_bodies.specs.declared.response.Response.TheVariants as responses
use Rattle.schema_book.specs.Books.{Book}
use Rattle.statement_binder.specs.Plans.{plan_of}
use Rattle.statement_binder.specs.Supplies.{Left, whole, each}
use Rattle.statement_plan.specs.declared.fault.Fault.{Fault}
use Rattle.statement_plan.specs.declared.fault.Fault.TheVariants as fault
use Rattle.statement_plan.specs.declared.fault.Feature.TheVariants as feature
use Rattle.statement_plan.specs.declared.plan.Plan.{Plan}
use Rattle.statement_values.specs.declared.params.Params.{Params}
use Rattle.statement_values.specs.declared.params.Params.TheVariants as from
use Rattle.session_v4.specs.Answers.{IsAnswer}
use Rattle.session_v4.specs.Described.{told_of}
use Rattle.session_v4.specs.Given.{param_of, AreGiven}
use Rattle.session_v4.specs.Kept.{id_of, kept_at, kept_if}
use Rattle.session_v4.specs.Outcomes.{terms_of, batch_terms, ComesTo}
use Rattle.session_v4.specs.Refusals.{body_text, frame_text, protocol_error, place_of, syntax_error, unprepared, invalid_error}
use Rattle.session_v4.specs.Startup.{startup_fault, needs_startup, supported}
use Rattle.session_v4.specs.Words.{HasWord}
use Rattle.session_v4.specs.declared.act.Act.{Act}
use Rattle.session_v4.specs.declared.act.Act.TheVariants as acts
use Rattle.session_v4.specs.declared.batches.Entries.{Entries}
use Rattle.session_v4.specs.declared.batches.Entries.TheVariants as all
use Rattle.session_v4.specs.declared.batches.Entry.{Entry}
use Rattle.session_v4.specs.declared.batches.Entry.TheVariants as entry
use Rattle.session_v4.specs.declared.kept.KeptStatement.{KeptStatement}
use Rattle.session_v4.specs.declared.outcome.Outcome.{Outcome}
use Rattle.session_v4.specs.declared.outcome.Outcome.TheVariants as outcome
use Rattle.session_v4.specs.declared.outcome.Terms.{Terms}
use Rattle.session_v4.specs.declared.reason.Reason.TheVariants as reasons
use Rattle.session_v4.specs.declared.session.Awaited.{Awaited}
use Rattle.session_v4.specs.declared.session.Session.{Session}

-- what a connection is between two frames: the schema; whether STARTUP was answered with READY; the keyspace in use; the
-- prepared statements, from the oldest on; and the request whose answer it waits for
pub record State : Type 0 where
  pub book : Book
  pub started : Bool
  pub used : Option (List ℕ)
  pub kept : List KeptStatement
  pub awaited : Option Awaited

abbrev pub state_in : Session → State
state_in s = record { book = s.schema.now; started = s.started; used = s.keyspace; kept = s.kept.items; awaited = s.awaited }

abbrev pub fresh : Book → State
fresh b = record { book = b; started = false; used = None; kept = []; awaited = None }

-- the client is answered at once, and nothing changes
abbrev pub Replies : State → Response → Act → State → Type 0
Replies s r a s' = (a ≡ acts.Reply r) × (s' ≡ s)

-- ---- STARTUP

abbrev pub startup_response : Option (List ℕ) → Response
startup_response None = responses.Ready
startup_response (Some text) = protocol_error text

abbrev pub started_by : Bool → Option (List ℕ) → Bool
started_by before None = true
started_by before (Some text) = before

abbrev pub IsStartupDue : State → List StringPair → Act → State → Type 0
IsStartupDue s options a s' =
    (a ≡ acts.Reply (startup_response (startup_fault s.started options)))
    × (s' ≡ record s { started = started_by s.started (startup_fault s.started options) })

-- ---- texts

-- the text is this statement, or is none for this cause
abbrev pub IsReading : List ℕ → Result Statement ParseError → Type 0
IsReading text (Ok t) = (tokens : List Token) × IsStatement text tokens t × (length tokens ≤ most_tokens)
IsReading text (Err e) = IsRefused text e × (e ≢ parsing.NoMemory)

-- ---- a statement that was bound

abbrev pub is_short : List ℕ → Bool
is_short bytes = nat_lt (length bytes) (2 ^ 16)

-- USE, where the answer has a word
abbrev pub used_by : Option (List ℕ) → List ℕ → Option (List ℕ)
used_by before name = if is_short name then Some name else before

-- what a request on this stream comes to
abbrev pub Takes : State → ℤ → Outcome → Act → State → Type 0
Takes s stream (outcome.Refused reason) a s' = Replies s (invalid_error reason) a s'
Takes s stream (outcome.Use name) a s' = (a ≡ acts.Reply (responses.SetKeyspace name)) × (s' ≡ record s { used = used_by s.used name })
Takes s stream (outcome.Submit ask wanted) a s' =
    (a ≡ acts.Submit ask) × (s' ≡ record s { awaited = Some (record { stream = stream; wanted = wanted }) })

abbrev pub IsMeaningDue : State → ℤ → Terms → Result Plan Fault → Act → State → Type 0
IsMeaningDue s stream t meaning a s' = (o : Outcome) × ComesTo t meaning o × Takes s stream o a s'

-- a statement comes to this with the values, the timestamp and the terms of a request
abbrev pub StatementComesTo : QueryParameters → Prepared → Outcome → Type 0
StatementComesTo q p o = (params : Params) × AreGiven q.values params × ComesTo (terms_of q) (plan_of p (whole params) q.timestamp) o

abbrev pub IsStatementDue : State → ℤ → QueryParameters → Prepared → Act → State → Type 0
IsStatementDue s stream q p a s' = (o : Outcome) × StatementComesTo q p o × Takes s stream o a s'

-- ---- QUERY

abbrev pub IsReadDue : State → ℤ → Query → Result Statement ParseError → Act → State → Type 0
IsReadDue s stream q (Err e) a s' = Replies s (syntax_error (place_of q.query e)) a s'
IsReadDue s stream q (Ok t) a s' = IsStatementDue s stream q.parameters (outline_of s.book s.used t) a s'

abbrev pub IsQueryDue : State → ℤ → Query → Act → State → Type 0
IsQueryDue s stream q a s' = (reading : Result Statement ParseError) × IsReading q.query reading × IsReadDue s stream q reading a s'

-- ---- EXECUTE

abbrev pub IsFoundDue : State → ℤ → Execute → Option KeptStatement → Act → State → Type 0
IsFoundDue s stream e None a s' = Replies s (unprepared e.id) a s'
IsFoundDue s stream e (Some k) a s' = IsStatementDue s stream e.parameters k.prepared a s'

abbrev pub IsExecuteDue : State → ℤ → Execute → Act → State → Type 0
IsExecuteDue s stream e a s' = IsFoundDue s stream e (kept_at s.kept e.id) a s'

-- what the code finds for an id
abbrev pub FoundAs : State → Execute → Option Outcome → Type 0
FoundAs s e None = kept_at s.kept e.id ≡ None
FoundAs s e (Some o) = (k : KeptStatement) × (kept_at s.kept e.id ≡ Some k) × StatementComesTo e.parameters k.prepared o

-- ---- PREPARE

-- a statement is kept where the answer has a word
abbrev pub Keeps : State → KeptStatement → Response → State → Type 0
Keeps s k r s' = (has_word : Bool) × (IsTrue has_word ↔ HasWord r) × (s' ≡ record s { kept = kept_if has_word s.kept k })

abbrev pub kept_as : State → List ℕ → Prepared → KeptStatement
kept_as s text p = record { id = id_of s.used text; prepared = p }

abbrev pub prepared_response : State → KeptStatement → Response
prepared_response s k = responses.Prepared (told_of s.book k.id k.prepared)

abbrev pub IsKeptDue : State → KeptStatement → Act → State → Type 0
IsKeptDue s k a s' = (a ≡ acts.Reply (prepared_response s k)) × Keeps s k (prepared_response s k) s'

-- what is refused of the statement whatever its values are is told at once
abbrev pub IsOutlineDue : State → List ℕ → Prepared → Option Fault → Act → State → Type 0
IsOutlineDue s text p (Some f) a s' = Replies s (invalid_error (reasons.Invalid (invalid.Statement f))) a s'
IsOutlineDue s text p None a s' = IsKeptDue s (kept_as s text p) a s'

abbrev pub IsReadPrepared : State → List ℕ → Result Statement ParseError → Act → State → Type 0
IsReadPrepared s text (Err e) a s' = Replies s (syntax_error (place_of text e)) a s'
IsReadPrepared s text (Ok t) a s' = IsOutlineDue s text (outline_of s.book s.used t) (refusal_of (outline_of s.book s.used t)) a s'

abbrev pub IsPrepareDue : State → List ℕ → Act → State → Type 0
IsPrepareDue s text a s' = (reading : Result Statement ParseError) × IsReading text reading × IsReadPrepared s text reading a s'

-- ---- BATCH

-- the statement of an entry, or what its client is told
abbrev pub entry_read : State → List ℕ → Result Statement ParseError → Result Prepared Response
entry_read s text (Err e) = Err (syntax_error (place_of text e))
entry_read s text (Ok t) = Ok (outline_of s.book s.used t)

abbrev pub entry_found : List ℕ → Option KeptStatement → Result Prepared Response
entry_found id None = Err (unprepared id)
entry_found id (Some k) = Ok k.prepared

abbrev pub IsEntry : State → BatchStatement → Result Prepared Response → Type 0
IsEntry s (entries.Query text) r = (reading : Result Statement ParseError) × IsReading text reading × (r ≡ entry_read s text reading)
IsEntry s (entries.Prepared id) r = r ≡ entry_found id (kept_at s.kept id)

-- each entry has its statement
abbrev pub AreStatements : State → List BatchEntry → List Prepared → Type 0
AreStatements s [] ps = ps ≡ []
AreStatements s (e ∷ es) ps =
    (p : Prepared) × (later : List Prepared) × IsEntry s e.statement (Ok p) × AreStatements s es later × (ps ≡ p ∷ later)

-- the statements of all entries, or what is told for the first that has none
abbrev pub AreEntries : State → List BatchEntry → Result (List Prepared) Response → Type 0
AreEntries s es (Ok ps) = AreStatements s es ps
AreEntries s es (Err r) =
    (front : List BatchEntry) × (e : BatchEntry) × (back : List BatchEntry) × (ps : List Prepared)
    × (es ≡ front ++ e ∷ back) × AreStatements s front ps × IsEntry s e.statement (Err r)

-- INSERT, UPDATE and DELETE alone may stand in a batch
abbrev pub change_in : Prepared → Option Change
change_in (prepared.Change c) = Some c
change_in p = None

abbrev pub with_first : Option Change → Option (List Change) → Option (List Change)
with_first None later = None
with_first (Some c) None = None
with_first (Some c) (Some cs) = Some (c ∷ cs)

abbrev pub changes_of : List Prepared → Option (List Change)
changes_of [] = Some []
changes_of (p ∷ ps) = with_first (change_in p) (changes_of ps)

-- each entry has a list of values of its own
abbrev pub list_of : BatchEntry → Params
list_of e = from.ByPlace (map param_of e.values)

abbrev pub values_of : List BatchEntry → Left
values_of es = each (map list_of es)

abbrev pub IsChangesDue : State → ℤ → Batch → Option (List Change) → Act → State → Type 0
IsChangesDue s stream b None a s' = Replies s (invalid_error (reasons.Invalid (invalid.Statement (fault.NotSupported feature.Batch)))) a s'
IsChangesDue s stream b (Some cs) a s' =
    IsMeaningDue s stream (batch_terms b) (plan_of (prepared.Batch (record { slots = []; changes = cs })) (values_of b.entries) b.timestamp) a s'

abbrev pub AreEntriesDue : State → ℤ → Batch → Result (List Prepared) Response → Act → State → Type 0
AreEntriesDue s stream b (Err r) a s' = Replies s r a s'
AreEntriesDue s stream b (Ok ps) a s' = IsChangesDue s stream b (changes_of ps) a s'

abbrev pub IsBatchDue : State → ℤ → Batch → Act → State → Type 0
IsBatchDue s stream b a s' = (found : Result (List Prepared) Response) × AreEntries s b.entries found × AreEntriesDue s stream b found a s'

-- ---- what the code finds in an entry, and in all of them

abbrev pub entry_in : Prepared → Entry
entry_in p = entry.Found (change_in p)

abbrev pub entry_misread : List ℕ → ParseError → Entry
entry_misread text e = entry.Refused (syntax_error (place_of text e))

abbrev pub IsEntryAs : State → BatchStatement → Entry → Type 0
IsEntryAs s st (entry.Refused r) = IsEntry s st (Err r)
IsEntryAs s st (entry.Found c) = (p : Prepared) × IsEntry s st (Ok p) × (c ≡ change_in p)

abbrev pub AreEntriesAs : State → List BatchEntry → Entries → Type 0
AreEntriesAs s es (all.Refused r) = AreEntries s es (Err r)
AreEntriesAs s es (all.Found cs) = (ps : List Prepared) × AreStatements s es ps × (cs ≡ changes_of ps)

-- a change behind the others
abbrev pub with_last : Option (List Change) → Option Change → Option (List Change)
with_last None c = None
with_last (Some cs) None = None
with_last (Some cs) (Some c) = Some (cs ++ c ∷ [])

-- ---- requests

-- once STARTUP was answered with READY, for all but STARTUP and OPTIONS
abbrev pub IsTakenDue : State → ℤ → Request → Act → State → Type 0
IsTakenDue s stream (requests.Startup options) a s' = IsStartupDue s options a s'
IsTakenDue s stream requests.Options a s' = Replies s supported a s'
IsTakenDue s stream (requests.Query q) a s' = IsQueryDue s stream q a s'
IsTakenDue s stream (requests.Prepare text) a s' = IsPrepareDue s text a s'
IsTakenDue s stream (requests.Execute e) a s' = IsExecuteDue s stream e a s'
IsTakenDue s stream (requests.Register events) a s' = Replies s responses.Ready a s'
IsTakenDue s stream (requests.Batch b) a s' = IsBatchDue s stream b a s'

abbrev pub IsRequestDue : State → ℤ → Request → Act → State → Type 0
IsRequestDue s stream r a s' =
    MatchBool (needs_startup r && not s.started) (Replies s (protocol_error (codes "startup first")) a s') (IsTakenDue s stream r a s')

-- ---- frames

abbrev pub IsBodyDue : State → ℤ → Result Request BodyError → Act → State → Type 0
IsBodyDue s stream (Err e) a s' = Replies s (protocol_error (body_text e)) a s'
IsBodyDue s stream (Ok r) a s' = IsRequestDue s stream r a s'

-- what is due for a frame, and the connection behind it
abbrev pub IsDue : State → Frame → Act → State → Type 0
IsDue s f a s' = IsBodyDue s f.stream (request_in f.flags f.opcode f.body) a s'

-- ---- answers

-- the last request that a node was asked was of this stream, and was not answered since
abbrev pub Waits : State → ℤ → Type 0
Waits s stream = IsSomeAnd s.awaited (λ x. x.stream ≡ stream)

-- a node that is asked is asked for this stream
abbrev pub AwaitsFor : State → ℤ → Act → Type 0
AwaitsFor s stream (acts.Submit ask) = Waits s stream
AwaitsFor s stream a = Unit {0}

abbrev pub ToldAs : State → Answer → Response → Type 0
ToldAs s answer r = IsSomeAnd s.awaited (λ x. IsAnswer s.book x.wanted answer r)

-- what is due for a node's answer, and the connection behind it
abbrev pub IsAnswered : State → Answer → Response → State → Type 0
IsAnswered s answer r s' = ToldAs s answer r × (s' ≡ record s { awaited = None })

-- what is due for a stream that is none of frames
abbrev pub IsClosed : FrameError → Act → Type 0
IsClosed error a = a ≡ acts.Close (protocol_error (frame_text error))
