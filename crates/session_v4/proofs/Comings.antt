-- What a request comes to, from what the code found.
use Rattle.std.proofs.Common.{◌≡◌, ◌≢◌, ℕ, ℤ, List, Option, None, Result, Ok, Err, IfOk, IfErr, length, ◌≤◌, refl, sym, subst}
use mir.Syntax.{w16}
use mir.Val.{SFits, of_z, to_z}
use Rattle.std.proofs.lemmas.Int.{to_z-of_z}
use Rattle.request_bodies.specs.declared.parameters.QueryParameters.{QueryParameters}
use Rattle.prepared_statement.specs.declared.prepared.Prepared.{Prepared}
use Rattle.statement_binder.specs.Meanings.{Answers, IsPlan}
use Rattle.statement_binder.specs.Plans.{plan_of}
use Rattle.statement_binder.specs.Supplies.{whole}
use Rattle.statement_binder.specs.declared.error.BindError.{BindError}
use Rattle.statement_binder.specs.declared.error.BindError.TheVariants as binding
use Rattle.statement_plan.specs.declared.fault.Fault.{Fault}
use Rattle.statement_plan.specs.declared.fault.Fault.TheVariants as fault
use Rattle.statement_plan.specs.declared.fault.Feature.TheVariants as feature
use Rattle.statement_plan.specs.declared.plan.Plan.{Plan}
use Rattle.statement_values.specs.declared.params.Params.{Params}
use Rattle.peer_messages.specs.declared.chronicle.Invalid.TheVariants as invalid
use Rattle.session_v4.specs.Given.{AreGiven}
use Rattle.session_v4.specs.Outcomes.{ComesTo, named_state, outcome_of}
use Rattle.cql_parser.specs.Parsing.{IsStatement, IsRefused, most_tokens}
use Rattle.cql_parser.specs.declared.error.ParseError.{ParseError}
use Rattle.cql_parser.specs.declared.error.ParseError.TheVariants as parsing
use Rattle.cql_statement.specs.declared.statement.Statement.{Statement}
use Rattle.cql_tokens.specs.declared.token.Token.{Token}
use Rattle.prepared_statement.specs.declared.change.Change.{Change}
use Rattle.request_bodies.specs.declared.batch.Batch.{Batch}
use Rattle.request_bodies.specs.declared.request.Query.{Query}
use Rattle.request_bodies.specs.declared.request.Request.{Request}
use Rattle.body_notations.specs.declared.fault.BodyError.{BodyError}
use Rattle.frame_v4.specs.declared.frame.Frame.{Frame}
use Rattle.session_v4.proofs.Moves.{awaits}
use Rattle.response_bodies.specs.declared.response.Response.{Response}
use Rattle.session_v4.specs.Refusals.{invalid_error}
use Rattle.session_v4.specs.Sessions.{State, StatementComesTo, Takes, IsReading, IsStatementDue, IsReadDue, IsQueryDue, IsReadPrepared, IsPrepareDue, IsChangesDue, IsBatchDue, IsRequestDue, IsBodyDue, IsDue, AwaitsFor, AreEntries, AreStatements, changes_of}
use Rattle.session_v4.specs.declared.act.Act.{Act}
use Rattle.session_v4.specs.declared.act.Act.TheVariants as acts
use Rattle.session_v4.specs.declared.outcome.Outcome.{Outcome}
use Rattle.session_v4.specs.declared.outcome.Outcome.TheVariants as outcome
use Rattle.session_v4.specs.declared.outcome.Terms.{Terms}
use Rattle.session_v4.specs.declared.reason.Reason.TheVariants as reasons

pub plan_comes : {E : Type 0} (r : Result Outcome E) (t : Terms) (p : Plan) (meaning : Result Plan Fault) → IsPlan p meaning
    → IfOk r (λ o. o ≡ outcome_of t (Ok p)) → IfOk r (ComesTo t meaning)
plan_comes (Ok o) t p meaning h e = (Ok p, h, e)
plan_comes (Err x) t p meaning h e = tt

pub fault_comes : (e : BindError) (f g : Fault) (t : Terms) (meaning : Result Plan Fault) → e ≡ binding.Refused f → f ≡ g → Answers (Err e) meaning
    → ComesTo t meaning (outcome.Refused (reasons.Invalid (invalid.Statement g)))
fault_comes e f g t meaning is same h =
    let P : BindError → Type 0 = λ x. Answers (Err x) meaning in
    let Q : Fault → Type 0 = λ x. ComesTo t meaning (outcome.Refused (reasons.Invalid (invalid.Statement x))) in
    subst Q same (Err f, subst P is h, refl)

-- the terms of a request, with the state of its page as it was read
abbrev with_state : QueryParameters → Option (List ℕ) → Terms
with_state q state = record {
  consistency = q.consistency;
  serial_consistency = q.serial_consistency;
  skip_metadata = q.skip_metadata;
  page_size = q.page_size;
  paging_state = state;
}

pub statement_comes : {E : Type 0} (r : Result Outcome E) (q : QueryParameters) (p : Prepared) (params : Params) (state : Option (List ℕ))
    → state ≡ named_state q.paging_state → AreGiven q.values params → IfOk r (ComesTo (with_state q state) (plan_of p (whole params) q.timestamp))
    → IfOk r (StatementComesTo q p)
statement_comes (Ok o) q p params state is given h =
    let P : Option (List ℕ) → Type 0 = λ x. ComesTo (with_state q x) (plan_of p (whole params) q.timestamp) o in (params, given, subst P is h)
statement_comes (Err x) q p params state is given h = tt

-- ---- what is due, from what a helper found due

-- a stream is passed on in sixteen bits, which hold it
pub on_stream : {E : Type 0} (r : Result Act E) (D : ℤ → Act → Type 0) (stream : ℤ) → SFits w16 stream → IfOk r (D (to_z w16 (of_z w16 stream))) → IfOk r (D stream)
on_stream r D stream fits h = let P : ℤ → Type 0 = λ z. IfOk r (D z) in subst P (to_z-of_z w16 stream fits) h

pub due_statement : {E : Type 0} (r : Result Act E) (s s' : State) (stream : ℤ) (q : QueryParameters) (p p' : Prepared) (o : Outcome) → p ≡ p'
    → StatementComesTo q p o → IfOk r (λ a. Takes s stream o a s') → IfOk r (λ a. IsStatementDue s stream q p' a s')
due_statement (Ok a) s s' stream q p p' o e comes h = let P : Prepared → Type 0 = λ x. StatementComesTo q x o in (o, subst P e comes, h)
due_statement (Err x) s s' stream q p p' o e comes h = tt

-- what was read of a text, where memory did not run out
read_as : (reading : Result Statement ParseError) (text : List ℕ) → IfOk reading (λ t. (tokens : List Token) × IsStatement text tokens t × (length tokens ≤ most_tokens))
    → IfErr reading (λ e. IsRefused text e) → IfErr reading (λ e. e ≢ parsing.NoMemory) → IsReading text reading
read_as (Ok t) text found refused cause = found
read_as (Err e) text found refused cause = (refused, cause)

pub due_query : {E : Type 0} (r : Result Act E) (s s' : State) (stream : ℤ) (q : Query) (reading : Result Statement ParseError) (read told : List ℕ)
    → SFits w16 stream → read ≡ q.query → told ≡ q.query
    → IfOk reading (λ t. (tokens : List Token) × IsStatement read tokens t × (length tokens ≤ most_tokens)) → IfErr reading (λ e. IsRefused read e)
    → IfOk r (λ a. IsReadDue s (to_z w16 (of_z w16 stream)) (record { query = told; parameters = q.parameters }) reading a s')
    → IfOk r (λ a. IfErr reading (λ e. e ≢ parsing.NoMemory)) → IfOk r (λ a. IsQueryDue s stream q a s')
due_query (Ok a) s s' stream q reading read told fits is same found refused h cause =
    let P : List ℕ → Type 0 = λ text. IsReading text reading in
    let Q : List ℕ → Type 0 = λ text. IsReadDue s stream (record { query = text; parameters = q.parameters }) reading a s' in
    let R : ℤ → Type 0 = λ z. IsReadDue s z (record { query = told; parameters = q.parameters }) reading a s' in
    (reading, subst P is (read_as reading read found refused cause), subst Q same (subst R (to_z-of_z w16 stream fits) h))
due_query (Err x) s s' stream q reading read told fits is same found refused h cause = tt

pub due_prepare : {E : Type 0} (r : Result Act E) (s s' : State) (text : List ℕ) (reading : Result Statement ParseError)
    → IfOk reading (λ t. (tokens : List Token) × IsStatement text tokens t × (length tokens ≤ most_tokens)) → IfErr reading (λ e. IsRefused text e)
    → IfOk r (λ a. IsReadPrepared s text reading a s') → IfOk r (λ a. IfErr reading (λ e. e ≢ parsing.NoMemory)) → IfOk r (λ a. IsPrepareDue s text a s')
due_prepare (Ok a) s s' text reading found refused h cause = (reading, read_as reading text found refused cause, h)
due_prepare (Err x) s s' text reading found refused h cause = tt

pub due_changes : {E : Type 0} (r : Result Act E) (s s' : State) (stream : ℤ) (b : Batch) (ps : List Prepared) (cs : Option (List Change)) → AreStatements s b.entries ps
    → cs ≡ changes_of ps → IfOk r (λ a. IsChangesDue s stream b cs a s') → IfOk r (λ a. IsBatchDue s stream b a s')
due_changes (Ok a) s s' stream b ps cs are e h =
    let P : Option (List Change) → Type 0 = λ x. IsChangesDue s stream b x a s' in (Ok ps, are, subst P e h)
due_changes (Err x) s s' stream b ps cs are e h = tt

pub due_no_changes : {E : Type 0} (r : Result Act E) (s : State) (stream : ℤ) (b : Batch) (ps : List Prepared) → AreStatements s b.entries ps
    → None ≡ changes_of ps → IfOk r (λ a. a ≡ acts.Reply (invalid_error (reasons.Invalid (invalid.Statement (fault.NotSupported feature.Batch)))))
    → IfOk r (λ a. IsBatchDue s stream b a s)
due_no_changes (Ok a) s stream b ps are none is =
    let P : Option (List Change) → Type 0 = λ x. IsChangesDue s stream b x a s in (Ok ps, are, subst P none (is, refl))
due_no_changes (Err x) s stream b ps are none is = tt

pub due_entry : (s s' : State) (stream : ℤ) (b : Batch) (r : Response) → AreEntries s b.entries (Err r) → s' ≡ s → IsBatchDue s stream b (acts.Reply r) s'
due_entry s s' stream b r are stays = (Err r, are, (refl, stays))

pub due_body : {E : Type 0} (r : Result Act E) (s s' : State) (stream : ℤ) (request : Request) (found : Result Request BodyError) → found ≡ Ok request
    → IfOk r (λ a. IsRequestDue s stream request a s') → IfOk r (λ a. IsBodyDue s stream found a s')
due_body r s s' stream request found is h =
    let P : Result Request BodyError → Type 0 = λ x. IfOk r (λ a. IsBodyDue s stream x a s') in subst P (sym is) h

pub due_awaits : {E : Type 0} (r : Result Act E) (s s' : State) (f : Frame) → IfOk r (λ a. IsDue s f a s') → IfOk r (AwaitsFor s' f.stream)
due_awaits (Ok a) s s' f h = awaits s s' f a h
due_awaits (Err x) s s' f h = tt
