-- What is due for a frame leaves the connection open.
use Rattle.std.proofs.Common.{◌&&◌, not, ℤ, Bool, true, false, List, ℕ, Option, Some, None, Result, Ok, Err}
use Rattle.std.specs.Prelude.{MatchBool}
use Rattle.body_notations.specs.declared.fault.BodyError.{BodyError}
use Rattle.cql_parser.specs.declared.error.ParseError.{ParseError}
use Rattle.cql_statement.specs.declared.statement.Statement.{Statement}
use Rattle.frame_v4.specs.declared.frame.Frame.{Frame}
use Rattle.prepared_statement.specs.Prepared.{outline_of, refusal_of}
use Rattle.prepared_statement.specs.declared.change.Change.{Change}
use Rattle.prepared_statement.specs.declared.prepared.Prepared.{Prepared}
use Rattle.request_bodies.specs.Reading.{request_in}
use Rattle.request_bodies.specs.declared.batch.Batch.{Batch}
use Rattle.request_bodies.specs.declared.request.Execute.{Execute}
use Rattle.request_bodies.specs.declared.request.Query.{Query}
use Rattle.request_bodies.specs.declared.request.Request.{Request}
use Rattle.request_bodies.specs.declared.request.Request.TheVariants as requests
use Rattle.response_bodies.specs.declared.response.Response.{Response}
use Rattle.session_v4.specs.Kept.{kept_at}
use Rattle.session_v4.specs.Sessions.{State, Replies, Takes, IsReadDue, IsFoundDue, IsOutlineDue, IsReadPrepared, IsChangesDue, AreEntriesDue, IsTakenDue, IsBodyDue, IsDue, changes_of}
use Rattle.session_v4.specs.Startup.{needs_startup}
use Rattle.session_v4.specs.declared.act.Act.TheVariants as acts
use Rattle.session_v4.specs.declared.kept.KeptStatement.{KeptStatement}
use Rattle.session_v4.specs.declared.outcome.Outcome.{Outcome}
use Rattle.session_v4.specs.declared.outcome.Outcome.TheVariants as outcome
use Rattle.statement_plan.specs.declared.fault.Fault.{Fault}

by_reply : (s s' : State) (due r : Response) → Replies s due (acts.Close r) s' → ⊥
by_reply s s' due r h = let e = h.0 in cc

by_outcome : (s s' : State) (stream : ℤ) (o : Outcome) (r : Response) → Takes s stream o (acts.Close r) s' → ⊥
by_outcome s s' stream (outcome.Refused reason) r h = by_reply s s' _ r h
by_outcome s s' stream (outcome.Use name) r h = let e = h.0 in cc
by_outcome s s' stream (outcome.Submit ask wanted) r h = let e = h.0 in cc

by_query : (s s' : State) (stream : ℤ) (q : Query) (reading : Result Statement ParseError) (r : Response) → IsReadDue s stream q reading (acts.Close r) s' → ⊥
by_query s s' stream q (Err e) r h = by_reply s s' _ r h
by_query s s' stream q (Ok t) r (o, comes, h) = by_outcome s s' stream o r h

by_execute : (s s' : State) (stream : ℤ) (e : Execute) (k : Option KeptStatement) (r : Response) → IsFoundDue s stream e k (acts.Close r) s' → ⊥
by_execute s s' stream e None r h = by_reply s s' _ r h
by_execute s s' stream e (Some k) r (o, comes, h) = by_outcome s s' stream o r h

by_outline : (s s' : State) (text : List ℕ) (p : Prepared) (f : Option Fault) (r : Response) → IsOutlineDue s text p f (acts.Close r) s' → ⊥
by_outline s s' text p (Some f) r h = by_reply s s' _ r h
by_outline s s' text p None r h = let e = h.0 in cc

by_prepare : (s s' : State) (text : List ℕ) (reading : Result Statement ParseError) (r : Response) → IsReadPrepared s text reading (acts.Close r) s' → ⊥
by_prepare s s' text (Err e) r h = by_reply s s' _ r h
by_prepare s s' text (Ok t) r h = by_outline s s' text (outline_of s.book s.used t) (refusal_of (outline_of s.book s.used t)) r h

by_changes : (s s' : State) (stream : ℤ) (b : Batch) (cs : Option (List Change)) (r : Response) → IsChangesDue s stream b cs (acts.Close r) s' → ⊥
by_changes s s' stream b None r h = by_reply s s' _ r h
by_changes s s' stream b (Some cs) r (o, comes, h) = by_outcome s s' stream o r h

by_batch : (s s' : State) (stream : ℤ) (b : Batch) (found : Result (List Prepared) Response) (r : Response) → AreEntriesDue s stream b found (acts.Close r) s' → ⊥
by_batch s s' stream b (Err refused) r h = by_reply s s' _ r h
by_batch s s' stream b (Ok ps) r h = by_changes s s' stream b (changes_of ps) r h

by_request : (s s' : State) (stream : ℤ) (q : Request) (r : Response) → IsTakenDue s stream q (acts.Close r) s' → ⊥
by_request s s' stream (requests.Startup options) r h = let e = h.0 in cc
by_request s s' stream requests.Options r h = by_reply s s' _ r h
by_request s s' stream (requests.Query q) r (reading, is, h) = by_query s s' stream q reading r h
by_request s s' stream (requests.Prepare text) r (reading, is, h) = by_prepare s s' text reading r h
by_request s s' stream (requests.Execute e) r h = by_execute s s' stream e (kept_at s.kept e.id) r h
by_request s s' stream (requests.Register events) r h = by_reply s s' _ r h
by_request s s' stream (requests.Batch b) r (found, are, h) = by_batch s s' stream b found r h

in_place : (s s' : State) (stream : ℤ) (q : Request) (first r : Response) (b : Bool) → MatchBool b (Replies s first (acts.Close r) s') (IsTakenDue s stream q (acts.Close r) s') → ⊥
in_place s s' stream q first r true h = by_reply s s' first r h
in_place s s' stream q first r false h = by_request s s' stream q r h

by_body : (s s' : State) (stream : ℤ) (read : Result Request BodyError) (r : Response) → IsBodyDue s stream read (acts.Close r) s' → ⊥
by_body s s' stream (Err e) r h = by_reply s s' _ r h
by_body s s' stream (Ok q) r h = in_place s s' stream q _ r (needs_startup q && not s.started) h

pub leaves_open : (s s' : State) (f : Frame) (r : Response) → IsDue s f (acts.Close r) s' → ⊥
leaves_open s s' f r h = by_body s s' f.stream (request_in f.flags f.opcode f.body) r h
