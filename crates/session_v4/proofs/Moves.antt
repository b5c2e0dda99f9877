-- What a frame changes of a connection.
use Rattle.std.proofs.Common.{◌≡◌, ℕ, ℤ, zero, suc, ◌+◌, ◌≤◌, ◌⊎◌, ◌&&◌, inl, inr, not, IsTrue, List, [], ◌∷◌, ◌++◌, Bool, true, false, cond, length, drop, Option, Some, None, Result, Ok, Err, refl, sym, ◌∙◌, ap, subst, arith, length-append}
use Rattle.std.specs.Prelude.{is_some, nat_lt, MatchBool}
use Rattle.std.specs.List.{find}
use Rattle.std.specs.Str.{bytes_eq}
use Rattle.std.proofs.lemmas.Grind.{common_steps}
use Rattle.std.proofs.lemmas.Slice.Eq.{bytes_eq-Decides}
use Rattle.body_notations.specs.declared.fault.BodyError.{BodyError}
use Rattle.cql_parser.specs.declared.error.ParseError.{ParseError}
use Rattle.cql_statement.specs.declared.statement.Statement.{Statement}
use Rattle.frame_v4.specs.declared.frame.Frame.{Frame}
use Rattle.peer_messages.specs.declared.event.Ask.{Ask}
use Rattle.prepared_statement.specs.Prepared.{outline_of, refusal_of}
use Rattle.prepared_statement.specs.declared.change.Change.{Change}
use Rattle.prepared_statement.specs.declared.prepared.Prepared.{Prepared}
use Rattle.request_bodies.specs.Reading.{request_in}
use Rattle.request_bodies.specs.declared.batch.Batch.{Batch}
use Rattle.request_bodies.specs.declared.parameters.QueryParameters.{QueryParameters}
use Rattle.request_bodies.specs.declared.request.Execute.{Execute}
use Rattle.request_bodies.specs.declared.request.Query.{Query}
use Rattle.request_bodies.specs.declared.request.Request.{Request}
use Rattle.request_bodies.specs.declared.request.Request.TheVariants as requests
use Rattle.request_bodies.specs.declared.startup.StringPair.{StringPair}
use Rattle.session_v4.specs.Words.{HasWord}
use Rattle.response_bodies.specs.declared.metadata.Prepared.{Prepared as Told}
use Rattle.response_bodies.specs.declared.response.Response.{Response}
use Rattle.response_bodies.specs.declared.response.Response.TheVariants as responses
use Rattle.statement_plan.specs.declared.fault.Fault.{Fault}
use Rattle.session_v4.specs.Kept.{id_of, kept_at, keep, kept_if, without_oldest}
use Rattle.session_v4.specs.Laws.{StartsOnce, NothingBefore, NothingUnknown, KeyspaceIsTold, FewKept, SameAsked}
use Rattle.session_v4.specs.Sessions.{State, Replies, Takes, used_by, is_short, started_by, startup_response, Keeps, kept_as, prepared_response, IsStartupDue, IsStatementDue, IsQueryDue, IsReadDue, IsReading, IsFoundDue, IsExecuteDue, IsOutlineDue, IsReadPrepared, IsChangesDue, AreEntriesDue, IsTakenDue, IsRequestDue, IsBodyDue, IsDue, Waits, AwaitsFor}
use Rattle.session_v4.specs.Startup.{startup_fault, needs_startup}
use Rattle.session_v4.specs.declared.act.Act.{Act}
use Rattle.session_v4.specs.declared.act.Act.TheVariants as acts
use Rattle.session_v4.specs.declared.kept.KeptStatement.{KeptStatement}
use Rattle.session_v4.specs.declared.outcome.Outcome.{Outcome}
use Rattle.session_v4.specs.declared.outcome.Outcome.TheVariants as outcome

-- what a frame on this stream may change
record Moves (s : State) (stream : ℤ) (a : Act) (s' : State) : Type 0 where
  started : s.started ≡ true → s'.started ≡ true
  kept : (s'.kept ≡ s.kept) ⊎ ((k : KeptStatement) × (s'.kept ≡ keep s.kept k))
  used : (s'.used ≡ s.used) ⊎ ((name : List ℕ) × (s'.used ≡ Some name) × (a ≡ acts.Reply (responses.SetKeyspace name)) × (is_short name ≡ true))
  awaited : (ask : Ask) → a ≡ acts.Submit ask → Waits s' stream

moves_to : (s : State) (stream : ℤ) (a : Act) (s' t : State) → s' ≡ t → Moves s stream a t → Moves s stream a s'
moves_to s stream a s' t e m = let P : State → Type 0 = λ u. Moves s stream a u in subst P (sym e) m

no_reply : (a : Act) (r : Response) (ask : Ask) (P : Type 0) → a ≡ acts.Reply r → a ≡ acts.Submit ask → P
no_reply a r ask P e f = cc

moves_not : (s : State) (stream : ℤ) (a : Act) (r : Response) → a ≡ acts.Reply r → Moves s stream a s
moves_not s stream a r e = record { started = λ h. h; kept = inl refl; used = inl refl; awaited = λ ask f. no_reply a r ask (Waits s stream) e f }

moves_replies : (s s' : State) (stream : ℤ) (r : Response) (a : Act) → Replies s r a s' → Moves s stream a s'
moves_replies s s' stream r a h = moves_to s stream a s' s h.1 (moves_not s stream a r h.0)

started_still : (b : Bool) (f : Option (List ℕ)) → b ≡ true → started_by b f ≡ true
started_still b None h = refl
started_still b (Some text) h = h

moves_startup : (s s' : State) (stream : ℤ) (options : List StringPair) (a : Act) → IsStartupDue s options a s' → Moves s stream a s'
moves_startup s s' stream options a h =
    let t : State = record s { started = started_by s.started (startup_fault s.started options) } in
    moves_to s stream a s' t h.1
    (record {
      started = started_still s.started (startup_fault s.started options);
      kept = inl refl;
      used = inl refl;
      awaited = λ ask f. no_reply a (startup_response (startup_fault s.started options)) ask (Waits t stream) h.0 f;
    })

moves_using : (s : State) (stream : ℤ) (name : List ℕ) (b : Bool) → is_short name ≡ b
    → Moves s stream (acts.Reply (responses.SetKeyspace name)) (record s { used = cond b (Some name) s.used })
moves_using s stream name true e =
    let t : State = record s { used = Some name } in
    record {
      started = λ h. h;
      kept = inl refl;
      used = inr (name, refl, refl, e);
      awaited = λ ask f. no_reply (acts.Reply (responses.SetKeyspace name)) (responses.SetKeyspace name) ask (Waits t stream) refl f;
    }
moves_using s stream name false e = moves_not s stream (acts.Reply (responses.SetKeyspace name)) (responses.SetKeyspace name) refl

moves_takes : (s s' : State) (stream : ℤ) (o : Outcome) (a : Act) → Takes s stream o a s' → Moves s stream a s'
moves_takes s s' stream (outcome.Refused reason) a h = moves_replies s s' stream _ a h
moves_takes s s' stream (outcome.Use name) a h =
    let P : Act → Type 0 = λ b. Moves s stream b s' in
    subst P (sym h.0) (moves_to s stream (acts.Reply (responses.SetKeyspace name)) s' (record s { used = used_by s.used name }) h.1 (moves_using s stream name (is_short name) refl))
moves_takes s s' stream (outcome.Submit ask wanted) a h =
    moves_to s stream a s' (record s { awaited = Some (record { stream = stream; wanted = wanted }) }) h.1
    (record { started = λ h. h; kept = inl refl; used = inl refl; awaited = λ other f. refl })

moves_kept : (s : State) (stream : ℤ) (k : KeptStatement) (r : Response) (a : Act) (b : Bool) → a ≡ acts.Reply r → Moves s stream a (record s { kept = kept_if b s.kept k })
moves_kept s stream k r a true e =
    let t : State = record s { kept = keep s.kept k } in
    record { started = λ on. on; kept = inr (k, refl); used = inl refl; awaited = λ ask f. no_reply a r ask (Waits t stream) e f }
moves_kept s stream k r a false e = moves_not s stream a r e

moves_keeps : (s s' : State) (stream : ℤ) (k : KeptStatement) (r : Response) (a : Act) → a ≡ acts.Reply r → Keeps s k r s' → Moves s stream a s'
moves_keeps s s' stream k r a e (b, fits, h) = moves_to s stream a s' (record s { kept = kept_if b s.kept k }) h (moves_kept s stream k r a b e)

moves_query : (s s' : State) (stream : ℤ) (q : Query) (a : Act) (r : Result Statement ParseError) → IsReadDue s stream q r a s' → Moves s stream a s'
moves_query s s' stream q a (Err e) h = moves_replies s s' stream _ a h
moves_query s s' stream q a (Ok t) (o, comes, h) = moves_takes s s' stream o a h

moves_found : (s s' : State) (stream : ℤ) (e : Execute) (a : Act) (k : Option KeptStatement) → IsFoundDue s stream e k a s' → Moves s stream a s'
moves_found s s' stream e a None h = moves_replies s s' stream _ a h
moves_found s s' stream e a (Some k) (o, comes, h) = moves_takes s s' stream o a h

moves_outline : (s s' : State) (stream : ℤ) (text : List ℕ) (p : Prepared) (f : Option Fault) (a : Act) → IsOutlineDue s text p f a s' → Moves s stream a s'
moves_outline s s' stream text p (Some f) a h = moves_replies s s' stream _ a h
moves_outline s s' stream text p None a h = moves_keeps s s' stream (kept_as s text p) (prepared_response s (kept_as s text p)) a h.0 h.1

moves_prepare : (s s' : State) (stream : ℤ) (text : List ℕ) (a : Act) (r : Result Statement ParseError) → IsReadPrepared s text r a s' → Moves s stream a s'
moves_prepare s s' stream text a (Err e) h = moves_replies s s' stream _ a h
moves_prepare s s' stream text a (Ok t) h = moves_outline s s' stream text (outline_of s.book s.used t) (refusal_of (outline_of s.book s.used t)) a h

moves_changes : (s s' : State) (stream : ℤ) (b : Batch) (cs : Option (List Change)) (a : Act) → IsChangesDue s stream b cs a s' → Moves s stream a s'
moves_changes s s' stream b None a h = moves_replies s s' stream _ a h
moves_changes s s' stream b (Some cs) a (o, comes, h) = moves_takes s s' stream o a h

moves_entries : (s s' : State) (stream : ℤ) (b : Batch) (r : Result (List Prepared) Response) (a : Act) → AreEntriesDue s stream b r a s' → Moves s stream a s'
moves_entries s s' stream b (Err r) a h = moves_replies s s' stream r a h
moves_entries s s' stream b (Ok ps) a h = moves_changes s s' stream b _ a h

moves_taken : (s s' : State) (stream : ℤ) (r : Request) (a : Act) → IsTakenDue s stream r a s' → Moves s stream a s'
moves_taken s s' stream (requests.Startup options) a h = moves_startup s s' stream options a h
moves_taken s s' stream requests.Options a h = moves_replies s s' stream _ a h
moves_taken s s' stream (requests.Query q) a (r, reading, h) = moves_query s s' stream q a r h
moves_taken s s' stream (requests.Prepare text) a (r, reading, h) = moves_prepare s s' stream text a r h
moves_taken s s' stream (requests.Execute e) a h = moves_found s s' stream e a (kept_at s.kept e.id) h
moves_taken s s' stream (requests.Register events) a h = moves_replies s s' stream _ a h
moves_taken s s' stream (requests.Batch b) a (r, entries, h) = moves_entries s s' stream b r a h

moves_request : (s s' : State) (stream : ℤ) (r : Request) (a : Act) (first : Response) (b : Bool) → MatchBool b (Replies s first a s') (IsTakenDue s stream r a s') → Moves s stream a s'
moves_request s s' stream r a first true h = moves_replies s s' stream first a h
moves_request s s' stream r a first false h = moves_taken s s' stream r a h

moves_body : (s s' : State) (stream : ℤ) (r : Result Request BodyError) (a : Act) → IsBodyDue s stream r a s' → Moves s stream a s'
moves_body s s' stream (Err e) a h = moves_replies s s' stream _ a h
moves_body s s' stream (Ok r) a h = moves_request s s' stream r a _ (needs_startup r && not s.started) h

moves : (s s' : State) (f : Frame) (a : Act) → IsDue s f a s' → Moves s f.stream a s'
moves s s' f a h = moves_body s s' f.stream (request_in f.flags f.opcode f.body) a h

-- ---- STARTUP

ready_starts : (s s' : State) (f : Option (List ℕ)) → startup_response f ≡ responses.Ready → f ≡ None
ready_starts s s' None e = refl
ready_starts s s' (Some text) e = cc

not_started : (b : Bool) (options : List StringPair) → startup_fault b options ≡ None → b ≡ false
not_started false options e = refl
not_started true options e = cc

starts : (s s' : State) (stream : ℤ) (options : List StringPair) (a : Act) → IsTakenDue s stream (requests.Startup options) a s'
    → a ≡ acts.Reply responses.Ready → (s.started ≡ false) × (s'.started ≡ true)
starts s s' stream options a h e =
    let same : acts.Reply (startup_response (startup_fault s.started options)) ≡ acts.Reply responses.Ready = sym h.0 ∙ e in
    let ready : startup_response (startup_fault s.started options) ≡ responses.Ready = cc in
    let none : startup_fault s.started options ≡ None = ready_starts s s' (startup_fault s.started options) ready in
    (not_started s.started options none, ap (λ (t : State). t.started) h.1 ∙ ap (started_by s.started) none)

pub starts_once : StartsOnce
starts_once = record { starts = starts; stays = λ s s' f a h on. (moves s s' f a h).started on }

-- ---- what is submitted

never_replied : (s s' : State) (r : Response) (ask : Ask) → Replies s r (acts.Submit ask) s' → ⊥
never_replied s s' r ask h = let e = h.0 in cc

once_started : (s s' : State) (r : Response) (ask : Ask) (b : Bool) (Q : Type 0) → MatchBool (true && not b) (Replies s r (acts.Submit ask) s') Q → b ≡ true
once_started s s' r ask true Q h = refl
once_started s s' r ask false Q h = absurd (never_replied s s' r ask h)

started_for : (s s' : State) (stream : ℤ) (r : Request) (ask : Ask) → IsRequestDue s stream r (acts.Submit ask) s' → s.started ≡ true
started_for s s' stream (requests.Startup options) ask h = let e = h.0 in cc
started_for s s' stream requests.Options ask h = absurd (never_replied s s' _ ask h)
started_for s s' stream (requests.Query q) ask h = once_started s s' _ ask s.started _ h
started_for s s' stream (requests.Prepare text) ask h = once_started s s' _ ask s.started _ h
started_for s s' stream (requests.Execute e) ask h = once_started s s' _ ask s.started _ h
started_for s s' stream (requests.Register events) ask h = once_started s s' _ ask s.started _ h
started_for s s' stream (requests.Batch b) ask h = once_started s s' _ ask s.started _ h

started_at : (s s' : State) (stream : ℤ) (r : Result Request BodyError) (ask : Ask) → IsBodyDue s stream r (acts.Submit ask) s' → s.started ≡ true
started_at s s' stream (Err e) ask h = absurd (never_replied s s' _ ask h)
started_at s s' stream (Ok r) ask h = started_for s s' stream r ask h

pub nothing_before : NothingBefore
nothing_before s s' f ask h = started_at s s' f.stream (request_in f.flags f.opcode f.body) ask h

not_found : (s s' : State) (stream : ℤ) (e : Execute) (ask : Ask) (k : Option KeptStatement) → k ≡ None → IsFoundDue s stream e k (acts.Submit ask) s' → ⊥
not_found s s' stream e ask None none h = never_replied s s' _ ask h
not_found s s' stream e ask (Some k) none h = cc

not_submitted : (s s' : State) (stream : ℤ) (e : Execute) (ask : Ask) (first : Response) (b : Bool) → kept_at s.kept e.id ≡ None
    → MatchBool b (Replies s first (acts.Submit ask) s') (IsExecuteDue s stream e (acts.Submit ask) s') → ⊥
not_submitted s s' stream e ask first true none h = never_replied s s' first ask h
not_submitted s s' stream e ask first false none h = not_found s s' stream e ask (kept_at s.kept e.id) none h

pub nothing_unknown : NothingUnknown
nothing_unknown s s' f e ask is none h =
    let Q : Result Request BodyError → Type 0 = λ r. IsBodyDue s f.stream r (acts.Submit ask) s' in
    let due : IsRequestDue s f.stream (requests.Execute e) (acts.Submit ask) s' = subst Q is h in
    not_submitted s s' f.stream e ask _ (true && not s.started) none due

-- a node that is asked is asked for the stream of the frame
awaits_at : (s s' : State) (stream : ℤ) (a : Act) → Moves s stream a s' → AwaitsFor s' stream a
awaits_at s s' stream (acts.Reply r) m = tt
awaits_at s s' stream (acts.Close r) m = tt
awaits_at s s' stream (acts.Submit ask) m = m.awaited ask refl

pub awaits : (s s' : State) (f : Frame) (a : Act) → IsDue s f a s' → AwaitsFor s' f.stream a
awaits s s' f a h = awaits_at s s' f.stream a (moves s s' f a h)

-- ---- the keyspace in use

told_keyspace : (s s' : State) (stream : ℤ) (a : Act) → Moves s stream a s'
    → (s'.used ≡ s.used) ⊎ ((name : List ℕ) × (s'.used ≡ Some name) × (a ≡ acts.Reply (responses.SetKeyspace name)))
told_keyspace s s' stream a m =
    elim m.used [
      | inl same ↦ inl same
      | inr (name, e, is, short) ↦ inr (name, e, is)
    ]

pub keyspace_is_told : KeyspaceIsTold
keyspace_is_told s s' f a h = told_keyspace s s' f.stream a (moves s s' f a h)

-- ---- kept statements

few_without : (kept : List KeptStatement) (b : Bool) → nat_lt (length kept) 1024 ≡ b → length kept ≤ 1024 → length (cond b kept (drop 1 kept)) + 1 ≤ 1024
few_without kept true e few = grind (arith, common_steps)
few_without kept false e few = grind (arith, common_steps)

few_with : (kept : List KeptStatement) (k : KeptStatement) (b : Bool) → length kept ≤ 1024 → length (cond b kept (without_oldest kept ++ k ∷ [])) ≤ 1024
few_with kept k true few = few
few_with kept k false few =
    let fewer : length (without_oldest kept) + 1 ≤ 1024 = few_without kept (nat_lt (length kept) 1024) refl few in
    simp length-append (omega arith)

few_kept_by : (s s' : State) (stream : ℤ) (a : Act) → Moves s stream a s' → length s.kept ≤ 1024 → length s'.kept ≤ 1024
few_kept_by s s' stream a m few =
    let P : List KeptStatement → Type 0 = λ kept. length kept ≤ 1024 in
    elim m.kept [
      | inl same ↦ subst P (sym same) few
      | inr (k, e) ↦ subst P (sym e) (few_with s.kept k (is_some (kept_at s.kept k.id)) few)
    ]

pub few_kept : FewKept
few_kept s s' f a h few = few_kept_by s s' f.stream a (moves s s' f a h) few

-- ---- EXECUTE and QUERY

module _ (p : KeptStatement → Bool) where
  none_later : (k : KeptStatement) (ks : List KeptStatement) (b : Bool) → cond b (Some k) (find p ks) ≡ None → find p ks ≡ None
  none_later k ks true e = cc
  none_later k ks false e = e

  none_dropped : (n : ℕ) (ks : List KeptStatement) → find p ks ≡ None → find p (drop n ks) ≡ None
  none_dropped zero ks e = e
  none_dropped (suc n) [] e = e
  none_dropped (suc n) (k ∷ ks) e = none_dropped n ks (none_later k ks (p k) e)

  none_without : (ks : List KeptStatement) (b : Bool) → find p ks ≡ None → find p (cond b ks (drop 1 ks)) ≡ None
  none_without ks true e = e
  none_without ks false e = none_dropped 1 ks e

  found_behind : (ks : List KeptStatement) (k : KeptStatement) → find p ks ≡ None → p k ≡ true → find p (ks ++ k ∷ []) ≡ Some k
  found_behind [] k e is = ap (λ (b : Bool). cond b (Some k) None) is
  found_behind (j ∷ ks) k e is = found_later j ks k (p j) (λ later. found_behind ks k later is) e
    where
      found_later : (j : KeptStatement) (ks : List KeptStatement) (k : KeptStatement) (b : Bool) → (find p ks ≡ None → find p (ks ++ k ∷ []) ≡ Some k) → cond b (Some j) (find p ks) ≡ None → cond b (Some j) (find p (ks ++ k ∷ [])) ≡ Some k
      found_later j ks k true f e = cc
      found_later j ks k false f e = f e

same_bytes : (bytes : List ℕ) → bytes_eq bytes bytes ≡ true
same_bytes bytes = (bytes_eq-Decides bytes bytes).1 refl

kept_now : (kept : List KeptStatement) (k : KeptStatement) → kept_at kept k.id ≡ None → kept_at (keep kept k) k.id ≡ Some k
kept_now kept k none =
    let P : Bool → Type 0 = λ b. kept_at (cond b kept (without_oldest kept ++ k ∷ [])) k.id ≡ Some k in
    let absent : is_some (kept_at kept k.id) ≡ false = ap is_some none in
    subst P (sym absent)
    (found_behind (λ j. bytes_eq j.id k.id) (without_oldest kept) k (none_without (λ j. bytes_eq j.id k.id) kept (nat_lt (length kept) 1024) none) (same_bytes k.id))

-- a text that was prepared, what it is, and what is kept
record IsPrepared (s s' : State) (text : List ℕ) : Type 0 where
  statement : Statement
  reading : IsReading text (Ok statement)
  after : s' ≡ record s { kept = keep s.kept (kept_as s text (outline_of s.book s.used statement)) }

kept_where : (s s' : State) (k : KeptStatement) (b : Bool) → IsTrue b → s' ≡ record s { kept = kept_if b s.kept k } → s' ≡ record s { kept = keep s.kept k }
kept_where s s' k true is e = e
kept_where s s' k false is e = cc

kept_response : (s s' : State) (k : KeptStatement) (t : Told) → acts.Reply (responses.Prepared t) ≡ acts.Reply (prepared_response s k) → Keeps s k (prepared_response s k) s'
    → HasWord (responses.Prepared t) → s' ≡ record s { kept = keep s.kept k }
kept_response s s' k t e (b, word, h) fits =
    let same : responses.Prepared t ≡ prepared_response s k = cc in
    kept_where s s' k b (word.1 (subst HasWord same fits)) h

prepared_outline : (s s' : State) (text : List ℕ) (st : Statement) (f : Option Fault) (t : Told) → IsReading text (Ok st)
    → IsOutlineDue s text (outline_of s.book s.used st) f (acts.Reply (responses.Prepared t)) s' → HasWord (responses.Prepared t) → IsPrepared s s' text
prepared_outline s s' text st (Some f) t reading h fits = let e = h.0 in cc
prepared_outline s s' text st None t reading h fits = record {
  statement = st;
  reading = reading;
  after = kept_response s s' (kept_as s text (outline_of s.book s.used st)) t h.0 h.1 fits;
}

prepared_read : (s s' : State) (text : List ℕ) (r : Result Statement ParseError) (t : Told) → IsReading text r
    → IsReadPrepared s text r (acts.Reply (responses.Prepared t)) s' → HasWord (responses.Prepared t) → IsPrepared s s' text
prepared_read s s' text (Err e) t reading h fits = let e = h.0 in cc
prepared_read s s' text (Ok st) t reading h fits = prepared_outline s s' text st (refusal_of (outline_of s.book s.used st)) t reading h fits

same_from : (s s' : State) (text : List ℕ) → kept_at s.kept (id_of s.used text) ≡ None → IsPrepared s s' text
    → (stream : ℤ) (q : QueryParameters) (a : Act) (s'' : State)
    → IsExecuteDue s' stream (record { id = id_of s.used text; parameters = q }) a s''
    → IsQueryDue s' stream (record { query = text; parameters = q }) a s''
same_from s s' text none x stream q a s'' h =
    let k : KeptStatement = kept_as s text (outline_of s.book s.used x.statement) in
    let P : State → Type 0 = λ t. IsExecuteDue t stream (record { id = id_of s.used text; parameters = q }) a s'' in
    let Q : State → Type 0 = λ t. IsQueryDue t stream (record { query = text; parameters = q }) a s'' in
    let now : State = record s { kept = keep s.kept k } in
    let R : Option KeptStatement → Type 0 = λ found. IsFoundDue now stream (record { id = id_of s.used text; parameters = q }) found a s'' in
    let due : IsStatementDue now stream q k.prepared a s'' = subst R (kept_now s.kept k none) (subst P x.after h) in
    subst Q (sym x.after) (Ok x.statement, x.reading, due)

pub same_asked : SameAsked
same_asked s s' text t none (r, reading, h) fits stream q a s'' e =
    same_from s s' text none (prepared_read s s' text r t reading h fits) stream q a s'' e
