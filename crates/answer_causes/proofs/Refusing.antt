-- A request is refused in the event in which it comes exactly where too many wait or too few replicas are alive.
use Rattle.std.proofs.Common.{◌≡◌, ◌≢◌, ℕ, suc, inl, inr, ◌⊎◌, ◌≤◌, ◌<◌, ◌+◌, Bool, true, false, Option, Some, None, List, [], ◌∷◌, ◌++◌, refl, sym, ap, subst, ◌∙◌, arith, Contains, filter, length}
use Rattle.std.specs.Prelude.{◌↔◌, ◌==◌, not, if◌then◌else◌, map, flat_map, nat_lt, MatchBool}
use Rattle.std.specs.Map.{keys_of}
use Rattle.std.proofs.lemmas.Bool.{eqb-true, le-ltb, eq-eqb, lt-ltb, ltb-true, ltb-false, not-true, not-false}
use Rattle.std.proofs.lemmas.List.Elements.{Contains-append_cases, Contains-append_left, Contains-append_right}
use Rattle.cs_base.specs.declared.ids.ReqId.{ReqId}
use Rattle.cs_base.specs.declared.level.Level.{Level}
use Rattle.cs_base.specs.Requests.{is_request}
use Rattle.cs_base.proofs.Members.{contains_nil, contains_here, contains_there, contains_cases, contains_one, contains_filter, contains_from_filter, contains_flat, contains_from_flat}
use Rattle.changes.specs.declared.Held.{Held}
use Rattle.changes.specs.declared.Partition.{Partition}
use Rattle.changes.specs.Drafts.{mutation_of}
use Rattle.changes.specs.declared.Mutation.{Mutation}
use Rattle.peer_messages.specs.declared.chronicle.Entry.{Entry}
use Rattle.peer_messages.specs.declared.chronicle.Entry.TheVariants.{Submitted, Acked, Refused, Used, Began, Rows}
use Rattle.peer_messages.specs.declared.chronicle.Invalid.TheVariants as reason
use Rattle.peer_messages.specs.declared.chronicle.Refusal.{Refusal}
use Rattle.peer_messages.specs.declared.chronicle.Refusal.TheVariants.{Unavailable, WriteTimeout, ReadTimeout, Overloaded, Invalid, Down as IsDown}
use Rattle.peer_messages.specs.declared.event.Ask.{Ask}
use Rattle.peer_messages.specs.declared.event.Event.{Event}
use Rattle.peer_messages.specs.declared.event.Plan.{Plan}
use Rattle.peer_messages.specs.declared.event.Plan.TheVariants as plan
use Rattle.peer_messages.specs.declared.event.What.{What}
use Rattle.peer_messages.specs.declared.event.What.TheVariants.{Client, Deliver, Alive, Collect, Flush, Tick}
use Rattle.peer_messages.specs.declared.message.Body.{Body}
use Rattle.peer_messages.specs.declared.message.Body.TheVariants.{Write, WriteAck, Read, ReadReply, Mend, MendAck, Hint, HintAck}
use Rattle.peer_messages.specs.declared.outcome.Move.{Move}
use Rattle.peer_messages.specs.declared.outcome.Outputs.{Outputs}
use Rattle.peer_messages.specs.declared.setting.Setting.{Setting}
use Rattle.peer_messages.specs.Settings.{needed}
use Rattle.peer_messages.specs.Moves.{quiet as quiet_move, deadline_of}
use Rattle.node_steps.specs.State.{NodeState, OpenWrite, OpenRead}
use Rattle.node_steps.specs.Effects.{Effects, nothing, open_at, Takes}
use Rattle.node_steps.specs.Fitting.{write_fits, query_fits, message_fits, mark_fits}
use Rattle.node_steps.specs.Replicas.{Asker}
use Rattle.node_steps.specs.Writes.{HearsAck, heard_write, is_enough, ack_told, acks_of, write_needs}
use Rattle.node_steps.specs.Reads.{HearsReply, TellsRows, MergesReply, is_stray, heard_by, replies_of, read_needs, AwaitsMends, mends, differing, HearsMendAck, is_awaited, mended_by}
use Rattle.node_steps.specs.Requests.{refusal_of, is_serial, is_overloaded, unanswered, unanswered_writes, alive_of, BeginsOrRefuses}
use Rattle.node_steps.specs.Acts.{Act, Rises, Hears, Asks, Marks, DeadlineComes, HintExpires, Incoming, Deed, Does, HearsBody, Ends, EndsRead, Chain, request_at, is_old, asker_of, TakesChanges}
use Rattle.node_steps.specs.Acts.Chain.{begun, own, matter}
use Rattle.node_steps.specs.Steps.{NodeStep, Due, AreDue, act_of, matter_of, is_ahead, looked_at, time_after, started_by, entries_of}
use Rattle.cluster_runs.specs.World.{World}
use Rattle.cluster_runs.specs.Run.{Run}
use Rattle.cluster_runs.specs.Run.RunFrom.{begun as fresh, more as went_on, stopped_in, stopped, load, load_failed, turned}
use Rattle.cluster_runs.proofs.Submissions.{same_request, itself}
use Rattle.answer_causes.specs.Story.{Happening, Step, story, asked_in, is_unanswered, waiting_at}
use Rattle.answer_causes.specs.Causes.{EachStep}
use Rattle.answer_causes.specs.Marks.{down_at}
use Rattle.answer_causes.specs.Numbers.{WritesTo, ReadsFrom}
use Rattle.answer_causes.specs.Refusals.{plan_fits, IsRequest, waiting_then, alive_then, RefusesWhere}
use Rattle.answer_causes.proofs.Entries.{Apart, same_or_other, key_in, key_back, head_same as open_head, head_other as open_tail_of}
use Rattle.answer_causes.proofs.Turns.{open_here, IsOpen, IsNeat, IsAsk, PendingWrite, Found, pending_found}
use Rattle.answer_causes.proofs.Steps.{Told, NewAt, AreOld}
use Rattle.answer_causes.proofs.Chains.{at_time, IsHeard, IsLastAsk, within, deeds_do, whole}
use Rattle.answer_causes.proofs.Waiting.{IsFaithful, IsDueAct, due_acts, due_last, looked_last, heard_none, becomes_old, known_step, step_time, behind, waiting_here, away, known}
use Rattle.answer_causes.proofs.Phases.{IsQuiet, AreQuiet, parts, quiet_told, quiet_acts}
use Rattle.answer_causes.proofs.Timeouts.{all_quiet, lines_last, heard_line, le_or_lt, zero_or_not, closed, deadline_due, due_deadline, open_key, answering, timeout_act}
use Rattle.answer_causes.proofs.Marking.{marks_seen}

-- ---- lists in which nothing stands twice

abbrev Once : List ReqId → Type 0
Once [] = Unit {0}
Once (x ∷ xs) = (Contains xs x → ⊥) × Once xs

shorter_by : (b : Bool) (x : ReqId) (front xs : List ReqId) → length front ≤ length xs → length (if b then x ∷ front else front) ≤ length (x ∷ xs)
shorter_by true x front xs h = omega (arith, h)
shorter_by false x front xs h = omega (arith, h)

filter_shorter : (p : ReqId → Bool) (xs : List ReqId) → length (filter p xs) ≤ length xs
filter_shorter p [] = omega arith
filter_shorter p (x ∷ xs) = shorter_by (p x) x (filter p xs) xs (filter_shorter p xs)

drops_here : (b : Bool) (x : ReqId) (front xs : List ReqId) → b ≡ false → length front ≤ length xs → length (if b then x ∷ front else front) < length (x ∷ xs)
drops_here true x front xs is h = cc
drops_here false x front xs is h = omega (arith, h)

drops_there : (b : Bool) (x : ReqId) (front xs : List ReqId) → length front < length xs → length (if b then x ∷ front else front) < length (x ∷ xs)
drops_there true x front xs h = omega (arith, h)
drops_there false x front xs h = omega (arith, h)

filter_drops : (p : ReqId → Bool) (xs : List ReqId) (x : ReqId) → Contains xs x → p x ≡ false → length (filter p xs) < length xs
filter_drops p [] x h fails = absurd (contains_nil x h)
filter_drops p (y ∷ ys) x h fails = elim (contains_cases y ys x h) [
  | inl here ↦ drops_here (p y) y (filter p ys) ys (ap p here ∙ fails) (filter_shorter p ys)
  | inr there ↦ drops_there (p y) y (filter p ys) ys (filter_drops p ys x there fails)
]

abbrev not_it : (x y : ReqId) → Bool
not_it x y = not (is_request x y)

it_fails : (x : ReqId) → not_it x x ≡ false
it_fails x = ap not (itself x)

other_by : (b : Bool) (x y : ReqId) → is_request x y ≡ b → (y ≡ x → ⊥) → b ≡ false
other_by true x y is other = absurd (other (sym (same_request x y is)))
other_by false x y is other = refl

other_passes : (x y : ReqId) → (y ≡ x → ⊥) → not_it x y ≡ true
other_passes x y other = ap not (other_by (is_request x y) x y refl other)

once_fits : (xs ys : List ReqId) → Once xs → ((x : ReqId) → Contains xs x → Contains ys x) → length xs ≤ length ys
once_fits [] ys once within_ys = omega arith
once_fits (x ∷ xs) ys once within_ys =
    let rest = once_fits xs (filter (not_it x) ys) once.1
    (λ y h. contains_filter (not_it x) ys y (within_ys y (contains_there x xs y h)) (other_passes x y (λ same. once.0 (subst (λ (z : ReqId). Contains xs z) same h)))) in
    let drops = filter_drops (not_it x) ys x (within_ys x (contains_here x xs)) (it_fails x) in
    omega (arith, rest, drops)

same_length : (xs ys : List ReqId) → Once xs → Once ys → ((x : ReqId) → Contains xs x ↔ Contains ys x) → length xs ≡ length ys
same_length xs ys a b same =
    let up = once_fits xs ys a (λ x h. (same x).0 h) in
    let down = once_fits ys xs b (λ x h. (same x).1 h) in
    omega (arith, up, down)

once_head : (b : Bool) (x : ReqId) (xs front : List ReqId) → (Contains front x → ⊥) → Once front → Once (if b then x ∷ front else front)
once_head true x xs front new h = (new, h)
once_head false x xs front new h = h

once_filter : (p : ReqId → Bool) (xs : List ReqId) → Once xs → Once (filter p xs)
once_filter p [] once = tt
once_filter p (x ∷ xs) once = once_head (p x) x xs (filter p xs) (λ h. once.0 (contains_from_filter p xs x h).0) (once_filter p xs once.1)

once_append : (xs ys : List ReqId) → Once xs → Once ys → ((x : ReqId) → Contains xs x → Contains ys x → ⊥) → Once (xs ++ ys)
once_append [] ys a b apart = b
once_append (x ∷ xs) ys a b apart = (
  λ h. elim (Contains-append_cases xs ys x h) [ inl l ↦ a.0 l | inr r ↦ apart x (contains_here x xs) r ],
  once_append xs ys a.1 b (λ y l r. apart y (contains_there x xs y l) r),
)

-- ---- the open requests of a state

abbrev pending_ids : List (ReqId × OpenWrite) → List ReqId
pending_ids [] = []
pending_ids (w ∷ ws) = if w.1.answered then pending_ids ws else w.0 ∷ pending_ids ws

abbrev open_ids : NodeState → List ReqId
open_ids s = pending_ids s.writes ++ keys_of s.reads

-- as many as have no answer
counts_head : (b : Bool) (id : ReqId) (ids : List ReqId) (n : ℕ) → length ids ≡ n → length (if b then ids else id ∷ ids) ≡ (if b then 0 else 1) + n
counts_head true id ids n is = omega (arith, is)
counts_head false id ids n is = omega (arith, is)

counts_pending : (ws : List (ReqId × OpenWrite)) → length (pending_ids ws) ≡ unanswered_writes ws
counts_pending [] = refl
counts_pending (w ∷ ws) = counts_head w.1.answered w.0 (pending_ids ws) (unanswered_writes ws) (counts_pending ws)

counts_keys : {A : Type 0} (xs : List (ReqId × A)) → length (keys_of xs) ≡ length xs
counts_keys {A} [] = refl
counts_keys {A} (x ∷ xs) = ap suc (counts_keys xs)

both_lengths : (xs ys : List ReqId) → length (xs ++ ys) ≡ length xs + length ys
both_lengths [] ys = omega arith
both_lengths (x ∷ xs) ys = let rest = both_lengths xs ys in omega (arith, rest)

open_count : (s : NodeState) → length (open_ids s) ≡ unanswered s
open_count s =
    let all = both_lengths (pending_ids s.writes) (keys_of s.reads) in
    let writes = counts_pending s.writes in
    let reads = counts_keys s.reads in
    omega (arith, all, writes, reads)

-- ---- who refuses

-- these entries refuse nothing
abbrev NoRefusal : List Entry → Type 0
NoRefusal es = (id : ReqId) (r : Refusal) → Contains es (Refused id r) → ⊥

no_entries : NoRefusal []
no_entries id r h = contains_nil _ h

by_effects : (o p : Effects) → o ≡ p → NoRefusal p.entries → NoRefusal o.entries
by_effects o p is none = subst (λ (x : Effects). NoRefusal x.entries) (sym is) none

ack_none : (a e : Bool) (id : ReqId) (w : OpenWrite) → NoRefusal (ack_told a e id w)
ack_none true e id w = no_entries
ack_none false true id w = λ q r h. let e : Acked id w.level w.heard ≡ Refused q r = contains_one _ _ h in cc
ack_none false false id w = no_entries

acks_none : (c : Setting) (id : ReqId) (from : ℕ) (xs xs' : List (ReqId × OpenWrite)) (o : Option OpenWrite) (turn : Move) → Takes (HearsAck c id from) id xs o turn xs' → NoRefusal turn.entries
acks_none c id from xs xs' None turn h = subst (λ (t : Move). NoRefusal t.entries) (sym h.0) no_entries
acks_none c id from xs xs' (Some w) turn (w', (is, next), same) =
    subst (λ (t : Move). NoRefusal t.entries) (sym is) (ack_none (heard_write c from w).answered (is_enough c (heard_write c from w)) id (heard_write c from w))

rows_none : (id : ReqId) (r : OpenRead) (turn : Move) → TellsRows id r turn → NoRefusal turn.entries
rows_none id r turn (rows, more, shown, is) =
    subst (λ (t : Move). NoRefusal t.entries) (sym is) (λ q x h. let e : Rows id rows more (record { heard = heard_by r; merged = r.merged }) ≡ Refused q x = contains_one _ _ h in cc)

quiet_none : (turn : Move) → turn ≡ quiet_move → NoRefusal turn.entries
quiet_none turn is = subst (λ (t : Move). NoRefusal t.entries) (sym is) no_entries

awaits_none : (id : ReqId) (r r' : OpenRead) (ks : List ℕ) (sent turn : Move) → NoRefusal sent.entries → AwaitsMends id r ks sent turn r' → NoRefusal turn.entries
awaits_none id r r' [] sent turn none h = rows_none id r turn h
awaits_none id r r' (k ∷ ks) sent turn none h = subst (λ (t : Move). NoRefusal t.entries) (sym h.0) none

counts_none : (b : Bool) (c : Setting) (id : ReqId) (r r' : OpenRead) (turn : Move) → MatchBool b ((turn ≡ quiet_move) × (r' ≡ r)) (AwaitsMends id r (differing c r) (mends id r (differing c r)) turn r') → NoRefusal turn.entries
counts_none true c id r r' turn h = quiet_none turn h.0
counts_none false c id r r' turn h = awaits_none id r r' (differing c r) (mends id r (differing c r)) turn no_entries h

merges_none : (b : Bool) (c : Setting) (id : ReqId) (from : ℕ) (content : List Held) (r r' : OpenRead) (turn : Move) → MatchBool b ((turn ≡ quiet_move) × (r' ≡ r)) (MergesReply c id from content r turn r') → NoRefusal turn.entries
merges_none true c id from content r r' turn h = quiet_none turn h.0
merges_none false c id from content r r' turn (n, is, merge, counts) = counts_none (nat_lt (replies_of c n) (read_needs c n)) c id n r' turn counts

replies_none : (c : Setting) (id : ReqId) (from : ℕ) (content : List Held) (xs xs' : List (ReqId × OpenRead)) (o : Option OpenRead) (turn : Move) → Takes (HearsReply c id from content) id xs o turn xs' → NoRefusal turn.entries
replies_none c id from content xs xs' None turn h = quiet_none turn h.0
replies_none c id from content xs xs' (Some r) turn (r', step, same) = merges_none (is_stray c from r) c id from content r r' turn step

mends_none : (b : Bool) (id : ReqId) (r r' : OpenRead) (ks : List ℕ) (turn : Move) → MatchBool b (AwaitsMends id r ks quiet_move turn r') ((turn ≡ quiet_move) × (r' ≡ r)) → NoRefusal turn.entries
mends_none true id r r' ks turn h = awaits_none id r r' ks quiet_move turn no_entries h
mends_none false id r r' ks turn h = quiet_none turn h.0

mended_none : (c : Setting) (id : ReqId) (from : ℕ) (xs xs' : List (ReqId × OpenRead)) (o : Option OpenRead) (turn : Move) → Takes (HearsMendAck c id from) id xs o turn xs' → NoRefusal turn.entries
mended_none c id from xs xs' None turn h = quiet_none turn h.0
mended_none c id from xs xs' (Some r) turn (r', step, same) = mends_none (is_awaited r.mending from) id r r' (mended_by r.mending from) turn step

merge_none : (a : Asker) (m : Mutation) (fits : Bool) (s : NodeState) (o : Effects) (s' : NodeState) → MatchBool fits (TakesChanges a m.partition m.changes MendAck s o s') ((o ≡ nothing) × (s' ≡ s)) → NoRefusal o.entries
merge_none a m true s o s' h = by_effects o _ h.2 no_entries
merge_none a m false s o s' h = by_effects o _ h.0 no_entries

body_none : (c : Setting) (me : ℕ) (a : Asker) (b : Body) (s : NodeState) (o : Effects) (s' : NodeState) → HearsBody c me a b s o s' → NoRefusal o.entries
body_none c me a (Write m) s o s' h = by_effects o _ h.2 no_entries
body_none c me a WriteAck s o s' (turn, moves, is, same) = by_effects o _ is (acks_none c a.request a.from s.writes s'.writes (open_at s.writes a.request) turn moves)
body_none c me a (Read q) s o s' h = by_effects o _ h.2 no_entries
body_none c me a (ReadReply content) s o s' (turn, moves, is, same) = by_effects o _ is (replies_none c a.request a.from content s.reads s'.reads (open_at s.reads a.request) turn moves)
body_none c me a (Mend m) s o s' h = merge_none a m (write_fits c m) s o s' h
body_none c me a MendAck s o s' (turn, moves, is, same) = by_effects o _ is (mended_none c a.request a.from s.reads s'.reads (open_at s.reads a.request) turn moves)
body_none c me a (Hint number m) s o s' h = by_effects o _ h.2 no_entries
body_none c me a (HintAck number) s o s' h = by_effects o _ h.0 no_entries

comes_none : (c : Setting) (me : ℕ) (m : Incoming) (old : Bool) (s : NodeState) (o : Effects) (s' : NodeState) → MatchBool old ((o ≡ nothing) × (s' ≡ s)) (HearsBody c me (asker_of m) m.body s o s') → NoRefusal o.entries
comes_none c me m true s o s' h = by_effects o nothing h.0 no_entries
comes_none c me m false s o s' h = body_none c me (asker_of m) m.body s o s' h

-- ---- the open requests are those that wait

none_pending : (o : Option OpenWrite) → o ≡ None → PendingWrite o → ⊥
none_pending o is h = subst PendingWrite is h

none_found : {A : Type 0} (o : Option A) → o ≡ None → Found o → ⊥
none_found {A} o is h = subst (λ (x : Option A). Found x) is h

pending_in_head : (b : Bool) (id : ReqId) (ids : List ReqId) (q : ReqId) → Contains (if b then ids else id ∷ ids) q → ((b ≡ false) × (id ≡ q)) ⊎ Contains ids q
pending_in_head true id ids q h = inr h
pending_in_head false id ids q h = elim (contains_cases id ids q h) [ inl here ↦ inl (refl, here) | inr there ↦ inr there ]

pending_in : (ws : List (ReqId × OpenWrite)) (q : ReqId) → Apart ws → Contains (pending_ids ws) q → PendingWrite (open_at ws q)
pending_in [] q apart h = absurd (contains_nil q h)
pending_in (w ∷ ws) q apart h = elim (pending_in_head w.1.answered w.0 (pending_ids ws) q h) [
  | inl (waits, here) ↦ subst (λ (k : ReqId). PendingWrite (open_at (w ∷ ws) k)) here (subst (λ (o : Option OpenWrite). PendingWrite o) (sym (open_head w ws)) waits)
  | inr there ↦
      let rest = pending_in ws q apart.1 there in
      let other : w.0 ≢ q = λ same. none_pending (open_at ws q) (subst (λ (k : ReqId). open_at ws k ≡ None) same apart.0) rest in
      subst (λ (o : Option OpenWrite). PendingWrite o) (sym (open_tail_of w ws q other)) rest
]

pending_back_head : (b : Bool) (id : ReqId) (ids : List ReqId) (q : ReqId) → Contains ids q → Contains (if b then ids else id ∷ ids) q
pending_back_head true id ids q h = h
pending_back_head false id ids q h = contains_there id ids q h

pending_back_here : (b : Bool) (id : ReqId) (ids : List ReqId) → b ≡ false → Contains (if b then ids else id ∷ ids) id
pending_back_here true id ids is = cc
pending_back_here false id ids is = contains_here id ids

pending_back : (ws : List (ReqId × OpenWrite)) (q : ReqId) → PendingWrite (open_at ws q) → Contains (pending_ids ws) q
pending_back [] q h = absurd h
pending_back (w ∷ ws) q h = elim (same_or_other q w.0) [
  | inl same ↦
      let waits : w.1.answered ≡ false = subst (λ (o : Option OpenWrite). PendingWrite o) (open_head w ws) (subst (λ (k : ReqId). PendingWrite (open_at (w ∷ ws) k)) (sym same) h) in
      subst (λ (k : ReqId). Contains (pending_ids (w ∷ ws)) k) same (pending_back_here w.1.answered w.0 (pending_ids ws) waits)
  | inr other ↦ pending_back_head w.1.answered w.0 (pending_ids ws) q (pending_back ws q (subst (λ (o : Option OpenWrite). PendingWrite o) (open_tail_of w ws q other) h))
]

keys_found : {A : Type 0} (xs : List (ReqId × A)) (q : ReqId) → Contains (keys_of xs) q → Found (open_at xs q)
keys_found {A} xs q h = let x = key_back xs q h in subst (λ (o : Option A). Found o) (sym x.1) tt

found_keys : {A : Type 0} (xs : List (ReqId × A)) (q : ReqId) (o : Option A) → open_at xs q ≡ o → Found o → Contains (keys_of xs) q
found_keys {A} xs q None is h = absurd h
found_keys {A} xs q (Some a) is h = key_in xs q a is

open_in_ids : (s : NodeState) (q : ReqId) → IsNeat s → Contains (open_ids s) q ↔ IsOpen s q
open_in_ids s q neat = (
  λ h. elim (Contains-append_cases (pending_ids s.writes) (keys_of s.reads) q h) [ inl w ↦ inl (pending_in s.writes q neat.writes w) | inr r ↦ inr (keys_found s.reads q r) ],
  λ h. elim h [
    | inl w ↦ Contains-append_left (pending_ids s.writes) (keys_of s.reads) q (pending_back s.writes q w)
    | inr r ↦ Contains-append_right (pending_ids s.writes) (keys_of s.reads) q (found_keys s.reads q (open_at s.reads q) refl r)
  ],
)

pending_once_head : (b : Bool) (id : ReqId) (ids : List ReqId) → (Contains ids id → ⊥) → Once ids → Once (if b then ids else id ∷ ids)
pending_once_head true id ids new once = once
pending_once_head false id ids new once = (new, once)

pending_once : (ws : List (ReqId × OpenWrite)) → Apart ws → Once (pending_ids ws)
pending_once [] apart = tt
pending_once (w ∷ ws) apart =
    pending_once_head w.1.answered w.0 (pending_ids ws) (λ h. none_pending (open_at ws w.0) apart.0 (pending_in ws w.0 apart.1 h)) (pending_once ws apart.1)

keys_once : {A : Type 0} (xs : List (ReqId × A)) → Apart xs → Once (keys_of xs)
keys_once {A} [] apart = tt
keys_once {A} (x ∷ xs) apart = (λ h. none_found (open_at xs x.0) apart.0 (keys_found xs x.0 h), keys_once xs apart.1)

ids_once : (s : NodeState) → IsNeat s → Once (open_ids s)
ids_once s neat =
    once_append (pending_ids s.writes) (keys_of s.reads) (pending_once s.writes neat.writes) (keys_once s.reads neat.reads)
    (λ q w r. neat.one_kind q (pending_found (open_at s.writes q) (pending_in s.writes q neat.writes w)) (keys_found s.reads q r))

-- ---- a request is taken where what is due was done

cons_nil : (a : Act) (xs : List Act) → a ∷ xs ≡ [] → ⊥
cons_nil a xs e = cc

tail_nil : (a b : Act) (xs : List Act) → a ∷ xs ≡ b ∷ [] → xs ≡ []
tail_nil a b xs e = cc

heard_asks_not : (a : Act) → IsHeard a → IsAsk a → ⊥
heard_asks_not a h ask = subst (λ (x : Act). IsHeard x) ask.1 h

-- what a node without a matter of its own left has taken of the request
ask_before : (c : Setting) (k : ℕ) (m : NodeState) (ask : Ask) (deeds : List Deed) (s' : NodeState) (pending left : List Act) → Chain c k m (Asks ask ∷ []) deeds s' pending left
    → (((deeds ≡ []) × (s' ≡ m) × (pending ≡ []) × (left ≡ Asks ask ∷ [])) ⊎ (left ≡ [])) × ((d : Deed) → Contains deeds d → IsAsk d.act → d.before ≡ m)
ask_before c k m ask _ _ _ _ begun = (inl (refl, refl, refl, refl), λ d h. absurd (contains_nil d h))
ask_before c k m ask _ _ _ _ (own deeds mid s' a pending left o chain does) =
    let prev = ask_before c k m ask deeds mid (a ∷ pending) left chain in
    let heard = (within c k m (Asks ask ∷ []) deeds mid (a ∷ pending) left chain).heard a (contains_here a pending) in (
      inr (elim prev.0 [ inl first ↦ absurd (cons_nil a pending first.2) | inr none ↦ none ]),
      λ d h asks. elim (Contains-append_cases deeds _ d h) [
        | inl old ↦ prev.1 d old asks
        | inr last ↦ absurd (heard_asks_not a heard (subst (λ (x : Deed). IsAsk x.act) (sym (contains_one _ d last)) asks))
      ],
    )
ask_before c k m ask _ _ _ _ (matter deeds mid s' a left o chain does) =
    let prev = ask_before c k m ask deeds mid [] (a ∷ left) chain in
    elim prev.0 [
      | inl first ↦ (
        inr (tail_nil a (Asks ask) left first.3),
        λ d h asks. elim (Contains-append_cases deeds _ d h) [ inl old ↦ prev.1 d old asks | inr last ↦ subst (λ (x : Deed). x.before ≡ m) (contains_one _ d last) first.1 ],
      )
      | inr none ↦ absurd (cons_nil a left none)
    ]

-- what is open when the event's own matter is taken
record Between (c : Setting) (k t : ℕ) (s : NodeState) (e : Event) (hs : List Happening) (deeds : List Deed) (s' : NodeState) : Type 0 where
  pub state : NodeState
  pub second : List Deed
  pub within_all : (d : Deed) → Contains second d → Contains deeds d
  pub asks_in : (d : Deed) → Contains deeds d → IsAsk d.act → Contains second d
  pub rest : Chain c k state (matter_of c k (looked_at s.time e)) second s' [] []
  pub neat : IsNeat state
  pub opened : (q : ReqId) → IsOpen state q ↔ (Contains (waiting_at k hs) q × (t < deadline_of q))

quiet_asks_not : (a : Act) → IsQuiet a → IsAsk a → ⊥
quiet_asks_not a h ask = subst (λ (x : Act). IsQuiet x) ask.1 h

-- whose deadline has come is not open
open_deadline : (c : Setting) (k t : ℕ) (s : NodeState) (due : List Due) (lines : List Act) (q : ReqId) → AreDue c k t s due → lines ≡ map act_of due → IsNeat s → AreOld t s → IsLastAsk lines → AreQuiet (Rises t ∷ lines) → (deeds : List Deed) (m : NodeState)
    → Chain c k s (Rises t ∷ lines) deeds m [] [] → IsOpen s q → IsOpen m q → t < deadline_of q
open_deadline c k t s due lines q are is neat old last quiet deeds m chain there h = elim (le_or_lt (deadline_of q) t) [
  | inl past ↦
      let line : Contains lines (DeadlineComes q) = subst (λ (xs : List Act). Contains xs (DeadlineComes q)) (sym is) (deadline_due c k t s due q are (open_key s q there) past) in
      let made : (d : Deed) × Contains deeds d × (d.act ≡ DeadlineComes q) = elim ((within c k s (Rises t ∷ lines) deeds m [] [] chain).taken (DeadlineComes q) (contains_there (Rises t) lines (DeadlineComes q) line)) [ inl left ↦ absurd (contains_nil _ left) | inr done ↦ done ] in
      absurd (closed c k t lines s q neat old last quiet deeds m [] [] chain made.0 made.1 made.2 h)
  | inr before ↦ before
]

-- and whose deadline is to come is told nothing by what is due
untold : (c : Setting) (k t : ℕ) (s : NodeState) (due : List Due) (lines : List Act) (q : ReqId) → AreDue c k t s due → lines ≡ map act_of due → AreQuiet (Rises t ∷ lines) → (deeds : List Deed) (m : NodeState) → Chain c k s (Rises t ∷ lines) deeds m [] []
    → t < deadline_of q → Told deeds q ≡ 0
untold c k t s due lines q are is quiet deeds m chain later = elim (zero_or_not (Told deeds q)) [
  | inl none ↦ none
  | inr some ↦
      let d = answering deeds q some in
      let acts = quiet_acts c k s (Rises t ∷ lines) quiet deeds m [] [] chain in
      let does = deeds_do c k s (Rises t ∷ lines) deeds m [] [] chain d.0 d.1 in
      let tells = quiet_told c k d.0.before d.0.act d.0.effects d.0.after q (acts.1.1 d.0 d.1) does d.2 in
      let act = timeout_act c k d.0.before d.0.act d.0.effects d.0.after q tells.0 tells.1 does tells.2 in
      elim ((within c k s (Rises t ∷ lines) deeds m [] [] chain).acts d.0 d.1) [
        | inl mine ↦ elim (contains_cases (Rises t) lines d.0.act mine) [
          | inl rises ↦ (let x : Rises t ≡ DeadlineComes q = rises ∙ act in cc)
          | inr line ↦
              let past = due_deadline c k t s due q are (subst (λ (xs : List Act). Contains xs (DeadlineComes q)) is (subst (λ (x : Act). Contains lines x) act line)) in
              absurd (omega (arith, past, later))
        ]
        | inr heard ↦ absurd (heard_line d.0.act q heard act)
      ]
]

between : (c : Setting) (k : ℕ) (s : NodeState) (hs : List Happening) (e : Event) (deeds : List Deed) (o : Outputs) (s' : NodeState) → IsFaithful k s hs → NodeStep c k s e deeds o s' → Between c k (time_after s e) s e hs deeds s'
between c k s hs e deeds o s' f step =
    let t = time_after s e in
    let lines : List Act = map act_of step.due in
    let ms = matter_of c k (looked_at s.time e) in
    let each = due_acts c k t s step.due step.are_due in
    let old = becomes_old k s hs e f in
    let quiet = all_quiet t lines each in
    let p = parts c k s (Rises t ∷ lines) ms deeds s' quiet step.moves in
    let last = lines_last lines each in
    let first = whole c k t lines s p.first p.between f.neat old last p.due in
    let acts = quiet_acts c k s (Rises t ∷ lines) quiet p.first p.between [] [] p.due in
    let in_first = within c k s (Rises t ∷ lines) p.first p.between [] [] p.due in
    let never : (q : ReqId) → NewAt k t p.first q → ⊥ = λ q new. quiet_asks_not new.0.0.act (acts.1.1 new.0.0 new.0.1) new.0.2 in
    record {
      state = p.between;
      second = p.second;
      within_all = λ d h. subst (λ (xs : List Deed). Contains xs d) (sym p.all) (Contains-append_right p.first p.second d h);
      asks_in = λ d h asks. elim (Contains-append_cases p.first p.second d (subst (λ (xs : List Deed). Contains xs d) p.all h)) [ inl early ↦ absurd (quiet_asks_not d.act (acts.1.1 d early) asks) | inr late ↦ late ];
      rest = p.rest;
      neat = first.facts.neat;
      opened = λ q. (
        λ h.
            let was = (first.facts.opened q).0 h in
            let there : IsOpen s q = elim was.0 [ inl yes_open ↦ yes_open | inr new ↦ absurd (never q new) ] in
            ((f.waits q).0 there, open_deadline c k t s step.due lines q step.are_due refl f.neat old last quiet p.first p.between p.due there h),
        λ h.
            let there = (f.waits q).1 h.0 in
            (first.facts.opened q).1 (inl there, untold c k t s step.due lines q step.are_due refl quiet p.first p.between p.due h.1),
      );
    }

-- ---- who tells it

-- the refusal tells of what is so when the request comes
abbrev AtEvent : Refusal → Type 0
AtEvent (Unavailable required alive) = Unit {0}
AtEvent Overloaded = Unit {0}
AtEvent (WriteTimeout received blockfor) = ⊥
AtEvent (ReadTimeout received blockfor data_present) = ⊥
AtEvent (Invalid why) = ⊥
AtEvent IsDown = ⊥

-- a request that is refused so when it is asked
record RefusedAsk (c : Setting) (k : ℕ) (s : NodeState) (a : Act) (id : ReqId) (r : Refusal) : Type 0 where
  pub ask : Ask
  pub is : a ≡ Asks ask
  pub request : id ≡ request_at k s.risen
  pub why : refusal_of c s (request_at k s.risen) ask.plan ask.level ≡ Some r

same_refused : (a b : ReqId) (x y : Refusal) → Refused a x ≡ Refused b y → (a ≡ b) × (x ≡ y)
same_refused a b x y e = (cc, cc)

asks_refused : (c : Setting) (at : ReqId) (p : Plan) (l : Level) (x : Option Refusal) (s : NodeState) (o : Effects) (s' : NodeState) (id : ReqId) (r : Refusal) → BeginsOrRefuses c at p l x s o s' → Contains o.entries (Refused id r) → (id ≡ at) × (x ≡ Some r)
asks_refused c at (plan.Write d) l None s o s' id r h there = let e : Submitted at (mutation_of at d) ≡ Refused id r = contains_one _ _ (subst (λ (z : Effects). Contains z.entries (Refused id r)) h.0 there) in cc
asks_refused c at (plan.Read q columns) l None s o s' id r h there = let e : Began at q l columns ≡ Refused id r = contains_one _ _ (subst (λ (z : Effects). Contains z.entries (Refused id r)) h.0 there) in cc
asks_refused c at (plan.Use keyspace) l None s o s' id r h there = let e : Used at keyspace ≡ Refused id r = contains_one _ _ (subst (λ (z : Effects). Contains z.entries (Refused id r)) h.0 there) in cc
asks_refused c at (plan.Invalid fault) l None s o s' id r h there = absurd h
asks_refused c at p l (Some y) s o s' id r h there =
    let same = same_refused at id y r (contains_one _ _ (subst (λ (z : Effects). Contains z.entries (Refused id r)) h.0 there)) in (sym same.0, ap (λ (z : Refusal). Some z) same.1)

line_read_not : (c : Setting) (q id : ReqId) (x : Option OpenRead) (s : NodeState) (o : Effects) (s' : NodeState) (r : Refusal) → AtEvent r → EndsRead c q x s o s' → Contains o.entries (Refused id r) → ⊥
line_read_not c q id None s o s' r at h there = contains_nil _ (subst (λ (z : Effects). Contains z.entries (Refused id r)) h.0 there)
line_read_not c q id (Some x) s o s' r at h there =
    let same = same_refused q id _ r (contains_one _ _ (subst (λ (z : Effects). Contains z.entries (Refused id r)) h.0 there)) in
    subst (λ (y : Refusal). AtEvent y) (sym same.1) at

line_write_not : (b : Bool) (q id : ReqId) (x r : Refusal) → (AtEvent x → ⊥) → AtEvent r → Contains (if b then [] else Refused q x ∷ []) (Refused id r) → ⊥
line_write_not true q id x r none at there = contains_nil _ there
line_write_not false q id x r none at there = none (subst (λ (y : Refusal). AtEvent y) (sym (same_refused q id x r (contains_one _ _ there)).1) at)

line_not : (c : Setting) (q id : ReqId) (w : Option OpenWrite) (s : NodeState) (o : Effects) (s' : NodeState) (r : Refusal) → AtEvent r → Ends c q w s o s' → Contains o.entries (Refused id r) → ⊥
line_not c q id None s o s' r at h there = line_read_not c q id (open_at s.reads q) s o s' r at h there
line_not c q id (Some w) s o s' r at h there =
    line_write_not w.answered q id (WriteTimeout (acks_of c w) (write_needs c w)) r (λ x. x) at (subst (λ (z : Effects). Contains z.entries (Refused id r)) h.0 there)

refused_act : (c : Setting) (k : ℕ) (s : NodeState) (a : Act) (o : Effects) (s' : NodeState) (id : ReqId) (r : Refusal) → AtEvent r → Does c k s a o s' → Contains o.entries (Refused id r) → RefusedAsk c k s a id r
refused_act c k s (Rises t) o s' id r at h there = absurd (by_effects o nothing h.1 no_entries id r there)
refused_act c k s (Hears m) o s' id r at h there = absurd (comes_none c k m (is_old c s.risen m.born) s o s' h id r there)
refused_act c k s (Asks ask) o s' id r at h there =
    let x = asks_refused c (request_at k s.risen) ask.plan ask.level (refusal_of c s (request_at k s.risen) ask.plan ask.level) s o s' id r h there in
    record { ask = ask; is = refl; request = x.0; why = x.1 }
refused_act c k s (Marks peer up) o s' id r at h there = absurd (by_effects o _ h.0 no_entries id r there)
refused_act c k s (DeadlineComes q) o s' id r at h there = absurd (line_not c q id (open_at s.writes q) s o s' r at h there)
refused_act c k s (HintExpires peer number) o s' id r at h there = absurd (by_effects o nothing h.0 no_entries id r there)

-- ---- why

some_refusal : (a b : Refusal) → Some a ≡ Some b → a ≡ b
some_refusal a b e = cc

none_refusal : (r : Refusal) → None ≡ Some r → ⊥
none_refusal r e = cc

-- the tests that came before this one
record Tests (fits serial over few : Bool) (r : Refusal) (u : Refusal) : Type 0 where
  pub fit : fits ≡ true
  pub plain : serial ≡ false
  pub cause : ((r ≡ Overloaded) × (over ≡ true)) ⊎ ((r ≡ u) × (over ≡ false) × (few ≡ true))

tests_of : (fits serial over few : Bool) (i j u r : Refusal) → (AtEvent i → ⊥) → (AtEvent j → ⊥) → AtEvent r
    → (if not fits then Some i else if serial then Some j else if over then Some Overloaded else if few then Some u else None) ≡ Some r → Tests fits serial over few r u
tests_of false serial over few i j u r no_i no_j at is = absurd (no_i (subst (λ (y : Refusal). AtEvent y) (sym (some_refusal i r is)) at))
tests_of true true over few i j u r no_i no_j at is = absurd (no_j (subst (λ (y : Refusal). AtEvent y) (sym (some_refusal j r is)) at))
tests_of true false true few i j u r no_i no_j at is = record { fit = refl; plain = refl; cause = inl (sym (some_refusal Overloaded r is), refl) }
tests_of true false false true i j u r no_i no_j at is = record { fit = refl; plain = refl; cause = inr (sym (some_refusal u r is), refl, refl) }
tests_of true false false false i j u r no_i no_j at is = absurd (none_refusal r is)

-- and back
over_is : (fits serial over few : Bool) (i j u : Refusal) → fits ≡ true → serial ≡ false → over ≡ true
    → (if not fits then Some i else if serial then Some j else if over then Some Overloaded else if few then Some u else None) ≡ Some Overloaded
over_is true false true few i j u a b d = refl
over_is false serial over few i j u a b d = cc
over_is true true over few i j u a b d = cc
over_is true false false few i j u a b d = cc

few_is : (fits serial over few : Bool) (i j u : Refusal) → fits ≡ true → serial ≡ false → over ≡ false → few ≡ true
    → (if not fits then Some i else if serial then Some j else if over then Some Overloaded else if few then Some u else None) ≡ Some u
few_is true false false true i j u a b d e = refl
few_is false serial over few i j u a b d e = cc
few_is true true over few i j u a b d e = cc
few_is true false true few i j u a b d e = cc
few_is true false false false i j u a b d e = cc

-- a request that is refused so
record Why (c : Setting) (s : NodeState) (id : ReqId) (p : Plan) (l : Level) (r : Refusal) : Type 0 where
  pub partition : Partition
  pub for : WritesTo p partition ⊎ ReadsFrom p partition
  pub fits : plan_fits c id p ≡ true
  pub plain : is_serial l ≡ false
  pub cause : ((r ≡ Overloaded) × (is_overloaded s ≡ true)) ⊎ ((r ≡ Unavailable (needed c l partition) (alive_of c s.down partition)) × (is_overloaded s ≡ false) × (nat_lt (alive_of c s.down partition) (needed c l partition) ≡ true))

why_of : (c : Setting) (s : NodeState) (id : ReqId) (p : Plan) (l : Level) (r : Refusal) → AtEvent r → refusal_of c s id p l ≡ Some r → Why c s id p l r
why_of c s id (plan.Write d) l r at is =
    let q = d.partition in
    let x = tests_of (write_fits c (mutation_of id d)) (is_serial l) (is_overloaded s) (nat_lt (alive_of c s.down q) (needed c l q)) (Invalid reason.UnknownTable) (Invalid reason.SerialWrite) (Unavailable (needed c l q) (alive_of c s.down q)) r (λ y. y) (λ y. y) at is in
    record { partition = q; for = inl refl; fits = x.fit; plain = x.plain; cause = x.cause }
why_of c s id (plan.Read q columns) l r at is =
    let p = q.partition in
    let x = tests_of (query_fits c q) (is_serial l) (is_overloaded s) (nat_lt (alive_of c s.down p) (needed c l p)) (Invalid reason.UnknownTable) (Invalid reason.Level) (Unavailable (needed c l p) (alive_of c s.down p)) r (λ y. y) (λ y. y) at is in
    record { partition = p; for = inr refl; fits = x.fit; plain = x.plain; cause = x.cause }
why_of c s id (plan.Use keyspace) l r at is = absurd (none_refusal r is)
why_of c s id (plan.Invalid fault) l r at is = absurd (subst (λ (y : Refusal). AtEvent y) (sym (some_refusal (Invalid (reason.Statement fault)) r is)) at)

-- and where a request is so, it is refused so
refuses_over : (c : Setting) (s : NodeState) (id : ReqId) (p : Plan) (l : Level) → plan_fits c id p ≡ true → is_serial l ≡ false → is_overloaded s ≡ true → refusal_of c s id p l ≡ Some Overloaded
refuses_over c s id (plan.Write d) l fits plain over =
    over_is (write_fits c (mutation_of id d)) (is_serial l) (is_overloaded s) (nat_lt (alive_of c s.down d.partition) (needed c l d.partition)) _ _ _ fits plain over
refuses_over c s id (plan.Read q columns) l fits plain over =
    over_is (query_fits c q) (is_serial l) (is_overloaded s) (nat_lt (alive_of c s.down q.partition) (needed c l q.partition)) _ _ _ fits plain over
refuses_over c s id (plan.Use keyspace) l fits plain over = cc
refuses_over c s id (plan.Invalid fault) l fits plain over = cc

refuses_few : (c : Setting) (s : NodeState) (id : ReqId) (p : Plan) (l : Level) (q : Partition) → WritesTo p q ⊎ ReadsFrom p q → plan_fits c id p ≡ true → is_serial l ≡ false → is_overloaded s ≡ false → nat_lt (alive_of c s.down q) (needed c l q) ≡ true
    → refusal_of c s id p l ≡ Some (Unavailable (needed c l q) (alive_of c s.down q))
refuses_few c s id (plan.Write d) l q (inl for) fits plain over few =
    subst (λ (x : Partition). refusal_of c s id (plan.Write d) l ≡ Some (Unavailable (needed c l x) (alive_of c s.down x))) for
    (few_is (write_fits c (mutation_of id d)) (is_serial l) (is_overloaded s) (nat_lt (alive_of c s.down d.partition) (needed c l d.partition)) _ _ _ fits plain over
    (subst (λ (x : Partition). nat_lt (alive_of c s.down x) (needed c l x) ≡ true) (sym for) few))
refuses_few c s id (plan.Read r columns) l q (inr for) fits plain over few =
    subst (λ (x : Partition). refusal_of c s id (plan.Read r columns) l ≡ Some (Unavailable (needed c l x) (alive_of c s.down x))) for
    (few_is (query_fits c r) (is_serial l) (is_overloaded s) (nat_lt (alive_of c s.down r.partition) (needed c l r.partition)) _ _ _ fits plain over
    (subst (λ (x : Partition). nat_lt (alive_of c s.down x) (needed c l x) ≡ true) (sym for) few))
refuses_few c s id (plan.Write d) l q (inr for) fits plain over few = absurd for
refuses_few c s id (plan.Read r columns) l q (inl for) fits plain over few = absurd for
refuses_few c s id (plan.Use keyspace) l q for fits plain over few = cc
refuses_few c s id (plan.Invalid fault) l q for fits plain over few = cc

-- ---- a step

matter_ask : (c : Setting) (k : ℕ) (what : What) (a : Act) → Contains (matter_of c k what) a → (ask : Ask) → a ≡ Asks ask → what ≡ Client ask
matter_ask c k (Client x) a h ask is = let y : Asks x ≡ Asks ask = contains_one (Asks x) a h ∙ is in cc
matter_ask c k (Deliver m) a h ask is =
    let y : Hears (record { from = m.from; born = m.born; request = m.request; body = m.body }) ≡ Asks ask = sym (heard_none (message_fits c k m) _ a h) ∙ is in cc
matter_ask c k (Alive peer up) a h ask is = let y : Marks peer up ≡ Asks ask = sym (heard_none (mark_fits c k peer) _ a h) ∙ is in cc
matter_ask c k (Collect request) a h ask is = absurd (contains_nil a h)
matter_ask c k Flush a h ask is = absurd (contains_nil a h)
matter_ask c k Tick a h ask is = absurd (contains_nil a h)

looked_ask : (c : Setting) (k : ℕ) (b : Bool) (what : What) (a : Act) → Contains (matter_of c k (if b then Tick else what)) a → (ask : Ask) → a ≡ Asks ask → what ≡ Client ask
looked_ask c k true what a h ask is = absurd (contains_nil a h)
looked_ask c k false what a h ask is = matter_ask c k what a h ask is

due_asks_not : (a : Act) (ask : Ask) → IsDueAct a → a ≡ Asks ask → ⊥
due_asks_not a ask h is = subst (λ (x : Act). IsDueAct x) is h

-- the request of the event, and the state in which it was taken
record AskThen (c : Setting) (k : ℕ) (hs : List Happening) (deeds : List Deed) (o : Outputs) (ask : Ask) : Type 0 where
  pub state : NodeState
  pub started : o.started ≡ Some (request_at k state.risen)
  pub count : unanswered state ≡ waiting_then k o hs
  pub down : state.down ≡ down_at c k hs
  pub there : (d : Deed) → Contains deeds d → IsAsk d.act → d.before ≡ state
  pub tells : (r : Refusal) → refusal_of c state (request_at k state.risen) ask.plan ask.level ≡ Some r → Contains o.entries (Refused (request_at k state.risen) r)

refuses_then : (c : Setting) (at : ReqId) (p : Plan) (l : Level) (x : Option Refusal) (s : NodeState) (o : Effects) (s' : NodeState) (r : Refusal) → BeginsOrRefuses c at p l x s o s' → x ≡ Some r → Contains o.entries (Refused at r)
refuses_then c at p l None s o s' r h is = absurd (none_refusal r is)
refuses_then c at p l (Some y) s o s' r h is =
    subst (λ (z : Effects). Contains z.entries (Refused at r)) (sym h.0) (subst (λ (z : Refusal). Contains (Refused at y ∷ []) (Refused at z)) (some_refusal y r is) (contains_here (Refused at y) []))

abbrev SeenMarks : (c : Setting) (k : ℕ) (hs : List Happening) (deeds : List Deed) → Type 0
SeenMarks c k hs deeds = (d : Deed) (ask : Ask) → Contains deeds d → d.act ≡ Asks ask → d.before.down ≡ down_at c k hs

counted_then : (k t : ℕ) (hs : List Happening) (o : Outputs) (m : NodeState) → IsNeat m → Once (waiting_at k hs) → o.time ≡ t → ((q : ReqId) → IsOpen m q ↔ (Contains (waiting_at k hs) q × (t < deadline_of q))) → unanswered m ≡ waiting_then k o hs
counted_then k t hs o m neat once time opened =
    let p : ReqId → Bool = λ id. nat_lt o.time (deadline_of id) in
    let xs = waiting_at k hs in
    sym (open_count m)
    ∙ same_length (open_ids m) (filter p xs) (ids_once m neat) (once_filter p xs once) (λ q. (
      λ h.
          let x = (opened q).0 ((open_in_ids m q neat).0 h) in
          let later = x.1 in
          contains_filter p xs q x.0 (lt-ltb o.time (deadline_of q) (omega (arith, later, time))),
      λ h.
          let x = contains_from_filter p xs q h in
          let later = ltb-true o.time (deadline_of q) x.1 in
          (open_in_ids m q neat).1 ((opened q).1 (x.0, omega (arith, later, time))),
    ))

ask_then : (c : Setting) (k : ℕ) (s : NodeState) (hs : List Happening) (e : Event) (deeds : List Deed) (o : Outputs) (s' : NodeState) → IsFaithful k s hs → Once (waiting_at k hs) → SeenMarks c k hs deeds → NodeStep c k s e deeds o s' → (ask : Ask) → e.what ≡ Client ask → AskThen c k hs deeds o ask
ask_then c k s hs e deeds o s' f once marks step ask asks =
    let t = time_after s e in
    let lines : List Act = map act_of step.due in
    let ms = matter_of c k (looked_at s.time e) in
    let each = due_acts c k t s step.due step.are_due in
    let b = between c k s hs e deeds o s' f step in
    let one : ms ≡ Asks ask ∷ [] = ap (λ (x : What). matter_of c k (if is_ahead s.time e x then Tick else x)) asks in
    let chain = subst (λ (xs : List Act). Chain c k b.state xs b.second s' [] []) one b.rest in
    let before = ask_before c k b.state ask b.second s' [] [] chain in
    let made : (d : Deed) × Contains b.second d × (d.act ≡ Asks ask) = elim ((within c k b.state (Asks ask ∷ []) b.second s' [] [] chain).taken (Asks ask) (contains_here (Asks ask) [])) [ inl left ↦ absurd (contains_nil _ left) | inr done ↦ done ] in
    let d = made.0 in
    let in_all = b.within_all d made.1 in
    let at : d.before ≡ b.state = before.1 d made.1 (ask, made.2) in
    let last = due_last lines ms each (looked_last c k (is_ahead s.time e e.what) e.what) in
    let risen : b.state.risen ≡ t = elim (at_time c k t (lines ++ ms) s f.neat (becomes_old k s hs e f) last deeds s' [] [] step.moves d in_all) [
      | inl rises ↦ (let x : Rises t ≡ Asks ask = sym rises ∙ made.2 in cc)
      | inr taken ↦ ap (λ (x : NodeState). x.risen) (sym at) ∙ taken.risen
    ] in
    let does : Does c k b.state (Asks ask) d.effects d.after =
    subst (λ (a : Act). Does c k b.state a d.effects d.after) made.2 (subst (λ (x : NodeState). Does c k x d.act d.effects d.after) at (deeds_do c k s (Rises t ∷ (lines ++ ms)) deeds s' [] [] step.moves d in_all)) in
    record {
      state = b.state;
      started = ap (λ (x : Outputs). x.started) step.outputs ∙ ap (λ (x : What). started_by k t x) asks ∙ ap (λ (n : ℕ). Some (request_at k n)) (sym risen);
      count = counted_then k t hs o b.state b.neat once (step_time c k s hs e deeds o s' f step) b.opened;
      down = ap (λ (x : NodeState). x.down) (sym at) ∙ marks d ask in_all made.2;
      there = λ x h a. before.1 x (b.asks_in x h a) a;
      tells = λ r why.
          let told = refuses_then c (request_at k b.state.risen) ask.plan ask.level (refusal_of c b.state (request_at k b.state.risen) ask.plan ask.level) b.state d.effects d.after r does why in
          subst (λ (es : List Entry). Contains es (Refused (request_at k b.state.risen) r)) (sym (ap (λ (x : Outputs). x.entries) step.outputs)) (contains_flat entries_of deeds d (Refused (request_at k b.state.risen) r) in_all told);
    }

-- a refusal is of the event's request
record Refusing (c : Setting) (k : ℕ) (hs : List Happening) (e : Event) (deeds : List Deed) (o : Outputs) (id : ReqId) (r : Refusal) : Type 0 where
  pub ask : Ask
  pub asks : e.what ≡ Client ask
  pub taken : AskThen c k hs deeds o ask
  pub request : id ≡ request_at k taken.state.risen
  pub why : refusal_of c taken.state (request_at k taken.state.risen) ask.plan ask.level ≡ Some r

refusing_by : (c : Setting) (k : ℕ) (hs : List Happening) (e : Event) (deeds : List Deed) (o : Outputs) (id : ReqId) (r : Refusal) (d : Deed) (x : RefusedAsk c k d.before d.act id r) → Contains deeds d → e.what ≡ Client x.ask → AskThen c k hs deeds o x.ask → Refusing c k hs e deeds o id r
refusing_by c k hs e deeds o id r d x there asks taken =
    let same : d.before ≡ taken.state = taken.there d there (x.ask, x.is) in
    record {
      ask = x.ask;
      asks = asks;
      taken = taken;
      request = x.request ∙ ap (λ (m : NodeState). request_at k m.risen) same;
      why = subst (λ (m : NodeState). refusal_of c m (request_at k m.risen) x.ask.plan x.ask.level ≡ Some r) same x.why;
    }

refusing : (c : Setting) (k : ℕ) (s : NodeState) (hs : List Happening) (e : Event) (deeds : List Deed) (o : Outputs) (s' : NodeState) → IsFaithful k s hs → Once (waiting_at k hs) → SeenMarks c k hs deeds → NodeStep c k s e deeds o s' → (id : ReqId) (r : Refusal) → AtEvent r
    → Contains o.entries (Refused id r) → Refusing c k hs e deeds o id r
refusing c k s hs e deeds o s' f once marks step id r at there =
    let t = time_after s e in
    let lines : List Act = map act_of step.due in
    let ms = matter_of c k (looked_at s.time e) in
    let each = due_acts c k t s step.due step.are_due in
    let all : o.entries ≡ flat_map entries_of deeds = ap (λ (x : Outputs). x.entries) step.outputs in
    let d = contains_from_flat entries_of deeds (Refused id r) (subst (λ (es : List Entry). Contains es (Refused id r)) all there) in
    let does = deeds_do c k s (Rises t ∷ (lines ++ ms)) deeds s' [] [] step.moves d.0 d.1 in
    let x = refused_act c k d.0.before d.0.act d.0.effects d.0.after id r at does d.2 in
    let asks : e.what ≡ Client x.ask = elim ((within c k s (Rises t ∷ (lines ++ ms)) deeds s' [] [] step.moves).acts d.0 d.1) [
      | inl mine ↦ elim (contains_cases (Rises t) (lines ++ ms) d.0.act mine) [
        | inl rises ↦ (let y : Rises t ≡ Asks x.ask = rises ∙ x.is in cc)
        | inr rest ↦ elim (Contains-append_cases lines ms d.0.act rest) [
          | inl due ↦ absurd (due_asks_not d.0.act x.ask (each d.0.act due) x.is)
          | inr this ↦ looked_ask c k (is_ahead s.time e e.what) e.what d.0.act this x.ask x.is
        ]
      ]
      | inr heard ↦ absurd (heard_asks_not d.0.act heard (x.ask, x.is))
    ] in
    refusing_by c k hs e deeds o id r d.0 x d.1 asks (ask_then c k s hs e deeds o s' f once marks step x.ask asks)

-- its cause as it is told
record Caused (c : Setting) (k : ℕ) (hs : List Happening) (e : Event) (o : Outputs) (id : ReqId) (r : Refusal) : Type 0 where
  pub level : Level
  pub partition : Partition
  pub is : IsRequest c e o id level partition
  pub cause : ((r ≡ Overloaded) × (1024 ≤ waiting_then k o hs)) ⊎ ((r ≡ Unavailable (needed c level partition) (alive_then c k hs partition)) × (waiting_then k o hs < 1024) × (alive_then c k hs partition < needed c level partition))

alive_as : (c : Setting) (k : ℕ) (hs : List Happening) (s : NodeState) (p : Partition) → s.down ≡ down_at c k hs → alive_of c s.down p ≡ alive_then c k hs p
alive_as c k hs s p is = ap (λ (d : List ℕ). alive_of c d p) is

over_count : (s : NodeState) (n : ℕ) → unanswered s ≡ n → is_overloaded s ≡ true → 1024 ≤ n
over_count s n is over = let less = ltb-false (unanswered s) 1024 (not-true (nat_lt (unanswered s) 1024) over) in omega (arith, less, is)

under_count : (s : NodeState) (n : ℕ) → unanswered s ≡ n → is_overloaded s ≡ false → n < 1024
under_count s n is under = let less = ltb-true (unanswered s) 1024 (not-false (nat_lt (unanswered s) 1024) under) in omega (arith, less, is)

caused : (c : Setting) (k : ℕ) (hs : List Happening) (e : Event) (deeds : List Deed) (o : Outputs) (id : ReqId) (r : Refusal) → AtEvent r → Refusing c k hs e deeds o id r → Caused c k hs e o id r
caused c k hs e deeds o id r at x =
    let s = x.taken.state in
    let w = why_of c s (request_at k s.risen) x.ask.plan x.ask.level r at x.why in
    let alive = alive_as c k hs s w.partition x.taken.down in
    record {
      level = x.ask.level;
      partition = w.partition;
      is = record {
        ask = x.ask;
        asks = x.asks;
        started = x.taken.started ∙ ap (λ (q : ReqId). Some q) (sym x.request);
        level = refl;
        for = w.for;
        fits = subst (λ (q : ReqId). plan_fits c q x.ask.plan ≡ true) (sym x.request) w.fits;
        plain = w.plain;
      };
      cause = elim w.cause [
        | inl (is, over) ↦ inl (is, over_count s (waiting_then k o hs) x.taken.count over)
        | inr (is, under, few) ↦ inr (
          is ∙ ap (λ (n : ℕ). Unavailable (needed c x.ask.level w.partition) n) alive,
          under_count s (waiting_then k o hs) x.taken.count under,
          subst (λ (n : ℕ). n < needed c x.ask.level w.partition) alive (ltb-true (alive_of c s.down w.partition) (needed c x.ask.level w.partition) few),
        )
      ];
    }

overload_not : (required alive : ℕ) → Overloaded ≡ Unavailable required alive → ⊥
overload_not required alive e = cc

numbers_same : (a b x y : ℕ) → Unavailable a b ≡ Unavailable x y → (a ≡ x) × (b ≡ y)
numbers_same a b x y e = (cc, cc)

ids_same : (o : Option ReqId) (a b : ReqId) → o ≡ Some a → o ≡ Some b → a ≡ b
ids_same o a b x y = let e : Some a ≡ Some b = sym x ∙ y in cc

is_over : (s : NodeState) (n : ℕ) → unanswered s ≡ n → 1024 ≤ n → is_overloaded s ≡ true
is_over s n is more = ap not (le-ltb (unanswered s) 1024 (omega (arith, is, more)))

is_under : (s : NodeState) (n : ℕ) → unanswered s ≡ n → n < 1024 → is_overloaded s ≡ false
is_under s n is less = ap not (lt-ltb (unanswered s) 1024 (omega (arith, is, less)))

few_told : (c : Setting) (k : ℕ) (hs : List Happening) (l : Level) (p : Partition) (o : Outputs) (required alive : ℕ)
    → ((Unavailable required alive ≡ Overloaded) × (1024 ≤ waiting_then k o hs)) ⊎ ((Unavailable required alive ≡ Unavailable (needed c l p) (alive_then c k hs p)) × (waiting_then k o hs < 1024) × (alive_then c k hs p < needed c l p))
    → (waiting_then k o hs < 1024) × (required ≡ needed c l p) × (alive ≡ alive_then c k hs p) × (alive < required)
few_told c k hs l p o required alive (inl (is, more)) = absurd (overload_not required alive (sym is))
few_told c k hs l p o required alive (inr (is, less, few)) =
    let n = numbers_same required alive (needed c l p) (alive_then c k hs p) is in
    (less, n.0, n.1, subst (λ (i : ℕ). alive < i) (sym n.0) (subst (λ (i : ℕ). i < needed c l p) (sym n.1) few))

step_refuses : (c : Setting) (k : ℕ) (s : NodeState) (hs : List Happening) (e : Event) (deeds : List Deed) (o : Outputs) (s' : NodeState) → IsFaithful k s hs → Once (waiting_at k hs) → SeenMarks c k hs deeds → NodeStep c k s e deeds o s' → RefusesWhere c k e deeds o hs
step_refuses c k s hs e deeds o s' f once marks step = record {
  overloaded = λ id. (
    λ there.
        let x = caused c k hs e deeds o id Overloaded tt (refusing c k s hs e deeds o s' f once marks step id Overloaded tt there) in
        (x.level, x.partition, x.is, elim x.cause [ inl (is, more) ↦ more | inr (is, less, few) ↦ absurd (overload_not _ _ is) ]),
    λ (l, p, q, more).
        let a = ask_then c k s hs e deeds o s' f once marks step q.ask q.asks in
        let same : id ≡ request_at k a.state.risen = ids_same o.started id (request_at k a.state.risen) q.started a.started in
        let why = refuses_over c a.state (request_at k a.state.risen) q.ask.plan q.ask.level (subst (λ (i : ReqId). plan_fits c i q.ask.plan ≡ true) same q.fits) (ap is_serial q.level ∙ q.plain) (is_over a.state (waiting_then k o hs) a.count more) in
        subst (λ (i : ReqId). Contains o.entries (Refused i Overloaded)) (sym same) (a.tells Overloaded why),
  );
  unavailable = λ id required alive. (
    λ there.
        let x = caused c k hs e deeds o id (Unavailable required alive) tt (refusing c k s hs e deeds o s' f once marks step id (Unavailable required alive) tt there) in
        let y = few_told c k hs x.level x.partition o required alive x.cause in
        (x.level, x.partition, x.is, y.0, y.1, y.2, y.3),
    λ (l, p, q, less, r_is, a_is, few).
        let a = ask_then c k s hs e deeds o s' f once marks step q.ask q.asks in
        let same : id ≡ request_at k a.state.risen = ids_same o.started id (request_at k a.state.risen) q.started a.started in
        let needs : required ≡ needed c q.ask.level p = r_is ∙ ap (λ (x : Level). needed c x p) (sym q.level) in
        let lives : alive ≡ alive_of c a.state.down p = a_is ∙ sym (alive_as c k hs a.state p a.down) in
        let fewer : alive_of c a.state.down p < needed c q.ask.level p = subst (λ (i : ℕ). alive_of c a.state.down p < i) needs (subst (λ (i : ℕ). i < required) lives few) in
        let why = refuses_few c a.state (request_at k a.state.risen) q.ask.plan q.ask.level p q.for (subst (λ (i : ReqId). plan_fits c i q.ask.plan ≡ true) same q.fits) (ap is_serial q.level ∙ q.plain) (is_under a.state (waiting_then k o hs) a.count less)
        (lt-ltb (alive_of c a.state.down p) (needed c q.ask.level p) fewer) in
        let told = a.tells (Unavailable (needed c q.ask.level p) (alive_of c a.state.down p)) why in
        subst (λ (i : ReqId). Contains o.entries (Refused i (Unavailable required alive))) (sym same)
        (subst (λ (i : ℕ). Contains o.entries (Refused (request_at k a.state.risen) (Unavailable i alive))) (sym needs)
        (subst (λ (i : ℕ). Contains o.entries (Refused (request_at k a.state.risen) (Unavailable (needed c q.ask.level p) i))) (sym lives) told)),
  );
}

-- ---- runs

same_by : (a b : ℕ) (t : Bool) → (a == b) ≡ t → (a ≡ b) ⊎ (a ≢ b)
same_by a b true is = inl (eqb-true a b is)
same_by a b false is = inr (λ same. let x : true ≡ false = sym (eq-eqb a b same) ∙ is in cc)

same_or_not : (a b : ℕ) → (a ≡ b) ⊎ (a ≢ b)
same_or_not a b = same_by a b (a == b) refl

once_asked : (x : Option ReqId) → Once (asked_in x)
once_asked None = tt
once_asked (Some id) = (λ h. contains_nil id h, tt)

-- nothing waits twice behind a step
waits_once : (c : Setting) (k : ℕ) (s : NodeState) (hs : List Happening) (e : Event) (deeds : List Deed) (o : Outputs) (s' : NodeState) → IsFaithful k s hs → Once (waiting_at k hs) → NodeStep c k s e deeds o s' → Once (waiting_at k (Step k e deeds o ∷ hs))
waits_once c k s hs e deeds o s' f once step =
    let t = time_after s e in
    let x = known_step c k s hs e deeds o s' f step in
    subst (λ (xs : List ReqId). Once xs) (sym (waiting_here k e deeds o hs))
    (once_filter (is_unanswered o.entries) (asked_in o.started ++ waiting_at k hs)
    (once_append (asked_in o.started) (waiting_at k hs) (once_asked o.started) once (λ q new was.
    let at : q.time ≡ t = ap (λ (r : ReqId). r.time) ((x.new q).1 new).1 in
    let before = becomes_old k s hs e f q (open_here s q ((f.waits q).1 was)) in
    absurd (omega (arith, at, before)))))

record Wary (c : Setting) (w : World) (hs : List Happening) : Type 0 where
  pub once : (k : ℕ) → Once (waiting_at k hs)
  pub refuses : EachStep (RefusesWhere c) hs

once_if : (b : Bool) (xs ys : List ReqId) → Once xs → Once ys → Once (if b then xs else ys)
once_if true xs ys a b = a
once_if false xs ys a b = b

wary : (c : Setting) (w : World) (run : Run c w) → Wary c w (story c w run)
wary c _ fresh = record { once = λ k. tt; refuses = tt }
wary c _ (went_on w w' k e run x) =
    let n = wary c w run in
    let hs = story c w run in
    let f = (known c w run).faithful k x.before x.at in
    let marks : SeenMarks c k hs x.deeds = (marks_seen c w' (went_on w w' k e run x)).0.seen in
    record {
      once = λ j. elim (same_or_not j k) [
        | inl same ↦ subst (λ (i : ℕ). Once (waiting_at i (Step k e x.deeds x.outputs ∷ hs))) (sym same) (waits_once c k x.before hs e x.deeds x.outputs x.after f (n.once k) x.step)
        | inr other ↦ subst (λ (b : Bool). Once (if b then behind j x.outputs hs else waiting_at j hs)) (sym (away k j (λ is. other (sym is)))) (n.once j)
      ];
      refuses = (step_refuses c k x.before hs e x.deeds x.outputs x.after f (n.once k) marks x.step, n.refuses);
    }
wary c _ (stopped_in w w' k e made failed run x) = let n = wary c w run in record { once = λ j. once_if (k == j) [] (waiting_at j (story c w run)) tt (n.once j); refuses = n.refuses }
wary c _ (stopped w w' k run x) = let n = wary c w run in record { once = λ j. once_if (k == j) [] (waiting_at j (story c w run)) tt (n.once j); refuses = n.refuses }
wary c _ (load w w' k run x) = let n = wary c w run in record { once = λ j. once_if (k == j) [] (waiting_at j (story c w run)) tt (n.once j); refuses = n.refuses }
wary c _ (load_failed w w' k run x) = let n = wary c w run in record { once = n.once; refuses = n.refuses }
wary c _ (turned w w' k run x) = let n = wary c w run in record { once = n.once; refuses = n.refuses }

pub refusals_told : (c : Setting) (w : World) (run : Run c w) → EachStep (RefusesWhere c) (story c w run)
refusals_told c w run = (wary c w run).refuses
