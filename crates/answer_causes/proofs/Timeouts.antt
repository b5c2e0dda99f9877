-- Timeouts are told exactly at the first step whose time reached the deadline.
use Rattle.std.proofs.Common.{◌≡◌, ◌≢◌, ℕ, zero, suc, inl, inr, ◌⊎◌, ◌≤◌, ◌<◌, Bool, true, false, Option, Some, None, List, [], ◌∷◌, ◌++◌, refl, sym, ap, subst, ◌∙◌, arith, Contains}
use Rattle.std.specs.Prelude.{not, if◌then◌else◌, flat_map, map, nat_lt, MatchBool}
use Rattle.std.specs.Map.{keys_of}
use Rattle.std.proofs.lemmas.List.Elements.{Contains-append_cases, Contains-append_left, Contains-append_right}
use Rattle.std.proofs.lemmas.Bool.{ltb-true, ltb-false}
use Rattle.cs_base.specs.declared.ids.ReqId.{ReqId}
use Rattle.cs_base.specs.declared.level.Level.{Level}
use Rattle.changes.specs.declared.Held.{Held}
use Rattle.changes.specs.declared.Partition.{Partition}
use Rattle.changes.specs.Drafts.{mutation_of}
use Rattle.changes.specs.declared.Mutation.{Mutation}
use Rattle.cs_base.proofs.Members.{contains_nil, contains_here, contains_there, contains_cases, contains_one, contains_map, contains_from_map, contains_from_flat}
use Rattle.peer_messages.specs.declared.event.Plan.{Plan}
use Rattle.peer_messages.specs.declared.event.Plan.TheVariants as plan
use Rattle.peer_messages.specs.declared.event.Event.{Event}
use Rattle.peer_messages.specs.declared.event.What.{What}
use Rattle.peer_messages.specs.declared.event.What.TheVariants.{Client, Deliver, Alive, Collect, Flush, Tick}
use Rattle.peer_messages.specs.declared.message.Body.{Body}
use Rattle.peer_messages.specs.declared.message.Body.TheVariants.{Write, WriteAck, Read, ReadReply, Mend, MendAck, Hint, HintAck}
use Rattle.peer_messages.specs.declared.chronicle.Entry.{Entry}
use Rattle.peer_messages.specs.declared.chronicle.Entry.TheVariants.{Submitted, Acked, Refused, Used, Began, Rows}
use Rattle.peer_messages.specs.declared.chronicle.Invalid.{Invalid as invalid}
use Rattle.peer_messages.specs.declared.chronicle.Invalid.TheVariants as reason
use Rattle.peer_messages.specs.declared.chronicle.Refusal.{Refusal}
use Rattle.peer_messages.specs.declared.chronicle.Refusal.TheVariants.{Invalid, Overloaded, Unavailable}
use Rattle.peer_messages.specs.declared.outcome.Move.{Move}
use Rattle.peer_messages.specs.declared.outcome.Outputs.{Outputs}
use Rattle.peer_messages.specs.declared.setting.Setting.{Setting}
use Rattle.peer_messages.specs.Settings.{needed}
use Rattle.peer_messages.specs.Moves.{quiet as quiet_move, deadline_of}
use Rattle.node_steps.specs.State.{NodeState, OpenWrite, OpenRead}
use Rattle.node_steps.specs.Effects.{Effects, nothing, open_at, Takes}
use Rattle.node_steps.specs.Replicas.{Asker}
use Rattle.node_steps.specs.Writes.{HearsAck, heard_write, is_enough, ack_told}
use Rattle.node_steps.specs.Reads.{HearsReply, TellsRows, MergesReply, is_stray, heard_by, replies_of, read_needs, AwaitsMends, mends, differing, HearsMendAck, is_awaited, mended_by}
use Rattle.node_steps.specs.Fitting.{write_fits, query_fits, message_fits, mark_fits}
use Rattle.node_steps.specs.Requests.{refusal_of, refusal_at, is_serial, is_overloaded, alive_of, BeginsOrRefuses}
use Rattle.node_steps.specs.Acts.{Act, Rises, Hears, Asks, Marks, DeadlineComes, HintExpires, Incoming, Deed, Does, HearsBody, Ends, EndsRead, Chain, request_at, is_old, asker_of, TakesChanges}
use Rattle.node_steps.specs.Acts.Chain.{begun, own, matter}
use Rattle.node_steps.specs.Steps.{NodeStep, Due, AreDue, act_of, matter_of, is_ahead, looked_at, time_after, entries_of}
use Rattle.cluster_runs.specs.World.{World}
use Rattle.cluster_runs.specs.Run.{Run}
use Rattle.cluster_runs.specs.Run.RunFrom.{begun as fresh, more as went_on, stopped_in, stopped, load, load_failed, turned}
use Rattle.cluster_runs.proofs.Submissions.{itself}
use Rattle.answer_causes.specs.Story.{Happening, story, answers, answers_to, one_if}
use Rattle.answer_causes.specs.Causes.{EachStep, IsTimeout, TimesOut}
use Rattle.answer_causes.proofs.Entries.{remove_same, key_in}
use Rattle.answer_causes.proofs.Turns.{IsOpen, IsNeat, Turn, Begun, IsAsk, PendingWrite, Found, pending_found, does_turns}
use Rattle.answer_causes.proofs.Turns.Turn.{still, told, opens, refuses}
use Rattle.answer_causes.proofs.Steps.{Told, AreOld, answers_append}
use Rattle.answer_causes.proofs.Chains.{IsHeard, IsLastAsk, sofar, within, deeds_do, whole}
use Rattle.answer_causes.proofs.Waiting.{IsDueAct, due_acts, heard_none, IsFaithful, known_step, becomes_old, step_faithful, step_time, known}
use Rattle.answer_causes.proofs.Phases.{IsQuiet, AreQuiet, parts, quiet_told, quiet_acts, TellsTimeout}

-- ---- behind its deadline no request is open

some_none : {X : Type 0} (x : X) → None ≡ Some x → ⊥
some_none x e = cc

none_pending : (o : Option OpenWrite) → o ≡ None → PendingWrite o → ⊥
none_pending o is h = subst PendingWrite is h

none_found : {A : Type 0} (o : Option A) → o ≡ None → Found o → ⊥
none_found {A} o is h = subst (λ (x : Option A). Found x) is h

ends_read_closes : (c : Setting) (id : ReqId) (r : Option OpenRead) (s : NodeState) (o : Effects) (s' : NodeState) → IsNeat s → open_at s.writes id ≡ None → open_at s.reads id ≡ r → EndsRead c id r s o s' → IsOpen s' id → ⊥
ends_read_closes c id None s o s' neat none found h (inl w) = none_pending (open_at s'.writes id) (ap (λ (x : NodeState). open_at x.writes id) h.1 ∙ none) w
ends_read_closes c id None s o s' neat none found h (inr r) = none_found (open_at s'.reads id) (ap (λ (x : NodeState). open_at x.reads id) h.1 ∙ found) r
ends_read_closes c id (Some x) s o s' neat none found h (inl w) = none_pending (open_at s'.writes id) (ap (λ (x : NodeState). open_at x.writes id) h.1 ∙ none) w
ends_read_closes c id (Some x) s o s' neat none found h (inr r) = none_found (open_at s'.reads id) (ap (λ (x : NodeState). open_at x.reads id) h.1 ∙ remove_same s.reads id neat.reads) r

ends_closes : (c : Setting) (id : ReqId) (w : Option OpenWrite) (s : NodeState) (o : Effects) (s' : NodeState) → IsNeat s → open_at s.writes id ≡ w → Ends c id w s o s' → IsOpen s' id → ⊥
ends_closes c id None s o s' neat found h there = ends_read_closes c id (open_at s.reads id) s o s' neat found refl h there
ends_closes c id (Some x) s o s' neat found h (inl w) = none_pending (open_at s'.writes id) (ap (λ (x : NodeState). open_at x.writes id) h.1 ∙ remove_same s.writes id neat.writes) w
ends_closes c id (Some x) s o s' neat found h (inr r) =
    neat.one_kind id (subst (λ (y : Option OpenWrite). Found y) (sym found) tt) (subst (λ (y : Option OpenRead). Found y) (ap (λ (x : NodeState). open_at x.reads id) h.1) r)

reopens_not : (a : Act) (at : ReqId) (s : NodeState) (o : Effects) (s' : NodeState) (q : ReqId) → (IsAsk a → ⊥) → Turn (Begun (IsAsk a) at) s o s' → IsOpen s' q → IsOpen s q
reopens_not a at s o s' q none (still never f g) h = (f q).0 h
reopens_not a at s o s' q none (told never id was f g) h = ((f q).0 h).0
reopens_not a at s o s' q none (opens f g) h = elim ((f q).0 h) [ inl was ↦ was | inr now ↦ absurd (none now.0) ]
reopens_not a at s o s' q none (refuses id new f g) h = (f q).0 h

quiet_not_ask : (a : Act) → IsQuiet a → IsAsk a → ⊥
quiet_not_ask a h ask = subst (λ (x : Act). IsQuiet x) ask.1 h

pub closed : (c : Setting) (k t : ℕ) (ms : List Act) (s : NodeState) (id : ReqId) → IsNeat s → AreOld t s → IsLastAsk ms → AreQuiet (Rises t ∷ ms) → (deeds : List Deed) (s' : NodeState) (pending left : List Act) → Chain c k s (Rises t ∷ ms) deeds s' pending left
    → (d : Deed) → Contains deeds d → d.act ≡ DeadlineComes id → IsOpen s' id → ⊥
closed c k t ms s id neat old last quiet _ _ _ _ begun d there is h = contains_nil d there
closed c k t ms s id neat old last quiet _ _ _ _ (own deeds mid s' a pending left o chain does) d there is h =
    let none : a ∷ pending ≡ [] = (quiet_acts c k s (Rises t ∷ ms) quiet deeds mid (a ∷ pending) left chain).0 in cc
closed c k t ms s id neat old last quiet _ _ _ _ (matter deeds mid s' a left o chain does) d there is h =
    let now = (sofar c k t ms s neat old last deeds mid [] (a ∷ left) chain).facts.neat in
    let this = (quiet_acts c k s (Rises t ∷ ms) quiet deeds mid [] (a ∷ left) chain).1.0 a (contains_here a left) in
    elim (Contains-append_cases deeds _ d there) [
      | inl earlier ↦ closed c k t ms s id neat old last quiet deeds mid [] (a ∷ left) chain d earlier is
          (reopens_not a (request_at k mid.risen) mid o s' id (quiet_not_ask a this) (does_turns c k mid a o s' now (λ ask. absurd (quiet_not_ask a this ask)) does).turn h)
      | inr this_one ↦
          let act : a ≡ DeadlineComes id = ap (λ (x : Deed). x.act) (contains_one _ d this_one) ∙ is in
          ends_closes c id (open_at mid.writes id) mid o s' now refl (subst (λ (x : Act). Does c k mid x o s') act does) h
    ]

-- ---- what is due

pub deadline_due : (c : Setting) (k t : ℕ) (s : NodeState) (due : List Due) (id : ReqId) → AreDue c k t s due → Contains (keys_of s.writes) id ⊎ Contains (keys_of s.reads) id → deadline_of id ≤ t → Contains (map act_of due) (DeadlineComes id)
deadline_due c k t s due id are there past =
    let d : Due = record { moment = deadline_of id; request = id; peer = 0; number = 0; act = DeadlineComes id } in
    contains_map act_of due d ((are.each d).1 (past, inl (there, refl)))

found_key : {A : Type 0} (xs : List (ReqId × A)) (id : ReqId) (o : Option A) → open_at xs id ≡ o → Found o → Contains (keys_of xs) id
found_key {A} xs id None is h = absurd h
found_key {A} xs id (Some a) is h = key_in xs id a is

pub open_key : (s : NodeState) (id : ReqId) → IsOpen s id → Contains (keys_of s.writes) id ⊎ Contains (keys_of s.reads) id
open_key s id (inl w) = inl (found_key s.writes id (open_at s.writes id) refl (pending_found (open_at s.writes id) w))
open_key s id (inr r) = inr (found_key s.reads id (open_at s.reads id) refl r)

same_line : (a b : ReqId) → DeadlineComes a ≡ DeadlineComes b → a ≡ b
same_line a b e = cc

expiry_not : (peer number : ℕ) (id : ReqId) → HintExpires peer number ≡ DeadlineComes id → ⊥
expiry_not peer number id e = cc

pub due_deadline : (c : Setting) (k t : ℕ) (s : NodeState) (due : List Due) (id : ReqId) → AreDue c k t s due → Contains (map act_of due) (DeadlineComes id) → deadline_of id ≤ t
due_deadline c k t s due id are h =
    let d = contains_from_map act_of due (DeadlineComes id) h in
    let is = (are.each d.0).0 d.1 in
    elim is.1 [
      | inl (opened, whole_due) ↦
          let same : d.0.request ≡ id = same_line d.0.request id (sym (ap (λ (x : Due). x.act) whole_due) ∙ d.2) in
          subst (λ (r : ReqId). deadline_of r ≤ t) same (subst (λ (n : ℕ). n ≤ t) (ap (λ (x : Due). x.moment) whole_due) is.0)
      | inr (h, held, whole_due) ↦ absurd (expiry_not h.peer h.number id (sym (ap (λ (x : Due). x.act) whole_due) ∙ d.2))
    ]

due_quiet : (a : Act) → IsDueAct a → IsQuiet a
due_quiet (Rises time) h = absurd h
due_quiet (Hears m) h = absurd h
due_quiet (Asks ask) h = absurd h
due_quiet (Marks peer up) h = absurd h
due_quiet (DeadlineComes id) h = tt
due_quiet (HintExpires peer number) h = tt

pub all_quiet : (t : ℕ) (lines : List Act) → ((a : Act) → Contains lines a → IsDueAct a) → AreQuiet (Rises t ∷ lines)
all_quiet t lines each a h = elim (contains_cases (Rises t) lines a h) [ inl here ↦ subst (λ (x : Act). IsQuiet x) here tt | inr rest ↦ due_quiet a (each a rest) ]

-- ---- who tells of a timeout

-- these entries refuse nothing for want of time
abbrev NoTimeout : List Entry → Type 0
NoTimeout es = (id : ReqId) (r : Refusal) → IsTimeout r → Contains es (Refused id r) → ⊥

no_entries : NoTimeout []
no_entries id r timeout h = contains_nil _ h

by_effects : (o p : Effects) → o ≡ p → NoTimeout p.entries → NoTimeout o.entries
by_effects o p is none = subst (λ (x : Effects). NoTimeout x.entries) (sym is) none

ack_none : (a e : Bool) (id : ReqId) (w : OpenWrite) → NoTimeout (ack_told a e id w)
ack_none true e id w = no_entries
ack_none false true id w = λ q r timeout h. let e : Acked id w.level w.heard ≡ Refused q r = contains_one _ _ h in cc
ack_none false false id w = no_entries

acks_none : (c : Setting) (id : ReqId) (from : ℕ) (xs xs' : List (ReqId × OpenWrite)) (o : Option OpenWrite) (turn : Move) → Takes (HearsAck c id from) id xs o turn xs' → NoTimeout turn.entries
acks_none c id from xs xs' None turn h = subst (λ (t : Move). NoTimeout t.entries) (sym h.0) no_entries
acks_none c id from xs xs' (Some w) turn (w', (is, next), same) =
    subst (λ (t : Move). NoTimeout t.entries) (sym is) (ack_none (heard_write c from w).answered (is_enough c (heard_write c from w)) id (heard_write c from w))

rows_none : (id : ReqId) (r : OpenRead) (turn : Move) → TellsRows id r turn → NoTimeout turn.entries
rows_none id r turn (rows, more, shown, is) =
    subst (λ (t : Move). NoTimeout t.entries) (sym is) (λ q x timeout h. let e : Rows id rows more (record { heard = heard_by r; merged = r.merged }) ≡ Refused q x = contains_one _ _ h in cc)

quiet_none : (turn : Move) → turn ≡ quiet_move → NoTimeout turn.entries
quiet_none turn is = subst (λ (t : Move). NoTimeout t.entries) (sym is) no_entries

awaits_none : (id : ReqId) (r r' : OpenRead) (ks : List ℕ) (sent turn : Move) → NoTimeout sent.entries → AwaitsMends id r ks sent turn r' → NoTimeout turn.entries
awaits_none id r r' [] sent turn none h = rows_none id r turn h
awaits_none id r r' (k ∷ ks) sent turn none h = subst (λ (t : Move). NoTimeout t.entries) (sym h.0) none

counts_none : (b : Bool) (c : Setting) (id : ReqId) (r r' : OpenRead) (turn : Move) → MatchBool b ((turn ≡ quiet_move) × (r' ≡ r)) (AwaitsMends id r (differing c r) (mends id r (differing c r)) turn r') → NoTimeout turn.entries
counts_none true c id r r' turn h = quiet_none turn h.0
counts_none false c id r r' turn h = awaits_none id r r' (differing c r) (mends id r (differing c r)) turn no_entries h

merges_none : (b : Bool) (c : Setting) (id : ReqId) (from : ℕ) (content : List Held) (r r' : OpenRead) (turn : Move) → MatchBool b ((turn ≡ quiet_move) × (r' ≡ r)) (MergesReply c id from content r turn r') → NoTimeout turn.entries
merges_none true c id from content r r' turn h = quiet_none turn h.0
merges_none false c id from content r r' turn (n, is, merge, counts) = counts_none (nat_lt (replies_of c n) (read_needs c n)) c id n r' turn counts

replies_none : (c : Setting) (id : ReqId) (from : ℕ) (content : List Held) (xs xs' : List (ReqId × OpenRead)) (o : Option OpenRead) (turn : Move) → Takes (HearsReply c id from content) id xs o turn xs' → NoTimeout turn.entries
replies_none c id from content xs xs' None turn h = quiet_none turn h.0
replies_none c id from content xs xs' (Some r) turn (r', step, same) = merges_none (is_stray c from r) c id from content r r' turn step

mends_none : (b : Bool) (id : ReqId) (r r' : OpenRead) (ks : List ℕ) (turn : Move) → MatchBool b (AwaitsMends id r ks quiet_move turn r') ((turn ≡ quiet_move) × (r' ≡ r)) → NoTimeout turn.entries
mends_none true id r r' ks turn h = awaits_none id r r' ks quiet_move turn no_entries h
mends_none false id r r' ks turn h = quiet_none turn h.0

mended_none : (c : Setting) (id : ReqId) (from : ℕ) (xs xs' : List (ReqId × OpenRead)) (o : Option OpenRead) (turn : Move) → Takes (HearsMendAck c id from) id xs o turn xs' → NoTimeout turn.entries
mended_none c id from xs xs' None turn h = quiet_none turn h.0
mended_none c id from xs xs' (Some r) turn (r', step, same) = mends_none (is_awaited r.mending from) id r r' (mended_by r.mending from) turn step

merge_none : (a : Asker) (m : Mutation) (fits : Bool) (s : NodeState) (o : Effects) (s' : NodeState) → MatchBool fits (TakesChanges a m.partition m.changes MendAck s o s') ((o ≡ nothing) × (s' ≡ s)) → NoTimeout o.entries
merge_none a m true s o s' h = by_effects o _ h.2 no_entries
merge_none a m false s o s' h = by_effects o _ h.0 no_entries

body_none : (c : Setting) (me : ℕ) (a : Asker) (b : Body) (s : NodeState) (o : Effects) (s' : NodeState) → HearsBody c me a b s o s' → NoTimeout o.entries
body_none c me a (Write m) s o s' h = by_effects o _ h.2 no_entries
body_none c me a WriteAck s o s' (turn, moves, is, same) = by_effects o _ is (acks_none c a.request a.from s.writes s'.writes (open_at s.writes a.request) turn moves)
body_none c me a (Read q) s o s' h = by_effects o _ h.2 no_entries
body_none c me a (ReadReply content) s o s' (turn, moves, is, same) = by_effects o _ is (replies_none c a.request a.from content s.reads s'.reads (open_at s.reads a.request) turn moves)
body_none c me a (Mend m) s o s' h = merge_none a m (write_fits c m) s o s' h
body_none c me a MendAck s o s' (turn, moves, is, same) = by_effects o _ is (mended_none c a.request a.from s.reads s'.reads (open_at s.reads a.request) turn moves)
body_none c me a (Hint number m) s o s' h = by_effects o _ h.2 no_entries
body_none c me a (HintAck number) s o s' h = by_effects o _ h.0 no_entries

comes_none : (c : Setting) (me : ℕ) (m : Incoming) (old : Bool) (s : NodeState) (o : Effects) (s' : NodeState) → MatchBool old ((o ≡ nothing) × (s' ≡ s)) (HearsBody c me (asker_of m) m.body s o s') → NoTimeout o.entries
comes_none c me m true s o s' h = by_effects o nothing h.0 no_entries
comes_none c me m false s o s' h = body_none c me (asker_of m) m.body s o s' h

some_one : (a b : Refusal) → Some a ≡ Some b → a ≡ b
some_one a b e = cc

-- a refusal at the request's event tells of no deadline
at_event : (a b f g : Bool) (i j : Refusal) (x : Refusal) (r : Refusal) → (IsTimeout i → ⊥) → (IsTimeout j → ⊥) → (IsTimeout x → ⊥) → (if a then Some i else if b then Some j else if f then Some Overloaded else if g then Some x else None) ≡ Some r → IsTimeout r → ⊥
at_event true b f g i j x r no_i no_j no_x is h = no_i (subst (λ (y : Refusal). IsTimeout y) (sym (some_one i r is)) h)
at_event false true f g i j x r no_i no_j no_x is h = no_j (subst (λ (y : Refusal). IsTimeout y) (sym (some_one j r is)) h)
at_event false false true g i j x r no_i no_j no_x is h = subst (λ (y : Refusal). IsTimeout y) (sym (some_one Overloaded r is)) h
at_event false false false true i j x r no_i no_j no_x is h = no_x (subst (λ (y : Refusal). IsTimeout y) (sym (some_one x r is)) h)
at_event false false false false i j x r no_i no_j no_x is h = absurd (some_none r is)

at_partition : (c : Setting) (s : NodeState) (fits : Bool) (p : Partition) (l : Level) (serial : invalid) (r : Refusal) → refusal_at c s fits p l serial ≡ Some r → IsTimeout r → ⊥
at_partition c s fits p l serial r is h =
    at_event (not fits) (is_serial l) (is_overloaded s) (nat_lt (alive_of c s.down p) (needed c l p))
    (Invalid reason.UnknownTable) (Invalid serial) (Unavailable (needed c l p) (alive_of c s.down p)) r (λ x. x) (λ x. x) (λ x. x) is h

refused_why : (c : Setting) (s : NodeState) (id : ReqId) (p : Plan) (l : Level) (r : Refusal) → refusal_of c s id p l ≡ Some r → IsTimeout r → ⊥
refused_why c s id (plan.Write d) l r is h = at_partition c s (write_fits c (mutation_of id d)) d.partition l reason.SerialWrite r is h
refused_why c s id (plan.Read q columns) l r is h = at_partition c s (query_fits c q) q.partition l reason.Level r is h
refused_why c s id (plan.Use keyspace) l r is h = some_none r is
refused_why c s id (plan.Invalid fault) l r is h = subst (λ (y : Refusal). IsTimeout y) (sym (some_one (Invalid (reason.Statement fault)) r is)) h

asks_none : (c : Setting) (id : ReqId) (p : Plan) (l : Level) (r : Option Refusal) (s : NodeState) (o : Effects) (s' : NodeState) → ((x : Refusal) → r ≡ Some x → IsTimeout x → ⊥) → BeginsOrRefuses c id p l r s o s' → NoTimeout o.entries
asks_none c id (plan.Write d) l None s o s' why h = by_effects o _ h.0 (λ q x timeout there. let e : Submitted id _ ≡ Refused q x = contains_one _ _ there in cc)
asks_none c id (plan.Read q columns) l None s o s' why h = by_effects o _ h.0 (λ i x timeout there. let e : Began id q l columns ≡ Refused i x = contains_one _ _ there in cc)
asks_none c id (plan.Use keyspace) l None s o s' why h = by_effects o _ h.0 (λ i x timeout there. let e : Used id keyspace ≡ Refused i x = contains_one _ _ there in cc)
asks_none c id (plan.Invalid fault) l None s o s' why h = absurd h
asks_none c id p l (Some y) s o s' why h = by_effects o _ h.0 (λ i x timeout there.
    let e : Refused id y ≡ Refused i x = contains_one _ _ there in
    let same : y ≡ x = cc in
    why y refl (subst (λ (z : Refusal). IsTimeout z) (sym same) timeout))

line_read : (c : Setting) (r id : ReqId) (x : Option OpenRead) (s : NodeState) (o : Effects) (s' : NodeState) (y : Refusal) → EndsRead c r x s o s' → Contains o.entries (Refused id y) → r ≡ id
line_read c r id None s o s' y h there = absurd (contains_nil _ (subst (λ (z : Effects). Contains z.entries (Refused id y)) h.0 there))
line_read c r id (Some x) s o s' y h there =
    let e : Refused r _ ≡ Refused id y = contains_one _ _ (subst (λ (z : Effects). Contains z.entries (Refused id y)) h.0 there) in cc

line_write : (b : Bool) (r id : ReqId) (x y : Refusal) → Contains (if b then [] else Refused r x ∷ []) (Refused id y) → r ≡ id
line_write true r id x y there = absurd (contains_nil _ there)
line_write false r id x y there = let e : Refused r x ≡ Refused id y = contains_one _ _ there in cc

line_ends : (c : Setting) (r id : ReqId) (w : Option OpenWrite) (s : NodeState) (o : Effects) (s' : NodeState) (y : Refusal) → Ends c r w s o s' → Contains o.entries (Refused id y) → r ≡ id
line_ends c r id None s o s' y h there = line_read c r id (open_at s.reads r) s o s' y h there
line_ends c r id (Some w) s o s' y h there = line_write w.answered r id _ y (subst (λ (z : Effects). Contains z.entries (Refused id y)) h.0 there)

pub timeout_act : (c : Setting) (k : ℕ) (s : NodeState) (a : Act) (o : Effects) (s' : NodeState) (id : ReqId) (r : Refusal) → IsTimeout r → Does c k s a o s' → Contains o.entries (Refused id r) → a ≡ DeadlineComes id
timeout_act c k s (Rises t) o s' id r timeout h there = absurd (by_effects o nothing h.1 no_entries id r timeout there)
timeout_act c k s (Hears m) o s' id r timeout h there = absurd (comes_none c k m (is_old c s.risen m.born) s o s' h id r timeout there)
timeout_act c k s (Asks ask) o s' id r timeout h there =
    absurd (asks_none c (request_at k s.risen) ask.plan ask.level (refusal_of c s (request_at k s.risen) ask.plan ask.level) s o s' (refused_why c s (request_at k s.risen) ask.plan ask.level) h id r timeout there)
timeout_act c k s (Marks peer up) o s' id r timeout h there = absurd (by_effects o _ h.0 no_entries id r timeout there)
timeout_act c k s (DeadlineComes q) o s' id r timeout h there = ap (λ (x : ReqId). DeadlineComes x) (line_ends c q id (open_at s.writes q) s o s' r h there)
timeout_act c k s (HintExpires peer number) o s' id r timeout h there = absurd (by_effects o nothing h.0 no_entries id r timeout there)

-- ---- answers and counts

counted : (es : List Entry) (e : Entry) (id : ReqId) → answers e id ≡ true → Contains es e → answers_to es id ≡ 0 → ⊥
counted [] e id answer h none = contains_nil e h
counted (x ∷ es) e id answer h none = elim (contains_cases x es e h) [
  | inl here ↦
      let one : one_if (answers x id) ≡ 1 = ap (λ (y : Entry). one_if (answers y id)) here ∙ ap one_if answer in
      omega (arith, one, none)
  | inr rest ↦ counted es e id answer rest (omega (arith, none))
]

-- of moves that answer a request, one answers it
pub zero_or_not : (n : ℕ) → (n ≡ 0) ⊎ (n ≢ 0)
zero_or_not zero = inl refl
zero_or_not (suc n) = inr (λ e. omega (arith, e))

pub answering : (deeds : List Deed) (id : ReqId) → Told deeds id ≢ 0 → (d : Deed) × Contains deeds d × (answers_to d.effects.entries id ≢ 0)
answering [] id some = absurd (some refl)
answering (d ∷ ds) id some =
    elim (zero_or_not (answers_to d.effects.entries id)) [
      | inl none ↦
          let rest = answering ds id (λ no_more. some (answers_append d.effects.entries (flat_map entries_of ds) id ∙ (omega (arith, none, no_more)))) in
          (rest.0, contains_there d ds rest.0 rest.1, rest.2)
      | inr this ↦ (d, contains_here d ds, this)
    ]

flat_in : (deeds : List Deed) (d : Deed) (e : Entry) → Contains deeds d → Contains d.effects.entries e → Contains (flat_map entries_of deeds) e
flat_in [] d e h there = absurd (contains_nil d h)
flat_in (x ∷ xs) d e h there = elim (contains_cases x xs d h) [
  | inl here ↦ Contains-append_left x.effects.entries (flat_map entries_of xs) e (subst (λ (y : Deed). Contains y.effects.entries e) (sym here) there)
  | inr rest ↦ Contains-append_right x.effects.entries (flat_map entries_of xs) e (flat_in xs d e rest there)
]

-- ---- a step

-- the event's own matter is no deadline
matter_line : (c : Setting) (k : ℕ) (what : What) (id : ReqId) → Contains (matter_of c k what) (DeadlineComes id) → ⊥
matter_line c k (Client ask) id h = let e : Asks ask ≡ DeadlineComes id = contains_one _ _ h in cc
matter_line c k (Deliver m) id h = let e : DeadlineComes id ≡ Hears _ = heard_none (message_fits c k m) _ (DeadlineComes id) h in cc
matter_line c k (Alive peer up) id h = let e : DeadlineComes id ≡ Marks peer up = heard_none (mark_fits c k peer) _ (DeadlineComes id) h in cc
matter_line c k (Collect request) id h = contains_nil _ h
matter_line c k Flush id h = contains_nil _ h
matter_line c k Tick id h = contains_nil _ h

pub looked_line : (c : Setting) (k : ℕ) (b : Bool) (what : What) (id : ReqId) → Contains (matter_of c k (if b then Tick else what)) (DeadlineComes id) → ⊥
looked_line c k true what id h = contains_nil _ h
looked_line c k false what id h = matter_line c k what id h

pub heard_line : (a : Act) (id : ReqId) → IsHeard a → a ≡ DeadlineComes id → ⊥
heard_line a id h is = subst (λ (x : Act). IsHeard x) is h

line_last : (a : Act) (xs : List Act) → IsDueAct a → IsLastAsk xs → IsLastAsk (a ∷ xs)
line_last (Rises time) xs due h = absurd due
line_last (Hears m) xs due h = absurd due
line_last (Asks ask) xs due h = absurd due
line_last (Marks peer up) xs due h = absurd due
line_last (DeadlineComes id) xs due h = h
line_last (HintExpires peer number) xs due h = h

pub lines_last : (lines : List Act) → ((a : Act) → Contains lines a → IsDueAct a) → IsLastAsk lines
lines_last [] each = tt
lines_last (a ∷ xs) each = line_last a xs (each a (contains_here a xs)) (lines_last xs (λ b h. each b (contains_there a xs b h)))

-- a request that waited is told where its deadline has come
pub record ToldThen (k t : ℕ) (s : NodeState) (deeds : List Deed) : Type 0 where
  pub told : (id : ReqId) → IsOpen s id → deadline_of id ≤ t → TellsTimeout (flat_map entries_of deeds) id × (Told deeds id ≢ 0)
  pub only : (id : ReqId) (r : Refusal) → IsTimeout r → Contains (flat_map entries_of deeds) (Refused id r) → deadline_of id ≤ t

told_then : (c : Setting) (k : ℕ) (s : NodeState) (hs : List Happening) (e : Event) (deeds : List Deed) (o : Outputs) (s' : NodeState) → IsFaithful k s hs → NodeStep c k s e deeds o s' → ToldThen k (time_after s e) s deeds
told_then c k s hs e deeds o s' f step =
    let t = time_after s e in
    let lines : List Act = map act_of step.due in
    let ms = matter_of c k (looked_at s.time e) in
    let each = due_acts c k t s step.due step.are_due in
    let old = becomes_old k s hs e f in
    let quiet = all_quiet t lines each in
    let p = parts c k s (Rises t ∷ lines) ms deeds s' quiet step.moves in
    let last = lines_last lines each in
    let first = whole c k t lines s p.first p.between f.neat old last p.due in
    let acts = quiet_acts c k s (Rises t ∷ lines) quiet p.first p.between [] [] p.due in
    let in_first = within c k s (Rises t ∷ lines) p.first p.between [] [] p.due in
    let in_all = within c k s (Rises t ∷ (lines ++ ms)) deeds s' [] [] step.moves in
    record {
      told = λ id there past.
          let line = deadline_due c k t s step.due id step.are_due (open_key s id there) past in
          let made : (d : Deed) × Contains p.first d × (d.act ≡ DeadlineComes id) = elim (in_first.taken (DeadlineComes id) (contains_there (Rises t) lines (DeadlineComes id) line)) [ inl left ↦ absurd (contains_nil _ left) | inr done ↦ done ] in
          let shut : IsOpen p.between id → ⊥ = closed c k t lines s id f.neat old last quiet p.first p.between [] [] p.due made.0 made.1 made.2 in
          let some : Told p.first id ≢ 0 = λ none. shut ((first.facts.opened id).1 (inl there, none)) in
          let d = answering p.first id some in
          let tells = quiet_told c k d.0.before d.0.act d.0.effects d.0.after id (acts.1.1 d.0 d.1) (deeds_do c k s (Rises t ∷ lines) p.first p.between [] [] p.due d.0 d.1) d.2 in
          let in_deeds : Contains deeds d.0 = subst (λ (xs : List Deed). Contains xs d.0) (sym p.all) (Contains-append_left p.first p.second d.0 d.1) in
          let entry = flat_in deeds d.0 (Refused id tells.0) in_deeds tells.2 in
          ((tells.0, tells.1, entry), counted (flat_map entries_of deeds) (Refused id tells.0) id (itself id) entry);
      only = λ id r timeout there.
          let x = contains_from_flat entries_of deeds (Refused id r) there in
          let act = timeout_act c k x.0.before x.0.act x.0.effects x.0.after id r timeout (deeds_do c k s (Rises t ∷ (lines ++ ms)) deeds s' [] [] step.moves x.0 x.1) x.2 in
          elim (in_all.acts x.0 x.1) [
            | inl of_matters ↦ elim (contains_cases (Rises t) (lines ++ ms) x.0.act of_matters) [
              | inl rises ↦ (let e : Rises t ≡ DeadlineComes id = rises ∙ act in cc)
              | inr rest ↦ elim (Contains-append_cases lines ms (DeadlineComes id) (subst (λ (y : Act). Contains (lines ++ ms) y) act rest)) [
                | inl due ↦ due_deadline c k t s step.due id step.are_due due
                | inr this ↦ absurd (looked_line c k (is_ahead s.time e e.what) e.what id this)
              ]
            ]
            | inr heard ↦ absurd (heard_line x.0.act id heard act)
          ];
    }

pub le_or_lt : (a b : ℕ) → (a ≤ b) ⊎ (b < a)
le_or_lt a b = by_test (nat_lt b a) refl
  where
    by_test : (x : Bool) → nat_lt b a ≡ x → (a ≤ b) ⊎ (b < a)
    by_test true h = inr (ltb-true b a h)
    by_test false h = inl (ltb-false b a h)

by_time : (line t time : ℕ) → time ≡ t → (line ≤ t → ⊥) → time < line
by_time line t time is none = elim (le_or_lt line t) [ inl past ↦ absurd (none past) | inr before ↦ omega (arith, is, before) ]

step_times : (c : Setting) (k : ℕ) (s : NodeState) (hs : List Happening) (e : Event) (deeds : List Deed) (o : Outputs) (s' : NodeState) → IsFaithful k s hs → NodeStep c k s e deeds o s' → TimesOut k e deeds o hs
step_times c k s hs e deeds o s' f step =
    let t = time_after s e in
    let x = known_step c k s hs e deeds o s' f step in
    let y = told_then c k s hs e deeds o s' f step in
    let g = x.whole.facts in
    let time : o.time ≡ t = step_time c k s hs e deeds o s' f step in
    let later = step_faithful c k s hs e deeds o s' f x in
    record {
      told = λ id there past.
          let tells = (y.told id ((f.waits id).1 there) (subst (λ (n : ℕ). deadline_of id ≤ n) time past)).0 in
          (tells.0, tells.1, subst (λ (es : List Entry). Contains es (Refused id tells.0)) (sym x.entries) tells.2);
      only = λ id r timeout there.
          let entry : Contains (flat_map entries_of deeds) (Refused id r) = subst (λ (es : List Entry). Contains es (Refused id r)) x.entries there in
          let past = y.only id r timeout entry in (
            elim (g.from id (counted (flat_map entries_of deeds) (Refused id r) id (itself id) entry)) [
              | inl was ↦ (f.waits id).0 was
              | inr new ↦ (let at : id.time ≡ t = ap (λ (q : ReqId). q.time) new.1 in absurd (omega (arith, at, past)))
            ],
            subst (λ (n : ℕ). deadline_of id ≤ n) (sym time) past,
          );
      first = λ id there.
          let was = (g.opened id).0 ((later.waits id).1 there) in
          elim was.0 [
            | inl open_before ↦ by_time (deadline_of id) t o.time time (λ past. (y.told id open_before past).1 was.1)
            | inr new ↦ (let at : id.time ≡ t = ap (λ (q : ReqId). q.time) new.1 in omega (arith, at, time))
          ];
    }

-- ---- runs

pub times_out : (c : Setting) (w : World) (run : Run c w) → EachStep TimesOut (story c w run)
times_out c _ fresh = tt
times_out c _ (went_on w w' k e run x) = (step_times c k x.before (story c w run) e x.deeds x.outputs x.after ((known c w run).faithful k x.before x.at) x.step, times_out c w run)
times_out c _ (stopped_in w w' k e made failed run x) = times_out c w run
times_out c _ (stopped w w' k run x) = times_out c w run
times_out c _ (load w w' k run x) = times_out c w run
times_out c _ (load_failed w w' k run x) = times_out c w run
times_out c _ (turned w w' k run x) = times_out c w run
