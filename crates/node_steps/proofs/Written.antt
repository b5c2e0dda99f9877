-- What comes from elsewhere is tested, and what a node sends is of a request that was, or a hint that it holds. So what a step
-- keeps can be written, and what it sends fits where it comes to.
use Rattle.std.proofs.Common.{◌≡◌, ℕ, inl, inr, Bool, true, false, Option, Some, None, List, [], ◌∷◌, ◌++◌, filter, refl, sym, ap, subst, ◌∙◌, Contains}
use Rattle.std.specs.Prelude.{◌==◌, ◌&&◌, not, if◌then◌else◌, nat_lt, flat_map, map, MatchBool}
use Rattle.std.specs.BTreeMap.{is_at, insert_entry}
use Rattle.std.specs.List.{AllByRecursion}
use Rattle.std.proofs.lemmas.Bool.{and_parts, and_from, eq-eqb, eqb-false, ne_eqb, not-true}
use Rattle.std.proofs.lemmas.List.Elements.{Contains-append_cases}
use Rattle.cs_base.specs.declared.ids.ReqId.{ReqId}
use Rattle.cs_base.specs.declared.level.Level.{Level}
use Rattle.cs_base.specs.Requests.{request_cmp}
use Rattle.cs_base.proofs.Members.{contains_nil, contains_cases, contains_here, contains_there, contains_one, contains_from_map, contains_from_filter, contains_from_flat}
use Rattle.changes.specs.declared.Held.{Held}
use Rattle.changes.specs.declared.Mutation.{Mutation}
use Rattle.changes.specs.Drafts.{mutation_of}
use Rattle.stored_changes.specs.Spelling.{MutationFits}
use Rattle.row_change.specs.declared.entry.LogItem.{LogItem}
use Rattle.row_change.specs.declared.entry.LogItem.TheVariants.{Data, Ceiling}
use Rattle.row_change.specs.declared.entry.Hint as hint
use Rattle.row_change.specs.Spelling.{ItemFits}
use Rattle.peer_messages.specs.declared.chronicle.Invalid.TheVariants as reason
use Rattle.peer_messages.specs.declared.chronicle.Refusal.{Refusal}
use Rattle.peer_messages.specs.declared.chronicle.Refusal.TheVariants.{Invalid}
use Rattle.peer_messages.specs.declared.event.Event.{Event}
use Rattle.peer_messages.specs.declared.event.Plan.{Plan}
use Rattle.peer_messages.specs.declared.event.Plan.TheVariants as plan
use Rattle.peer_messages.specs.declared.event.What.{What}
use Rattle.peer_messages.specs.declared.event.What.TheVariants.{Client, Deliver, Alive, Collect, Flush, Tick}
use Rattle.peer_messages.specs.declared.message.Body.{Body}
use Rattle.peer_messages.specs.declared.message.Body.TheVariants.{Write, WriteAck, Read, ReadReply, Mend, MendAck, Hint, HintAck}
use Rattle.peer_messages.specs.declared.message.Message.{Message}
use Rattle.peer_messages.specs.declared.outcome.Move.{Move}
use Rattle.peer_messages.specs.declared.outcome.Outbound.{Outbound}
use Rattle.peer_messages.specs.declared.outcome.Outputs.{Outputs}
use Rattle.peer_messages.specs.declared.setting.Setting.{Setting}
use Rattle.peer_messages.specs.Settings.{alive_at}
use Rattle.peer_messages.specs.Moves.{quiet}
use Rattle.node_steps.specs.State.{NodeState, OpenWrite, OpenRead}
use Rattle.node_steps.specs.Effects.{Effects, nothing, outbound, send_to, open_at, Takes}
use Rattle.node_steps.specs.Fitting.{is_table, is_node, changes_fit, mutation_fits, write_fits, query_fits, body_fits, message_fits, mark_fits}
use Rattle.node_steps.specs.Hints.{KeptHints, hints_in, push_hints, pushed_hints, drop_hint, send_hint, sends_hints, with_sent, is_last, hint_done}
use Rattle.node_steps.specs.Holding.{HoldsFit}
use Rattle.node_steps.specs.Replicas.{Asker}
use Rattle.node_steps.specs.Writes.{HearsAck, unheard}
use Rattle.node_steps.specs.Reads.{is_stray, replies_of, read_needs, TellsRows, differing, mend_of, mends, AwaitsMends, MergesReply, HearsReply, is_awaited, mended_by, HearsMendAck}
use Rattle.node_steps.specs.Requests.{refusal_of, hinted_at, Begins, BeginsOrRefuses}
use Rattle.node_steps.specs.Acts.{Act, Rises, Hears, Asks, Marks, DeadlineComes, HintExpires, Incoming, Deed, Does, HearsBody, TakesChanges, Ends, EndsRead, mark_state, mark_sends, Chain, own_sends, request_at, is_old, asker_of}
use Rattle.node_steps.specs.Acts.Chain.{begun, own, matter}
use Rattle.node_steps.specs.Steps.{NodeStep, Due, AreDue, act_of, matter_of, looked_at, time_after, message_of, messages_of, sends_of}
use Rattle.node_steps.specs.Keeping.{Gone, data_of, data_by, hints_of_plan, hints_at_end, hints_by, data_in, hints_made, hints_gone, add_item, gone_item, hint_items, ceiling_in}
use Rattle.node_steps.specs.Laws.{WhatIsKeptFits, WhatIsHeldFits, WhatIsSentFits}
use Rattle.node_steps.proofs.Fitting.{mutations_tested}
use Rattle.node_steps.proofs.ByKind.{by_kind}
use Rattle.node_steps.proofs.HintMembers.{IsOfWrite, sent_from, dropped_from, pushed_from, made_from}
use Rattle.node_steps.proofs.Opened.{open_in, in_left, in_moved, in_inserted}

-- the body fits, if a content or a merge that it brings does
abbrev Fits : Setting → Body → Type 0
Fits c (Write m) = write_fits c m ≡ true
Fits c WriteAck = Unit {0}
Fits c (Read q) = query_fits c q ≡ true
Fits c (ReadReply content) = Unit {0}
Fits c (Mend m) = Unit {0}
Fits c MendAck = Unit {0}
Fits c (Hint number m) = write_fits c m ≡ true
Fits c (HintAck number) = Unit {0}

-- the request is of a node of the ring, where this node is one
abbrev OfRing : Setting → ℕ → ReqId → Type 0
OfRing c me id = is_node c me ≡ true → is_node c id.node ≡ true

abbrev IsFit : Setting → ℕ → Act → Type 0
IsFit c me (Hears m) = Fits c m.body × OfRing c me m.request
IsFit c me (Rises time) = Unit {0}
IsFit c me (Asks ask) = Unit {0}
IsFit c me (Marks peer up) = Unit {0}
IsFit c me (DeadlineComes id) = Unit {0}
IsFit c me (HintExpires peer number) = Unit {0}

abbrev AreFit : Setting → ℕ → List Act → Type 0
AreFit c me acts = (a : Act) → Contains acts a → IsFit c me a

abbrev SendFit : Setting → ℕ → List Outbound → Type 0
SendFit c me xs = (x : Outbound) → Contains xs x → Fits c x.body × OfRing c me x.request

-- ---- what comes

body_is : (c : Setting) (b : Body) → body_fits c b ≡ true → Fits c b
body_is c (Write m) h = h
body_is c WriteAck h = tt
body_is c (Read q) h = h
body_is c (ReadReply content) h = tt
body_is c (Mend m) h = tt
body_is c MendAck h = tt
body_is c (Hint number m) h = h
body_is c (HintAck number) h = tt

-- the parts of the test of a message
pub record MessageParts (c : Setting) (me : ℕ) (m : Message) : Type 0 where
  pub upto : (m.upto == me) ≡ true
  pub other : not (m.from == me) ≡ true
  pub from : is_node c m.from ≡ true
  pub node : is_node c m.request.node ≡ true
  pub body : body_fits c m.body ≡ true

pub message_parts : (c : Setting) (me : ℕ) (m : Message) → message_fits c me m ≡ true → MessageParts c me m
message_parts c me m h =
    let upto = and_parts (m.upto == me) (not (m.from == me) && (is_node c m.from && (is_node c m.request.node && body_fits c m.body))) h in
    let other = and_parts (not (m.from == me)) (is_node c m.from && (is_node c m.request.node && body_fits c m.body)) upto.1 in
    let from = and_parts (is_node c m.from) (is_node c m.request.node && body_fits c m.body) other.1 in
    let node = and_parts (is_node c m.request.node) (body_fits c m.body) from.1 in
    record { upto = upto.0; other = other.0; from = from.0; node = node.0; body = node.1 }

message_is : (c : Setting) (me : ℕ) (m : Message) → message_fits c me m ≡ true → Fits c m.body × OfRing c me m.request
message_is c me m h = let parts = message_parts c me m h in (body_is c m.body parts.body, λ mine. parts.node)

no_matter : (c : Setting) (me : ℕ) → AreFit c me []
no_matter c me a h = absurd (contains_nil a h)

one_matter : (c : Setting) (me : ℕ) (b : Act) → IsFit c me b → AreFit c me (b ∷ [])
one_matter c me b fit a h = subst (λ (x : Act). IsFit c me x) (contains_one b a h) fit

heard_fit : (c : Setting) (me : ℕ) (m : Message) (b : Bool) → (b ≡ true → Fits c m.body × OfRing c me m.request) → AreFit c me (if b then Hears (record { from = m.from; born = m.born; request = m.request; body = m.body }) ∷ [] else [])
heard_fit c me m true fits = one_matter c me (Hears (record { from = m.from; born = m.born; request = m.request; body = m.body })) (fits refl)
heard_fit c me m false fits = no_matter c me

mark_fit : (c : Setting) (me peer : ℕ) (up b : Bool) → AreFit c me (if b then Marks peer up ∷ [] else [])
mark_fit c me peer up true = one_matter c me (Marks peer up) tt
mark_fit c me peer up false = no_matter c me

matter_fit : (c : Setting) (me : ℕ) (what : What) → AreFit c me (matter_of c me what)
matter_fit c me (Client ask) = one_matter c me (Asks ask) tt
matter_fit c me (Deliver m) = heard_fit c me m (message_fits c me m) (message_is c me m)
matter_fit c me (Alive peer up) = mark_fit c me peer up (mark_fits c me peer)
matter_fit c me (Collect request) = no_matter c me
matter_fit c me Flush = no_matter c me
matter_fit c me Tick = no_matter c me

-- ---- what is sent

-- one number is not the other, the other way round
away : (a b : ℕ) → not (a == b) ≡ true → not (b == a) ≡ true
away a b h = ap not (ne_eqb b a (λ e. eqb-false a b (not-true (a == b) h) (sym e)))

none_sent : (c : Setting) (me : ℕ) → SendFit c me []
none_sent c me x h = absurd (contains_nil x h)

sent_fit : (c : Setting) (me : ℕ) (id : ReqId) (b : Body) (ks : List ℕ) → Fits c b → OfRing c me id → SendFit c me (send_to id b ks)
sent_fit c me id b ks fit of x h = let made = contains_from_map (outbound id b) ks x h in subst (λ (y : Outbound). Fits c y.body × OfRing c me y.request) made.2 (fit, of)

by_effects : (c : Setting) (me : ℕ) (o p : Effects) → o ≡ p → SendFit c me p.sends → SendFit c me o.sends
by_effects c me o p is fit = subst (λ (x : Effects). SendFit c me x.sends) (sym is) fit

by_move : (c : Setting) (me : ℕ) (turn t : Move) → turn ≡ t → t.sends ≡ [] → SendFit c me turn.sends
by_move c me turn t is none = subst (λ (xs : List Outbound). SendFit c me xs) (sym (ap (λ (x : Move). x.sends) is ∙ none)) (none_sent c me)

ack_sends : (c : Setting) (me : ℕ) (id : ReqId) (from : ℕ) (xs xs' : List (ReqId × OpenWrite)) (o : Option OpenWrite) (turn : Move) → Takes (HearsAck c id from) id xs o turn xs' → SendFit c me turn.sends
ack_sends c me id from xs xs' None turn h = by_move c me turn quiet h.0 refl
ack_sends c me id from xs xs' (Some w) turn (w', (is, same), after) = by_move c me turn _ is refl

rows_sends : (c : Setting) (me : ℕ) (id : ReqId) (r : OpenRead) (turn : Move) → TellsRows id r turn → SendFit c me turn.sends
rows_sends c me id r turn (rows, more, shown, is) = by_move c me turn _ is refl

awaits_sends : (c : Setting) (me : ℕ) (id : ReqId) (r r' : OpenRead) (ks : List ℕ) (sent turn : Move) → SendFit c me sent.sends → AwaitsMends id r ks sent turn r' → SendFit c me turn.sends
awaits_sends c me id r r' [] sent turn fit h = rows_sends c me id r turn h
awaits_sends c me id r r' (k ∷ ks) sent turn fit h = subst (λ (t : Move). SendFit c me t.sends) (sym h.0) fit

counted_sends : (b : Bool) (c : Setting) (me : ℕ) (id : ReqId) (r r' : OpenRead) (turn : Move) → OfRing c me id → MatchBool b ((turn ≡ quiet) × (r' ≡ r)) (AwaitsMends id r (differing c r) (mends id r (differing c r)) turn r') → SendFit c me turn.sends
counted_sends true c me id r r' turn of h = by_move c me turn quiet h.0 refl
counted_sends false c me id r r' turn of h = awaits_sends c me id r r' (differing c r) _ turn (sent_fit c me id (Mend (mend_of r)) (differing c r) tt of) h

merged_sends : (b : Bool) (c : Setting) (me : ℕ) (id : ReqId) (from : ℕ) (content : List Held) (r r' : OpenRead) (turn : Move) → OfRing c me id → MatchBool b ((turn ≡ quiet) × (r' ≡ r)) (MergesReply c id from content r turn r') → SendFit c me turn.sends
merged_sends true c me id from content r r' turn of h = by_move c me turn quiet h.0 refl
merged_sends false c me id from content r r' turn of (n, is, merge, counts) = counted_sends (nat_lt (replies_of c n) (read_needs c n)) c me id n r' turn of counts

reply_sends : (c : Setting) (me : ℕ) (id : ReqId) (from : ℕ) (content : List Held) (xs xs' : List (ReqId × OpenRead)) (o : Option OpenRead) (turn : Move) → OfRing c me id → Takes (HearsReply c id from content) id xs o turn xs' → SendFit c me turn.sends
reply_sends c me id from content xs xs' None turn of h = by_move c me turn quiet h.0 refl
reply_sends c me id from content xs xs' (Some r) turn of (r', step, same) = merged_sends (is_stray c from r) c me id from content r r' turn of step

mended_sends : (b : Bool) (c : Setting) (me : ℕ) (id : ReqId) (r r' : OpenRead) (ks : List ℕ) (turn : Move) → MatchBool b (AwaitsMends id r ks quiet turn r') ((turn ≡ quiet) × (r' ≡ r)) → SendFit c me turn.sends
mended_sends true c me id r r' ks turn h = awaits_sends c me id r r' ks quiet turn (none_sent c me) h
mended_sends false c me id r r' ks turn h = by_move c me turn quiet h.0 refl

mend_ack_sends : (c : Setting) (me : ℕ) (id : ReqId) (from : ℕ) (xs xs' : List (ReqId × OpenRead)) (o : Option OpenRead) (turn : Move) → Takes (HearsMendAck c id from) id xs o turn xs' → SendFit c me turn.sends
mend_ack_sends c me id from xs xs' None turn h = by_move c me turn quiet h.0 refl
mend_ack_sends c me id from xs xs' (Some r) turn (r', step, same) = mended_sends (is_awaited r.mending from) c me id r r' (mended_by r.mending from) turn step

-- ---- hints

abbrev HintsFit : List hint.Hint → Type 0
HintsFit hs = (h : hint.Hint) → Contains hs h → mutation_fits h.mutation ≡ true

hint_sent : (c : Setting) (me : ℕ) (h : hint.Hint) → is_table c h.mutation.partition ≡ true → mutation_fits h.mutation ≡ true → Fits c (send_hint me h).body × OfRing c me (send_hint me h).request
hint_sent c me h table fits = (and_from (is_table c h.mutation.partition) (mutation_fits h.mutation) table fits, λ mine. mine)

hints_sent : (c : Setting) (me : ℕ) (s : NodeState) (peer : ℕ) → HintsFit s.hints → SendFit c me (sends_hints c me s peer)
hints_sent c me s peer fit x h =
    let made = sent_from c me s peer x h in
    subst (λ (y : Outbound). Fits c y.body × OfRing c me y.request) made.3 (hint_sent c me made.0 made.2 (fit made.0 made.1))

drop_fit : (peer number : ℕ) (k : KeptHints) → HintsFit k.hints → HintsFit (drop_hint peer number k).hints
drop_fit peer number k fit h there = fit h (dropped_from peer number k h there)

of_write : (born : ℕ) (m : Mutation) (h : hint.Hint) → mutation_fits m ≡ true → IsOfWrite born m h → mutation_fits h.mutation ≡ true
of_write born m h fit is = ap mutation_fits is.1 ∙ fit

push_fit : (ps : List ℕ) (born : ℕ) (m : Mutation) (k : KeptHints) → mutation_fits m ≡ true → HintsFit k.hints → HintsFit (push_hints ps born m k).hints
push_fit ps born m k new fit h there = elim (pushed_from ps born m k h there) [ inl old ↦ fit h old | inr is ↦ of_write born m h new is ]

acked_sends : (b : Bool) (c : Setting) (me : ℕ) (s : NodeState) (peer : ℕ) → HintsFit s.hints → SendFit c me (if b then sends_hints c me s peer else [])
acked_sends true c me s peer fit = hints_sent c me s peer fit
acked_sends false c me s peer fit = none_sent c me

mend_sends : (c : Setting) (me : ℕ) (a : Asker) (m : Mutation) (fits : Bool) (s : NodeState) (o : Effects) (s' : NodeState) → OfRing c me a.request
    → MatchBool fits (TakesChanges a m.partition m.changes MendAck s o s') ((o ≡ nothing) × (s' ≡ s)) → SendFit c me o.sends
mend_sends c me a m true s o s' of h = by_effects c me o _ h.2 (sent_fit c me a.request MendAck (a.from ∷ []) tt of)
mend_sends c me a m false s o s' of h = by_effects c me o nothing h.0 (none_sent c me)

body_sends : (c : Setting) (me : ℕ) (a : Asker) (b : Body) (s : NodeState) (o : Effects) (s' : NodeState) → OfRing c me a.request → HintsFit s.hints → HearsBody c me a b s o s' → SendFit c me o.sends
body_sends c me a (Write m) s o s' of fit h = by_effects c me o _ h.2 (sent_fit c me a.request WriteAck (a.from ∷ []) tt of)
body_sends c me a WriteAck s o s' of fit (turn, moves, is, same) = by_effects c me o _ is (ack_sends c me a.request a.from s.writes s'.writes (open_at s.writes a.request) turn moves)
body_sends c me a (Read q) s o s' of fit (part, answer, is, same) = by_effects c me o _ is (sent_fit c me a.request (ReadReply part) (a.from ∷ []) tt of)
body_sends c me a (ReadReply content) s o s' of fit (turn, moves, is, same) = by_effects c me o _ is (reply_sends c me a.request a.from content s.reads s'.reads (open_at s.reads a.request) turn of moves)
body_sends c me a (Mend m) s o s' of fit h = mend_sends c me a m (write_fits c m) s o s' of h
body_sends c me a MendAck s o s' of fit (turn, moves, is, same) = by_effects c me o _ is (mend_ack_sends c me a.request a.from s.reads s'.reads (open_at s.reads a.request) turn moves)
body_sends c me a (Hint number m) s o s' of fit h = by_effects c me o _ h.2 (sent_fit c me a.request (HintAck number) (a.from ∷ []) tt of)
body_sends c me a (HintAck number) s o s' of fit h = by_effects c me o _ h.0 (acked_sends (is_last s a.from number) c me (hint_done s a.from number) a.from (drop_fit a.from number (hints_in s) fit))

heard_sends : (c : Setting) (me : ℕ) (m : Incoming) (old : Bool) (s : NodeState) (o : Effects) (s' : NodeState) → OfRing c me m.request → HintsFit s.hints → MatchBool old ((o ≡ nothing) × (s' ≡ s)) (HearsBody c me (asker_of m) m.body s o s') → SendFit c me o.sends
heard_sends c me m true s o s' of fit h = by_effects c me o nothing h.0 (none_sent c me)
heard_sends c me m false s o s' of fit h = body_sends c me (asker_of m) m.body s o s' of fit h

-- a request that is not refused fits
not_refused : (b : Bool) (rest : Option Refusal) → (if not b then Some (Invalid reason.UnknownTable) else rest) ≡ None → b ≡ true
not_refused true rest h = refl
not_refused false rest h = cc

begins_sends : (c : Setting) (me t : ℕ) (p : Plan) (l : Level) (s : NodeState) (o : Effects) (s' : NodeState) → refusal_of c s (request_at me t) p l ≡ None → Begins c (request_at me t) p l s o s' → SendFit c me o.sends
begins_sends c me t (plan.Write d) l s o s' fits h =
    let m = mutation_of (request_at me t) d in
    by_effects c me o _ h.0 (sent_fit c me (request_at me t) (Write m) (alive_at c s.down d.partition) (not_refused (write_fits c m) _ fits) (λ mine. mine))
begins_sends c me t (plan.Read q columns) l s o s' fits h = by_effects c me o _ h.0 (sent_fit c me (request_at me t) (Read q) (alive_at c s.down q.partition) (not_refused (query_fits c q) _ fits) (λ mine. mine))
begins_sends c me t (plan.Use keyspace) l s o s' fits h = by_effects c me o _ h.0 (none_sent c me)
begins_sends c me t (plan.Invalid fault) l s o s' fits h = absurd h

asks_sends : (c : Setting) (me t : ℕ) (p : Plan) (l : Level) (r : Option Refusal) (s : NodeState) (o : Effects) (s' : NodeState) → refusal_of c s (request_at me t) p l ≡ r → BeginsOrRefuses c (request_at me t) p l r s o s' → SendFit c me o.sends
asks_sends c me t p l None s o s' is h = begins_sends c me t p l s o s' is h
asks_sends c me t p l (Some r) s o s' is h = by_effects c me o _ h.0 (none_sent c me)

ends_read_sends : (c : Setting) (me : ℕ) (id : ReqId) (r : Option OpenRead) (s : NodeState) (o : Effects) (s' : NodeState) → EndsRead c id r s o s' → SendFit c me o.sends
ends_read_sends c me id None s o s' h = by_effects c me o _ h.0 (none_sent c me)
ends_read_sends c me id (Some r) s o s' h = by_effects c me o _ h.0 (none_sent c me)

ends_sends : (c : Setting) (me : ℕ) (id : ReqId) (w : Option OpenWrite) (s : NodeState) (o : Effects) (s' : NodeState) → Ends c id w s o s' → SendFit c me o.sends
ends_sends c me id None s o s' h = ends_read_sends c me id (open_at s.reads id) s o s' h
ends_sends c me id (Some w) s o s' h = by_effects c me o _ h.0 (none_sent c me)

marks_sends : (c : Setting) (me : ℕ) (s : NodeState) (peer : ℕ) (up : Bool) → HintsFit s.hints → SendFit c me (mark_sends c me s peer up)
marks_sends c me s peer true fit = hints_sent c me s peer fit
marks_sends c me s peer false fit = none_sent c me

does_sends : (c : Setting) (me : ℕ) (s : NodeState) (a : Act) (o : Effects) (s' : NodeState) → IsFit c me a → HoldsFit s → Does c me s a o s' → SendFit c me o.sends
does_sends c me s (Rises t) o s' fit held h = by_effects c me o nothing h.1 (none_sent c me)
does_sends c me s (Hears m) o s' fit held h = heard_sends c me m (is_old c s.risen m.born) s o s' fit.1 held.hints h
does_sends c me s (DeadlineComes id) o s' fit held h = ends_sends c me id (open_at s.writes id) s o s' h
does_sends c me s (HintExpires peer number) o s' fit held h = by_effects c me o nothing h.0 (none_sent c me)
does_sends c me s (Asks ask) o s' fit held h = asks_sends c me s.risen ask.plan ask.level (refusal_of c s (request_at me s.risen) ask.plan ask.level) s o s' refl h
does_sends c me s (Marks peer up) o s' fit held h = by_effects c me o _ h.0 (marks_sends c me s peer up held.hints)

own_head : (c : Setting) (b : Bool) (x : Outbound) (me : ℕ) (rest : List Act) → Fits c x.body × OfRing c me x.request → AreFit c me rest → AreFit c me (if b then Hears (record { from = me; born = x.born; request = x.request; body = x.body }) ∷ rest else rest)
own_head c true x me rest fit fits a h = elim (contains_cases (Hears (record { from = me; born = x.born; request = x.request; body = x.body })) rest a h) [
  | inl here ↦ subst (λ (y : Act). IsFit c me y) here fit
  | inr there ↦ fits a there
]
own_head c false x me rest fit fits a h = fits a h

own_fit : (c : Setting) (me : ℕ) (xs : List Outbound) → SendFit c me xs → AreFit c me (own_sends me xs)
own_fit c me [] fit = no_matter c me
own_fit c me (x ∷ xs) fit = own_head c (x.upto == me) x me (own_sends me xs) (fit x (contains_here x xs)) (own_fit c me xs (λ y h. fit y (contains_there x xs y h)))

-- ---- what is held

abbrev WritesFit : List (ReqId × OpenWrite) → Type 0
WritesFit xs = (id : ReqId) (w : OpenWrite) → Contains xs (id, w) → mutation_fits w.mutation ≡ true

holds_as : (s' r : NodeState) → s' ≡ r → WritesFit r.writes → HintsFit r.hints → HoldsFit s'
holds_as s' r is writes hints = subst (λ (x : NodeState). HoldsFit x) (sym is) (record { writes = writes; hints = hints })

acked_fit : (c : Setting) (id : ReqId) (from : ℕ) (xs xs' : List (ReqId × OpenWrite)) (o : Option OpenWrite) (turn : Move) → open_at xs id ≡ o → Takes (HearsAck c id from) id xs o turn xs' → WritesFit xs → WritesFit xs'
acked_fit c id from xs xs' None turn at h fit = subst (λ (ys : List (ReqId × OpenWrite)). WritesFit ys) (sym h.1) fit
acked_fit c id from xs xs' (Some w) turn at (w', (is, same), left) fit = λ i x there.
    let mine : mutation_fits w'.mutation ≡ true = ap (λ (y : OpenWrite). mutation_fits y.mutation) same ∙ fit id w (open_in xs id w at) in
    elim (in_moved turn.ended id xs w' (i, x) (subst (λ (ys : List (ReqId × OpenWrite)). Contains ys (i, x)) left there)) [
      | inl old ↦ fit i x old
      | inr (here, new) ↦ ap (λ (y : OpenWrite). mutation_fits y.mutation) new ∙ mine
    ]

acked_holds : (c : Setting) (b : Bool) (s : NodeState) (peer number : ℕ) → HoldsFit s → HoldsFit (if b then with_sent c (hint_done s peer number) peer else hint_done s peer number)
acked_holds c true s peer number held = record { writes = held.writes; hints = drop_fit peer number (hints_in s) held.hints }
acked_holds c false s peer number held = record { writes = held.writes; hints = drop_fit peer number (hints_in s) held.hints }

mend_holds : (a : Asker) (m : Mutation) (fits : Bool) (s : NodeState) (o : Effects) (s' : NodeState) → HoldsFit s → MatchBool fits (TakesChanges a m.partition m.changes MendAck s o s') ((o ≡ nothing) × (s' ≡ s)) → HoldsFit s'
mend_holds a m true s o s' held h = holds_as s' _ h.3 held.writes held.hints
mend_holds a m false s o s' held h = holds_as s' s h.1 held.writes held.hints

body_holds : (c : Setting) (me : ℕ) (a : Asker) (b : Body) (s : NodeState) (o : Effects) (s' : NodeState) → HoldsFit s → HearsBody c me a b s o s' → HoldsFit s'
body_holds c me a (Write m) s o s' held h = holds_as s' _ h.3 held.writes held.hints
body_holds c me a WriteAck s o s' held (turn, moves, is, same) =
    holds_as s' _ same (acked_fit c a.request a.from s.writes s'.writes (open_at s.writes a.request) turn refl moves held.writes) held.hints
body_holds c me a (Read q) s o s' held h = holds_as s' _ h.3 held.writes held.hints
body_holds c me a (ReadReply content) s o s' held h = holds_as s' _ h.3 held.writes held.hints
body_holds c me a (Mend m) s o s' held h = mend_holds a m (write_fits c m) s o s' held h
body_holds c me a MendAck s o s' held h = holds_as s' _ h.3 held.writes held.hints
body_holds c me a (Hint number m) s o s' held h = holds_as s' _ h.3 held.writes held.hints
body_holds c me a (HintAck number) s o s' held h = subst (λ (x : NodeState). HoldsFit x) (sym h.1) (acked_holds c (is_last s a.from number) s a.from number held)

heard_holds : (c : Setting) (me : ℕ) (m : Incoming) (old : Bool) (s : NodeState) (o : Effects) (s' : NodeState) → HoldsFit s → MatchBool old ((o ≡ nothing) × (s' ≡ s)) (HearsBody c me (asker_of m) m.body s o s') → HoldsFit s'
heard_holds c me m true s o s' held h = holds_as s' s h.1 held.writes held.hints
heard_holds c me m false s o s' held h = body_holds c me (asker_of m) m.body s o s' held h

-- of what is written its mutation can be
fits_written : (c : Setting) (m : Mutation) → write_fits c m ≡ true → mutation_fits m ≡ true
fits_written c m h = (and_parts (is_table c m.partition) (mutation_fits m) h).1

inserted_fit : (xs : List (ReqId × OpenWrite)) (id : ReqId) (w : OpenWrite) → mutation_fits w.mutation ≡ true → WritesFit xs → WritesFit (insert_entry request_cmp xs id w)
inserted_fit xs id w new fit i x there = elim (in_inserted xs id w (i, x) there) [
  | inl here ↦ ap (λ (y : ReqId × OpenWrite). mutation_fits y.1.mutation) here ∙ new
  | inr old ↦ fit i x old
]

begins_holds : (c : Setting) (me t : ℕ) (p : Plan) (l : Level) (s : NodeState) (o : Effects) (s' : NodeState) → refusal_of c s (request_at me t) p l ≡ None → HoldsFit s → Begins c (request_at me t) p l s o s' → HoldsFit s'
begins_holds c me t (plan.Write d) l s o s' fits held h =
    let m = mutation_of (request_at me t) d in
    let new = fits_written c m (not_refused (write_fits c m) _ fits) in
    holds_as s' _ h.1 (inserted_fit s.writes (request_at me t) _ new held.writes) (push_fit (hinted_at c s d) t m (hints_in s) new held.hints)
begins_holds c me t (plan.Read q columns) l s o s' fits held h = holds_as s' _ h.1 held.writes held.hints
begins_holds c me t (plan.Use keyspace) l s o s' fits held h = holds_as s' _ h.1 held.writes held.hints
begins_holds c me t (plan.Invalid fault) l s o s' fits held h = absurd h

asks_holds : (c : Setting) (me t : ℕ) (p : Plan) (l : Level) (r : Option Refusal) (s : NodeState) (o : Effects) (s' : NodeState) → refusal_of c s (request_at me t) p l ≡ r → HoldsFit s → BeginsOrRefuses c (request_at me t) p l r s o s' → HoldsFit s'
asks_holds c me t p l None s o s' is held h = begins_holds c me t p l s o s' is held h
asks_holds c me t p l (Some r) s o s' is held h = holds_as s' s h.1 held.writes held.hints

ends_read_holds : (c : Setting) (id : ReqId) (r : Option OpenRead) (s : NodeState) (o : Effects) (s' : NodeState) → HoldsFit s → EndsRead c id r s o s' → HoldsFit s'
ends_read_holds c id None s o s' held h = holds_as s' _ h.1 held.writes held.hints
ends_read_holds c id (Some r) s o s' held h = holds_as s' _ h.1 held.writes held.hints

ends_holds : (c : Setting) (id : ReqId) (w : Option OpenWrite) (s : NodeState) (o : Effects) (s' : NodeState) → open_at s.writes id ≡ w → HoldsFit s → Ends c id w s o s' → HoldsFit s'
ends_holds c id None s o s' at held h = ends_read_holds c id (open_at s.reads id) s o s' held h
ends_holds c id (Some w) s o s' at held h =
    holds_as s' _ h.1 (λ i x there. held.writes i x (in_left (is_at (request_cmp id)) s.writes (i, x) there)) (push_fit (unheard c w) id.time w.mutation (hints_in s) (held.writes id w (open_in s.writes id w at)) held.hints)

marked_holds : (c : Setting) (s : NodeState) (peer : ℕ) (up : Bool) → HoldsFit s → HoldsFit (mark_state c s peer up)
marked_holds c s peer true held = record { writes = held.writes; hints = held.hints }
marked_holds c s peer false held = record { writes = held.writes; hints = held.hints }

does_holds : (c : Setting) (me : ℕ) (s : NodeState) (a : Act) (o : Effects) (s' : NodeState) → HoldsFit s → Does c me s a o s' → HoldsFit s'
does_holds c me s (Rises t) o s' held h = holds_as s' _ h.2 held.writes held.hints
does_holds c me s (Hears m) o s' held h = heard_holds c me m (is_old c s.risen m.born) s o s' held h
does_holds c me s (Asks ask) o s' held h = asks_holds c me s.risen ask.plan ask.level (refusal_of c s (request_at me s.risen) ask.plan ask.level) s o s' refl held h
does_holds c me s (Marks peer up) o s' held h = subst (λ (x : NodeState). HoldsFit x) (sym h.1) (marked_holds c s peer up held)
does_holds c me s (DeadlineComes id) o s' held h = ends_holds c id (open_at s.writes id) s o s' refl held h
does_holds c me s (HintExpires peer number) o s' held h = holds_as s' _ h.1 held.writes (drop_fit peer number (hints_in s) held.hints)

-- ---- hints that come

all_made : (ps : List ℕ) (born : ℕ) (m : Mutation) (k : KeptHints) → mutation_fits m ≡ true → HintsFit (pushed_hints ps born m k)
all_made ps born m k new h there = of_write born m h new (made_from ps born m k h there)

none_made : HintsFit []
none_made g c = absurd (contains_nil g c)

plan_made : (c : Setting) (me t : ℕ) (p : Plan) (l : Level) (r : Option Refusal) (s : NodeState) → refusal_of c s (request_at me t) p l ≡ r → HintsFit (hints_of_plan c (request_at me t) p r s)
plan_made c me t (plan.Write d) l None s is = let m = mutation_of (request_at me t) d in all_made (hinted_at c s d) t m (hints_in s) (fits_written c m (not_refused (write_fits c m) _ is))
plan_made c me t (plan.Read q columns) l None s is = none_made
plan_made c me t (plan.Use keyspace) l None s is = none_made
plan_made c me t (plan.Invalid fault) l None s is = none_made
plan_made c me t p l (Some r) s is = none_made

end_made : (c : Setting) (id : ReqId) (w : Option OpenWrite) (s : NodeState) → open_at s.writes id ≡ w → HoldsFit s → HintsFit (hints_at_end c id w s)
end_made c id None s at held = none_made
end_made c id (Some w) s at held = all_made (unheard c w) id.time w.mutation (hints_in s) (held.writes id w (open_in s.writes id w at))

does_made : (c : Setting) (me : ℕ) (s : NodeState) (a : Act) → HoldsFit s → HintsFit (hints_by c me s a)
does_made c me s (Rises t) held = none_made
does_made c me s (Hears m) held = none_made
does_made c me s (Asks ask) held = plan_made c me s.risen ask.plan ask.level (refusal_of c s (request_at me s.risen) ask.plan ask.level) s refl
does_made c me s (Marks peer up) held = none_made
does_made c me s (DeadlineComes id) held = end_made c id (open_at s.writes id) s refl held
does_made c me s (HintExpires peer number) held = none_made

-- ---- a chain

record DeedFits (c : Setting) (me : ℕ) (d : Deed) : Type 0 where
  pub act : IsFit c me d.act
  pub sends : SendFit c me d.effects.sends
  pub made : HintsFit (hints_made c d)

abbrev DeedsFit : Setting → ℕ → List Deed → Type 0
DeedsFit c me deeds = (d : Deed) → Contains deeds d → DeedFits c me d

record ChainFits (c : Setting) (me : ℕ) (ds : List Deed) (s : NodeState) (own_ones others : List Act) : Type 0 where
  pub deeds : DeedsFit c me ds
  pub held : HoldsFit s
  pub pending : AreFit c me own_ones
  pub left : AreFit c me others

deeds_more : (c : Setting) (me : ℕ) (deeds : List Deed) (d : Deed) → DeedsFit c me deeds → DeedFits c me d → DeedsFit c me (deeds ++ d ∷ [])
deeds_more c me deeds d fit here x h = elim (Contains-append_cases deeds (d ∷ []) x h) [
  | inl old ↦ fit x old
  | inr new ↦ subst (λ (y : Deed). DeedFits c me y) (contains_one d x new) here
]

both_fit : (c : Setting) (me : ℕ) (xs ys : List Act) → AreFit c me xs → AreFit c me ys → AreFit c me (xs ++ ys)
both_fit c me xs ys first second a h = elim (Contains-append_cases xs ys a h) [ inl l ↦ first a l | inr r ↦ second a r ]

chain_fits : (c : Setting) (me : ℕ) (s : NodeState) (ms : List Act) → AreFit c me ms → HoldsFit s → (deeds : List Deed) (s' : NodeState) (pending left : List Act) → Chain c me s ms deeds s' pending left → ChainFits c me deeds s' pending left
chain_fits c me s ms fit first _ _ _ _ begun = record { deeds = λ d h. absurd (contains_nil d h); held = first; pending = no_matter c me; left = fit }
chain_fits c me s ms fit first _ _ _ _ (own deeds mid s' a pending left o chain does) =
    let prev = chain_fits c me s ms fit first deeds mid (a ∷ pending) left chain in
    let here = prev.pending a (contains_here a pending) in
    let sends = does_sends c me mid a o s' here prev.held does in
    record {
      deeds = deeds_more c me deeds _ prev.deeds (record { act = here; sends = sends; made = does_made c me mid a prev.held });
      held = does_holds c me mid a o s' prev.held does;
      pending = both_fit c me pending (own_sends me o.sends) (λ b h. prev.pending b (contains_there a pending b h)) (own_fit c me o.sends sends);
      left = prev.left;
    }
chain_fits c me s ms fit first _ _ _ _ (matter deeds mid s' a left o chain does) =
    let prev = chain_fits c me s ms fit first deeds mid [] (a ∷ left) chain in
    let here = prev.left a (contains_here a left) in
    let sends = does_sends c me mid a o s' here prev.held does in
    record {
      deeds = deeds_more c me deeds _ prev.deeds (record { act = here; sends = sends; made = does_made c me mid a prev.held });
      held = does_holds c me mid a o s' prev.held does;
      pending = own_fit c me o.sends sends;
      left = λ b h. prev.left b (contains_there a left b h);
    }

rises_first : (c : Setting) (me t : ℕ) (ms : List Act) → AreFit c me ms → AreFit c me (Rises t ∷ ms)
rises_first c me t ms fit a h = elim (contains_cases (Rises t) ms a h) [ inl here ↦ subst (λ (x : Act). IsFit c me x) here tt | inr there ↦ fit a there ]

-- what is due fits
due_fit : (c : Setting) (me t : ℕ) (s : NodeState) (due : List Due) → AreDue c me t s due → AreFit c me (map act_of due)
due_fit c me t s due are a h =
    let x = contains_from_map act_of due a h in
    subst (λ (b : Act). IsFit c me b) x.2 (elim ((are.each x.0).0 x.1).1 [
      | inl (opened, is) ↦ subst (λ (d : Due). IsFit c me d.act) (sym is) tt
      | inr (hinted, there, is) ↦ subst (λ (d : Due). IsFit c me d.act) (sym is) tt
    ])

step_fits : (c : Setting) (me : ℕ) (s : NodeState) (e : Event) (deeds : List Deed) (o : Outputs) (s' : NodeState) → HoldsFit s → NodeStep c me s e deeds o s' → ChainFits c me deeds s' [] []
step_fits c me s e deeds o s' held step =
    let t = time_after s e in
    let own_matter = matter_of c me (looked_at s.time e) in
    let ms = map act_of step.due ++ own_matter in
    let fit = both_fit c me (map act_of step.due) own_matter (due_fit c me t s step.due step.are_due) (matter_fit c me (looked_at s.time e)) in
    chain_fits c me s (Rises t ∷ ms) (rises_first c me t ms fit) held deeds s' [] [] step.moves

pub held_written : WhatIsHeldFits
held_written c me s e deeds o s' step held = (step_fits c me s e deeds o s' held step).held

-- ---- what is kept

abbrev ItemsFit : List LogItem → Type 0
ItemsFit xs = AllByRecursion ItemFits xs

items_both : (xs ys : List LogItem) → ItemsFit xs → ItemsFit ys → ItemsFit (xs ++ ys)
items_both [] ys first second = second
items_both (x ∷ xs) ys first second = (first.0, items_both xs ys first.1 second)

write_is : (c : Setting) (m : Mutation) → write_fits c m ≡ true → MutationFits m
write_is c m h = (mutations_tested m).0 (fits_written c m h)

mend_fits : (c : Setting) (t : ℕ) (m : Mutation) (fits : Bool) → write_fits c m ≡ fits → ItemsFit (if fits then Data t m ∷ [] else [])
mend_fits c t m true fit = (write_is c m fit, tt)
mend_fits c t m false fit = tt

data_fits : (c : Setting) (t : ℕ) (b : Body) → Fits c b → ItemsFit (data_of c t b)
data_fits c t (Write m) fit = (write_is c m fit, tt)
data_fits c t WriteAck fit = tt
data_fits c t (Read q) fit = tt
data_fits c t (ReadReply content) fit = tt
data_fits c t (Mend m) fit = mend_fits c t m (write_fits c m) refl
data_fits c t MendAck fit = tt
data_fits c t (Hint number m) fit = (write_is c m fit, tt)
data_fits c t (HintAck number) fit = tt

heard_data : (c : Setting) (t : ℕ) (b : Body) (old : Bool) → Fits c b → ItemsFit (if old then [] else data_of c t b)
heard_data c t b true fit = tt
heard_data c t b false fit = data_fits c t b fit

taken_fits : (c : Setting) (me t : ℕ) (a : Act) → IsFit c me a → ItemsFit (data_by c t a)
taken_fits c me t (Rises time) fit = tt
taken_fits c me t (Hears m) fit = heard_data c t m.body (is_old c t m.born) fit.0
taken_fits c me t (Asks ask) fit = tt
taken_fits c me t (Marks peer up) fit = tt
taken_fits c me t (DeadlineComes id) fit = tt
taken_fits c me t (HintExpires peer number) fit = tt

all_taken : (c : Setting) (me : ℕ) (deeds : List Deed) → DeedsFit c me deeds → ItemsFit (flat_map (data_in c) deeds)
all_taken c me [] fit = tt
all_taken c me (d ∷ deeds) fit = items_both (data_in c d) (flat_map (data_in c) deeds) (taken_fits c me d.before.risen d.act (fit d (contains_here d deeds)).act) (all_taken c me deeds (λ x h. fit x (contains_there d deeds x h)))

made_written : (hs : List hint.Hint) → HintsFit hs → ItemsFit (map add_item hs)
made_written [] fit = tt
made_written (h ∷ hs) fit = ((mutations_tested h.mutation).0 (fit h (contains_here h hs)), made_written hs (λ x c. fit x (contains_there h hs x c)))

gone_written : (xs : List Gone) → ItemsFit (map gone_item xs)
gone_written [] = tt
gone_written (x ∷ xs) = (tt, gone_written xs)

ceiling_fits : (b : Bool) (n : ℕ) → ItemsFit (if b then [] else Ceiling n ∷ [])
ceiling_fits true n = tt
ceiling_fits false n = (tt, tt)

pub kept_written : WhatIsKeptFits
kept_written c me s e deeds o s' step = (
  by_kind c s deeds s',
  λ held.
      let fit = (step_fits c me s e deeds o s' held step).deeds in
      let made = flat_map (hints_made c) deeds in
      let gone = flat_map (hints_gone c) deeds in
      let made_fit : HintsFit made = λ h there. let x = contains_from_flat (hints_made c) deeds h there in (fit x.0 x.1).made h x.2 in
      items_both (flat_map (data_in c) deeds) (hint_items made gone ++ ceiling_in s.ceiling s'.ceiling) (all_taken c me deeds fit)
      (items_both (hint_items made gone) (ceiling_in s.ceiling s'.ceiling) (items_both (map add_item made) (map gone_item gone) (made_written made made_fit) (gone_written gone)) (ceiling_fits (s.ceiling == s'.ceiling) s'.ceiling)),
)

-- ---- what is sent fits

body_sent : (c : Setting) (b : Body) → Fits c b → ((content : List Held) → b ≡ ReadReply content → changes_fit content ≡ true) → ((m : Mutation) → b ≡ Mend m → write_fits c m ≡ true) → body_fits c b ≡ true
body_sent c (Write m) fit content merged = fit
body_sent c WriteAck fit content merged = refl
body_sent c (Read q) fit content merged = fit
body_sent c (ReadReply xs) fit content merged = content xs refl
body_sent c (Mend m) fit content merged = merged m refl
body_sent c MendAck fit content merged = refl
body_sent c (Hint number m) fit content merged = fit
body_sent c (HintAck number) fit content merged = refl

message_sent : (c : Setting) (me t : ℕ) (x : Outbound) → is_node c me ≡ true → not (x.upto == me) ≡ true → Fits c x.body × OfRing c me x.request
    → ((content : List Held) → x.body ≡ ReadReply content → changes_fit content ≡ true) → ((m : Mutation) → x.body ≡ Mend m → write_fits c m ≡ true) → message_fits c x.upto (message_of me t x) ≡ true
message_sent c me t x mine other fit content merged =
    and_from _ _ (eq-eqb x.upto x.upto refl) (and_from _ _ (away x.upto me other) (and_from _ _ mine (and_from _ _ (fit.1 mine) (body_sent c x.body fit.0 content merged))))

pub sent_written : WhatIsSentFits
sent_written c me s e deeds o s' step mine held m h content merged =
    let sends : o.sends ≡ messages_of me s'.time (flat_map sends_of deeds) = ap (λ (x : Outputs). x.sends) step.outputs in
    let made = contains_from_map (message_of me s'.time) (filter (λ x. not (x.upto == me)) (flat_map sends_of deeds)) m (subst (λ (xs : List Message). Contains xs m) sends h) in
    let x : Outbound = made.0 in
    let passes = contains_from_filter (λ (y : Outbound). not (y.upto == me)) (flat_map sends_of deeds) x made.1 in
    let there = contains_from_flat sends_of deeds x passes.0 in
    let fit = ((step_fits c me s e deeds o s' held step).deeds there.0 there.1).sends x there.2 in
    let bodies : (xs : List Held) → x.body ≡ ReadReply xs → changes_fit xs ≡ true = λ xs is. content xs (ap (λ (n : Message). n.body) (sym made.2) ∙ is) in
    let mutations : (n : Mutation) → x.body ≡ Mend n → write_fits c n ≡ true = λ n is. merged n (ap (λ (y : Message). y.body) (sym made.2) ∙ is) in
    subst (λ (n : Message). message_fits c n.upto n ≡ true) made.2 (message_sent c me s'.time x mine passes.1 fit bodies mutations)
