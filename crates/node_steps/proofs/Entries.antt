-- What a step makes of what is kept is what its entry makes of it.
use Rattle.std.proofs.Common.{◌≡◌, ℕ, Bool, true, false, Option, Some, None, List, [], ◌∷◌, ◌++◌, append-nil, refl, sym, ap, subst, ◌∙◌}
use Rattle.std.specs.Prelude.{◌==◌, if◌then◌else◌, flat_map, MatchBool}
use Rattle.std.proofs.lemmas.Grind.{flat_map-append}
use Rattle.std.proofs.lemmas.Bool.{eqb-true}
use Rattle.cs_base.specs.declared.level.Level.{Level}
use Rattle.cs_base.specs.declared.ids.ReqId.{ReqId}
use Rattle.changes.specs.declared.Mutation.{Mutation}
use Rattle.changes.specs.Drafts.{mutation_of}
use Rattle.row_change.specs.declared.entry.Hint as hint
use Rattle.row_change.specs.declared.entry.LogItem.{LogItem}
use Rattle.row_change.specs.declared.entry.LogItem.TheVariants.{Data, Ceiling}
use Rattle.peer_messages.specs.declared.event.Event.{Event}
use Rattle.peer_messages.specs.declared.event.Plan.{Plan}
use Rattle.peer_messages.specs.declared.event.Plan.TheVariants as plan
use Rattle.peer_messages.specs.declared.message.Body.{Body}
use Rattle.peer_messages.specs.declared.message.Body.TheVariants.{Write, WriteAck, Read, ReadReply, Mend, MendAck, Hint, HintAck}
use Rattle.peer_messages.specs.declared.chronicle.Refusal.{Refusal}
use Rattle.peer_messages.specs.declared.outcome.Outputs.{Outputs}
use Rattle.peer_messages.specs.declared.setting.Setting.{Setting}
use Rattle.durable_state.specs.State.{Stored, Durable}
use Rattle.durable_state.specs.Keeping.{Commits}
use Rattle.durable_state.proofs.Entries.{commits_both}
use Rattle.node_steps.specs.State.{NodeState, OpenWrite, OpenRead, durable_of}
use Rattle.node_steps.specs.Effects.{Effects, nothing, open_at}
use Rattle.node_steps.specs.Hints.{KeptHints, hints_in, drop_hint, is_last, hint_done, with_sent}
use Rattle.node_steps.specs.Fitting.{write_fits}
use Rattle.node_steps.specs.Replicas.{Asker}
use Rattle.node_steps.specs.Writes.{unheard}
use Rattle.node_steps.specs.Requests.{refusal_of, hinted_at, BeginsOrRefuses}
use Rattle.node_steps.specs.Acts.{Act, Rises, Hears, Asks, Marks, DeadlineComes, HintExpires, Incoming, Deed, Does, HearsBody, TakesChanges, Ends, EndsRead, mark_state, Chain, request_at, is_old, asker_of}
use Rattle.node_steps.specs.Acts.Chain.{begun, own, matter}
use Rattle.node_steps.specs.Steps.{NodeStep}
use Rattle.node_steps.specs.Keeping.{Gone, gone_if_kept, data_of, data_by, hints_of_plan, hints_at_end, hints_by, gone_by_body, gone_by, data_in, hints_made, hints_gone, hint_items, ceiling_in, entry_of}
use Rattle.node_steps.proofs.HintLists.{HintMove, no_hints, push_moves, drop_moves, hints_on, hint_items_make}

-- ---- the changes that are taken in

-- what is kept, with this content
abbrev held : Durable → List Stored → Durable
held d content = record d { content = content }

same_content : (d : Durable) (s s' r : NodeState) → s' ≡ r → r.content ≡ s.content → held d s'.content ≡ held d s.content
same_content d s s' r is same = ap (λ (xs : List Stored). held d xs) (ap (λ (x : NodeState). x.content) is ∙ same)

acked_content : (c : Setting) (b : Bool) (s : NodeState) (peer number : ℕ) → (if b then with_sent c (hint_done s peer number) peer else hint_done s peer number).content ≡ s.content
acked_content c true s peer number = refl
acked_content c false s peer number = refl

marked_content : (c : Setting) (s : NodeState) (peer : ℕ) (up : Bool) → (mark_state c s peer up).content ≡ s.content
marked_content c s peer true = refl
marked_content c s peer false = refl

mend_keeps : (c : Setting) (n : Durable) (a : Asker) (m : Mutation) (fits : Bool) (s : NodeState) (o : Effects) (s' : NodeState) → MatchBool fits (TakesChanges a m.partition m.changes MendAck s o s') ((o ≡ nothing) × (s' ≡ s))
    → Commits (if fits then Data s.risen m ∷ [] else []) (held n s.content) (held n s'.content)
mend_keeps c n a m true s o s' (takes, arrive, is, same) = (held n s'.content, (takes, arrive, refl), refl)
mend_keeps c n a m false s o s' h = same_content n s s' s h.1 refl

body_keeps : (c : Setting) (n : Durable) (me : ℕ) (a : Asker) (b : Body) (s : NodeState) (o : Effects) (s' : NodeState) → HearsBody c me a b s o s' → Commits (data_of c s.risen b) (held n s.content) (held n s'.content)
body_keeps c n me a (Write m) s o s' (takes, arrive, is, same) = (held n s'.content, (takes, arrive, refl), refl)
body_keeps c n me a WriteAck s o s' h = same_content n s s' _ h.3 refl
body_keeps c n me a (Read q) s o s' h = same_content n s s' _ h.3 refl
body_keeps c n me a (ReadReply content) s o s' h = same_content n s s' _ h.3 refl
body_keeps c n me a (Mend m) s o s' h = mend_keeps c n a m (write_fits c m) s o s' h
body_keeps c n me a MendAck s o s' h = same_content n s s' _ h.3 refl
body_keeps c n me a (Hint number m) s o s' (takes, arrive, is, same) = (held n s'.content, (takes, arrive, refl), refl)
body_keeps c n me a (HintAck number) s o s' h = same_content n s s' _ h.1 (acked_content c (is_last s a.from number) s a.from number)

hears_keeps : (c : Setting) (n : Durable) (me : ℕ) (m : Incoming) (old : Bool) (s : NodeState) (o : Effects) (s' : NodeState) → MatchBool old ((o ≡ nothing) × (s' ≡ s)) (HearsBody c me (asker_of m) m.body s o s')
    → Commits (if old then [] else data_of c s.risen m.body) (held n s.content) (held n s'.content)
hears_keeps c n me m true s o s' h = same_content n s s' s h.1 refl
hears_keeps c n me m false s o s' h = body_keeps c n me (asker_of m) m.body s o s' h

asks_keeps : (c : Setting) (n : Durable) (id : ReqId) (p : Plan) (l : Level) (r : Option Refusal) (s : NodeState) (o : Effects) (s' : NodeState) → BeginsOrRefuses c id p l r s o s' → held n s'.content ≡ held n s.content
asks_keeps c n id (plan.Write d) l None s o s' h = same_content n s s' _ h.1 refl
asks_keeps c n id (plan.Read q columns) l None s o s' h = same_content n s s' _ h.1 refl
asks_keeps c n id (plan.Use keyspace) l None s o s' h = same_content n s s' _ h.1 refl
asks_keeps c n id (plan.Invalid fault) l None s o s' h = absurd h
asks_keeps c n id p l (Some r) s o s' h = same_content n s s' _ h.1 refl

ends_read_keeps : (c : Setting) (n : Durable) (id : ReqId) (r : Option OpenRead) (s : NodeState) (o : Effects) (s' : NodeState) → EndsRead c id r s o s' → held n s'.content ≡ held n s.content
ends_read_keeps c n id None s o s' h = same_content n s s' _ h.1 refl
ends_read_keeps c n id (Some r) s o s' h = same_content n s s' _ h.1 refl

ends_keeps : (c : Setting) (n : Durable) (id : ReqId) (w : Option OpenWrite) (s : NodeState) (o : Effects) (s' : NodeState) → Ends c id w s o s' → held n s'.content ≡ held n s.content
ends_keeps c n id None s o s' h = ends_read_keeps c n id (open_at s.reads id) s o s' h
ends_keeps c n id (Some w) s o s' h = same_content n s s' _ h.1 refl

does_keeps : (c : Setting) (n : Durable) (me : ℕ) (s : NodeState) (a : Act) (o : Effects) (s' : NodeState) → Does c me s a o s' → Commits (data_by c s.risen a) (held n s.content) (held n s'.content)
does_keeps c n me s (Rises t) o s' h = same_content n s s' _ h.2 refl
does_keeps c n me s (Hears m) o s' h = hears_keeps c n me m (is_old c s.risen m.born) s o s' h
does_keeps c n me s (Asks ask) o s' h = asks_keeps c n (request_at me s.risen) ask.plan ask.level (refusal_of c s (request_at me s.risen) ask.plan ask.level) s o s' h
does_keeps c n me s (Marks peer up) o s' h = same_content n s s' _ h.1 (marked_content c s peer up)
does_keeps c n me s (DeadlineComes id) o s' h = ends_keeps c n id (open_at s.writes id) s o s' h
does_keeps c n me s (HintExpires peer number) o s' h = same_content n s s' _ h.1 refl

pub one_more : {X : Type 0} (f : Deed → List X) (deeds : List Deed) (d : Deed) → flat_map f (deeds ++ d ∷ []) ≡ flat_map f deeds ++ f d
one_more {X} f deeds d = flat_map-append f deeds (d ∷ []) ∙ ap (λ (xs : List X). flat_map f deeds ++ xs) (append-nil (f d))

chain_keeps : (c : Setting) (n : Durable) (me : ℕ) (s : NodeState) (ms : List Act) (deeds : List Deed) (s' : NodeState) (pending left : List Act) → Chain c me s ms deeds s' pending left
    → Commits (flat_map (data_in c) deeds) (held n s.content) (held n s'.content)
chain_keeps c n me s ms _ _ _ _ begun = refl
chain_keeps c n me s ms _ _ _ _ (own deeds mid s' a pending left o chain does) =
    let d : Deed = record { node = me; act = a; before = mid; after = s'; effects = o } in
    subst (λ (xs : List LogItem). Commits xs (held n s.content) (held n s'.content)) (sym (one_more (data_in c) deeds d))
    (commits_both (flat_map (data_in c) deeds) (data_in c d) _ (held n mid.content) _ (chain_keeps c n me s ms deeds mid (a ∷ pending) left chain) (does_keeps c n me mid a o s' does))
chain_keeps c n me s ms _ _ _ _ (matter deeds mid s' a left o chain does) =
    let d : Deed = record { node = me; act = a; before = mid; after = s'; effects = o } in
    subst (λ (xs : List LogItem). Commits xs (held n s.content) (held n s'.content)) (sym (one_more (data_in c) deeds d))
    (commits_both (flat_map (data_in c) deeds) (data_in c d) _ (held n mid.content) _ (chain_keeps c n me s ms deeds mid [] (a ∷ left) chain) (does_keeps c n me mid a o s' does))

-- ---- hints that come and go

abbrev MovesHints : NodeState → List hint.Hint → List Gone → NodeState → Type 0
MovesHints s made gone s' = HintMove (hints_in s) made gone (hints_in s')

to_hints : (k : KeptHints) (made : List hint.Hint) (gone : List Gone) (s' r : NodeState) → s' ≡ r → HintMove k made gone (hints_in r) → HintMove k made gone (hints_in s')
to_hints k made gone s' r is h = subst (λ (x : NodeState). HintMove k made gone (hints_in x)) (sym is) h

acked_hints : (c : Setting) (b : Bool) (s : NodeState) (peer number : ℕ) → hints_in (if b then with_sent c (hint_done s peer number) peer else hint_done s peer number) ≡ drop_hint peer number (hints_in s)
acked_hints c true s peer number = refl
acked_hints c false s peer number = refl

ack_hints : (c : Setting) (s s' : NodeState) (peer number : ℕ) → s' ≡ (if is_last s peer number then with_sent c (hint_done s peer number) peer else hint_done s peer number)
    → MovesHints s [] (gone_if_kept (hints_in s) peer number) s'
ack_hints c s s' peer number is =
    let gone = gone_if_kept (hints_in s) peer number in
    to_hints (hints_in s) [] gone s' _ is (subst (λ (k : KeptHints). HintMove (hints_in s) [] gone k) (sym (acked_hints c (is_last s peer number) s peer number)) (drop_moves peer number (hints_in s)))

mend_hints : (a : Asker) (m : Mutation) (fits : Bool) (s : NodeState) (o : Effects) (s' : NodeState) → MatchBool fits (TakesChanges a m.partition m.changes MendAck s o s') ((o ≡ nothing) × (s' ≡ s)) → MovesHints s [] [] s'
mend_hints a m true s o s' h = to_hints (hints_in s) [] [] s' _ h.3 (no_hints (hints_in s))
mend_hints a m false s o s' h = to_hints (hints_in s) [] [] s' s h.1 (no_hints (hints_in s))

body_hints : (c : Setting) (me : ℕ) (a : Asker) (b : Body) (s : NodeState) (o : Effects) (s' : NodeState) → HearsBody c me a b s o s' → MovesHints s [] (gone_by_body a b s) s'
body_hints c me a (Write m) s o s' h = to_hints (hints_in s) [] [] s' _ h.3 (no_hints (hints_in s))
body_hints c me a WriteAck s o s' h = to_hints (hints_in s) [] [] s' _ h.3 (no_hints (hints_in s))
body_hints c me a (Read q) s o s' h = to_hints (hints_in s) [] [] s' _ h.3 (no_hints (hints_in s))
body_hints c me a (ReadReply content) s o s' h = to_hints (hints_in s) [] [] s' _ h.3 (no_hints (hints_in s))
body_hints c me a (Mend m) s o s' h = mend_hints a m (write_fits c m) s o s' h
body_hints c me a MendAck s o s' h = to_hints (hints_in s) [] [] s' _ h.3 (no_hints (hints_in s))
body_hints c me a (Hint number m) s o s' h = to_hints (hints_in s) [] [] s' _ h.3 (no_hints (hints_in s))
body_hints c me a (HintAck number) s o s' h = ack_hints c s s' a.from number h.1

hears_hints : (c : Setting) (me : ℕ) (m : Incoming) (old : Bool) (s : NodeState) (o : Effects) (s' : NodeState) → MatchBool old ((o ≡ nothing) × (s' ≡ s)) (HearsBody c me (asker_of m) m.body s o s')
    → MovesHints s [] (if old then [] else gone_by_body (asker_of m) m.body s) s'
hears_hints c me m true s o s' h = to_hints (hints_in s) [] [] s' _ h.1 (no_hints (hints_in s))
hears_hints c me m false s o s' h = body_hints c me (asker_of m) m.body s o s' h

asks_hints : (c : Setting) (id : ReqId) (p : Plan) (l : Level) (r : Option Refusal) (s : NodeState) (o : Effects) (s' : NodeState) → BeginsOrRefuses c id p l r s o s' → MovesHints s (hints_of_plan c id p r s) [] s'
asks_hints c id (plan.Write d) l None s o s' h = to_hints (hints_in s) _ [] s' _ h.1 (push_moves (hinted_at c s d) id.time (mutation_of id d) (hints_in s))
asks_hints c id (plan.Read q columns) l None s o s' h = to_hints (hints_in s) [] [] s' _ h.1 (no_hints (hints_in s))
asks_hints c id (plan.Use keyspace) l None s o s' h = to_hints (hints_in s) [] [] s' _ h.1 (no_hints (hints_in s))
asks_hints c id (plan.Invalid fault) l None s o s' h = absurd h
asks_hints c id p l (Some r) s o s' h = to_hints (hints_in s) [] [] s' _ h.1 (no_hints (hints_in s))

ends_read_hints : (c : Setting) (id : ReqId) (r : Option OpenRead) (s : NodeState) (o : Effects) (s' : NodeState) → EndsRead c id r s o s' → MovesHints s [] [] s'
ends_read_hints c id None s o s' h = to_hints (hints_in s) [] [] s' _ h.1 (no_hints (hints_in s))
ends_read_hints c id (Some r) s o s' h = to_hints (hints_in s) [] [] s' _ h.1 (no_hints (hints_in s))

ends_hints : (c : Setting) (id : ReqId) (w : Option OpenWrite) (s : NodeState) (o : Effects) (s' : NodeState) → Ends c id w s o s' → MovesHints s (hints_at_end c id w s) [] s'
ends_hints c id None s o s' h = ends_read_hints c id (open_at s.reads id) s o s' h
ends_hints c id (Some w) s o s' h = to_hints (hints_in s) _ [] s' _ h.1 (push_moves (unheard c w) id.time w.mutation (hints_in s))

marked_hints : (c : Setting) (s : NodeState) (peer : ℕ) (up : Bool) → MovesHints s [] [] (mark_state c s peer up)
marked_hints c s peer true = no_hints (hints_in s)
marked_hints c s peer false = no_hints (hints_in s)

pub does_hints : (c : Setting) (me : ℕ) (s : NodeState) (a : Act) (o : Effects) (s' : NodeState) → Does c me s a o s' → MovesHints s (hints_by c me s a) (gone_by c s a) s'
does_hints c me s (Rises t) o s' h = to_hints (hints_in s) [] [] s' _ h.2 (no_hints (hints_in s))
does_hints c me s (Hears m) o s' h = hears_hints c me m (is_old c s.risen m.born) s o s' h
does_hints c me s (Asks ask) o s' h = asks_hints c (request_at me s.risen) ask.plan ask.level (refusal_of c s (request_at me s.risen) ask.plan ask.level) s o s' h
does_hints c me s (Marks peer up) o s' h = to_hints (hints_in s) [] [] s' _ h.1 (marked_hints c s peer up)
does_hints c me s (DeadlineComes id) o s' h = ends_hints c id (open_at s.writes id) s o s' h
does_hints c me s (HintExpires peer number) o s' h = to_hints (hints_in s) [] _ s' _ h.1 (drop_moves peer number (hints_in s))

one_move : (c : Setting) (deeds : List Deed) (d : Deed) (s : NodeState) → MovesHints s (flat_map (hints_made c) deeds) (flat_map (hints_gone c) deeds) d.before → MovesHints d.before (hints_made c d) (hints_gone c d) d.after
    → MovesHints s (flat_map (hints_made c) (deeds ++ d ∷ [])) (flat_map (hints_gone c) (deeds ++ d ∷ [])) d.after
one_move c deeds d s before here =
    subst (λ (xs : List hint.Hint). MovesHints s xs (flat_map (hints_gone c) (deeds ++ d ∷ [])) d.after) (sym (one_more (hints_made c) deeds d))
    (subst (λ (xs : List Gone). MovesHints s (flat_map (hints_made c) deeds ++ hints_made c d) xs d.after) (sym (one_more (hints_gone c) deeds d))
    (hints_on (hints_in s) (hints_in d.before) (hints_in d.after) (flat_map (hints_made c) deeds) (hints_made c d) (flat_map (hints_gone c) deeds) (hints_gone c d) before here))

pub chain_hints : (c : Setting) (me : ℕ) (s : NodeState) (ms : List Act) (deeds : List Deed) (s' : NodeState) (pending left : List Act) → Chain c me s ms deeds s' pending left
    → MovesHints s (flat_map (hints_made c) deeds) (flat_map (hints_gone c) deeds) s'
chain_hints c me s ms _ _ _ _ begun = no_hints (hints_in s)
chain_hints c me s ms _ _ _ _ (own deeds mid s' a pending left o chain does) =
    one_move c deeds (record { node = me; act = a; before = mid; after = s'; effects = o }) s (chain_hints c me s ms deeds mid (a ∷ pending) left chain) (does_hints c me mid a o s' does)
chain_hints c me s ms _ _ _ _ (matter deeds mid s' a left o chain does) =
    one_move c deeds (record { node = me; act = a; before = mid; after = s'; effects = o }) s (chain_hints c me s ms deeds mid [] (a ∷ left) chain) (does_hints c me mid a o s' does)

-- ---- what no move changes

abbrev rest_of : NodeState → Durable
rest_of s = record (durable_of s) { ceiling = 0; content = []; hints = []; numbers = [] }

abbrev KeepsRest : NodeState → NodeState → Type 0
KeepsRest s s' = rest_of s' ≡ rest_of s

rest_as : (s s' r : NodeState) → s' ≡ r → rest_of r ≡ rest_of s → KeepsRest s s'
rest_as s s' r is same = ap rest_of is ∙ same

acked_rest : (c : Setting) (b : Bool) (s : NodeState) (peer number : ℕ) → rest_of (if b then with_sent c (hint_done s peer number) peer else hint_done s peer number) ≡ rest_of s
acked_rest c true s peer number = refl
acked_rest c false s peer number = refl

marked_rest : (c : Setting) (s : NodeState) (peer : ℕ) (up : Bool) → rest_of (mark_state c s peer up) ≡ rest_of s
marked_rest c s peer true = refl
marked_rest c s peer false = refl

mend_rest : (a : Asker) (m : Mutation) (fits : Bool) (s : NodeState) (o : Effects) (s' : NodeState) → MatchBool fits (TakesChanges a m.partition m.changes MendAck s o s') ((o ≡ nothing) × (s' ≡ s)) → KeepsRest s s'
mend_rest a m true s o s' h = rest_as s s' _ h.3 refl
mend_rest a m false s o s' h = rest_as s s' s h.1 refl

body_rest : (c : Setting) (me : ℕ) (a : Asker) (b : Body) (s : NodeState) (o : Effects) (s' : NodeState) → HearsBody c me a b s o s' → KeepsRest s s'
body_rest c me a (Write m) s o s' h = rest_as s s' _ h.3 refl
body_rest c me a WriteAck s o s' h = rest_as s s' _ h.3 refl
body_rest c me a (Read q) s o s' h = rest_as s s' _ h.3 refl
body_rest c me a (ReadReply content) s o s' h = rest_as s s' _ h.3 refl
body_rest c me a (Mend m) s o s' h = mend_rest a m (write_fits c m) s o s' h
body_rest c me a MendAck s o s' h = rest_as s s' _ h.3 refl
body_rest c me a (Hint number m) s o s' h = rest_as s s' _ h.3 refl
body_rest c me a (HintAck number) s o s' h = rest_as s s' _ h.1 (acked_rest c (is_last s a.from number) s a.from number)

hears_rest : (c : Setting) (me : ℕ) (m : Incoming) (old : Bool) (s : NodeState) (o : Effects) (s' : NodeState) → MatchBool old ((o ≡ nothing) × (s' ≡ s)) (HearsBody c me (asker_of m) m.body s o s') → KeepsRest s s'
hears_rest c me m true s o s' h = rest_as s s' s h.1 refl
hears_rest c me m false s o s' h = body_rest c me (asker_of m) m.body s o s' h

asks_rest : (c : Setting) (id : ReqId) (p : Plan) (l : Level) (r : Option Refusal) (s : NodeState) (o : Effects) (s' : NodeState) → BeginsOrRefuses c id p l r s o s' → KeepsRest s s'
asks_rest c id (plan.Write d) l None s o s' h = rest_as s s' _ h.1 refl
asks_rest c id (plan.Read q columns) l None s o s' h = rest_as s s' _ h.1 refl
asks_rest c id (plan.Use keyspace) l None s o s' h = rest_as s s' _ h.1 refl
asks_rest c id (plan.Invalid fault) l None s o s' h = absurd h
asks_rest c id p l (Some r) s o s' h = rest_as s s' _ h.1 refl

ends_read_rest : (c : Setting) (id : ReqId) (r : Option OpenRead) (s : NodeState) (o : Effects) (s' : NodeState) → EndsRead c id r s o s' → KeepsRest s s'
ends_read_rest c id None s o s' h = rest_as s s' _ h.1 refl
ends_read_rest c id (Some r) s o s' h = rest_as s s' _ h.1 refl

ends_rest : (c : Setting) (id : ReqId) (w : Option OpenWrite) (s : NodeState) (o : Effects) (s' : NodeState) → Ends c id w s o s' → KeepsRest s s'
ends_rest c id None s o s' h = ends_read_rest c id (open_at s.reads id) s o s' h
ends_rest c id (Some w) s o s' h = rest_as s s' _ h.1 refl

does_rest : (c : Setting) (me : ℕ) (s : NodeState) (a : Act) (o : Effects) (s' : NodeState) → Does c me s a o s' → KeepsRest s s'
does_rest c me s (Rises t) o s' h = rest_as s s' _ h.2 refl
does_rest c me s (Hears m) o s' h = hears_rest c me m (is_old c s.risen m.born) s o s' h
does_rest c me s (Asks ask) o s' h = asks_rest c (request_at me s.risen) ask.plan ask.level (refusal_of c s (request_at me s.risen) ask.plan ask.level) s o s' h
does_rest c me s (Marks peer up) o s' h = rest_as s s' _ h.1 (marked_rest c s peer up)
does_rest c me s (DeadlineComes id) o s' h = ends_rest c id (open_at s.writes id) s o s' h
does_rest c me s (HintExpires peer number) o s' h = rest_as s s' _ h.1 refl

chain_rest : (c : Setting) (me : ℕ) (s : NodeState) (ms : List Act) (deeds : List Deed) (s' : NodeState) (pending left : List Act) → Chain c me s ms deeds s' pending left → KeepsRest s s'
chain_rest c me s ms _ _ _ _ begun = refl
chain_rest c me s ms _ _ _ _ (own deeds mid s' a pending left o chain does) = does_rest c me mid a o s' does ∙ chain_rest c me s ms deeds mid (a ∷ pending) left chain
chain_rest c me s ms _ _ _ _ (matter deeds mid s' a left o chain does) = does_rest c me mid a o s' does ∙ chain_rest c me s ms deeds mid [] (a ∷ left) chain

-- ---- the ceiling, and the whole

-- with this ceiling, this content and these hints
abbrev all_held : Durable → ℕ → List Stored → KeptHints → Durable
all_held d ceiling content k = record d { ceiling = ceiling; content = content; hints = k.hints; numbers = k.numbers }

ceiling_keeps : (b : Bool) (d : Durable) (m n : ℕ) (content : List Stored) (k : KeptHints) → (m == n) ≡ b → Commits (if b then [] else Ceiling n ∷ []) (all_held d m content k) (all_held d n content k)
ceiling_keeps true d m n content k same = ap (λ (x : ℕ). all_held d x content k) (sym (eqb-true m n same))
ceiling_keeps false d m n content k same = (all_held d n content k, refl, refl)

pub step_keeps : (c : Setting) (me : ℕ) (s : NodeState) (e : Event) (deeds : List Deed) (o : Outputs) (s' : NodeState) → NodeStep c me s e deeds o s' → Commits (entry_of c s deeds s') (durable_of s) (durable_of s')
step_keeps c me s e deeds o s' step =
    let d = durable_of s in
    let rest = chain_rest c me s _ deeds s' [] [] step.moves in
    let whole : all_held d s'.ceiling s'.content (hints_in s') ≡ durable_of s' = ap (λ (x : Durable). all_held x s'.ceiling s'.content (hints_in s')) (sym rest) in
    let made = flat_map (hints_made c) deeds in
    let gone = flat_map (hints_gone c) deeds in
    subst (λ (x : Durable). Commits (entry_of c s deeds s') d x) whole
    (commits_both (flat_map (data_in c) deeds) (hint_items made gone ++ ceiling_in s.ceiling s'.ceiling) d (held d s'.content) (all_held d s'.ceiling s'.content (hints_in s'))
    (chain_keeps c d me s _ deeds s' [] [] step.moves)
    (commits_both (hint_items made gone) (ceiling_in s.ceiling s'.ceiling) (held d s'.content) (all_held d s.ceiling s'.content (hints_in s')) (all_held d s'.ceiling s'.content (hints_in s'))
    (hint_items_make (hints_in s) (hints_in s') made gone (held d s'.content) (chain_hints c me s _ deeds s' [] [] step.moves))
    (ceiling_keeps (s.ceiling == s'.ceiling) d s.ceiling s'.ceiling s'.content (hints_in s') refl)))
