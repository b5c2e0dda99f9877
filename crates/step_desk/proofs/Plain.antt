-- What a step of a node enters of its own is neither that a request was asked nor that one was turned away.
use Rattle.std.proofs.Common.{◌≡◌, ℕ, Bool, true, false, Option, Some, None, List, [], ◌∷◌, ◌++◌, refl, sym, subst}
use Rattle.std.specs.Prelude.{if◌then◌else◌, MatchBool, nat_lt}
use Rattle.std.specs.List.{flat_map}
use Rattle.cs_base.specs.declared.level.Level.{Level}
use Rattle.cs_base.specs.declared.ids.ReqId.{ReqId}
use Rattle.changes.specs.declared.Held.{Held}
use Rattle.changes.specs.declared.Mutation.{Mutation}
use Rattle.peer_messages.specs.declared.event.Plan.{Plan}
use Rattle.peer_messages.specs.declared.event.Plan.TheVariants as plans
use Rattle.peer_messages.specs.declared.message.Body.{Body}
use Rattle.peer_messages.specs.declared.message.Body.TheVariants.{Write, WriteAck, Read, ReadReply, Mend, MendAck, Hint, HintAck}
use Rattle.peer_messages.specs.declared.chronicle.Entry.{Entry}
use Rattle.peer_messages.specs.declared.chronicle.Refusal.{Refusal}
use Rattle.peer_messages.specs.declared.outcome.Move.{Move}
use Rattle.peer_messages.specs.declared.setting.Setting.{Setting}
use Rattle.peer_messages.specs.Moves.{quiet}
use Rattle.node_steps.specs.State.{NodeState, OpenWrite, OpenRead}
use Rattle.node_steps.specs.Effects.{Effects, nothing, open_at, Takes}
use Rattle.node_steps.specs.Writes.{HearsAck, ack_told}
use Rattle.node_steps.specs.Fitting.{write_fits}
use Rattle.node_steps.specs.Reads.{HearsReply, HearsMendAck, CountsReply, AwaitsMends, is_stray, is_awaited, mended_by, differing, mends, replies_of, read_needs}
use Rattle.node_steps.specs.Replicas.{Asker}
use Rattle.node_steps.specs.Requests.{refusal_of, Begins, BeginsOrRefuses}
use Rattle.node_steps.specs.Acts.{Act, Rises, Hears, Asks, Marks, DeadlineComes, HintExpires, Deed, Does, Chain, HearsBody, TakesChanges, Ends, EndsRead, asker_of, is_old, request_at}
use Rattle.node_steps.specs.Acts.Chain.{begun, own, matter}
use Rattle.node_steps.specs.Steps.{entries_of}
use Rattle.step_desk.specs.Outcomes.{is_outcome}

-- no entry tells what came of asking
abbrev pub ArePlain : List Entry → Type 0
ArePlain [] = Unit {0}
ArePlain (e ∷ es) = (is_outcome e ≡ false) × ArePlain es

pub plain_append : (xs ys : List Entry) → ArePlain xs → ArePlain ys → ArePlain (xs ++ ys)
plain_append [] ys h k = k
plain_append (x ∷ xs) ys h k = (h.0, plain_append xs ys h.1 k)

plain_left : (xs ys : List Entry) → ArePlain (xs ++ ys) → ArePlain xs
plain_left [] ys h = tt
plain_left (x ∷ xs) ys h = (h.0, plain_left xs ys h.1)

plain_right : (xs ys : List Entry) → ArePlain (xs ++ ys) → ArePlain ys
plain_right [] ys h = h
plain_right (x ∷ xs) ys h = plain_right xs ys h.1

-- ---- one move

of_effects : (o p : Effects) → o ≡ p → ArePlain p.entries → ArePlain o.entries
of_effects o p e h = subst (λ (x : Effects). ArePlain x.entries) (sym e) h

of_move : (turn other : Move) → turn ≡ other → ArePlain other.entries → ArePlain turn.entries
of_move turn other e h = subst (λ (x : Move). ArePlain x.entries) (sym e) h

by_bool : {A B C : Type 0} (b : Bool) → (A → C) → (B → C) → MatchBool b A B → C
by_bool {A} {B} {C} true f g h = f h
by_bool {A} {B} {C} false f g h = g h

at_request : {A : Type 0} (Step : A → Move → A → Type 0) (id : ReqId) (xs : List (ReqId × A)) (found : Option A) (turn : Move) (xs' : List (ReqId × A))
    → ((a a' : A) → Step a turn a' → ArePlain turn.entries) → Takes Step id xs found turn xs' → ArePlain turn.entries
at_request {A} Step id xs None turn xs' each h = of_move turn quiet h.0 tt
at_request {A} Step id xs (Some a) turn xs' each h = each a h.0 h.1

ack_plain : (b d : Bool) (id : ReqId) (w : OpenWrite) → ArePlain (ack_told b d id w)
ack_plain true d id w = tt
ack_plain false true id w = (refl, tt)
ack_plain false false id w = tt

hears_ack : (c : Setting) (id : ReqId) (from : ℕ) (turn : Move) (w w' : OpenWrite) → HearsAck c id from w turn w' → ArePlain turn.entries
hears_ack c id from turn w w' h = of_move turn _ h.0 (ack_plain _ _ id _)

awaits_mends : (id : ReqId) (r r' : OpenRead) (ks : List ℕ) (sent turn : Move) → ArePlain sent.entries → AwaitsMends id r ks sent turn r' → ArePlain turn.entries
awaits_mends id r r' [] sent turn plain h = of_move turn _ h.3 (refl, tt)
awaits_mends id r r' (k ∷ ks) sent turn plain h = of_move turn sent h.0 plain

counts_reply : (c : Setting) (id : ReqId) (turn : Move) (r r' : OpenRead) → CountsReply c id r turn r' → ArePlain turn.entries
counts_reply c id turn r r' h = by_bool (nat_lt (replies_of c r) (read_needs c r)) (λ w. of_move turn quiet w.0 tt) (λ w. awaits_mends id r r' (differing c r) (mends id r (differing c r)) turn tt w) h

hears_reply : (c : Setting) (id : ReqId) (from : ℕ) (content : List Held) (turn : Move) (r r' : OpenRead) → HearsReply c id from content r turn r' → ArePlain turn.entries
hears_reply c id from content turn r r' h = by_bool (is_stray c from r) (λ w. of_move turn quiet w.0 tt) (λ w. counts_reply c id turn w.0 r' w.3) h

hears_mend_ack : (c : Setting) (id : ReqId) (from : ℕ) (turn : Move) (r r' : OpenRead) → HearsMendAck c id from r turn r' → ArePlain turn.entries
hears_mend_ack c id from turn r r' h = by_bool (is_awaited r.mending from) (λ w. awaits_mends id r r' (mended_by r.mending from) quiet turn tt w) (λ w. of_move turn quiet w.0 tt) h

hears_mend : (a : Asker) (m : Mutation) (fits : Bool) (s : NodeState) (o : Effects) (s' : NodeState) → MatchBool fits (TakesChanges a m.partition m.changes MendAck s o s') ((o ≡ nothing) × (s' ≡ s)) → ArePlain o.entries
hears_mend a m true s o s' h = of_effects o _ h.2 tt
hears_mend a m false s o s' h = of_effects o nothing h.0 tt

hears : (c : Setting) (me : ℕ) (a : Asker) (body : Body) (s : NodeState) (o : Effects) (s' : NodeState) → HearsBody c me a body s o s' → ArePlain o.entries
hears c me a (Write m) s o s' h = of_effects o _ h.2 tt
hears c me a WriteAck s o s' h = of_effects o _ h.2 (at_request (HearsAck c a.request a.from) a.request s.writes (open_at s.writes a.request) h.0 s'.writes (λ w w' k. hears_ack c a.request a.from h.0 w w' k) h.1)
hears c me a (Read q) s o s' h = of_effects o _ h.2 tt
hears c me a (ReadReply content) s o s' h = of_effects o _ h.2 (at_request (HearsReply c a.request a.from content) a.request s.reads (open_at s.reads a.request) h.0 s'.reads (λ r r' k. hears_reply c a.request a.from content h.0 r r' k) h.1)
hears c me a (Mend m) s o s' h = hears_mend a m (write_fits c m) s o s' h
hears c me a MendAck s o s' h = of_effects o _ h.2 (at_request (HearsMendAck c a.request a.from) a.request s.reads (open_at s.reads a.request) h.0 s'.reads (λ r r' k. hears_mend_ack c a.request a.from h.0 r r' k) h.1)
hears c me a (Hint number m) s o s' h = of_effects o _ h.2 tt
hears c me a (HintAck number) s o s' h = of_effects o _ h.0 tt

begins : (c : Setting) (id : ReqId) (plan : Plan) (l : Level) (s : NodeState) (o : Effects) (s' : NodeState) → Begins c id plan l s o s' → ArePlain o.entries
begins c id (plans.Write draft) l s o s' h = of_effects o _ h.0 (refl, tt)
begins c id (plans.Read q columns) l s o s' h = of_effects o _ h.0 (refl, tt)
begins c id (plans.Use keyspace) l s o s' h = of_effects o _ h.0 (refl, tt)
begins c id (plans.Invalid fault) l s o s' h = absurd h

asks : (c : Setting) (id : ReqId) (plan : Plan) (l : Level) (refusal : Option Refusal) (s : NodeState) (o : Effects) (s' : NodeState) → BeginsOrRefuses c id plan l refusal s o s' → ArePlain o.entries
asks c id plan l None s o s' h = begins c id plan l s o s' h
asks c id plan l (Some refusal) s o s' h = of_effects o _ h.0 (refl, tt)

told_plain : (b : Bool) (x : Entry) → is_outcome x ≡ false → ArePlain (if b then [] else x ∷ [])
told_plain true x h = tt
told_plain false x h = (h, tt)

ends_read : (c : Setting) (id : ReqId) (found : Option OpenRead) (s : NodeState) (o : Effects) (s' : NodeState) → EndsRead c id found s o s' → ArePlain o.entries
ends_read c id None s o s' h = of_effects o nothing h.0 tt
ends_read c id (Some r) s o s' h = of_effects o _ h.0 (refl, tt)

ends : (c : Setting) (id : ReqId) (found : Option OpenWrite) (s : NodeState) (o : Effects) (s' : NodeState) → Ends c id found s o s' → ArePlain o.entries
ends c id None s o s' h = ends_read c id (open_at s.reads id) s o s' h
ends c id (Some w) s o s' h = of_effects o _ h.0 (told_plain w.answered _ refl)

does_plain : (c : Setting) (me : ℕ) (s : NodeState) (a : Act) (o : Effects) (s' : NodeState) → Does c me s a o s' → ArePlain o.entries
does_plain c me s (Rises time) o s' h = of_effects o nothing h.1 tt
does_plain c me s (Hears m) o s' h = by_bool (is_old c s.risen m.born) (λ w. of_effects o nothing w.0 tt) (λ w. hears c me (asker_of m) m.body s o s' w) h
does_plain c me s (Asks ask) o s' h = asks c (request_at me s.risen) ask.plan ask.level (refusal_of c s (request_at me s.risen) ask.plan ask.level) s o s' h
does_plain c me s (Marks peer up) o s' h = of_effects o _ h.0 tt
does_plain c me s (DeadlineComes id) o s' h = ends c id (open_at s.writes id) s o s' h
does_plain c me s (HintExpires peer number) o s' h = of_effects o nothing h.0 tt

-- ---- all moves of a step

plain_push : (deeds : List Deed) (d : Deed) → ArePlain (flat_map entries_of deeds) → ArePlain d.effects.entries → ArePlain (flat_map entries_of (deeds ++ d ∷ []))
plain_push [] d h k = plain_append d.effects.entries [] k tt
plain_push (x ∷ xs) d h k =
    plain_append x.effects.entries (flat_map entries_of (xs ++ d ∷ [])) (plain_left x.effects.entries (flat_map entries_of xs) h)
    (plain_push xs d (plain_right x.effects.entries (flat_map entries_of xs) h) k)

pub deeds_plain : (c : Setting) (me : ℕ) (s : NodeState) (ms : List Act) (deeds : List Deed) (s' : NodeState) (pending left : List Act) → Chain c me s ms deeds s' pending left → ArePlain (flat_map entries_of deeds)
deeds_plain c me s ms _ _ _ _ begun = tt
deeds_plain c me s ms _ _ _ _ (own deeds mid s' a pending left o chain does) =
    plain_push deeds _ (deeds_plain c me s ms deeds mid (a ∷ pending) left chain) (does_plain c me mid a o s' does)
deeds_plain c me s ms _ _ _ _ (matter deeds mid s' a left o chain does) =
    plain_push deeds _ (deeds_plain c me s ms deeds mid [] (a ∷ left) chain) (does_plain c me mid a o s' does)
