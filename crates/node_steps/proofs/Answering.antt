-- A replica answers in the event that asks it.
use Rattle.std.proofs.Common.{◌≡◌, ℕ, inl, inr, Bool, true, false, Option, Some, None, List, [], ◌∷◌, ◌++◌, filter, refl, sym, ap, subst, ◌∙◌, Contains}
use Rattle.std.specs.Prelude.{◌==◌, ◌||◌, not, if◌then◌else◌, map, flat_map, MatchBool}
use Rattle.std.specs.List.{AllByRecursion}
use Rattle.std.proofs.lemmas.Bool.{or_parts}
use Rattle.std.proofs.lemmas.List.Elements.{Contains-append_left, Contains-append_right}
use Rattle.cs_base.specs.declared.ids.ReqId.{ReqId}
use Rattle.cs_base.proofs.Members.{contains_here, contains_there, contains_map, contains_filter, contains_flat}
use Rattle.peer_messages.specs.declared.event.Event.{Event}
use Rattle.peer_messages.specs.declared.event.What.{What}
use Rattle.peer_messages.specs.declared.event.What.TheVariants.{Deliver, Tick}
use Rattle.peer_messages.specs.declared.message.Body.{Body}
use Rattle.peer_messages.specs.declared.message.Body.TheVariants.{Write, WriteAck, Read, ReadReply, Mend, MendAck, Hint, HintAck}
use Rattle.peer_messages.specs.declared.message.Message.{Message}
use Rattle.peer_messages.specs.declared.outcome.Outbound.{Outbound}
use Rattle.peer_messages.specs.declared.outcome.Outputs.{Outputs}
use Rattle.peer_messages.specs.declared.setting.Setting.{Setting}
use Rattle.durable_state.specs.State.{Stored, changes_of}
use Rattle.node_steps.specs.State.{NodeState, OpenWrite, OpenRead}
use Rattle.node_steps.specs.Answering.{IsForReplica, IsAnswer, reply_to}
use Rattle.node_steps.specs.Effects.{Effects, outbound, open_at}
use Rattle.node_steps.specs.Fitting.{write_fits, body_fits, message_fits}
use Rattle.node_steps.specs.Replicas.{Asker, replies}
use Rattle.node_steps.specs.Acts.{Act, Rises, Hears, Asks, Marks, DeadlineComes, HintExpires, Incoming, Deed, Does, HearsBody, Ends, EndsRead, Chain, own_sends, is_old, asker_of}
use Rattle.node_steps.specs.Acts.Chain.{begun, own, matter}
use Rattle.node_steps.specs.Steps.{Due, AreDue, act_of, time_after, looked_at, is_ahead, is_refused, matter_of, message_of, messages_of, sends_of}
use Rattle.node_steps.specs.Laws.{ReplicasAnswerAtOnce}
use Rattle.node_steps.proofs.Written.{message_parts}

-- ---- the last matter of a step was taken behind its rise, and what is due before it leaves the content

record IsDone (c : Setting) (me : ℕ) (s : NodeState) (t : ℕ) (a : Act) (ds : List Deed) : Type 0 where
  pub mid : NodeState
  pub after : NodeState
  pub effects : Effects
  pub risen : mid.risen ≡ t
  pub content : mid.content ≡ s.content
  pub does : Does c me mid a effects after
  pub there : Contains ds (record { node = me; act = a; before = mid; after = after; effects = effects })

-- a matter that is due
abbrev IsQuiet : Act → Type 0
IsQuiet (DeadlineComes id) = Unit {0}
IsQuiet (HintExpires peer number) = Unit {0}
IsQuiet (Rises time) = ⊥
IsQuiet (Hears m) = ⊥
IsQuiet (Asks ask) = ⊥
IsQuiet (Marks peer up) = ⊥

abbrev AreQuiet : List Act → Type 0
AreQuiet acts = AllByRecursion IsQuiet acts

-- it sends nothing
record Quietly (s : NodeState) (o : Effects) (s' : NodeState) : Type 0 where
  pub sends : o.sends ≡ []
  pub risen : s'.risen ≡ s.risen
  pub content : s'.content ≡ s.content

quietly : (s s' r : NodeState) (o p : Effects) → o ≡ p → s' ≡ r → p.sends ≡ [] → r.risen ≡ s.risen → r.content ≡ s.content → Quietly s o s'
quietly s s' r o p is same sends risen content = record {
  sends = ap (λ (x : Effects). x.sends) is ∙ sends;
  risen = ap (λ (x : NodeState). x.risen) same ∙ risen;
  content = ap (λ (x : NodeState). x.content) same ∙ content;
}

ends_read_quietly : (c : Setting) (id : ReqId) (r : Option OpenRead) (s : NodeState) (o : Effects) (s' : NodeState) → EndsRead c id r s o s' → Quietly s o s'
ends_read_quietly c id None s o s' h = quietly s s' _ o _ h.0 h.1 refl refl refl
ends_read_quietly c id (Some r) s o s' h = quietly s s' _ o _ h.0 h.1 refl refl refl

ends_quietly : (c : Setting) (id : ReqId) (w : Option OpenWrite) (s : NodeState) (o : Effects) (s' : NodeState) → Ends c id w s o s' → Quietly s o s'
ends_quietly c id None s o s' h = ends_read_quietly c id (open_at s.reads id) s o s' h
ends_quietly c id (Some w) s o s' h = quietly s s' _ o _ h.0 h.1 refl refl refl

does_quietly : (c : Setting) (me : ℕ) (s : NodeState) (a : Act) (o : Effects) (s' : NodeState) → IsQuiet a → Does c me s a o s' → Quietly s o s'
does_quietly c me s (DeadlineComes id) o s' quiet h = ends_quietly c id (open_at s.writes id) s o s' h
does_quietly c me s (HintExpires peer number) o s' quiet h = quietly s s' _ o _ h.0 h.1 refl refl refl
does_quietly c me s (Rises time) o s' quiet h = absurd quiet
does_quietly c me s (Hears m) o s' quiet h = absurd quiet
does_quietly c me s (Asks ask) o s' quiet h = absurd quiet
does_quietly c me s (Marks peer up) o s' quiet h = absurd quiet

data Stage (c : Setting) (me : ℕ) (s : NodeState) (t : ℕ) (qs : List Act) (a : Act) : List Deed → NodeState → List Act → List Act → Type 0 where
  at_start : Stage c me s t qs a [] s [] (Rises t ∷ (qs ++ a ∷ []))
  rose : (deeds : List Deed) (mid : NodeState) (left : List Act) → AreQuiet left → mid.risen ≡ t → mid.content ≡ s.content → Stage c me s t qs a deeds mid [] (left ++ a ∷ [])
  done : (deeds : List Deed) (s' : NodeState) (pending : List Act) → IsDone c me s t a deeds → Stage c me s t qs a deeds s' pending []

nil_cons : {X : Type 0} (x : X) (xs : List X) → [] ≡ x ∷ xs → ⊥
nil_cons x xs e = cc

heads : (a b : Act) (xs ys : List Act) → a ∷ xs ≡ b ∷ ys → (a ≡ b) × (xs ≡ ys)
heads a b xs ys e = (cc, cc)

done_on : (c : Setting) (me : ℕ) (s : NodeState) (t : ℕ) (a : Act) (deeds : List Deed) (d : Deed) → IsDone c me s t a deeds → IsDone c me s t a (deeds ++ d ∷ [])
done_on c me s t a deeds d h =
    record { mid = h.mid; after = h.after; effects = h.effects; risen = h.risen; content = h.content; does = h.does; there = Contains-append_left deeds (d ∷ []) _ h.there }

stage_own : (c : Setting) (me : ℕ) (s : NodeState) (t : ℕ) (qs : List Act) (a : Act) (deeds : List Deed) (mid s' : NodeState) (b : Act) (p pending left more : List Act) (d : Deed) → Stage c me s t qs a deeds mid p left → p ≡ b ∷ pending
    → Stage c me s t qs a (deeds ++ d ∷ []) s' more left
stage_own c me s t qs a _ _ s' b _ pending _ more d at_start e = absurd (nil_cons b pending e)
stage_own c me s t qs a _ _ s' b _ pending _ more d (rose deeds mid left quiet risen content) e = absurd (nil_cons b pending e)
stage_own c me s t qs a _ _ s' b _ pending _ more d (done deeds mid p h) e = done (deeds ++ d ∷ []) s' more (done_on c me s t a deeds d h)

none_own : (me : ℕ) (o : Effects) → o.sends ≡ [] → own_sends me o.sends ≡ []
none_own me o none = ap (λ (xs : List Outbound). own_sends me xs) none

rose_on : (c : Setting) (me : ℕ) (s : NodeState) (t : ℕ) (qs : List Act) (a : Act) (deeds : List Deed) (mid s' : NodeState) (b : Act) (qs' left : List Act) (o : Effects) → AreQuiet qs' → mid.risen ≡ t → mid.content ≡ s.content
    → qs' ++ a ∷ [] ≡ b ∷ left → Does c me mid b o s' → Stage c me s t qs a (deeds ++ record { node = me; act = b; before = mid; after = s'; effects = o } ∷ []) s' (own_sends me o.sends) left
rose_on c me s t qs a deeds mid s' b [] left o quiet risen content e does =
    let h = heads a b [] left e in
    let mine : Does c me mid a o s' = subst (λ (x : Act). Does c me mid x o s') (sym h.0) does in
    let there : Contains (deeds ++ record { node = me; act = b; before = mid; after = s'; effects = o } ∷ []) (record { node = me; act = a; before = mid; after = s'; effects = o }) =
    subst (λ (x : Act). Contains (deeds ++ record { node = me; act = x; before = mid; after = s'; effects = o } ∷ []) (record { node = me; act = a; before = mid; after = s'; effects = o })) h.0
    (Contains-append_right deeds _ _ (contains_here _ []))
    in
    subst (λ (xs : List Act). Stage c me s t qs a (deeds ++ record { node = me; act = b; before = mid; after = s'; effects = o } ∷ []) s' (own_sends me o.sends) xs) h.1
    (done _ s' (own_sends me o.sends) (record { mid = mid; after = s'; effects = o; risen = risen; content = content; does = mine; there = there }))
rose_on c me s t qs a deeds mid s' b (q ∷ qs') left o quiet risen content e does =
    let h = heads q b (qs' ++ a ∷ []) left e in
    let still = does_quietly c me mid q o s' quiet.0 (subst (λ (x : Act). Does c me mid x o s') (sym h.0) does) in
    let d : Deed = record { node = me; act = b; before = mid; after = s'; effects = o } in
    subst (λ (xs : List Act). Stage c me s t qs a (deeds ++ d ∷ []) s' xs left) (sym (none_own me o still.sends))
    (subst (λ (xs : List Act). Stage c me s t qs a (deeds ++ d ∷ []) s' [] xs) h.1 (rose (deeds ++ d ∷ []) s' qs' quiet.1 (still.risen ∙ risen) (still.content ∙ content)))

stage_matter : (c : Setting) (me : ℕ) (s : NodeState) (t : ℕ) (qs : List Act) (a : Act) (deeds : List Deed) (mid s' : NodeState) (b : Act) (p l left : List Act) (o : Effects) → AreQuiet qs → Stage c me s t qs a deeds mid p l → l ≡ b ∷ left → Does c me mid b o s'
    → Stage c me s t qs a (deeds ++ record { node = me; act = b; before = mid; after = s'; effects = o } ∷ []) s' (own_sends me o.sends) left
stage_matter c me s t qs a _ _ s' b _ _ left o quiet at_start e does =
    let h = heads (Rises t) b (qs ++ a ∷ []) left e in
    let rises : Does c me s (Rises t) o s' = subst (λ (x : Act). Does c me s x o s') (sym h.0) does in
    let d : Deed = record { node = me; act = b; before = s; after = s'; effects = o } in
    subst (λ (xs : List Act). Stage c me s t qs a (d ∷ []) s' xs left) (sym (none_own me o (ap (λ (x : Effects). x.sends) rises.1)))
    (subst (λ (xs : List Act). Stage c me s t qs a (d ∷ []) s' [] xs) h.1 (rose (d ∷ []) s' qs quiet (ap (λ (x : NodeState). x.risen) rises.2) (ap (λ (x : NodeState). x.content) rises.2)))
stage_matter c me s t qs a _ _ s' b _ _ left o quiet (rose deeds mid qs' still risen content) e does = rose_on c me s t qs a deeds mid s' b qs' left o still risen content e does
stage_matter c me s t qs a _ _ s' b _ _ left o quiet (done deeds mid p h) e does = absurd (nil_cons b left e)

staged : (c : Setting) (me : ℕ) (s : NodeState) (t : ℕ) (qs : List Act) (a : Act) → AreQuiet qs
    → (deeds : List Deed) (s' : NodeState) (pending left : List Act) → Chain c me s (Rises t ∷ (qs ++ a ∷ [])) deeds s' pending left → Stage c me s t qs a deeds s' pending left
staged c me s t qs a quiet _ _ _ _ begun = at_start
staged c me s t qs a quiet _ _ _ _ (own deeds mid s' b pending left o chain does) =
    stage_own c me s t qs a deeds mid s' b (b ∷ pending) pending left (pending ++ own_sends me o.sends) _ (staged c me s t qs a quiet deeds mid (b ∷ pending) left chain) refl
staged c me s t qs a quiet _ _ _ _ (matter deeds mid s' b left o chain does) =
    stage_matter c me s t qs a deeds mid s' b [] (b ∷ left) left o quiet (staged c me s t qs a quiet deeds mid [] (b ∷ left) chain) refl does

cons_front : (qs : List Act) (a : Act) → qs ++ a ∷ [] ≡ [] → ⊥
cons_front [] a e = cc
cons_front (q ∷ qs) a e = cc

stage_done : (c : Setting) (me : ℕ) (s : NodeState) (t : ℕ) (qs : List Act) (a : Act) (deeds : List Deed) (s' : NodeState) (pending left : List Act) → Stage c me s t qs a deeds s' pending left → left ≡ [] → IsDone c me s t a deeds
stage_done c me s t qs a _ _ _ _ at_start e = absurd (nil_cons (Rises t) (qs ++ a ∷ []) (sym e))
stage_done c me s t qs a _ _ _ _ (rose deeds mid left quiet risen content) e = absurd (cons_front left a e)
stage_done c me s t qs a _ _ _ _ (done deeds s' pending h) e = h

-- what is due is quiet
quiet_acts : (due : List Due) → ((d : Due) → Contains due d → IsQuiet d.act) → AreQuiet (map act_of due)
quiet_acts [] each = tt
quiet_acts (d ∷ ds) each = (each d (contains_here d ds), quiet_acts ds (λ x h. each x (contains_there d ds x h)))

due_quiet : (c : Setting) (me t : ℕ) (s : NodeState) (due : List Due) → AreDue c me t s due → AreQuiet (map act_of due)
due_quiet c me t s due are = quiet_acts due (λ d h. elim ((are.each d).0 h).1 [
  | inl (opened, is) ↦ subst (λ (x : Due). IsQuiet x.act) (sym is) tt
  | inr (hinted, there, is) ↦ subst (λ (x : Due). IsQuiet x.act) (sym is) tt
])

-- ---- what was heard was answered

abbrev Sent : ReqId → ℕ → List Outbound → Body → Type 0
Sent id from sends b = Contains sends (outbound id b from)

replied : (a : Asker) (o : Effects) (b : Body) → o ≡ replies a b → Sent a.request a.from o.sends b
replied a o b is = subst (λ (x : Effects). Sent a.request a.from x.sends b) (sym is) (contains_here (outbound a.request b a.from) [])

is_taken : (fits : Bool) (P Q : Type 0) → fits ≡ true → MatchBool fits P Q → P
is_taken true P Q test h = h
is_taken false P Q test h = cc

body_answered : (c : Setting) (me : ℕ) (a : Asker) (b : Body) (s : NodeState) (o : Effects) (s' : NodeState) → IsForReplica b → body_fits c b ≡ true → HearsBody c me a b s o s'
    → (r : Body) × IsAnswer (changes_of s.content) b r × Sent a.request a.from o.sends r
body_answered c me a (Write m) s o s' for fits h = (WriteAck, refl, replied a o WriteAck h.2)
body_answered c me a WriteAck s o s' for fits h = absurd for
body_answered c me a (Read q) s o s' for fits (part, reply, is, same) = (ReadReply part, (part, reply, refl), replied a o (ReadReply part) is)
body_answered c me a (ReadReply content) s o s' for fits h = absurd for
body_answered c me a (Mend m) s o s' for fits h = (MendAck, refl, replied a o MendAck (is_taken (write_fits c m) _ _ fits h).2)
body_answered c me a MendAck s o s' for fits h = absurd for
body_answered c me a (Hint number m) s o s' for fits h = (HintAck number, refl, replied a o (HintAck number) h.2)
body_answered c me a (HintAck number) s o s' for fits h = absurd for

not_old : (old : Bool) (P Q : Type 0) → old ≡ false → MatchBool old P Q → Q
not_old false P Q test h = h
not_old true P Q test h = cc

incoming : Message → Incoming
incoming m = record { from = m.from; born = m.born; request = m.request; body = m.body }

-- the own matter of a step to which a message comes that fits and is not ahead
only_matter : (c : Setting) (me : ℕ) (s : NodeState) (e : Event) (m : Message) → e.what ≡ Deliver m → is_ahead s.time e (Deliver m) ≡ false → message_fits c me m ≡ true
    → matter_of c me (looked_at s.time e) ≡ Hears (record { from = m.from; born = m.born; request = m.request; body = m.body }) ∷ []
only_matter c me s e m what ahead fits =
    ap (λ (w : What). matter_of c me (if is_ahead s.time e w then Tick else w)) what
    ∙ ap (λ (b : Bool). matter_of c me (if b then Tick else Deliver m)) ahead
    ∙ ap (λ (b : Bool). if b then Hears (record { from = m.from; born = m.born; request = m.request; body = m.body }) ∷ [] else []) fits

pub answered_at_once : ReplicasAnswerAtOnce
answered_at_once c me s e deeds o s' step m what fits heard for =
    let t = time_after s e in
    let inc : Incoming = record { from = m.from; born = m.born; request = m.request; body = m.body } in
    let not_refused : (is_ahead s.time e (Deliver m) || is_old c t m.born) ≡ false =
    ap (λ (w : What). is_refused c s.time t e w) (sym what) ∙ sym (ap (λ (x : Outputs). x.refused) step.outputs) ∙ heard in
    let young = or_parts (is_ahead s.time e (Deliver m)) (is_old c t m.born) not_refused in
    let qs = map act_of step.due in
    let moves : Chain c me s (Rises t ∷ (qs ++ Hears inc ∷ [])) deeds s' [] [] = subst (λ (xs : List Act). Chain c me s (Rises t ∷ (qs ++ xs)) deeds s' [] []) (only_matter c me s e m what young.0 fits) step.moves in
    let h = stage_done c me s t qs (Hears inc) deeds s' [] [] (staged c me s t qs (Hears inc) (due_quiet c me t s step.due step.are_due) deeds s' [] [] moves) refl in
    let heard_body = not_old (is_old c h.mid.risen m.born) _ _ (ap (λ (n : ℕ). is_old c n m.born) h.risen ∙ young.1) h.does in
    let r = body_answered c me (asker_of inc) m.body h.mid h.effects h.after for (message_parts c me m fits).body heard_body in
    let x : Outbound = outbound m.request r.0 m.from in
    let sends : o.sends ≡ messages_of me s'.time (flat_map sends_of deeds) = ap (λ (y : Outputs). y.sends) step.outputs in
    let time : o.time ≡ s'.time = ap (λ (y : Outputs). y.time) step.outputs in
    let there : Contains (messages_of me s'.time (flat_map sends_of deeds)) (message_of me s'.time x) =
    contains_map (message_of me s'.time) (filter (λ y. not (y.upto == me)) (flat_map sends_of deeds)) x
    (contains_filter (λ (y : Outbound). not (y.upto == me)) (flat_map sends_of deeds) x (contains_flat sends_of deeds _ x h.there r.2) (message_parts c me m fits).other)
    in (
      r.0,
      subst (λ (xs : List Stored). IsAnswer (changes_of xs) m.body r.0) h.content r.1,
      subst (λ (n : ℕ). Contains o.sends (reply_to me n m r.0)) (sym time) (subst (λ (xs : List Message). Contains xs (message_of me s'.time x)) (sym sends) there),
    )
