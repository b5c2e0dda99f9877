-- What one move of a node makes of its open requests, and which of them it answers.
use Rattle.std.proofs.Common.{◌≡◌, ◌≢◌, ℕ, inl, inr, ◌⊎◌, ◌+◌, Bool, true, false, Option, Some, None, List, [], ◌∷◌, refl, sym, ap, subst, ◌∙◌}
use Rattle.std.specs.Prelude.{◌↔◌, ◌||◌, ◌&&◌, nat_lt, if◌then◌else◌, MatchBool}
use Rattle.std.specs.Map.{set_value, remove_entry}
use Rattle.std.specs.BTreeMap.{is_at, insert_entry}
use Rattle.cs_base.specs.declared.ids.ReqId.{ReqId}
use Rattle.cs_base.specs.declared.level.Level.{Level}
use Rattle.cs_base.specs.Requests.{request_cmp, is_request}
use Rattle.changes.specs.declared.Held.{Held}
use Rattle.changes.specs.declared.Mutation.{Mutation}
use Rattle.peer_messages.specs.declared.event.Ask.{Ask}
use Rattle.peer_messages.specs.declared.event.Plan.{Plan}
use Rattle.peer_messages.specs.declared.event.Plan.TheVariants as plan
use Rattle.peer_messages.specs.declared.message.Body.{Body}
use Rattle.peer_messages.specs.declared.message.Body.TheVariants.{Write, WriteAck, Read, ReadReply, Mend, MendAck, Hint, HintAck}
use Rattle.peer_messages.specs.declared.chronicle.Entry.{Entry}
use Rattle.peer_messages.specs.declared.chronicle.Entry.TheVariants.{Acked, Refused}
use Rattle.peer_messages.specs.declared.chronicle.Refusal.{Refusal}
use Rattle.peer_messages.specs.declared.outcome.Move.{Move}
use Rattle.peer_messages.specs.declared.setting.Setting.{Setting}
use Rattle.peer_messages.specs.Moves.{quiet as quiet_move}
use Rattle.node_steps.specs.State.{NodeState, OpenWrite, OpenRead}
use Rattle.node_steps.specs.Effects.{Effects, nothing, effects_of, open_at, after_move, Takes}
use Rattle.node_steps.specs.Writes.{HearsAck, heard_write, is_enough, is_settled, ack_told, started_write}
use Rattle.node_steps.specs.Reads.{HearsReply, TellsRows, MergesReply, is_stray, replies_of, read_needs, started_read, AwaitsMends, mends, differing, HearsMendAck, is_awaited, mended_by}
use Rattle.node_steps.specs.Hints.{with_sent, is_last, hint_done}
use Rattle.node_steps.specs.Replicas.{Asker}
use Rattle.node_steps.specs.Requests.{refusal_of, hinted_at, BeginsOrRefuses}
use Rattle.node_steps.specs.Acts.{Act, Rises, Hears, Asks, Marks, DeadlineComes, HintExpires, Incoming, Does, HearsBody, Ends, EndsRead, mark_state, request_at, is_old, asker_of, TakesChanges}
use Rattle.node_steps.specs.Fitting.{write_fits}
use Rattle.answer_causes.specs.Story.{answers_to, one_if}
use Rattle.answer_causes.proofs.Entries.{Apart, same_or_other, remove_other, remove_same, remove_apart, set_other, set_same, set_apart, insert_other, insert_same, insert_apart}

-- ---- open requests

-- a write that has no answer
abbrev pub PendingWrite : Option OpenWrite → Type 0
PendingWrite None = ⊥
PendingWrite (Some w) = w.answered ≡ false

abbrev pub Found : {A : Type 0} → Option A → Type 0
Found {A} None = ⊥
Found {A} (Some a) = Unit {0}

-- a request without an answer
abbrev pub IsOpen : NodeState → ReqId → Type 0
IsOpen s id = PendingWrite (open_at s.writes id) ⊎ Found (open_at s.reads id)

-- a request, answered or not
abbrev pub IsHere : NodeState → ReqId → Type 0
IsHere s id = Found (open_at s.writes id) ⊎ Found (open_at s.reads id)

-- no id stands twice
pub record IsNeat (s : NodeState) : Type 0 where
  pub writes : Apart s.writes
  pub reads : Apart s.reads
  pub one_kind : (id : ReqId) → Found (open_at s.writes id) → Found (open_at s.reads id) → ⊥

pub pending_found : (o : Option OpenWrite) → PendingWrite o → Found o
pending_found None h = h
pending_found (Some w) h = tt

pub open_here : (s : NodeState) (id : ReqId) → IsOpen s id → IsHere s id
open_here s id (inl w) = inl (pending_found (open_at s.writes id) w)
open_here s id (inr r) = inr r

-- ---- what a move does

-- it answers none, and the same are open; it answers one that was open; it begins one; or it answers one that it begins
pub data Turn (New : ReqId → Type 0) (s : NodeState) (o : Effects) (s' : NodeState) : Type 0 where
  still : ((q : ReqId) → New q → ⊥) → ((q : ReqId) → IsOpen s' q ↔ IsOpen s q) → ((q : ReqId) → answers_to o.entries q ≡ 0) → Turn New s o s'
  told : ((q : ReqId) → New q → ⊥) → (id : ReqId) → IsOpen s id → ((q : ReqId) → IsOpen s' q ↔ (IsOpen s q × q ≢ id)) → ((q : ReqId) → answers_to o.entries q ≡ one_if (is_request id q) + 0) → Turn New s o s'
  opens : ((q : ReqId) → IsOpen s' q ↔ (IsOpen s q ⊎ New q)) → ((q : ReqId) → answers_to o.entries q ≡ 0) → Turn New s o s'
  refuses : (id : ReqId) → New id → ((q : ReqId) → IsOpen s' q ↔ IsOpen s q) → ((q : ReqId) → answers_to o.entries q ≡ one_if (is_request id q) + 0) → Turn New s o s'

-- it keeps the ids apart, and has none but those that were there and the one that it may begin
pub record Turns (New : ReqId → Type 0) (s : NodeState) (o : Effects) (s' : NodeState) : Type 0 where
  pub neat : IsNeat s'
  pub here : (q : ReqId) → IsHere s' q → IsHere s q ⊎ New q
  pub turn : Turn New s o s'

-- nothing is begun
abbrev pub Never : ReqId → Type 0
Never q = ⊥

-- ---- one list changes at one id

alike : {A : Type 0} (P : Option A → Type 0) (a b : Option A) → a ≡ b → P a ↔ P b
alike {A} P a b is = (subst P is, subst P (sym is))

same_at : {A : Type 0} (P : Option A → Type 0) (xs xs' : List (ReqId × A)) (id : ReqId) → ((q : ReqId) → q ≢ id → open_at xs' q ≡ open_at xs q) → (P (open_at xs' id) ↔ P (open_at xs id)) → (q : ReqId) → P (open_at xs' q) ↔ P (open_at xs q)
same_at {A} P xs xs' id others this q = elim (same_or_other id q) [
  | inl same ↦ subst (λ (k : ReqId). P (open_at xs' k) ↔ P (open_at xs k)) (sym same) this
  | inr other ↦ alike P (open_at xs' q) (open_at xs q) (others q other)
]

ended_at : {A : Type 0} (P : Option A → Type 0) (xs xs' : List (ReqId × A)) (id : ReqId) → ((q : ReqId) → q ≢ id → open_at xs' q ≡ open_at xs q) → (P (open_at xs' id) → ⊥) → (q : ReqId) → P (open_at xs' q) ↔ (P (open_at xs q) × q ≢ id)
ended_at {A} P xs xs' id others none q = (
  λ h. let away : q ≢ id = λ same. none (subst (λ (k : ReqId). P (open_at xs' k)) same h) in (subst P (others q away) h, away),
  λ h. subst P (sym (others q h.1)) h.0,
)

begun_at : {A : Type 0} (P : Option A → Type 0) (xs xs' : List (ReqId × A)) (id : ReqId) → ((q : ReqId) → q ≢ id → open_at xs' q ≡ open_at xs q) → P (open_at xs' id) → (q : ReqId) → P (open_at xs' q) ↔ (P (open_at xs q) ⊎ (q ≡ id))
begun_at {A} P xs xs' id others this q = (
  λ h. elim (same_or_other id q) [ inl same ↦ inr same | inr other ↦ inl (subst P (others q other) h) ],
  λ h. elim (same_or_other id q) [
    | inl same ↦ subst (λ (k : ReqId). P (open_at xs' k)) (sym same) this
    | inr other ↦ elim h [ inl old ↦ subst P (sym (others q other)) old | inr is ↦ absurd (other is) ]
  ],
)

-- what is found later was there before, or is the new one
found_before : {A : Type 0} (xs xs' : List (ReqId × A)) (id : ReqId) → ((q : ReqId) → q ≢ id → open_at xs' q ≡ open_at xs q) → (q : ReqId) → Found (open_at xs' q) → Found (open_at xs q) ⊎ (q ≡ id)
found_before {A} xs xs' id others q h = elim (same_or_other id q) [ inl same ↦ inr same | inr other ↦ inl (subst (λ (o : Option A). Found o) (others q other) h) ]

found_some : {A : Type 0} (xs : List (ReqId × A)) (id : ReqId) (a : A) → open_at xs id ≡ Some a → Found (open_at xs id)
found_some {A} xs id a is = subst (λ (o : Option A). Found o) (sym is) tt

-- ---- the two lists together

-- the state of which the writes, or the reads, are others
abbrev writes_are : NodeState → List (ReqId × OpenWrite) → NodeState
writes_are s xs = record s { writes = xs }

both_same : (a b c : Type 0) → (b ↔ a) → (b ⊎ c) ↔ (a ⊎ c)
both_same a b c h = (λ x. elim x [ inl l ↦ inl (h.0 l) | inr r ↦ inr r ], λ x. elim x [ inl l ↦ inl (h.1 l) | inr r ↦ inr r ])

right_same : (a b c : Type 0) → (b ↔ a) → (c ⊎ b) ↔ (c ⊎ a)
right_same a b c h = (λ x. elim x [ inl l ↦ inl l | inr r ↦ inr (h.0 r) ], λ x. elim x [ inl l ↦ inl l | inr r ↦ inr (h.1 r) ])

left_ends : (a b c d : Type 0) → (b ↔ (a × d)) → (c → d) → (b ⊎ c) ↔ ((a ⊎ c) × d)
left_ends a b c d h other = (
  λ x. elim x [ inl l ↦ (inl (h.0 l).0, (h.0 l).1) | inr r ↦ (inr r, other r) ],
  λ x. elim x.0 [ inl l ↦ inl (h.1 (l, x.1)) | inr r ↦ inr r ],
)

right_ends : (a b c d : Type 0) → (b ↔ (a × d)) → (c → d) → (c ⊎ b) ↔ ((c ⊎ a) × d)
right_ends a b c d h other = (
  λ x. elim x [ inl l ↦ (inl l, other l) | inr r ↦ (inr (h.0 r).0, (h.0 r).1) ],
  λ x. elim x.0 [ inl l ↦ inl l | inr r ↦ inr (h.1 (r, x.1)) ],
)

left_begins : (a b c d : Type 0) → (b ↔ (a ⊎ d)) → (b ⊎ c) ↔ ((a ⊎ c) ⊎ d)
left_begins a b c d h = (
  λ x. elim x [ inl l ↦ elim (h.0 l) [ inl y ↦ inl (inl y) | inr z ↦ inr z ] | inr r ↦ inl (inr r) ],
  λ x. elim x [ inl y ↦ elim y [ inl l ↦ inl (h.1 (inl l)) | inr r ↦ inr r ] | inr z ↦ inl (h.1 (inr z)) ],
)

right_begins : (a b c d : Type 0) → (b ↔ (a ⊎ d)) → (c ⊎ b) ↔ ((c ⊎ a) ⊎ d)
right_begins a b c d h = (
  λ x. elim x [ inl l ↦ inl (inl l) | inr r ↦ elim (h.0 r) [ inl y ↦ inl (inr y) | inr z ↦ inr z ] ],
  λ x. elim x [ inl y ↦ elim y [ inl l ↦ inl l | inr r ↦ inr (h.1 (inl r)) ] | inr z ↦ inr (h.1 (inr z)) ],
)

-- no request at all changes
untouched : (s s' : NodeState) (o : Effects) → IsNeat s → s'.writes ≡ s.writes → s'.reads ≡ s.reads → ((q : ReqId) → answers_to o.entries q ≡ 0) → Turns Never s o s'
untouched s s' o neat writes reads none =
    let back : (q : ReqId) → IsOpen s' q ↔ IsOpen s q =
    λ q. subst (λ (xs : List (ReqId × OpenWrite)). (PendingWrite (open_at xs q) ⊎ Found (open_at s'.reads q)) ↔ IsOpen s q) (sym writes)
    (subst (λ (ys : List (ReqId × OpenRead)). (PendingWrite (open_at s.writes q) ⊎ Found (open_at ys q)) ↔ IsOpen s q) (sym reads) (λ x. x, λ x. x)) in
    record {
      neat = record {
        writes = subst (λ (xs : List (ReqId × OpenWrite)). Apart xs) (sym writes) neat.writes;
        reads = subst (λ (xs : List (ReqId × OpenRead)). Apart xs) (sym reads) neat.reads;
        one_kind = λ q a b. neat.one_kind q (subst (λ (xs : List (ReqId × OpenWrite)). Found (open_at xs q)) writes a) (subst (λ (xs : List (ReqId × OpenRead)). Found (open_at xs q)) reads b);
      };
      here = λ q h. inl (elim h [
        | inl a ↦ inl (subst (λ (xs : List (ReqId × OpenWrite)). Found (open_at xs q)) writes a)
        | inr b ↦ inr (subst (λ (xs : List (ReqId × OpenRead)). Found (open_at xs q)) reads b)
      ]);
      turn = still (λ q x. x) back none;
    }

-- the writes change at an id at which there is one
record WriteChange (s : NodeState) (id : ReqId) (xs : List (ReqId × OpenWrite)) : Type 0 where
  pub there : Found (open_at s.writes id)
  pub apart : Apart xs
  pub others : (q : ReqId) → q ≢ id → open_at xs q ≡ open_at s.writes q

write_neat : (s s' : NodeState) (id : ReqId) → IsNeat s → WriteChange s id s'.writes → s'.reads ≡ s.reads → IsNeat s'
write_neat s s' id neat w reads = record {
  writes = w.apart;
  reads = subst (λ (xs : List (ReqId × OpenRead)). Apart xs) (sym reads) neat.reads;
  one_kind = λ q a b. neat.one_kind q
      (elim (found_before s.writes s'.writes id w.others q a) [ inl old ↦ old | inr same ↦ subst (λ (k : ReqId). Found (open_at s.writes k)) (sym same) w.there ])
      (subst (λ (xs : List (ReqId × OpenRead)). Found (open_at xs q)) reads b);
}

write_here : (s s' : NodeState) (id : ReqId) → WriteChange s id s'.writes → s'.reads ≡ s.reads → (q : ReqId) → IsHere s' q → IsHere s q ⊎ Never q
write_here s s' id w reads q h = inl (elim h [
  | inl a ↦ inl (elim (found_before s.writes s'.writes id w.others q a) [ inl old ↦ old | inr same ↦ subst (λ (k : ReqId). Found (open_at s.writes k)) (sym same) w.there ])
  | inr b ↦ inr (subst (λ (xs : List (ReqId × OpenRead)). Found (open_at xs q)) reads b)
])

-- the write goes on as it was, answered or not
write_still : (s s' : NodeState) (o : Effects) (id : ReqId) → IsNeat s → WriteChange s id s'.writes → s'.reads ≡ s.reads → (PendingWrite (open_at s'.writes id) ↔ PendingWrite (open_at s.writes id)) → ((q : ReqId) → answers_to o.entries q ≡ 0) → Turns Never s o s'
write_still s s' o id neat w reads this none = record {
  neat = write_neat s s' id neat w reads;
  here = write_here s s' id w reads;
  turn = still (λ q x. x) (λ q. subst (λ (ys : List (ReqId × OpenRead)). (PendingWrite (open_at s'.writes q) ⊎ Found (open_at ys q)) ↔ IsOpen s q) (sym reads)
      (both_same _ _ _ (same_at PendingWrite s.writes s'.writes id w.others this q))) none;
}

-- it is answered
write_told : (s s' : NodeState) (o : Effects) (id : ReqId) → IsNeat s → WriteChange s id s'.writes → s'.reads ≡ s.reads → (PendingWrite (open_at s'.writes id) → ⊥) → PendingWrite (open_at s.writes id) → ((q : ReqId) → answers_to o.entries q ≡ one_if (is_request id q) + 0)
    → Turns Never s o s'
write_told s s' o id neat w reads done pending count = record {
  neat = write_neat s s' id neat w reads;
  here = write_here s s' id w reads;
  turn = told (λ q x. x) id (inl pending) (λ q. subst (λ (ys : List (ReqId × OpenRead)). (PendingWrite (open_at s'.writes q) ⊎ Found (open_at ys q)) ↔ (IsOpen s q × q ≢ id)) (sym reads)
      (left_ends _ _ _ _ (ended_at PendingWrite s.writes s'.writes id w.others done q) (λ r same. neat.one_kind id w.there (subst (λ (k : ReqId). Found (open_at s.reads k)) same r)))) count;
}

record ReadChange (s : NodeState) (id : ReqId) (xs : List (ReqId × OpenRead)) : Type 0 where
  pub there : Found (open_at s.reads id)
  pub apart : Apart xs
  pub others : (q : ReqId) → q ≢ id → open_at xs q ≡ open_at s.reads q

read_neat : (s s' : NodeState) (id : ReqId) → IsNeat s → ReadChange s id s'.reads → s'.writes ≡ s.writes → IsNeat s'
read_neat s s' id neat r writes = record {
  reads = r.apart;
  writes = subst (λ (xs : List (ReqId × OpenWrite)). Apart xs) (sym writes) neat.writes;
  one_kind = λ q a b. neat.one_kind q (subst (λ (xs : List (ReqId × OpenWrite)). Found (open_at xs q)) writes a)
      (elim (found_before s.reads s'.reads id r.others q b) [ inl old ↦ old | inr same ↦ subst (λ (k : ReqId). Found (open_at s.reads k)) (sym same) r.there ]);
}

read_here : (s s' : NodeState) (id : ReqId) → ReadChange s id s'.reads → s'.writes ≡ s.writes → (q : ReqId) → IsHere s' q → IsHere s q ⊎ Never q
read_here s s' id r writes q h = inl (elim h [
  | inl a ↦ inl (subst (λ (xs : List (ReqId × OpenWrite)). Found (open_at xs q)) writes a)
  | inr b ↦ inr (elim (found_before s.reads s'.reads id r.others q b) [ inl old ↦ old | inr same ↦ subst (λ (k : ReqId). Found (open_at s.reads k)) (sym same) r.there ])
])

read_still : (s s' : NodeState) (o : Effects) (id : ReqId) → IsNeat s → ReadChange s id s'.reads → s'.writes ≡ s.writes → Found (open_at s'.reads id) → ((q : ReqId) → answers_to o.entries q ≡ 0) → Turns Never s o s'
read_still s s' o id neat r writes this none = record {
  neat = read_neat s s' id neat r writes;
  here = read_here s s' id r writes;
  turn = still (λ q x. x) (λ q. subst (λ (xs : List (ReqId × OpenWrite)). (PendingWrite (open_at xs q) ⊎ Found (open_at s'.reads q)) ↔ IsOpen s q) (sym writes)
      (right_same _ _ _ (same_at (λ (o : Option OpenRead). Found o) s.reads s'.reads id r.others (λ x. r.there, λ x. this) q))) none;
}

read_told : (s s' : NodeState) (o : Effects) (id : ReqId) → IsNeat s → ReadChange s id s'.reads → s'.writes ≡ s.writes → (Found (open_at s'.reads id) → ⊥) → ((q : ReqId) → answers_to o.entries q ≡ one_if (is_request id q) + 0) → Turns Never s o s'
read_told s s' o id neat r writes done count = record {
  neat = read_neat s s' id neat r writes;
  here = read_here s s' id r writes;
  turn = told (λ q x. x) id (inr r.there) (λ q. subst (λ (xs : List (ReqId × OpenWrite)). (PendingWrite (open_at xs q) ⊎ Found (open_at s'.reads q)) ↔ (IsOpen s q × q ≢ id)) (sym writes)
      (right_ends _ _ _ _ (ended_at (λ (o : Option OpenRead). Found o) s.reads s'.reads id r.others done q) (λ w same. neat.one_kind id (subst (λ (k : ReqId). Found (open_at s.writes k)) same (pending_found (open_at s.writes q) w)) r.there))) count;
}

-- ---- the moves

of_state : {X : Type 0} (f : NodeState → X) (s' r : NodeState) (x : X) → s' ≡ r → f r ≡ x → f s' ≡ x
of_state {X} f s' r x is same = ap f is ∙ same

no_answers : (es : List Entry) (fs : List Entry) → es ≡ fs → ((q : ReqId) → answers_to fs q ≡ 0) → (q : ReqId) → answers_to es q ≡ 0
no_answers es fs is none q = ap (λ (xs : List Entry). answers_to xs q) is ∙ none q

one_answer : (es : List Entry) (e : Entry) (id : ReqId) → es ≡ e ∷ [] → ((q : ReqId) → answers_to (e ∷ []) q ≡ one_if (is_request id q) + 0) → (q : ReqId) → answers_to es q ≡ one_if (is_request id q) + 0
one_answer es e id is count q = ap (λ (xs : List Entry). answers_to xs q) is ∙ count q

-- a write that was found is set, or removed
write_set : (s : NodeState) (id : ReqId) (w w' : OpenWrite) (xs : List (ReqId × OpenWrite)) → IsNeat s → open_at s.writes id ≡ Some w → xs ≡ set_value (is_at (request_cmp id)) s.writes w' → WriteChange s id xs × (open_at xs id ≡ Some w')
write_set s id w w' xs neat found is = (
  record {
    there = found_some s.writes id w found;
    apart = subst (λ (ys : List (ReqId × OpenWrite)). Apart ys) (sym is) (set_apart s.writes id w' neat.writes);
    others = λ q other. ap (λ (ys : List (ReqId × OpenWrite)). open_at ys q) is ∙ set_other s.writes id w' q other;
  },
  ap (λ (ys : List (ReqId × OpenWrite)). open_at ys id) is ∙ set_same s.writes id w' w found,
)

write_removed : (s : NodeState) (id : ReqId) (w : OpenWrite) (xs : List (ReqId × OpenWrite)) → IsNeat s → open_at s.writes id ≡ Some w → xs ≡ remove_entry (is_at (request_cmp id)) s.writes → WriteChange s id xs × (open_at xs id ≡ None)
write_removed s id w xs neat found is = (
  record {
    there = found_some s.writes id w found;
    apart = subst (λ (ys : List (ReqId × OpenWrite)). Apart ys) (sym is) (remove_apart s.writes id neat.writes);
    others = λ q other. ap (λ (ys : List (ReqId × OpenWrite)). open_at ys q) is ∙ remove_other s.writes id q other;
  },
  ap (λ (ys : List (ReqId × OpenWrite)). open_at ys id) is ∙ remove_same s.writes id neat.writes,
)

read_set : (s : NodeState) (id : ReqId) (r r' : OpenRead) (xs : List (ReqId × OpenRead)) → IsNeat s → open_at s.reads id ≡ Some r → xs ≡ set_value (is_at (request_cmp id)) s.reads r' → ReadChange s id xs × (open_at xs id ≡ Some r')
read_set s id r r' xs neat found is = (
  record {
    there = found_some s.reads id r found;
    apart = subst (λ (ys : List (ReqId × OpenRead)). Apart ys) (sym is) (set_apart s.reads id r' neat.reads);
    others = λ q other. ap (λ (ys : List (ReqId × OpenRead)). open_at ys q) is ∙ set_other s.reads id r' q other;
  },
  ap (λ (ys : List (ReqId × OpenRead)). open_at ys id) is ∙ set_same s.reads id r' r found,
)

read_removed : (s : NodeState) (id : ReqId) (r : OpenRead) (xs : List (ReqId × OpenRead)) → IsNeat s → open_at s.reads id ≡ Some r → xs ≡ remove_entry (is_at (request_cmp id)) s.reads → ReadChange s id xs × (open_at xs id ≡ None)
read_removed s id r xs neat found is = (
  record {
    there = found_some s.reads id r found;
    apart = subst (λ (ys : List (ReqId × OpenRead)). Apart ys) (sym is) (remove_apart s.reads id neat.reads);
    others = λ q other. ap (λ (ys : List (ReqId × OpenRead)). open_at ys q) is ∙ remove_other s.reads id q other;
  },
  ap (λ (ys : List (ReqId × OpenRead)). open_at ys id) is ∙ remove_same s.reads id neat.reads,
)

true_false : true ≡ false → ⊥
true_false e = cc

-- whether the write of an option is pending
pending_is : (o : Option OpenWrite) (w : OpenWrite) (b : Bool) → o ≡ Some w → w.answered ≡ b → PendingWrite o → b ≡ false
pending_is o w b is answered h = sym answered ∙ subst PendingWrite is h

is_pending : (o : Option OpenWrite) (w : OpenWrite) → o ≡ Some w → w.answered ≡ false → PendingWrite o
is_pending o w is answered = subst PendingWrite (sym is) answered

none_pending : (o : Option OpenWrite) → o ≡ None → PendingWrite o → ⊥
none_pending o is h = subst PendingWrite is h

-- an acknowledgement: by whether it was answered, whether they are enough now, and whether none is missing
ack_case : (s s' : NodeState) (o : Effects) (id : ReqId) (v w w' : OpenWrite) (a e t : Bool) → IsNeat s → open_at s.writes id ≡ Some w → w.answered ≡ a → w'.answered ≡ (a || e) → o.entries ≡ ack_told a e id v
    → s'.writes ≡ after_move ((a || e) && t) id w' s.writes → s'.reads ≡ s.reads → Turns Never s o s'
ack_case s s' o id v w w' true e true neat found was now tells is reads =
    let c = write_removed s id w s'.writes neat found is in
    write_still s s' o id neat c.0 reads (λ h. absurd (none_pending _ c.1 h), λ h. absurd (true_false (pending_is _ w true found was h))) (no_answers _ [] tells (λ q. refl))
ack_case s s' o id v w w' true e false neat found was now tells is reads =
    let c = write_set s id w w' s'.writes neat found is in
    write_still s s' o id neat c.0 reads (λ h. absurd (true_false (pending_is _ w' true c.1 now h)), λ h. absurd (true_false (pending_is _ w true found was h))) (no_answers _ [] tells (λ q. refl))
ack_case s s' o id v w w' false true true neat found was now tells is reads =
    let c = write_removed s id w s'.writes neat found is in
    write_told s s' o id neat c.0 reads (none_pending _ c.1) (is_pending _ w found was) (one_answer _ (Acked id v.level v.heard) id tells (λ q. refl))
ack_case s s' o id v w w' false true false neat found was now tells is reads =
    let c = write_set s id w w' s'.writes neat found is in
    write_told s s' o id neat c.0 reads (λ h. true_false (pending_is _ w' true c.1 now h)) (is_pending _ w found was) (one_answer _ (Acked id v.level v.heard) id tells (λ q. refl))
ack_case s s' o id v w w' false false t neat found was now tells is reads =
    let c = write_set s id w w' s'.writes neat found is in
    write_still s s' o id neat c.0 reads (λ h. is_pending _ w found was, λ h. is_pending _ w' c.1 now) (no_answers _ [] tells (λ q. refl))

ack_turns : (c : Setting) (s s' : NodeState) (o : Effects) (id : ReqId) (from : ℕ) (found : Option OpenWrite) (turn : Move) → IsNeat s → open_at s.writes id ≡ found → Takes (HearsAck c id from) id s.writes found turn s'.writes
    → o ≡ effects_of turn → s'.reads ≡ s.reads → Turns Never s o s'
ack_turns c s s' o id from None turn neat found h is reads =
    untouched s s' o neat h.1 reads (no_answers o.entries [] (ap (λ (x : Effects). x.entries) is ∙ ap (λ (t : Move). t.entries) h.0) (λ q. refl))
ack_turns c s s' o id from (Some w) turn neat found (w', (acts, next), same) is reads =
    let v = heard_write c from w in
    ack_case s s' o id v w w' w.answered (is_enough c v) (is_settled c v) neat found refl (ap (λ (x : OpenWrite). x.answered) next) (ap (λ (x : Effects). x.entries) is ∙ ap (λ (t : Move). t.entries) acts)
    (same ∙ ap (λ (t : Move). after_move t.ended id w' s.writes) acts) reads

-- what comes of a reply: no answer yet, or rows
abbrev Replied : ReqId → Move → Type 0
Replied id turn = ((turn.ended ≡ false) × (turn.entries ≡ [])) ⊎ ((turn.ended ≡ true) × ((q : ReqId) → answers_to turn.entries q ≡ one_if (is_request id q) + 0))

reply_quiet : (id : ReqId) (turn : Move) → turn ≡ quiet_move → Replied id turn
reply_quiet id turn is = inl (ap (λ (t : Move). t.ended) is, ap (λ (t : Move). t.entries) is)

reply_tells : (id : ReqId) (r : OpenRead) (turn : Move) → TellsRows id r turn → Replied id turn
reply_tells id r turn (rows, more, shown, is) = inr (ap (λ (t : Move). t.ended) is, λ q. ap (λ (t : Move). answers_to t.entries q) is)

mends_tell : (id : ReqId) (r r' : OpenRead) (ks : List ℕ) (sent turn : Move) → sent.ended ≡ false → sent.entries ≡ [] → AwaitsMends id r ks sent turn r' → Replied id turn
mends_tell id r r' [] sent turn goes none h = reply_tells id r turn h
mends_tell id r r' (k ∷ ks) sent turn goes none h = inl (ap (λ (t : Move). t.ended) h.0 ∙ goes, ap (λ (t : Move). t.entries) h.0 ∙ none)

reply_counts : (b : Bool) (c : Setting) (id : ReqId) (r r' : OpenRead) (turn : Move) → MatchBool b ((turn ≡ quiet_move) × (r' ≡ r)) (AwaitsMends id r (differing c r) (mends id r (differing c r)) turn r') → Replied id turn
reply_counts true c id r r' turn h = reply_quiet id turn h.0
reply_counts false c id r r' turn h = mends_tell id r r' (differing c r) (mends id r (differing c r)) turn refl refl h

reply_comes : (b : Bool) (c : Setting) (id : ReqId) (from : ℕ) (content : List Held) (r r' : OpenRead) (turn : Move) → MatchBool b ((turn ≡ quiet_move) × (r' ≡ r)) (MergesReply c id from content r turn r') → Replied id turn
reply_comes true c id from content r r' turn h = reply_quiet id turn h.0
reply_comes false c id from content r r' turn (n, is, merge, counts) = reply_counts (nat_lt (replies_of c n) (read_needs c n)) c id n r' turn counts

mend_comes : (b : Bool) (id : ReqId) (r r' : OpenRead) (ks : List ℕ) (turn : Move) → MatchBool b (AwaitsMends id r ks quiet_move turn r') ((turn ≡ quiet_move) × (r' ≡ r)) → Replied id turn
mend_comes true id r r' ks turn h = mends_tell id r r' ks quiet_move turn refl refl h
mend_comes false id r r' ks turn h = reply_quiet id turn h.0

none_read : (o : Option OpenRead) → o ≡ None → Found o → ⊥
none_read o is h = subst (λ (x : Option OpenRead). Found x) is h

reply_turns : (Step : OpenRead → Move → OpenRead → Type 0) (s s' : NodeState) (o : Effects) (id : ReqId) (found : Option OpenRead) (turn : Move) → ((r r' : OpenRead) → Step r turn r' → Replied id turn) → IsNeat s → open_at s.reads id ≡ found
    → Takes Step id s.reads found turn s'.reads → o ≡ effects_of turn → s'.writes ≡ s.writes → Turns Never s o s'
reply_turns Step s s' o id None turn comes neat found h is writes =
    untouched s s' o neat writes h.1 (no_answers o.entries [] (ap (λ (x : Effects). x.entries) is ∙ ap (λ (t : Move). t.entries) h.0) (λ q. refl))
reply_turns Step s s' o id (Some r) turn comes neat found (r', step, same) is writes = elim (comes r r' step) [
  | inl (goes, none) ↦
      let z = read_set s id r r' s'.reads neat found (same ∙ ap (λ (b : Bool). after_move b id r' s.reads) goes) in
      read_still s s' o id neat z.0 writes (found_some s'.reads id r' z.1) (no_answers o.entries [] (ap (λ (x : Effects). x.entries) is ∙ none) (λ q. refl))
  | inr tells ↦
      let z = read_removed s id r s'.reads neat found (same ∙ ap (λ (b : Bool). after_move b id r' s.reads) tells.0) in
      read_told s s' o id neat z.0 writes (none_read _ z.1) (λ q. ap (λ (x : Effects). answers_to x.entries q) is ∙ tells.1 q)
]

acked_lists : (c : Setting) (b : Bool) (s : NodeState) (peer number : ℕ) → let r : NodeState = if b then with_sent c (hint_done s peer number) peer else hint_done s peer number in (r.writes ≡ s.writes) × (r.reads ≡ s.reads)
acked_lists c true s peer number = (refl, refl)
acked_lists c false s peer number = (refl, refl)

-- nothing comes of it for requests
unmoved : (s s' r : NodeState) (o p : Effects) → IsNeat s → s' ≡ r → r.writes ≡ s.writes → r.reads ≡ s.reads → o ≡ p → ((q : ReqId) → answers_to p.entries q ≡ 0) → Turns Never s o s'
unmoved s s' r o p neat is writes reads same none =
    untouched s s' o neat (ap (λ (x : NodeState). x.writes) is ∙ writes) (ap (λ (x : NodeState). x.reads) is ∙ reads) (λ q. ap (λ (x : Effects). answers_to x.entries q) same ∙ none q)

merge_turns : (a : Asker) (m : Mutation) (fits : Bool) (s : NodeState) (o : Effects) (s' : NodeState) → IsNeat s → MatchBool fits (TakesChanges a m.partition m.changes MendAck s o s') ((o ≡ nothing) × (s' ≡ s)) → Turns Never s o s'
merge_turns a m true s o s' neat h = unmoved s s' _ o _ neat h.3 refl refl h.2 (λ q. refl)
merge_turns a m false s o s' neat h = unmoved s s' s o nothing neat h.1 refl refl h.0 (λ q. refl)

body_turns : (c : Setting) (me : ℕ) (a : Asker) (b : Body) (s : NodeState) (o : Effects) (s' : NodeState) → IsNeat s → HearsBody c me a b s o s' → Turns Never s o s'
body_turns c me a (Write m) s o s' neat h = unmoved s s' _ o _ neat h.3 refl refl h.2 (λ q. refl)
body_turns c me a WriteAck s o s' neat (turn, moves, is, same) = ack_turns c s s' o a.request a.from (open_at s.writes a.request) turn neat refl moves is (ap (λ (x : NodeState). x.reads) same)
body_turns c me a (Read q) s o s' neat h = unmoved s s' s o _ neat h.3 refl refl h.2 (λ q. refl)
body_turns c me a (ReadReply content) s o s' neat (turn, moves, is, same) =
    reply_turns (HearsReply c a.request a.from content) s s' o a.request (open_at s.reads a.request) turn (λ r r' step. reply_comes (is_stray c a.from r) c a.request a.from content r r' turn step) neat refl moves is (ap (λ (x : NodeState). x.writes) same)
body_turns c me a (Mend m) s o s' neat h = merge_turns a m (write_fits c m) s o s' neat h
body_turns c me a MendAck s o s' neat (turn, moves, is, same) =
    reply_turns (HearsMendAck c a.request a.from) s s' o a.request (open_at s.reads a.request) turn (λ r r' step. mend_comes (is_awaited r.mending a.from) a.request r r' (mended_by r.mending a.from) turn step) neat refl moves is
    (ap (λ (x : NodeState). x.writes) same)
body_turns c me a (Hint number m) s o s' neat h = unmoved s s' _ o _ neat h.3 refl refl h.2 (λ q. refl)
body_turns c me a (HintAck number) s o s' neat h =
    let lists = acked_lists c (is_last s a.from number) s a.from number in
    unmoved s s' _ o _ neat h.1 lists.0 lists.1 h.0 (λ q. refl)

comes_turns : (c : Setting) (me : ℕ) (m : Incoming) (old : Bool) (s : NodeState) (o : Effects) (s' : NodeState) → IsNeat s → MatchBool old ((o ≡ nothing) × (s' ≡ s)) (HearsBody c me (asker_of m) m.body s o s') → Turns Never s o s'
comes_turns c me m true s o s' neat h = unmoved s s' s o nothing neat h.1 refl refl h.0 (λ q. refl)
comes_turns c me m false s o s' neat h = body_turns c me (asker_of m) m.body s o s' neat h

-- ---- requests

-- it is this id, and there is a reason for it
abbrev pub Begun : Type 0 → ReqId → ReqId → Type 0
Begun B at q = B × (q ≡ at)

begun_new : (B : Type 0) (b : B) (x y : Type 0) (at q : ReqId) → (x ↔ (y ⊎ (q ≡ at))) → x ↔ (y ⊎ Begun B at q)
begun_new B b x y at q h = (λ z. elim (h.0 z) [ inl l ↦ inl l | inr r ↦ inr (b, r) ], λ z. elim z [ inl l ↦ h.1 (inl l) | inr r ↦ h.1 (inr r.1) ])

absent : {A : Type 0} (o : Option A) → (Found o → ⊥) → o ≡ None
absent {A} None h = refl
absent {A} (Some a) h = absurd (h tt)

begins_write : (B : Type 0) (b : B) (at : ReqId) (s s' r : NodeState) (o p : Effects) (w : OpenWrite) → IsNeat s → (IsHere s at → ⊥) → s' ≡ r → r.writes ≡ insert_entry request_cmp s.writes at w → r.reads ≡ s.reads → w.answered ≡ false → o ≡ p → ((q : ReqId) → answers_to p.entries q ≡ 0) → Turns (Begun B at) s o s'
begins_write B b at s s' r o p w neat new is writes reads fresh same none =
    let xs : s'.writes ≡ insert_entry request_cmp s.writes at w = ap (λ (x : NodeState). x.writes) is ∙ writes in
    let ys : s'.reads ≡ s.reads = ap (λ (x : NodeState). x.reads) is ∙ reads in
    let none_yet : open_at s.writes at ≡ None = absent (open_at s.writes at) (λ f. new (inl f)) in
    let others : (q : ReqId) → q ≢ at → open_at s'.writes q ≡ open_at s.writes q = λ q other. ap (λ (zs : List (ReqId × OpenWrite)). open_at zs q) xs ∙ insert_other s.writes at w q other in
    let there : open_at s'.writes at ≡ Some w = ap (λ (zs : List (ReqId × OpenWrite)). open_at zs at) xs ∙ insert_same s.writes at w in
    record {
      neat = record {
        writes = subst (λ (zs : List (ReqId × OpenWrite)). Apart zs) (sym xs) (insert_apart s.writes at w none_yet neat.writes);
        reads = subst (λ (zs : List (ReqId × OpenRead)). Apart zs) (sym ys) neat.reads;
        one_kind = λ q a e.
            let b' : Found (open_at s.reads q) = subst (λ (zs : List (ReqId × OpenRead)). Found (open_at zs q)) ys e in
            elim (found_before s.writes s'.writes at others q a) [ inl old ↦ neat.one_kind q old b' | inr here ↦ new (inr (subst (λ (k : ReqId). Found (open_at s.reads k)) here b')) ];
      };
      here = λ q h. elim h [
        | inl a ↦ elim (found_before s.writes s'.writes at others q a) [ inl old ↦ inl (inl old) | inr here ↦ inr (b, here) ]
        | inr e ↦ inl (inr (subst (λ (zs : List (ReqId × OpenRead)). Found (open_at zs q)) ys e))
      ];
      turn = opens (λ q. subst (λ (zs : List (ReqId × OpenRead)). (PendingWrite (open_at s'.writes q) ⊎ Found (open_at zs q)) ↔ (IsOpen s q ⊎ Begun B at q)) (sym ys)
          (left_begins _ _ _ _ (begun_new B b _ _ at q (begun_at PendingWrite s.writes s'.writes at others (is_pending _ w there fresh) q)))) (λ q. ap (λ (x : Effects). answers_to x.entries q) same ∙ none q);
    }

begins_read : (B : Type 0) (b : B) (at : ReqId) (s s' r : NodeState) (o p : Effects) (x : OpenRead) → IsNeat s → (IsHere s at → ⊥) → s' ≡ r → r.reads ≡ insert_entry request_cmp s.reads at x → r.writes ≡ s.writes → o ≡ p → ((q : ReqId) → answers_to p.entries q ≡ 0) → Turns (Begun B at) s o s'
begins_read B b at s s' r o p x neat new is reads writes same none =
    let xs : s'.writes ≡ s.writes = ap (λ (x : NodeState). x.writes) is ∙ writes in
    let ys : s'.reads ≡ insert_entry request_cmp s.reads at x = ap (λ (x : NodeState). x.reads) is ∙ reads in
    let none_yet : open_at s.reads at ≡ None = absent (open_at s.reads at) (λ f. new (inr f)) in
    let others : (q : ReqId) → q ≢ at → open_at s'.reads q ≡ open_at s.reads q = λ q other. ap (λ (zs : List (ReqId × OpenRead)). open_at zs q) ys ∙ insert_other s.reads at x q other in
    let there : open_at s'.reads at ≡ Some x = ap (λ (zs : List (ReqId × OpenRead)). open_at zs at) ys ∙ insert_same s.reads at x in
    record {
      neat = record {
        reads = subst (λ (zs : List (ReqId × OpenRead)). Apart zs) (sym ys) (insert_apart s.reads at x none_yet neat.reads);
        writes = subst (λ (zs : List (ReqId × OpenWrite)). Apart zs) (sym xs) neat.writes;
        one_kind = λ q a e.
            let a' : Found (open_at s.writes q) = subst (λ (zs : List (ReqId × OpenWrite)). Found (open_at zs q)) xs a in
            elim (found_before s.reads s'.reads at others q e) [ inl old ↦ neat.one_kind q a' old | inr here ↦ new (inl (subst (λ (k : ReqId). Found (open_at s.writes k)) here a')) ];
      };
      here = λ q h. elim h [
        | inl a ↦ inl (inl (subst (λ (zs : List (ReqId × OpenWrite)). Found (open_at zs q)) xs a))
        | inr e ↦ elim (found_before s.reads s'.reads at others q e) [ inl old ↦ inl (inr old) | inr here ↦ inr (b, here) ]
      ];
      turn = opens (λ q. subst (λ (zs : List (ReqId × OpenWrite)). (PendingWrite (open_at zs q) ⊎ Found (open_at s'.reads q)) ↔ (IsOpen s q ⊎ Begun B at q)) (sym xs)
          (right_begins _ _ _ _ (begun_new B b _ _ at q (begun_at (λ (o : Option OpenRead). Found o) s.reads s'.reads at others (found_some s'.reads at x there) q)))) (λ q. ap (λ (x : Effects). answers_to x.entries q) same ∙ none q);
    }

turns_as : (New : ReqId → Type 0) (s : NodeState) (o p : Effects) (s' r : NodeState) → o ≡ p → s' ≡ r → Turns New s p r → Turns New s o s'
turns_as New s o p s' r is same h = subst (λ (x : Effects). Turns New s x s') (sym is) (subst (λ (x : NodeState). Turns New s p x) (sym same) h)

answered_now : (B : Type 0) (b : B) (at : ReqId) (s s' : NodeState) (o p : Effects) → IsNeat s → s' ≡ s → o ≡ p → ((q : ReqId) → answers_to p.entries q ≡ one_if (is_request at q) + 0) → Turns (Begun B at) s o s'
answered_now B b at s s' o p neat is same count = turns_as (Begun B at) s o p s' s same is (record { neat = neat; here = λ q h. inl h; turn = refuses at (b, refl) (λ q. (λ x. x, λ x. x)) count })

asks_turns : (B : Type 0) (b : B) (at : ReqId) (c : Setting) (p : Plan) (l : Level) (r : Option Refusal) (s : NodeState) (o : Effects) (s' : NodeState) → IsNeat s → (IsHere s at → ⊥) → BeginsOrRefuses c at p l r s o s' → Turns (Begun B at) s o s'
asks_turns B b at c (plan.Write d) l None s o s' neat new h = begins_write B b at s s' _ o _ (started_write at l d (hinted_at c s d)) neat new h.1 refl refl refl h.0 (λ q. refl)
asks_turns B b at c (plan.Read q columns) l None s o s' neat new h = begins_read B b at s s' _ o _ (started_read l q) neat new h.1 refl refl h.0 (λ q. refl)
asks_turns B b at c (plan.Use keyspace) l None s o s' neat new h = answered_now B b at s s' o _ neat h.1 h.0 (λ q. refl)
asks_turns B b at c (plan.Invalid fault) l None s o s' neat new h = absurd h
asks_turns B b at c p l (Some r) s o s' neat new h = answered_now B b at s s' o _ neat h.1 h.0 (λ q. refl)

-- ---- deadlines

end_case : (s s' : NodeState) (o : Effects) (id : ReqId) (w : OpenWrite) (r : Refusal) (a : Bool) → IsNeat s → open_at s.writes id ≡ Some w → w.answered ≡ a → o.entries ≡ (if a then [] else Refused id r ∷ []) → s'.writes ≡ remove_entry (is_at (request_cmp id)) s.writes
    → s'.reads ≡ s.reads → Turns Never s o s'
end_case s s' o id w r true neat found was tells is reads =
    let c = write_removed s id w s'.writes neat found is in
    write_still s s' o id neat c.0 reads (λ h. absurd (none_pending _ c.1 h), λ h. absurd (true_false (pending_is _ w true found was h))) (no_answers _ [] tells (λ q. refl))
end_case s s' o id w r false neat found was tells is reads =
    let c = write_removed s id w s'.writes neat found is in
    write_told s s' o id neat c.0 reads (none_pending _ c.1) (is_pending _ w found was) (one_answer _ (Refused id r) id tells (λ q. refl))

ends_read_turns : (c : Setting) (id : ReqId) (r : Option OpenRead) (s : NodeState) (o : Effects) (s' : NodeState) → IsNeat s → open_at s.reads id ≡ r → EndsRead c id r s o s' → Turns Never s o s'
ends_read_turns c id None s o s' neat found h = unmoved s s' s o nothing neat h.1 refl refl h.0 (λ q. refl)
ends_read_turns c id (Some r) s o s' neat found h =
    let z = read_removed s id r s'.reads neat found (ap (λ (x : NodeState). x.reads) h.1) in
    read_told s s' o id neat z.0 (ap (λ (x : NodeState). x.writes) h.1) (none_read _ z.1) (λ q. ap (λ (x : Effects). answers_to x.entries q) h.0)

ends_turns : (c : Setting) (id : ReqId) (w : Option OpenWrite) (s : NodeState) (o : Effects) (s' : NodeState) → IsNeat s → open_at s.writes id ≡ w → Ends c id w s o s' → Turns Never s o s'
ends_turns c id None s o s' neat found h = ends_read_turns c id (open_at s.reads id) s o s' neat refl h
ends_turns c id (Some w) s o s' neat found h =
    end_case s s' o id w _ w.answered neat found refl (ap (λ (x : Effects). x.entries) h.0) (ap (λ (x : NodeState). x.writes) h.1) (ap (λ (x : NodeState). x.reads) h.1)

marks_turns : (c : Setting) (s s' : NodeState) (o p : Effects) (peer : ℕ) (up : Bool) → IsNeat s → s' ≡ mark_state c s peer up → o ≡ p → ((q : ReqId) → answers_to p.entries q ≡ 0) → Turns Never s o s'
marks_turns c s s' o p peer true neat is same none = unmoved s s' _ o p neat is refl refl same none
marks_turns c s s' o p peer false neat is same none = unmoved s s' _ o p neat is refl refl same none

abbrev pub IsAsk : Act → Type 0
IsAsk a = (ask : Ask) × (a ≡ Asks ask)

-- a move that is no request begins none
lift_turn : (New : ReqId → Type 0) (s : NodeState) (o : Effects) (s' : NodeState) → ((q : ReqId) → New q → ⊥) → Turn Never s o s' → Turn New s o s'
lift_turn New s o s' never (still n f g) = still never f g
lift_turn New s o s' never (told n id f g h) = told never id f g h
lift_turn New s o s' never (opens f g) = still never (λ q. (λ x. elim ((f q).0 x) [ inl l ↦ l | inr r ↦ absurd r ], λ x. (f q).1 (inl x))) g
lift_turn New s o s' never (refuses id new f g) = absurd new

lift : (New : ReqId → Type 0) (s : NodeState) (o : Effects) (s' : NodeState) → ((q : ReqId) → New q → ⊥) → Turns Never s o s' → Turns New s o s'
lift New s o s' never h = record { neat = h.neat; here = λ q x. elim (h.here q x) [ inl l ↦ inl l | inr r ↦ absurd r ]; turn = lift_turn New s o s' never h.turn }

not_asking : (a : Act) (at : ReqId) → ((ask : Ask) → a ≡ Asks ask → ⊥) → (q : ReqId) → Begun (IsAsk a) at q → ⊥
not_asking a at none q h = none h.0.0 h.0.1

-- each move; a request is begun under an id that is not there
pub does_turns : (c : Setting) (k : ℕ) (s : NodeState) (a : Act) (o : Effects) (s' : NodeState) → IsNeat s → (IsAsk a → IsHere s (request_at k s.risen) → ⊥) → Does c k s a o s' → Turns (Begun (IsAsk a) (request_at k s.risen)) s o s'
does_turns c k s (Rises t) o s' neat new h = lift _ s o s' (not_asking (Rises t) _ (λ ask e. cc)) (unmoved s s' _ o nothing neat h.2 refl refl h.1 (λ q. refl))
does_turns c k s (Hears m) o s' neat new h = lift _ s o s' (not_asking (Hears m) _ (λ ask e. cc)) (comes_turns c k m (is_old c s.risen m.born) s o s' neat h)
does_turns c k s (Asks ask) o s' neat new h =
    asks_turns (IsAsk (Asks ask)) (ask, refl) (request_at k s.risen) c ask.plan ask.level (refusal_of c s (request_at k s.risen) ask.plan ask.level) s o s' neat (new (ask, refl)) h
does_turns c k s (Marks peer up) o s' neat new h = lift _ s o s' (not_asking (Marks peer up) _ (λ ask e. cc)) (marks_turns c s s' o _ peer up neat h.1 h.0 (λ q. refl))
does_turns c k s (DeadlineComes id) o s' neat new h = lift _ s o s' (not_asking (DeadlineComes id) _ (λ ask e. cc)) (ends_turns c id (open_at s.writes id) s o s' neat refl h)
does_turns c k s (HintExpires peer number) o s' neat new h = lift _ s o s' (not_asking (HintExpires peer number) _ (λ ask e. cc)) (unmoved s s' _ o nothing neat h.1 refl refl h.0 (λ q. refl))
