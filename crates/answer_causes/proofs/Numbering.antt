-- What is told at a deadline are the numbers of replicas heard of, and who waits on has heard of too few.
use Rattle.std.proofs.Common.{◌≡◌, ℕ, inl, inr, ◌⊎◌, ◌<◌, Bool, true, false, Option, Some, None, List, [], ◌∷◌, ◌++◌, refl, sym, ap, subst, ◌∙◌, arith, Contains, length}
use Rattle.std.specs.Prelude.{◌==◌, if◌then◌else◌, nat_lt, map, slice_get, slice_set}
use Rattle.std.proofs.lemmas.Bool.{eq-eqb}
use Rattle.std.proofs.lemmas.List.Elements.{Contains-append_cases}
use Rattle.cs_base.specs.declared.ids.ReqId.{ReqId}
use Rattle.cs_base.specs.declared.level.Level.{Level}
use Rattle.cs_base.proofs.Members.{contains_nil, contains_here, contains_one, contains_from_flat}
use Rattle.cs_base.proofs.Slots.{get_set}
use Rattle.peer_messages.specs.declared.chronicle.Entry.{Entry}
use Rattle.peer_messages.specs.declared.chronicle.Entry.TheVariants.{Refused}
use Rattle.peer_messages.specs.declared.chronicle.Refusal.{Refusal}
use Rattle.peer_messages.specs.declared.chronicle.Refusal.TheVariants.{WriteTimeout, ReadTimeout}
use Rattle.peer_messages.specs.declared.event.Ask.{Ask}
use Rattle.peer_messages.specs.declared.event.Event.{Event}
use Rattle.peer_messages.specs.declared.outcome.Outputs.{Outputs}
use Rattle.peer_messages.specs.declared.setting.Setting.{Setting}
use Rattle.peer_messages.specs.Settings.{replicas_of, needed, HasFactors}
use Rattle.durable_state.specs.State.{Durable}
use Rattle.node_steps.specs.State.{NodeState, OpenWrite, OpenRead, loaded, fresh_node}
use Rattle.node_steps.specs.Effects.{Effects, open_at}
use Rattle.node_steps.specs.Writes.{acks_of, write_needs}
use Rattle.node_steps.specs.Reads.{replies_of, read_needs, received_of}
use Rattle.node_steps.specs.Acts.{Act, Rises, Hears, Asks, Marks, DeadlineComes, HintExpires, Deed, Does, Ends, EndsRead, Chain, request_at}
use Rattle.node_steps.specs.Acts.Chain.{begun, own, matter}
use Rattle.node_steps.specs.Steps.{NodeStep, act_of, matter_of, is_ahead, looked_at, time_after, entries_of}
use Rattle.cluster_runs.specs.World.{World, Standing, Running, Down, Made}
use Rattle.cluster_runs.specs.Run.{Run}
use Rattle.cluster_runs.specs.Run.RunFrom.{begun as fresh, more as went_on, stopped_in, stopped, load, load_failed, turned}
use Rattle.cluster_runs.proofs.Lists.{all_same}
use Rattle.answer_causes.specs.Story.{Happening, Step, Halt, Load, story}
use Rattle.answer_causes.specs.Causes.{EachStep, IsTimeout}
use Rattle.answer_causes.specs.Numbers.{asked_then, asked_behind, asked_at, heard_then, heard_behind, heard_at, ReadTold, nothing_told, read_told_then, read_told_behind, read_told_at, WriteHeard, ReadHeard, replied_of, TellsNumbers}
use Rattle.answer_causes.proofs.Turns.{IsOpen, IsHere, IsNeat, IsAsk, PendingWrite, Found}
use Rattle.answer_causes.proofs.Steps.{AreOld, Facts, deed_of}
use Rattle.answer_causes.proofs.Chains.Stage.{at_start, going}
use Rattle.answer_causes.proofs.Chains.{IsHeard, IsLastAsk, HasAsk, Stage, sofar, within, deeds_do}
use Rattle.answer_causes.proofs.Waiting.{IsFaithful, due_acts, due_last, looked_last, becomes_old, known_step, step_faithful, away, known}
use Rattle.answer_causes.proofs.Phases.{IsQuiet, AreQuiet, parts, quiet_acts}
use Rattle.answer_causes.proofs.Timeouts.{all_quiet, lines_last, looked_line, heard_line, timeout_act}
use Rattle.answer_causes.proofs.Counting.{WriteIs, Counted, write_as, read_as, does_counted}
use Rattle.answer_causes.proofs.Counts.{same_count}
use Rattle.answer_causes.proofs.Reading.{Told, ReadIs, is_received, received_low, some_replied}

-- ---- functions that agree

counted_as : (c : Setting) (s : NodeState) (a a' : ReqId → Option Ask) (k k' : ReqId → List ℕ) (r r' : ReqId → Told) → ((id : ReqId) → a' id ≡ a id) → ((id : ReqId) → k' id ≡ k id) → ((id : ReqId) (replicas : List ℕ) (n : ℕ) → r' id replicas n ≡ r id replicas n)
    → Counted c s a k r → Counted c s a' k' r'
counted_as c s a a' k k' r r' same_a same_k same_r h = record {
  writes = λ id w found. write_as c w (a id) (a' id) (k id) (k' id) (same_a id) (same_k id) (h.writes id w found);
  reads = λ id x found. read_as c x (a id) (a' id) (r id) (r' id) (same_a id) (same_r id) (h.reads id x found);
}

asked_push : (id : ReqId) (deeds : List Deed) (d : Deed) (first : Option Ask) → asked_behind id (deeds ++ d ∷ []) first ≡ asked_then id d.node d.before.risen d.act (asked_behind id deeds first)
asked_push id [] d first = refl
asked_push id (x ∷ xs) d first = asked_push id xs d (asked_then id x.node x.before.risen x.act first)

heard_push : (c : Setting) (id : ReqId) (deeds : List Deed) (d : Deed) (first : List ℕ) → heard_behind c id (deeds ++ d ∷ []) first ≡ heard_then c id d.node d.before.risen d.act (heard_behind c id deeds first)
heard_push c id [] d first = refl
heard_push c id (x ∷ xs) d first = heard_push c id xs d (heard_then c id x.node x.before.risen x.act first)

told_push : (replicas : List ℕ) (n : ℕ) (c : Setting) (id : ReqId) (deeds : List Deed) (d : Deed) (first : ReadTold) → read_told_behind replicas n c id (deeds ++ d ∷ []) first ≡ read_told_then replicas n c id d.node d.before.risen d.act (read_told_behind replicas n c id deeds first)
told_push replicas n c id [] d first = refl
told_push replicas n c id (x ∷ xs) d first = told_push replicas n c id xs d (read_told_then replicas n c id x.node x.before.risen x.act first)

-- ---- a chain

none_some : {X : Type 0} (x : X) → None ≡ Some x → ⊥
none_some {X} x e = cc

head_is : (a b : Act) (xs ys : List Act) → a ∷ xs ≡ b ∷ ys → a ≡ b
head_is a b xs ys e = cc

-- a request is begun under an id that is not there
next_new : (c : Setting) (k t : ℕ) (ms : List Act) (s : NodeState) (deeds : List Deed) (mid : NodeState) (a : Act) (p l left : List Act) → AreOld t s → Stage t ms s deeds mid p l → l ≡ a ∷ left → Facts k t s deeds mid → IsAsk a → IsHere mid (request_at k mid.risen) → ⊥
next_new c k t ms s _ _ a _ _ left old at_start e f ask there =
    let h : Rises t ≡ a = head_is (Rises t) a ms left e in
    let x : Rises t ≡ Asks ask.0 = h ∙ ask.1 in cc
next_new c k t ms s _ _ a _ _ left old (going deeds mid p l at last unasked) e f ask there =
    let in_all : HasAsk l = (a, subst (λ (xs : List Act). Contains xs a) (sym e) (contains_here a left), ask) in
    elim (f.here (request_at k mid.risen) there) [
      | inl first ↦ (let before = old (request_at k mid.risen) first in let risen = at.risen in let low : mid.risen < t = before in absurd (omega (arith, low, risen)))
      | inr new ↦ unasked in_all new.0
    ]

heard_asks_not : (a : Act) → IsHeard a → IsAsk a → ⊥
heard_asks_not a h ask = subst (λ (x : Act). IsHeard x) ask.1 h

abbrev CountedBy : Setting → NodeState → List Deed → (ReqId → Option Ask) → (ReqId → List ℕ) → (ReqId → Told) → Type 0
CountedBy c s deeds asked acks replies = Counted c s (λ id. asked_behind id deeds (asked id)) (λ id. heard_behind c id deeds (acks id)) (λ id replicas n. read_told_behind replicas n c id deeds (replies id replicas n))

counted_push : (c : Setting) (k : ℕ) (deeds : List Deed) (mid s' : NodeState) (a : Act) (o : Effects) (asked : ReqId → Option Ask) (acks : ReqId → List ℕ) (replies : ReqId → Told) → IsNeat mid → (IsAsk a → IsHere mid (request_at k mid.risen) → ⊥) → Does c k mid a o s'
    → CountedBy c mid deeds asked acks replies → CountedBy c s' (deeds ++ deed_of k a mid s' o ∷ []) asked acks replies
counted_push c k deeds mid s' a o asked acks replies neat new does h =
    let d = deed_of k a mid s' o in
    counted_as c s' _ _ _ _ _ _ (λ id. asked_push id deeds d (asked id)) (λ id. heard_push c id deeds d (acks id)) (λ id replicas n. told_push replicas n c id deeds d (replies id replicas n))
    (does_counted c k mid a o s' (λ id. asked_behind id deeds (asked id)) (λ id. heard_behind c id deeds (acks id)) (λ id replicas n. read_told_behind replicas n c id deeds (replies id replicas n)) neat new does h)

chain_counted : (c : Setting) (k t : ℕ) (ms : List Act) (s : NodeState) (asked : ReqId → Option Ask) (acks : ReqId → List ℕ) (replies : ReqId → Told) → IsNeat s → AreOld t s → IsLastAsk ms → Counted c s asked acks replies
    → (deeds : List Deed) (s' : NodeState) (pending left : List Act) → Chain c k s (Rises t ∷ ms) deeds s' pending left → CountedBy c s' deeds asked acks replies
chain_counted c k t ms s asked acks replies neat old last h _ _ _ _ begun = h
chain_counted c k t ms s asked acks replies neat old last h _ _ _ _ (own deeds mid s' a pending left o chain does) =
    let so = sofar c k t ms s neat old last deeds mid (a ∷ pending) left chain in
    counted_push c k deeds mid s' a o asked acks replies so.facts.neat (λ ask. absurd (heard_asks_not a (so.heard a (contains_here a pending)) ask)) does
    (chain_counted c k t ms s asked acks replies neat old last h deeds mid (a ∷ pending) left chain)
chain_counted c k t ms s asked acks replies neat old last h _ _ _ _ (matter deeds mid s' a left o chain does) =
    let so = sofar c k t ms s neat old last deeds mid [] (a ∷ left) chain in
    counted_push c k deeds mid s' a o asked acks replies so.facts.neat (next_new c k t ms s deeds mid a [] (a ∷ left) left old so.stage refl so.facts) does
    (chain_counted c k t ms s asked acks replies neat old last h deeds mid [] (a ∷ left) chain)

-- ---- what is due changes nothing of it

quiet_asked : (id : ReqId) (k t : ℕ) (a : Act) (x : Option Ask) → IsQuiet a → x ≡ asked_then id k t a x
quiet_asked id k t (Rises time) x quiet = refl
quiet_asked id k t (DeadlineComes r) x quiet = refl
quiet_asked id k t (HintExpires peer number) x quiet = refl
quiet_asked id k t (Hears m) x quiet = absurd quiet
quiet_asked id k t (Asks ask) x quiet = absurd quiet
quiet_asked id k t (Marks peer up) x quiet = absurd quiet

quiet_heard : (c : Setting) (id : ReqId) (k t : ℕ) (a : Act) (x : List ℕ) → IsQuiet a → x ≡ heard_then c id k t a x
quiet_heard c id k t (Rises time) x quiet = refl
quiet_heard c id k t (DeadlineComes r) x quiet = refl
quiet_heard c id k t (HintExpires peer number) x quiet = refl
quiet_heard c id k t (Hears m) x quiet = absurd quiet
quiet_heard c id k t (Asks ask) x quiet = absurd quiet
quiet_heard c id k t (Marks peer up) x quiet = absurd quiet

quiet_told : (replicas : List ℕ) (n : ℕ) (c : Setting) (id : ReqId) (k t : ℕ) (a : Act) (x : ReadTold) → IsQuiet a → x ≡ read_told_then replicas n c id k t a x
quiet_told replicas n c id k t (Rises time) x quiet = refl
quiet_told replicas n c id k t (DeadlineComes r) x quiet = refl
quiet_told replicas n c id k t (HintExpires peer number) x quiet = refl
quiet_told replicas n c id k t (Hears m) x quiet = absurd quiet
quiet_told replicas n c id k t (Asks ask) x quiet = absurd quiet
quiet_told replicas n c id k t (Marks peer up) x quiet = absurd quiet

quiet_not_ask : (a : Act) → IsQuiet a → IsAsk a → ⊥
quiet_not_ask a h ask = subst (λ (x : Act). IsQuiet x) ask.1 h

quiet_move : (c : Setting) (k : ℕ) (mid s' : NodeState) (a : Act) (o : Effects) (asked : ReqId → Option Ask) (acks : ReqId → List ℕ) (replies : ReqId → Told) → IsQuiet a → IsNeat mid → Does c k mid a o s' → Counted c mid asked acks replies → Counted c s' asked acks replies
quiet_move c k mid s' a o asked acks replies quiet neat does h =
    counted_as c s' _ asked _ acks _ replies (λ id. quiet_asked id k mid.risen a (asked id) quiet) (λ id. quiet_heard c id k mid.risen a (acks id) quiet) (λ id replicas n. quiet_told replicas n c id k mid.risen a (replies id replicas n) quiet)
    (does_counted c k mid a o s' asked acks replies neat (λ ask. absurd (quiet_not_ask a quiet ask)) does h)

cons_not_nil : (a : Act) (xs : List Act) → a ∷ xs ≡ [] → ⊥
cons_not_nil a xs e = cc

record Quietly (c : Setting) (deeds : List Deed) (s' : NodeState) (asked : ReqId → Option Ask) (acks : ReqId → List ℕ) (replies : ReqId → Told) : Type 0 where
  pub last : Counted c s' asked acks replies
  pub each : (d : Deed) → Contains deeds d → Counted c d.before asked acks replies

quiet_counted : (c : Setting) (k t : ℕ) (ms : List Act) (s : NodeState) (asked : ReqId → Option Ask) (acks : ReqId → List ℕ) (replies : ReqId → Told) → IsNeat s → AreOld t s → IsLastAsk ms → AreQuiet (Rises t ∷ ms) → Counted c s asked acks replies
    → (deeds : List Deed) (s' : NodeState) (pending left : List Act) → Chain c k s (Rises t ∷ ms) deeds s' pending left → Quietly c deeds s' asked acks replies
quiet_counted c k t ms s asked acks replies neat old last quiet h _ _ _ _ begun = record { last = h; each = λ d there. absurd (contains_nil d there) }
quiet_counted c k t ms s asked acks replies neat old last quiet h _ _ _ _ (own deeds mid s' a pending left o chain does) =
    absurd (cons_not_nil a pending (quiet_acts c k s (Rises t ∷ ms) quiet deeds mid (a ∷ pending) left chain).0)
quiet_counted c k t ms s asked acks replies neat old last quiet h _ _ _ _ (matter deeds mid s' a left o chain does) =
    let so = sofar c k t ms s neat old last deeds mid [] (a ∷ left) chain in
    let this = (quiet_acts c k s (Rises t ∷ ms) quiet deeds mid [] (a ∷ left) chain).1.0 a (contains_here a left) in
    let prev = quiet_counted c k t ms s asked acks replies neat old last quiet h deeds mid [] (a ∷ left) chain in
    record {
      last = quiet_move c k mid s' a o asked acks replies this so.facts.neat does prev.last;
      each = λ d there. elim (Contains-append_cases deeds _ d there) [ inl earlier ↦ prev.each d earlier | inr now ↦ subst (λ (x : Deed). Counted c x.before asked acks replies) (contains_one _ d now) prev.last ];
    }

-- ---- the numbers of a deadline

refused_same : (a b : ReqId) (x y : Refusal) → Refused a x ≡ Refused b y → (a ≡ b) × (x ≡ y)
refused_same a b x y e = (cc, cc)

write_not_read : (a b x y : ℕ) (d : Bool) → ReadTimeout x y d ≡ WriteTimeout a b → ⊥
write_not_read a b x y d e = cc

write_numbers : (a b x y : ℕ) → WriteTimeout x y ≡ WriteTimeout a b → (a ≡ x) × (b ≡ y)
write_numbers a b x y e = (cc, cc)

read_numbers : (a b x y : ℕ) (d e : Bool) → ReadTimeout x y d ≡ ReadTimeout a b e → (a ≡ x) × (b ≡ y) × (e ≡ d)
read_numbers a b x y d e h = (cc, cc, cc)

-- the write that is told
record WriteTold (c : Setting) (s : NodeState) (id : ReqId) (received blockfor : ℕ) : Type 0 where
  pub write : OpenWrite
  pub found : open_at s.writes id ≡ Some write
  pub waits : write.answered ≡ false
  pub were_heard : received ≡ acks_of c write
  pub were_needed : blockfor ≡ write_needs c write

record ReadRefused (c : Setting) (s : NodeState) (id : ReqId) (received blockfor : ℕ) (data_present : Bool) : Type 0 where
  pub read : OpenRead
  pub found : open_at s.reads id ≡ Some read
  pub were_received : received ≡ received_of c read
  pub were_needed : blockfor ≡ read_needs c read
  pub is_present : data_present ≡ nat_lt 0 (replies_of c read)

told_entry : (b : Bool) (id : ReqId) (r : Refusal) (e : Entry) → Contains (if b then [] else Refused id r ∷ []) e → (b ≡ false) × (Refused id r ≡ e)
told_entry true id r e there = absurd (contains_nil e there)
told_entry false id r e there = (refl, contains_one (Refused id r) e there)

ends_read_write : (c : Setting) (id : ReqId) (r : Option OpenRead) (s : NodeState) (o : Effects) (s' : NodeState) (received blockfor : ℕ) → EndsRead c id r s o s' → Contains o.entries (Refused id (WriteTimeout received blockfor)) → ⊥
ends_read_write c id None s o s' received blockfor h there = contains_nil _ (subst (λ (z : Effects). Contains z.entries (Refused id (WriteTimeout received blockfor))) h.0 there)
ends_read_write c id (Some r) s o s' received blockfor h there =
    write_not_read received blockfor _ _ _ (refused_same id id _ _ (contains_one _ _ (subst (λ (z : Effects). Contains z.entries (Refused id (WriteTimeout received blockfor))) h.0 there))).1

ends_write_told : (c : Setting) (id : ReqId) (w : Option OpenWrite) (s : NodeState) (o : Effects) (s' : NodeState) (received blockfor : ℕ) → open_at s.writes id ≡ w → Ends c id w s o s' → Contains o.entries (Refused id (WriteTimeout received blockfor)) → WriteTold c s id received blockfor
ends_write_told c id None s o s' received blockfor found h there = absurd (ends_read_write c id (open_at s.reads id) s o s' received blockfor h there)
ends_write_told c id (Some w) s o s' received blockfor found h there =
    let told = told_entry w.answered id (WriteTimeout (acks_of c w) (write_needs c w)) _ (subst (λ (z : Effects). Contains z.entries (Refused id (WriteTimeout received blockfor))) h.0 there) in
    let numbers = write_numbers received blockfor _ _ (refused_same id id _ _ told.1).1 in
    record { write = w; found = found; waits = told.0; were_heard = numbers.0; were_needed = numbers.1 }

ends_read_told : (c : Setting) (id : ReqId) (r : Option OpenRead) (s : NodeState) (o : Effects) (s' : NodeState) (received blockfor : ℕ) (d : Bool) → open_at s.reads id ≡ r → EndsRead c id r s o s' → Contains o.entries (Refused id (ReadTimeout received blockfor d)) → ReadRefused c s id received blockfor d
ends_read_told c id None s o s' received blockfor d found h there = absurd (contains_nil _ (subst (λ (z : Effects). Contains z.entries (Refused id (ReadTimeout received blockfor d))) h.0 there))
ends_read_told c id (Some r) s o s' received blockfor d found h there =
    let told = contains_one _ _ (subst (λ (z : Effects). Contains z.entries (Refused id (ReadTimeout received blockfor d))) h.0 there) in
    let numbers = read_numbers received blockfor (received_of c r) (read_needs c r) (nat_lt 0 (replies_of c r)) d (refused_same id id _ _ told).1 in
    record { read = r; found = found; were_received = numbers.0; were_needed = numbers.1; is_present = numbers.2 }

read_not_write : (a b x y : ℕ) (d : Bool) → WriteTimeout a b ≡ ReadTimeout x y d → ⊥
read_not_write a b x y d e = cc

ends_told_read : (c : Setting) (id : ReqId) (w : Option OpenWrite) (s : NodeState) (o : Effects) (s' : NodeState) (received blockfor : ℕ) (d : Bool) → Ends c id w s o s' → Contains o.entries (Refused id (ReadTimeout received blockfor d)) → ReadRefused c s id received blockfor d
ends_told_read c id None s o s' received blockfor d h there = ends_read_told c id (open_at s.reads id) s o s' received blockfor d refl h there
ends_told_read c id (Some w) s o s' received blockfor d h there =
    let told = told_entry w.answered id (WriteTimeout (acks_of c w) (write_needs c w)) _ (subst (λ (z : Effects). Contains z.entries (Refused id (ReadTimeout received blockfor d))) h.0 there) in
    absurd (read_not_write (acks_of c w) (write_needs c w) received blockfor d (refused_same id id _ _ told.1).1)

-- in the words of the story
write_heard : (c : Setting) (k : ℕ) (id : ReqId) (hs : List Happening) (w : OpenWrite) (received blockfor : ℕ) → WriteIs c w (asked_at k id hs) (heard_at c k id hs) → received ≡ acks_of c w → blockfor ≡ write_needs c w → WriteHeard c k id hs received blockfor
write_heard c k id hs w received blockfor h heard needs = record {
  ask = h.ask;
  partition = w.mutation.partition;
  was_asked = h.was_asked;
  for = h.for;
  were_heard = heard ∙ same_count (replicas_of c w.mutation.partition) w.heard (heard_at c k id hs) h.heard;
  were_needed = needs ∙ ap (λ (l : Level). needed c l w.mutation.partition) (sym h.level);
}

abbrev told_at : Setting → ℕ → List Happening → ReqId → Told
told_at c k hs id replicas n = read_told_at replicas n c k id hs

read_heard : (c : Setting) (k : ℕ) (id : ReqId) (hs : List Happening) (r : OpenRead) → ReadIs c r (asked_at k id hs) (told_at c k hs id) → ReadHeard c k id hs (received_of c r) (read_needs c r)
read_heard c k id hs r h = record {
  ask = h.ask;
  query = r.query;
  columns = h.columns;
  told = read_told_at (replicas_of c r.query.partition) (read_needs c r) c k id hs;
  was_asked = h.was_asked;
  for = h.for;
  were_needed = ap (λ (l : Level). needed c l r.query.partition) (sym h.level);
  was_told = refl;
  were_received = is_received c r (read_told_at (replicas_of c r.query.partition) (read_needs c r) c k id hs) h.is_told;
}

-- all that a read is told
abbrev ReadTells : Setting → ℕ → ReqId → List Happening → ℕ → ℕ → Bool → Type 0
ReadTells c k id hs received blockfor present = (heard : ReadHeard c k id hs received blockfor) × (present ≡ nat_lt 0 (replied_of (replicas_of c heard.query.partition) heard.told)) × (HasFactors c → received < blockfor)

read_told : (c : Setting) (k : ℕ) (id : ReqId) (hs : List Happening) (r : OpenRead) → ReadIs c r (asked_at k id hs) (told_at c k hs id) → ReadTells c k id hs (received_of c r) (read_needs c r) (nat_lt 0 (replies_of c r))
unfolding read_heard
read_told c k id hs r h = (read_heard c k id hs r h, some_replied c r _ h.is_told, λ factors. received_low c r _ h.is_told (h.some factors))

-- ---- a step

abbrev CountedAt : Setting → ℕ → NodeState → List Happening → Type 0
CountedAt c k s hs = Counted c s (λ id. asked_at k id hs) (λ id. heard_at c k id hs) (told_at c k hs)

-- a deadline is taken in a state in which the same is known as before the step
record FoundThen (c : Setting) (k : ℕ) (hs : List Happening) (deeds : List Deed) : Type 0 where
  pub at : (d : Deed) (id : ReqId) → Contains deeds d → d.act ≡ DeadlineComes id → CountedAt c k d.before hs

second_not : (c : Setting) (k time : ℕ) (e : Event) (m : NodeState) (deeds : List Deed) (s' : NodeState) → Chain c k m (matter_of c k (looked_at time e)) deeds s' [] [] → (d : Deed) (id : ReqId) → Contains deeds d → d.act ≡ DeadlineComes id → ⊥
second_not c k time e m deeds s' chain d id there is = elim ((within c k m (matter_of c k (looked_at time e)) deeds s' [] [] chain).acts d there) [
  | inl mine ↦ looked_line c k (is_ahead time e e.what) e.what id (subst (λ (a : Act). Contains (matter_of c k (looked_at time e)) a) is mine)
  | inr heard ↦ heard_line d.act id heard is
]

step_found : (c : Setting) (k : ℕ) (s : NodeState) (hs : List Happening) (e : Event) (deeds : List Deed) (o : Outputs) (s' : NodeState) → IsFaithful k s hs → CountedAt c k s hs → NodeStep c k s e deeds o s' → FoundThen c k hs deeds
step_found c k s hs e deeds o s' f h step =
    let t = time_after s e in
    let lines : List Act = map act_of step.due in
    let ms = matter_of c k (looked_at s.time e) in
    let each = due_acts c k t s step.due step.are_due in
    let quiet = all_quiet t lines each in
    let p = parts c k s (Rises t ∷ lines) ms deeds s' quiet step.moves in
    let first = quiet_counted c k t lines s (λ id. asked_at k id hs) (λ id. heard_at c k id hs) (told_at c k hs) f.neat (becomes_old k s hs e f) (lines_last lines each) quiet h p.first p.between [] [] p.due in
    record {
      at = λ d id there is. elim (Contains-append_cases p.first p.second d (subst (λ (xs : List Deed). Contains xs d) p.all there)) [
        | inl early ↦ first.each d early
        | inr late ↦ absurd (second_not c k s.time e p.between p.second s' p.rest d id late is)
      ];
    }

step_counted : (c : Setting) (k : ℕ) (s : NodeState) (hs : List Happening) (e : Event) (deeds : List Deed) (o : Outputs) (s' : NodeState) → IsFaithful k s hs → CountedAt c k s hs → NodeStep c k s e deeds o s' → CountedAt c k s' (Step k e deeds o ∷ hs)
step_counted c k s hs e deeds o s' f h step =
    let t = time_after s e in
    let lines : List Act = map act_of step.due in
    let ms = matter_of c k (looked_at s.time e) in
    let each = due_acts c k t s step.due step.are_due in
    let mine : (k == k) ≡ true = eq-eqb k k refl in
    counted_as c s' _ _ _ _ _ _
    (λ id. ap (λ (b : Bool). if b then asked_behind id deeds (asked_at k id hs) else asked_at k id hs) mine)
    (λ id. ap (λ (b : Bool). if b then heard_behind c id deeds (heard_at c k id hs) else heard_at c k id hs) mine)
    (λ id replicas n. ap (λ (b : Bool). if b then read_told_behind replicas n c id deeds (read_told_at replicas n c k id hs) else read_told_at replicas n c k id hs) mine)
    (chain_counted c k t (lines ++ ms) s (λ id. asked_at k id hs) (λ id. heard_at c k id hs) (told_at c k hs) f.neat (becomes_old k s hs e f) (due_last lines ms each (looked_last c k (is_ahead s.time e e.what) e.what)) h deeds s' [] [] step.moves)

-- what is found of an open request
found_one : {A : Type 0} (o : Option A) → Found o → (a : A) × (o ≡ Some a)
found_one {A} None h = absurd h
found_one {A} (Some a) h = (a, refl)

pending_one : (o : Option OpenWrite) → PendingWrite o → (w : OpenWrite) × (o ≡ Some w) × (w.answered ≡ false)
pending_one None h = absurd h
pending_one (Some w) h = (w, refl, h)

-- the move that tells of a timeout, and what was known then
record LineDeed (c : Setting) (k : ℕ) (hs : List Happening) (id : ReqId) (r : Refusal) : Type 0 where
  pub before : NodeState
  pub after : NodeState
  pub effects : Effects
  pub ends : Ends c id (open_at before.writes id) before effects after
  pub there : Contains effects.entries (Refused id r)
  pub counted : CountedAt c k before hs

line_deed : (c : Setting) (k : ℕ) (s : NodeState) (hs : List Happening) (e : Event) (deeds : List Deed) (o : Outputs) (s' : NodeState) → IsFaithful k s hs → CountedAt c k s hs → NodeStep c k s e deeds o s' → (id : ReqId) (r : Refusal) → IsTimeout r
    → Contains o.entries (Refused id r) → LineDeed c k hs id r
line_deed c k s hs e deeds o s' f h step id r timeout there =
    let x = contains_from_flat entries_of deeds (Refused id r) (subst (λ (z : Outputs). Contains z.entries (Refused id r)) step.outputs there) in
    let does = deeds_do c k s (Rises (time_after s e) ∷ (map act_of step.due ++ matter_of c k (looked_at s.time e))) deeds s' [] [] step.moves x.0 x.1 in
    let is = timeout_act c k x.0.before x.0.act x.0.effects x.0.after id r timeout does x.2 in
    record {
      before = x.0.before;
      after = x.0.after;
      effects = x.0.effects;
      ends = subst (λ (a : Act). Does c k x.0.before a x.0.effects x.0.after) is does;
      there = x.2;
      counted = (step_found c k s hs e deeds o s' f h step).at x.0 id x.1 is;
    }

write_tells : (c : Setting) (k : ℕ) (hs : List Happening) (id : ReqId) (received blockfor : ℕ) → LineDeed c k hs id (WriteTimeout received blockfor) → WriteHeard c k id hs received blockfor × (HasFactors c → received < blockfor)
write_tells c k hs id received blockfor d =
    let told = ends_write_told c id (open_at d.before.writes id) d.before d.effects d.after received blockfor refl d.ends d.there in
    let known_write = d.counted.writes id told.write told.found in (
      write_heard c k id hs told.write received blockfor known_write told.were_heard told.were_needed,
      λ factors. let low = known_write.less told.waits factors in let x = told.were_heard in let y = told.were_needed in omega (arith, low, x, y),
    )

read_tells : (c : Setting) (k : ℕ) (hs : List Happening) (id : ReqId) (received blockfor : ℕ) (present : Bool) → LineDeed c k hs id (ReadTimeout received blockfor present) → ReadTells c k id hs received blockfor present
read_tells c k hs id received blockfor present d =
    let told = ends_told_read c id (open_at d.before.writes id) d.before d.effects d.after received blockfor present d.ends d.there in
    subst (λ (a : ℕ). ReadTells c k id hs a blockfor present) (sym told.were_received)
    (subst (λ (b : ℕ). ReadTells c k id hs (received_of c told.read) b present) (sym told.were_needed)
    (subst (λ (p : Bool). ReadTells c k id hs (received_of c told.read) (read_needs c told.read) p) (sym told.is_present) (read_told c k id hs told.read (d.counted.reads id told.read told.found))))

-- who waits has heard of too few
waits_tell : (c : Setting) (k : ℕ) (s : NodeState) (hs : List Happening) (id : ReqId) → CountedAt c k s hs → HasFactors c → IsOpen s id → (received : ℕ) × (blockfor : ℕ) × (received < blockfor) × (WriteHeard c k id hs received blockfor ⊎ ReadHeard c k id hs received blockfor)
waits_tell c k s hs id h factors (inl pending) =
    let w = pending_one (open_at s.writes id) pending in
    let is = h.writes id w.0 w.1 in
    (acks_of c w.0, write_needs c w.0, is.less w.2 factors, inl (write_heard c k id hs w.0 (acks_of c w.0) (write_needs c w.0) is refl refl))
waits_tell c k s hs id h factors (inr found) =
    let r = found_one (open_at s.reads id) found in
    let told = read_told c k id hs r.0 (h.reads id r.0 r.1) in
    (received_of c r.0, read_needs c r.0, told.2 factors, inr told.0)

step_tells : (c : Setting) (k : ℕ) (s : NodeState) (hs : List Happening) (e : Event) (deeds : List Deed) (o : Outputs) (s' : NodeState) → IsFaithful k s hs → CountedAt c k s hs → NodeStep c k s e deeds o s' → TellsNumbers c k e deeds o hs
step_tells c k s hs e deeds o s' f h step = record {
  write = λ id received blockfor there. write_tells c k hs id received blockfor (line_deed c k s hs e deeds o s' f h step id (WriteTimeout received blockfor) tt there);
  read = λ id received blockfor present there. read_tells c k hs id received blockfor present (line_deed c k s hs e deeds o s' f h step id (ReadTimeout received blockfor present) tt there);
  waits = λ factors id there.
      waits_tell c k s' (Step k e deeds o ∷ hs) id (step_counted c k s hs e deeds o s' f h step) factors (((step_faithful c k s hs e deeds o s' f (known_step c k s hs e deeds o s' f step)).waits id).1 there);
}

-- ---- runs

record Numbered (c : Setting) (w : World) (hs : List Happening) : Type 0 where
  pub counted : (k : ℕ) (s : NodeState) → slice_get w.standing k ≡ Some (Running s) → CountedAt c k s hs
  pub tells : EachStep (TellsNumbers c) hs

running_one : (s r : NodeState) → Running s ≡ Running r → s ≡ r
running_one s r e = cc

down_not : (s r : NodeState) (m : Option Made) → Running r ≡ Down s m → ⊥
down_not s r m e = cc

-- nothing is open at a node that was just loaded
loaded_counted : (c : Setting) (d : Durable) (asked : ReqId → Option Ask) (acks : ReqId → List ℕ) (replies : ReqId → Told) → Counted c (loaded d) asked acks replies
loaded_counted c d asked acks replies = record { writes = λ id w found. absurd (none_some w found); reads = λ id r found. absurd (none_some r found) }

-- a node goes on while another one has a step, a stop or a load
others_counted : (c : Setting) (j : ℕ) (s : NodeState) (hs js : List Happening) → ((id : ReqId) → asked_at j id js ≡ asked_at j id hs) → ((id : ReqId) → heard_at c j id js ≡ heard_at c j id hs)
    → ((id : ReqId) (replicas : List ℕ) (n : ℕ) → read_told_at replicas n c j id js ≡ read_told_at replicas n c j id hs) → CountedAt c j s hs → CountedAt c j s js
others_counted c j s hs js same_asked same_heard same_told h = counted_as c s _ _ _ _ _ _ same_asked same_heard same_told h

halted : (c : Setting) (w w' : World) (k : ℕ) (hs : List Happening) (x : Standing) → ((s : NodeState) → Running s ≡ x → ⊥) → w'.standing ≡ slice_set w.standing k x → Numbered c w hs → Numbered c w' (Halt k ∷ hs)
halted c w w' k hs x none standing n = record {
  counted = λ j s at. elim (get_set w.standing k x j (Running s) (subst (λ (v : List Standing). slice_get v j ≡ Some (Running s)) standing at)) [
    | inl (same, is) ↦ absurd (none s is)
    | inr (other, old) ↦
        let apart = away k j (λ is. other (sym is)) in
        others_counted c j s hs (Halt k ∷ hs) (λ id. ap (λ (b : Bool). if b then None else asked_at j id hs) apart) (λ id. ap (λ (b : Bool). if b then [] else heard_at c j id hs) apart)
        (λ id replicas n. ap (λ (b : Bool). if b then nothing_told else read_told_at replicas n c j id hs) apart) (n.counted j s old)
  ];
  tells = n.tells;
}

numbered : (c : Setting) (w : World) (run : Run c w) → Numbered c w (story c w run)
numbered c _ fresh = record {
  counted = λ k s at. subst (λ (r : NodeState). CountedAt c k r []) (running_one fresh_node s (all_same (length c.ring) (Running fresh_node) k (Running s) at)) (loaded_counted c _ _ _ _);
  tells = tt;
}
numbered c _ (went_on w w' k e run x) =
    let n = numbered c w run in
    let hs = story c w run in
    let f = (known c w run).faithful k x.before x.at in
    let h = n.counted k x.before x.at in
    record {
      counted = λ j s at. elim (get_set w.standing k (Running x.after) j (Running s) (subst (λ (v : World). slice_get v.standing j ≡ Some (Running s)) x.world at)) [
        | inl (same, is) ↦ subst (λ (i : ℕ). CountedAt c i s (Step k e x.deeds x.outputs ∷ hs)) (sym same)
            (subst (λ (r : NodeState). CountedAt c k r (Step k e x.deeds x.outputs ∷ hs)) (sym (running_one s x.after is)) (step_counted c k x.before hs e x.deeds x.outputs x.after f h x.step))
        | inr (other, old) ↦
            let apart = away k j (λ is. other (sym is)) in
            others_counted c j s hs (Step k e x.deeds x.outputs ∷ hs) (λ id. ap (λ (b : Bool). if b then asked_behind id x.deeds (asked_at j id hs) else asked_at j id hs) apart)
            (λ id. ap (λ (b : Bool). if b then heard_behind c id x.deeds (heard_at c j id hs) else heard_at c j id hs) apart)
            (λ id replicas n. ap (λ (b : Bool). if b then read_told_behind replicas n c id x.deeds (read_told_at replicas n c j id hs) else read_told_at replicas n c j id hs) apart) (n.counted j s old)
      ];
      tells = (step_tells c k x.before hs e x.deeds x.outputs x.after f h x.step, n.tells);
    }
numbered c _ (stopped_in w w' k e made failed run x) = halted c w w' k (story c w run) (Down x.before made) (λ s is. down_not x.before s made is) (ap (λ (v : World). v.standing) x.world) (numbered c w run)
numbered c _ (stopped w w' k run x) = halted c w w' k (story c w run) (Down x.before None) (λ s is. down_not x.before s None is) (ap (λ (v : World). v.standing) x.world) (numbered c w run)
numbered c _ (load w w' k run x) =
    let n = numbered c w run in
    let hs = story c w run in
    record {
      counted = λ j s at. elim (get_set w.standing k (Running (loaded x.found)) j (Running s) (subst (λ (v : World). slice_get v.standing j ≡ Some (Running s)) x.world at)) [
        | inl (same, is) ↦ subst (λ (r : NodeState). CountedAt c j r (Load k ∷ hs)) (sym (running_one s (loaded x.found) is)) (loaded_counted c x.found _ _ _)
        | inr (other, old) ↦
            let apart = away k j (λ is. other (sym is)) in
            others_counted c j s hs (Load k ∷ hs) (λ id. ap (λ (b : Bool). if b then None else asked_at j id hs) apart) (λ id. ap (λ (b : Bool). if b then [] else heard_at c j id hs) apart)
            (λ id replicas n. ap (λ (b : Bool). if b then nothing_told else read_told_at replicas n c j id hs) apart) (n.counted j s old)
      ];
      tells = n.tells;
    }
numbered c _ (load_failed w w' k run x) =
    let n = numbered c w run in
    record { counted = λ j s at. n.counted j s (subst (λ (v : World). slice_get v.standing j ≡ Some (Running s)) x.world at); tells = n.tells }
numbered c _ (turned w w' k run x) =
    let n = numbered c w run in
    record { counted = λ j s at. n.counted j s (subst (λ (v : World). slice_get v.standing j ≡ Some (Running s)) x.world at); tells = n.tells }

pub numbers_told : (c : Setting) (w : World) (run : Run c w) → EachStep (TellsNumbers c) (story c w run)
numbers_told c w run = (numbered c w run).tells
