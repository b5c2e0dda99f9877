-- Hints leave by acknowledgement or age alone, and a number is given once.
use Rattle.std.proofs.Common.{◌≡◌, ℕ, inl, inr, ◌⊎◌, ◌≤◌, ◌<◌, ◌+◌, Bool, true, false, Option, Some, None, List, [], ◌∷◌, ◌++◌, refl, sym, ap, subst, ◌∙◌, arith, Contains}
use Rattle.std.specs.Prelude.{◌==◌, ◌&&◌, not, if◌then◌else◌, map, length, MatchBool, slice_get, slice_set}
use Rattle.std.proofs.lemmas.List.Elements.{Contains-append_cases, Contains-append_left}
use Rattle.std.proofs.lemmas.Bool.{and_parts, eq-eqb, eqb-true}
use Rattle.cs_base.specs.declared.ids.ReqId.{ReqId}
use Rattle.cs_base.specs.declared.level.Level.{Level}
use Rattle.cs_base.proofs.Members.{contains_nil, contains_cases, contains_one, contains_from_map, contains_filter, contains_from_filter}
use Rattle.cs_base.proofs.Slots.{get_set}
use Rattle.changes.specs.declared.Mutation.{Mutation}
use Rattle.row_change.specs.declared.entry.Hint as hint
use Rattle.peer_messages.specs.declared.event.Event.{Event}
use Rattle.peer_messages.specs.declared.event.Plan.{Plan}
use Rattle.peer_messages.specs.declared.event.Plan.TheVariants as plan
use Rattle.peer_messages.specs.declared.event.What.{What}
use Rattle.peer_messages.specs.declared.event.What.TheVariants.{Client, Deliver, Alive, Collect, Flush, Tick}
use Rattle.peer_messages.specs.declared.message.Body.{Body}
use Rattle.peer_messages.specs.declared.message.Body.TheVariants.{Write, WriteAck, Read, ReadReply, Mend, MendAck, Hint, HintAck}
use Rattle.peer_messages.specs.declared.chronicle.Entry.{Entry}
use Rattle.peer_messages.specs.declared.chronicle.Refusal.{Refusal}
use Rattle.peer_messages.specs.declared.outcome.Outputs.{Outputs}
use Rattle.peer_messages.specs.declared.setting.Setting.{Setting}
use Rattle.durable_state.specs.State.{Durable, IsSameKept, hints_of, last_of}
use Rattle.durable_state.specs.Keeping.{without_hint, with_last}
use Rattle.node_steps.specs.State.{NodeState, OpenWrite, OpenRead, loaded, fresh_node}
use Rattle.node_steps.specs.Effects.{Effects, nothing, open_at}
use Rattle.node_steps.specs.Fitting.{message_fits, mark_fits, write_fits}
use Rattle.node_steps.specs.Hints.{KeptHints, hints_in, is_full, next_hint, with_hint, push_hint, push_hints, is_kept, drop_hint, with_sent, is_last, hint_done}
use Rattle.node_steps.specs.Requests.{refusal_of, hinted_at, BeginsOrRefuses}
use Rattle.node_steps.specs.Writes.{unheard}
use Rattle.node_steps.specs.Acts.{Act, Rises, Hears, Asks, Marks, DeadlineComes, HintExpires, Incoming, Deed, Does, HearsBody, Ends, EndsRead, Chain, mark_state, request_at, is_old, asker_of, TakesChanges}
use Rattle.node_steps.specs.Acts.Chain.{begun, own, matter as matter_move}
use Rattle.node_steps.specs.Steps.{NodeStep, Due, AreDue, act_of, matter_of, is_ahead, looked_at, time_after}
use Rattle.node_steps.proofs.HintLists.{last_here, last_rises}
use Rattle.node_steps.specs.Replicas.{Asker}
use Rattle.cluster_runs.specs.World.{World, Standing, Running, Down, Made, left_by}
use Rattle.cluster_runs.specs.Run.{Run, IsMade}
use Rattle.cluster_runs.specs.Run.RunFrom.{begun as fresh, more as went_on, stopped_in, stopped, load, load_failed, turned}
use Rattle.cluster_runs.proofs.Lists.{all_same}
use Rattle.answer_causes.specs.Story.{Happening, story}
use Rattle.answer_causes.specs.Causes.{EachStep}
use Rattle.answer_causes.specs.Hints.{IsHintAck, HintsLeave}
use Rattle.answer_causes.proofs.Steps.{deed_of}
use Rattle.answer_causes.proofs.Chains.{IsHeard, within, deeds_do}
use Rattle.answer_causes.proofs.Waiting.{heard_none, step_time, known}

-- ---- the hints of a node

-- no number of a peer stands twice, and each was given
pub record AreNumbered (k : KeptHints) : Type 0 where
  pub once : (h g : hint.Hint) → Contains k.hints h → Contains k.hints g → h.peer ≡ g.peer → h.number ≡ g.number → h ≡ g
  pub given : (h : hint.Hint) → Contains k.hints h → h.number ≤ last_of k.numbers h.peer

-- of hints and what a move makes of them: what may leave is L, by peer and number
pub record Grows (L : ℕ → ℕ → Type 0) (k r : KeptHints) : Type 0 where
  pub rises : (peer : ℕ) → last_of k.numbers peer ≤ last_of r.numbers peer
  pub come : (h : hint.Hint) → Contains r.hints h → Contains k.hints h ⊎ ((last_of k.numbers h.peer < h.number) × (h.number ≤ last_of r.numbers h.peer))
  pub leave : (h : hint.Hint) → Contains k.hints h → Contains r.hints h ⊎ L h.peer h.number
  pub numbered : AreNumbered k → AreNumbered r

grows_same : (L : ℕ → ℕ → Type 0) (k : KeptHints) → Grows L k k
grows_same L k = record { rises = λ peer. omega arith; come = λ h x. inl x; leave = λ h x. inl x; numbered = λ x. x }

grows_on : (L : ℕ → ℕ → Type 0) (k r t : KeptHints) → Grows L k r → Grows L r t → Grows L k t
grows_on L k r t a b = record {
  rises = λ peer. let x = a.rises peer in let y = b.rises peer in omega (arith, x, y);
  come = λ h there.
      let x = a.rises h.peer in
      let y = b.rises h.peer in
      elim (b.come h there) [
        | inl old ↦ elim (a.come h old) [ inl older ↦ inl older | inr new ↦ (let low = new.0 in let high = new.1 in inr (low, omega (arith, high, y))) ]
        | inr new ↦ (let low = new.0 in inr (omega (arith, low, x), new.1))
      ];
  leave = λ h there. elim (a.leave h there) [ inl stays ↦ b.leave h stays | inr left ↦ inr left ];
  numbered = λ n. b.numbered (a.numbered n);
}

-- a hint that comes gets the number behind the last one of its peer
next_number : (p born : ℕ) (m : Mutation) (k : KeptHints) (h : hint.Hint) → next_hint p born m k ≡ h → h.number ≡ last_of k.numbers h.peer + 1
next_number p born m k h is = subst (λ (x : hint.Hint). x.number ≡ last_of k.numbers x.peer + 1) is refl

next_peer : (p born : ℕ) (m : Mutation) (k : KeptHints) (h : hint.Hint) → next_hint p born m k ≡ h → h.peer ≡ p
next_peer p born m k h is = ap (λ (x : hint.Hint). x.peer) (sym is)

push_numbered : (p born : ℕ) (m : Mutation) (k : KeptHints) → AreNumbered k → AreNumbered (with_hint (next_hint p born m k) k)
push_numbered p born m k n =
    let new = next_hint p born m k in
    let above : last_of k.numbers p < last_of k.numbers p + 1 = omega arith in
    record {
      once = λ h g a b peers same. elim (Contains-append_cases k.hints (new ∷ []) h a) [
        | inl x ↦ elim (Contains-append_cases k.hints (new ∷ []) g b) [
          | inl y ↦ n.once h g x y peers same
          | inr z ↦
              let at = next_number p born m k g (contains_one new g z) in
              let low = n.given h x in
              let last : last_of k.numbers h.peer ≡ last_of k.numbers g.peer = ap (λ (q : ℕ). last_of k.numbers q) peers in
              absurd (omega (arith, at, low, same, last))
        ]
        | inr x ↦ elim (Contains-append_cases k.hints (new ∷ []) g b) [
          | inl y ↦
              let at = next_number p born m k h (contains_one new h x) in
              let low = n.given g y in
              let last : last_of k.numbers h.peer ≡ last_of k.numbers g.peer = ap (λ (q : ℕ). last_of k.numbers q) peers in
              absurd (omega (arith, at, low, same, last))
          | inr z ↦ sym (contains_one new h x) ∙ contains_one new g z
        ]
      ];
      given = λ h a. elim (Contains-append_cases k.hints (new ∷ []) h a) [
        | inl x ↦ (let low = n.given h x in let up = last_rises k.numbers p (last_of k.numbers p + 1) h.peer above in omega (arith, low, up))
        | inr x ↦ subst (λ (y : hint.Hint). y.number ≤ last_of (with_last k.numbers p (last_of k.numbers p + 1)) y.peer) (contains_one new h x) (let is = last_here k.numbers p (last_of k.numbers p + 1) in omega (arith, is))
      ];
    }

grows_pushed : (L : ℕ → ℕ → Type 0) (p born : ℕ) (m : Mutation) (k : KeptHints) → Grows L k (with_hint (next_hint p born m k) k)
grows_pushed L p born m k =
    let new = next_hint p born m k in
    let n = last_of k.numbers p + 1 in
    let above : last_of k.numbers p < n = omega arith in
    record {
      rises = λ peer. last_rises k.numbers p n peer above;
      come = λ h there. elim (Contains-append_cases k.hints (new ∷ []) h there) [
        | inl x ↦ inl x
        | inr x ↦ inr (subst (λ (y : hint.Hint). (last_of k.numbers y.peer < y.number) × (y.number ≤ last_of (with_last k.numbers p n) y.peer)) (contains_one new h x) (above, let is = last_here k.numbers p n in omega (arith, is)))
      ];
      leave = λ h there. inl (Contains-append_left k.hints (new ∷ []) h there);
      numbered = push_numbered p born m k;
    }

push_grows : (full : Bool) (L : ℕ → ℕ → Type 0) (p born : ℕ) (m : Mutation) (k : KeptHints) → Grows L k (if full then k else with_hint (next_hint p born m k) k)
push_grows true L p born m k = grows_same L k
push_grows false L p born m k = grows_pushed L p born m k

hints_grow : (L : ℕ → ℕ → Type 0) (ps : List ℕ) (born : ℕ) (m : Mutation) (k : KeptHints) → Grows L k (push_hints ps born m k)
hints_grow L [] born m k = grows_same L k
hints_grow L (p ∷ ps) born m k = grows_on L _ _ _ (push_grows (is_full k p) L p born m k) (hints_grow L ps born m (push_hint p born m k))

-- a hint that is not this one stays
stays_by : (b : Bool) (peer n : ℕ) (hs : List hint.Hint) (h : hint.Hint) → ((h.peer == peer) && (h.number == n)) ≡ b → Contains hs h → Contains (without_hint hs peer n) h ⊎ ((h.peer ≡ peer) × (h.number ≡ n))
stays_by true peer n hs h is there = let both = and_parts (h.peer == peer) (h.number == n) is in inr (eqb-true h.peer peer both.0, eqb-true h.number n both.1)
stays_by false peer n hs h is there = inl (contains_filter (λ (g : hint.Hint). not ((g.peer == peer) && (g.number == n))) hs h there (ap not is))

grows_dropped : (L : ℕ → ℕ → Type 0) (peer n : ℕ) (k : KeptHints) → L peer n → Grows L k (record k { hints = without_hint k.hints peer n })
grows_dropped L peer n k may =
    let back : (h : hint.Hint) → Contains (without_hint k.hints peer n) h → Contains k.hints h = λ h there. (contains_from_filter (λ (g : hint.Hint). not ((g.peer == peer) && (g.number == n))) k.hints h there).0 in
    record {
      rises = λ p. omega arith;
      come = λ h there. inl (back h there);
      leave = λ h there. elim (stays_by ((h.peer == peer) && (h.number == n)) peer n k.hints h refl there) [
        | inl stays ↦ inl stays
        | inr (at, is) ↦ inr (subst (λ (p : ℕ). L p h.number) (sym at) (subst (λ (i : ℕ). L peer i) (sym is) may))
      ];
      numbered = λ x. record { once = λ h g a b. x.once h g (back h a) (back g b); given = λ h a. x.given h (back h a) };
    }

drop_grows : (b : Bool) (L : ℕ → ℕ → Type 0) (peer n : ℕ) (k : KeptHints) → L peer n → Grows L k (if b then record k { hints = without_hint k.hints peer n } else k)
drop_grows true L peer n k may = grows_dropped L peer n k may
drop_grows false L peer n k may = grows_same L k

-- ---- moves

-- by this move the hint of this number may leave
abbrev pub Leaves : Act → ℕ → ℕ → Type 0
Leaves a peer n = IsHintAck peer n a ⊎ (a ≡ HintExpires peer n)

abbrev MovesOf : (ℕ → ℕ → Type 0) → NodeState → NodeState → Type 0
MovesOf L s s' = Grows L (hints_in s) (hints_in s')

to_grow : (L : ℕ → ℕ → Type 0) (s s' r : NodeState) → s' ≡ r → Grows L (hints_in s) (hints_in r) → MovesOf L s s'
to_grow L s s' r is g = subst (λ (x : NodeState). Grows L (hints_in s) (hints_in x)) (sym is) g

acked_hints : (c : Setting) (b : Bool) (s : NodeState) (peer number : ℕ) → hints_in (if b then with_sent c (hint_done s peer number) peer else hint_done s peer number) ≡ drop_hint peer number (hints_in s)
acked_hints c true s peer number = refl
acked_hints c false s peer number = refl

merge_grows : (L : ℕ → ℕ → Type 0) (a : Asker) (m : Mutation) (fits : Bool) (s : NodeState) (o : Effects) (s' : NodeState) → MatchBool fits (TakesChanges a m.partition m.changes MendAck s o s') ((o ≡ nothing) × (s' ≡ s)) → MovesOf L s s'
merge_grows L a m true s o s' h = to_grow L s s' _ h.3 (grows_same L (hints_in s))
merge_grows L a m false s o s' h = to_grow L s s' s h.1 (grows_same L (hints_in s))

body_grows : (c : Setting) (k : ℕ) (m : Incoming) (b : Body) (s : NodeState) (o : Effects) (s' : NodeState) → m.body ≡ b → HearsBody c k (asker_of m) b s o s' → MovesOf (Leaves (Hears m)) s s'
body_grows c k m (Write u) s o s' is h = to_grow _ s s' _ h.3 (grows_same _ (hints_in s))
body_grows c k m WriteAck s o s' is h = to_grow _ s s' _ h.3 (grows_same _ (hints_in s))
body_grows c k m (Read q) s o s' is h = to_grow _ s s' _ h.3 (grows_same _ (hints_in s))
body_grows c k m (ReadReply content) s o s' is h = to_grow _ s s' _ h.3 (grows_same _ (hints_in s))
body_grows c k m (Mend u) s o s' is h = merge_grows _ (asker_of m) u (write_fits c u) s o s' h
body_grows c k m MendAck s o s' is h = to_grow _ s s' _ h.3 (grows_same _ (hints_in s))
body_grows c k m (Hint number u) s o s' is h = to_grow _ s s' _ h.3 (grows_same _ (hints_in s))
body_grows c k m (HintAck number) s o s' is h =
    to_grow (Leaves (Hears m)) s s' _ h.1 (subst (λ (r : KeptHints). Grows (Leaves (Hears m)) (hints_in s) r) (sym (acked_hints c (is_last s m.from number) s m.from number))
    (drop_grows (is_kept (hints_in s) m.from number) (Leaves (Hears m)) m.from number (hints_in s) (inl (refl, is))))

comes_grows : (c : Setting) (k : ℕ) (m : Incoming) (old : Bool) (s : NodeState) (o : Effects) (s' : NodeState) → MatchBool old ((o ≡ nothing) × (s' ≡ s)) (HearsBody c k (asker_of m) m.body s o s') → MovesOf (Leaves (Hears m)) s s'
comes_grows c k m true s o s' h = to_grow _ s s' s h.1 (grows_same _ (hints_in s))
comes_grows c k m false s o s' h = body_grows c k m m.body s o s' refl h

asks_grows : (L : ℕ → ℕ → Type 0) (c : Setting) (id : ReqId) (p : Plan) (l : Level) (r : Option Refusal) (s : NodeState) (o : Effects) (s' : NodeState) → BeginsOrRefuses c id p l r s o s' → MovesOf L s s'
asks_grows L c id (plan.Write d) l None s o s' h = to_grow L s s' _ h.1 (hints_grow L (hinted_at c s d) id.time _ (hints_in s))
asks_grows L c id (plan.Read q columns) l None s o s' h = to_grow L s s' _ h.1 (grows_same L (hints_in s))
asks_grows L c id (plan.Use keyspace) l None s o s' h = to_grow L s s' _ h.1 (grows_same L (hints_in s))
asks_grows L c id (plan.Invalid fault) l None s o s' h = absurd h
asks_grows L c id p l (Some r) s o s' h = to_grow L s s' _ h.1 (grows_same L (hints_in s))

ends_read_grows : (L : ℕ → ℕ → Type 0) (c : Setting) (id : ReqId) (r : Option OpenRead) (s : NodeState) (o : Effects) (s' : NodeState) → EndsRead c id r s o s' → MovesOf L s s'
ends_read_grows L c id None s o s' h = to_grow L s s' _ h.1 (grows_same L (hints_in s))
ends_read_grows L c id (Some r) s o s' h = to_grow L s s' _ h.1 (grows_same L (hints_in s))

ends_grows : (L : ℕ → ℕ → Type 0) (c : Setting) (id : ReqId) (w : Option OpenWrite) (s : NodeState) (o : Effects) (s' : NodeState) → Ends c id w s o s' → MovesOf L s s'
ends_grows L c id None s o s' h = ends_read_grows L c id (open_at s.reads id) s o s' h
ends_grows L c id (Some w) s o s' h = to_grow L s s' _ h.1 (hints_grow L (unheard c w) id.time w.mutation (hints_in s))

marks_grows : (L : ℕ → ℕ → Type 0) (c : Setting) (s s' : NodeState) (peer : ℕ) (up : Bool) → s' ≡ mark_state c s peer up → MovesOf L s s'
marks_grows L c s s' peer true is = to_grow L s s' _ is (grows_same L (hints_in s))
marks_grows L c s s' peer false is = to_grow L s s' _ is (grows_same L (hints_in s))

pub does_grows : (c : Setting) (k : ℕ) (s : NodeState) (a : Act) (o : Effects) (s' : NodeState) → Does c k s a o s' → MovesOf (Leaves a) s s'
does_grows c k s (Rises t) o s' h = to_grow _ s s' _ h.2 (grows_same _ (hints_in s))
does_grows c k s (Hears m) o s' h = comes_grows c k m (is_old c s.risen m.born) s o s' h
does_grows c k s (Asks ask) o s' h = asks_grows (Leaves (Asks ask)) c (request_at k s.risen) ask.plan ask.level (refusal_of c s (request_at k s.risen) ask.plan ask.level) s o s' h
does_grows c k s (Marks peer up) o s' h = marks_grows _ c s s' peer up h.1
does_grows c k s (DeadlineComes id) o s' h = ends_grows (Leaves (DeadlineComes id)) c id (open_at s.writes id) s o s' h
does_grows c k s (HintExpires peer number) o s' h =
    to_grow (Leaves (HintExpires peer number)) s s' _ h.1 (drop_grows (is_kept (hints_in s) peer number) (Leaves (HintExpires peer number)) peer number (hints_in s) (inr refl))

-- ---- a step

abbrev Any : ℕ → ℕ → Type 0
Any peer n = Unit {0}

any_grows : (L : ℕ → ℕ → Type 0) (k r : KeptHints) → Grows L k r → Grows Any k r
any_grows L k r x = record { rises = x.rises; come = x.come; leave = λ h there. elim (x.leave h there) [ inl stays ↦ inl stays | inr left ↦ inr tt ]; numbered = x.numbered }

record Reached (s : NodeState) (deeds : List Deed) (s' : NodeState) : Type 0 where
  pub last : MovesOf Any s s'
  pub each : (d : Deed) → Contains deeds d → MovesOf Any s d.before

reached_push : (c : Setting) (k : ℕ) (s : NodeState) (deeds : List Deed) (mid s' : NodeState) (a : Act) (o : Effects) → Reached s deeds mid → Does c k mid a o s' → Reached s (deeds ++ deed_of k a mid s' o ∷ []) s'
reached_push c k s deeds mid s' a o r does = record {
  last = grows_on Any (hints_in s) (hints_in mid) (hints_in s') r.last (any_grows (Leaves a) (hints_in mid) (hints_in s') (does_grows c k mid a o s' does));
  each = λ d h. elim (Contains-append_cases deeds _ d h) [ inl earlier ↦ r.each d earlier | inr this ↦ subst (λ (x : Deed). MovesOf Any s x.before) (contains_one _ d this) r.last ];
}

reached : (c : Setting) (k : ℕ) (s : NodeState) (ms : List Act) (deeds : List Deed) (s' : NodeState) (pending left : List Act) → Chain c k s ms deeds s' pending left → Reached s deeds s'
reached c k s ms _ _ _ _ begun = record { last = grows_same Any (hints_in s); each = λ d h. absurd (contains_nil d h) }
reached c k s ms _ _ _ _ (own deeds mid s' a pending left o chain does) = reached_push c k s deeds mid s' a o (reached c k s ms deeds mid (a ∷ pending) left chain) does
reached c k s ms _ _ _ _ (matter_move deeds mid s' a left o chain does) = reached_push c k s deeds mid s' a o (reached c k s ms deeds mid [] (a ∷ left) chain) does

step_numbered : (c : Setting) (k : ℕ) (s : NodeState) (e : Event) (deeds : List Deed) (o : Outputs) (s' : NodeState) → NodeStep c k s e deeds o s' → AreNumbered (hints_in s) → AreNumbered (hints_in s')
step_numbered c k s e deeds o s' step n = (reached c k s _ deeds s' [] [] step.moves).last.numbered n

matter_expires : (c : Setting) (k : ℕ) (what : What) (peer n : ℕ) → Contains (matter_of c k what) (HintExpires peer n) → ⊥
matter_expires c k (Client ask) peer n h = let e : Asks ask ≡ HintExpires peer n = contains_one _ _ h in cc
matter_expires c k (Deliver m) peer n h = let e : HintExpires peer n ≡ Hears _ = heard_none (message_fits c k m) _ (HintExpires peer n) h in cc
matter_expires c k (Alive p up) peer n h = let e : HintExpires peer n ≡ Marks p up = heard_none (mark_fits c k p) _ (HintExpires peer n) h in cc
matter_expires c k (Collect request) peer n h = contains_nil _ h
matter_expires c k Flush peer n h = contains_nil _ h
matter_expires c k Tick peer n h = contains_nil _ h

looked_expires : (c : Setting) (k : ℕ) (b : Bool) (what : What) (peer n : ℕ) → Contains (matter_of c k (if b then Tick else what)) (HintExpires peer n) → ⊥
looked_expires c k true what peer n h = contains_nil _ h
looked_expires c k false what peer n h = matter_expires c k what peer n h

heard_expires : (a : Act) (peer n : ℕ) → IsHeard a → a ≡ HintExpires peer n → ⊥
heard_expires a peer n h is = subst (λ (x : Act). IsHeard x) is h

same_expiry : (a b x y : ℕ) → HintExpires a b ≡ HintExpires x y → (a ≡ x) × (b ≡ y)
same_expiry a b x y e = (cc, cc)

line_not : (id : ReqId) (peer n : ℕ) → DeadlineComes id ≡ HintExpires peer n → ⊥
line_not id peer n e = cc

-- a hint that is due is too old
too_old : (c : Setting) (k t : ℕ) (s : NodeState) (due : List Due) (r : KeptHints) (h : hint.Hint) → AreDue c k t s due → AreNumbered (hints_in s) → Grows Any (hints_in s) r → Contains r.hints h
    → Contains (map act_of due) (HintExpires h.peer h.number) → h.born + c.expiry < t
too_old c k t s due r h are numbered grows there due_now =
    let d = contains_from_map act_of due (HintExpires h.peer h.number) due_now in
    let is = (are.each d.0).0 d.1 in
    elim is.1 [
      | inl (opened, whole_due) ↦ absurd (line_not d.0.request h.peer h.number (sym (ap (λ (x : Due). x.act) whole_due) ∙ d.2))
      | inr (g, first, whole_due) ↦
          let same = same_expiry g.peer g.number h.peer h.number (sym (ap (λ (x : Due). x.act) whole_due) ∙ d.2) in
          let low = numbered.given g first in
          let last : last_of s.numbers g.peer ≡ last_of s.numbers h.peer = ap (λ (p : ℕ). last_of s.numbers p) same.0 in
          let number = same.1 in
          let is_one : h ≡ g = elim (grows.come h there) [
            | inl old ↦ numbered.once h g old first (sym same.0) (sym same.1)
            | inr new ↦ (let high = new.0 in absurd (omega (arith, high, low, number, last)))
          ] in
          let born : h.born ≡ g.born = ap (λ (x : hint.Hint). x.born) is_one in
          let moment : d.0.moment ≡ g.born + c.expiry + 1 = ap (λ (x : Due). x.moment) whole_due in
          let past = is.0 in
          omega (arith, born, moment, past)
    ]

step_leaves : (c : Setting) (k : ℕ) (s : NodeState) (hs : List Happening) (e : Event) (deeds : List Deed) (o : Outputs) (s' : NodeState) → o.time ≡ time_after s e → AreNumbered (hints_in s) → NodeStep c k s e deeds o s' → HintsLeave c k e deeds o hs
step_leaves c k s hs e deeds o s' time numbered step =
    let t = time_after s e in
    let lines : List Act = map act_of step.due in
    let ms = matter_of c k (looked_at s.time e) in
    let in_all = within c k s (Rises t ∷ (lines ++ ms)) deeds s' [] [] step.moves in
    let all = reached c k s (Rises t ∷ (lines ++ ms)) deeds s' [] [] step.moves in
    let grows : (d : Deed) → Contains deeds d → MovesOf (Leaves d.act) d.before d.after =
    λ d h. does_grows c k d.before d.act d.effects d.after (deeds_do c k s (Rises t ∷ (lines ++ ms)) deeds s' [] [] step.moves d h) in
    record {
      leave = λ d h in_deeds there. elim ((grows d in_deeds).leave h there) [
        | inl stays ↦ inl stays
        | inr (inl ack) ↦ inr (inl ack)
        | inr (inr expires) ↦ inr (inr (elim (in_all.acts d in_deeds) [
          | inl of_matters ↦ elim (contains_cases (Rises t) (lines ++ ms) d.act of_matters) [
            | inl rises ↦ (let e : Rises t ≡ HintExpires h.peer h.number = rises ∙ expires in cc)
            | inr rest ↦ elim (Contains-append_cases lines ms (HintExpires h.peer h.number) (subst (λ (y : Act). Contains (lines ++ ms) y) expires rest)) [
              | inl due ↦ subst (λ (n : ℕ). h.born + c.expiry < n) (sym time) (too_old c k t s step.due (hints_in d.before) h step.are_due numbered (all.each d in_deeds) there due)
              | inr this ↦ absurd (looked_expires c k (is_ahead s.time e e.what) e.what h.peer h.number this)
            ]
          ]
          | inr heard ↦ absurd (heard_expires d.act h.peer h.number heard expires)
        ]))
      ];
      numbers = λ d h in_deeds there. (grows d in_deeds).come h there;
      rises = λ d peer in_deeds. (grows d in_deeds).rises peer;
    }

-- ---- runs

abbrev hints_kept : Durable → KeptHints
hints_kept d = record { hints = d.hints; numbers = d.numbers }

abbrev StandsNumbered : Standing → Type 0
StandsNumbered (Running s) = AreNumbered (hints_in s)
StandsNumbered (Down s made) = AreNumbered (hints_in s) × AreNumbered (hints_kept (left_by s made))

record Numbers (c : Setting) (w : World) (hs : List Happening) : Type 0 where
  pub stands : (k : ℕ) (x : Standing) → slice_get w.standing k ≡ Some x → StandsNumbered x
  pub leaves : EachStep (HintsLeave c) hs

numbers_set : (c : Setting) (w w' : World) (hs js : List Happening) (k : ℕ) (x : Standing) → Numbers c w hs → w'.standing ≡ slice_set w.standing k x → StandsNumbered x → EachStep (HintsLeave c) js → Numbers c w' js
numbers_set c w w' hs js k x n standing this leaves = record {
  stands = λ j y at. elim (get_set w.standing k x j y (subst (λ (v : List Standing). slice_get v j ≡ Some y) standing at)) [
    | inl (here, is) ↦ subst (λ (z : Standing). StandsNumbered z) (sym is) this
    | inr (other, old) ↦ n.stands j y old
  ];
  leaves = leaves;
}

made_numbered : (c : Setting) (k : ℕ) (s : NodeState) (e : Event) (es : List Entry) (made : Option Made) → IsMade c k s e es made → AreNumbered (hints_in s) → AreNumbered (hints_kept (left_by s made))
made_numbered c k s e es None made n = n
made_numbered c k s e es (Some m) (o, step, remain) n = step_numbered c k s e m.deeds o m.after step n

-- a hint stands among those of its peer
kept_before : (d found : Durable) → IsSameKept d found → (h : hint.Hint) → Contains found.hints h → Contains d.hints h
kept_before d found same h there =
    let mine : Contains (hints_of found.hints h.peer) h = contains_filter (λ y. y.peer == h.peer) found.hints h there (eq-eqb h.peer h.peer refl) in
    (contains_from_filter (λ y. y.peer == h.peer) d.hints h (subst (λ (hs : List hint.Hint). Contains hs h) (same.hints h.peer) mine)).0

found_numbered : (d found : Durable) → IsSameKept d found → AreNumbered (hints_kept d) → AreNumbered (hints_in (loaded found))
found_numbered d found same n = record {
  once = λ h g a b. n.once h g (kept_before d found same h a) (kept_before d found same g b);
  given = λ h a. subst (λ (x : ℕ). h.number ≤ x) (sym (same.numbers h.peer)) (n.given h (kept_before d found same h a));
}

none_numbered : AreNumbered (hints_in fresh_node)
none_numbered = record { once = λ h g a b peers same. absurd (contains_nil h a); given = λ h a. absurd (contains_nil h a) }

numbers : (c : Setting) (w : World) (run : Run c w) → Numbers c w (story c w run)
numbers c _ fresh = record { stands = λ k x at. subst (λ (z : Standing). StandsNumbered z) (all_same (length c.ring) (Running fresh_node) k x at) none_numbered; leaves = tt }
numbers c _ (went_on w w' k e run x) =
    let n = numbers c w run in
    let this = n.stands k (Running x.before) x.at in
    let time = step_time c k x.before (story c w run) e x.deeds x.outputs x.after ((known c w run).faithful k x.before x.at) x.step in
    numbers_set c w w' (story c w run) _ k (Running x.after) n (ap (λ (v : World). v.standing) x.world) (step_numbered c k x.before e x.deeds x.outputs x.after x.step this)
    (step_leaves c k x.before (story c w run) e x.deeds x.outputs x.after time this x.step, n.leaves)
numbers c _ (stopped_in w w' k e made failed run x) =
    let n = numbers c w run in
    let this = n.stands k (Running x.before) x.at in
    numbers_set c w w' (story c w run) _ k (Down x.before made) n (ap (λ (v : World). v.standing) x.world) (this, made_numbered c k x.before e _ made x.is_made this) n.leaves
numbers c _ (stopped w w' k run x) =
    let n = numbers c w run in
    let this = n.stands k (Running x.before) x.at in
    numbers_set c w w' (story c w run) _ k (Down x.before None) n (ap (λ (v : World). v.standing) x.world) (this, this) n.leaves
numbers c _ (load w w' k run x) =
    let n = numbers c w run in
    numbers_set c w w' (story c w run) _ k (Running (loaded x.found)) n (ap (λ (v : World). v.standing) x.world) (found_numbered (left_by x.before x.made) x.found x.same (n.stands k (Down x.before x.made) x.at).1) n.leaves
numbers c _ (load_failed w w' k run x) =
    let n = numbers c w run in
    record { stands = λ j y at. n.stands j y (subst (λ (v : World). slice_get v.standing j ≡ Some y) x.world at); leaves = n.leaves }
numbers c _ (turned w w' k run x) =
    let n = numbers c w run in
    record { stands = λ j y at. n.stands j y (subst (λ (v : World). slice_get v.standing j ≡ Some y) x.world at); leaves = n.leaves }

pub hints_leave : (c : Setting) (w : World) (run : Run c w) → EachStep (HintsLeave c) (story c w run)
hints_leave c w run = (numbers c w run).leaves
