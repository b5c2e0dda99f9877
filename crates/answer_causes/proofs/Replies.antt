-- What is asked of a replica is answered in that event, and a node that is marked up is sent its first hints in it.
use Rattle.std.proofs.Common.{◌≡◌, ℕ, inl, inr, ◌<◌, ◌+◌, Bool, true, false, List, [], ◌∷◌, ◌++◌, refl, sym, ap, subst, ◌∙◌, arith, Contains, max, filter}
use Rattle.std.specs.Prelude.{◌==◌, ◌||◌, not, if◌then◌else◌, flat_map, map, nat_lt}
use Rattle.std.proofs.lemmas.List.Elements.{Contains-append_right}
use Rattle.std.proofs.lemmas.Bool.{and_parts, eqb-true, ltb-true}
use Rattle.cs_base.proofs.Members.{contains_nil, contains_here, contains_there, contains_map, contains_filter, contains_flat}
use Rattle.changes.specs.declared.Change.{Change}
use Rattle.peer_messages.specs.declared.event.Event.{Event}
use Rattle.peer_messages.specs.declared.event.What.{What}
use Rattle.peer_messages.specs.declared.event.What.TheVariants.{Deliver, Alive, Tick}
use Rattle.peer_messages.specs.declared.message.Body.{Body}
use Rattle.peer_messages.specs.declared.message.Body.TheVariants.{Write, WriteAck, Read, ReadReply, Mend, MendAck, Hint, HintAck}
use Rattle.peer_messages.specs.declared.message.Message.{Message}
use Rattle.peer_messages.specs.declared.outcome.Outbound.{Outbound}
use Rattle.peer_messages.specs.declared.outcome.Outputs.{Outputs}
use Rattle.peer_messages.specs.declared.setting.Setting.{Setting}
use Rattle.durable_state.specs.State.{changes_of}
use Rattle.node_steps.specs.State.{NodeState}
use Rattle.node_steps.specs.Answering.{IsForReplica, IsAnswer}
use Rattle.node_steps.specs.Effects.{Effects}
use Rattle.node_steps.specs.Fitting.{mark_fits}
use Rattle.node_steps.specs.Hints.{first_hints, send_hint}
use Rattle.node_steps.specs.Acts.{Act, Rises, Marks, Deed, Does, is_old}
use Rattle.node_steps.specs.Steps.{NodeStep, act_of, matter_of, message_of, messages_of, message_time, reading, is_ahead, is_refused, looked_at, time_after, sends_of}
use Rattle.node_steps.proofs.Answering.{answered_at_once as step_answered}
use Rattle.node_steps.proofs.HintMembers.{first_from}
use Rattle.cluster_runs.specs.World.{World}
use Rattle.cluster_runs.specs.Run.{Run}
use Rattle.cluster_runs.specs.Run.RunFrom.{begun as fresh, more as went_on, stopped_in, stopped, load, load_failed, turned}
use Rattle.answer_causes.specs.Story.{Happening, story}
use Rattle.answer_causes.specs.Causes.{EachStep, AnswersAtOnce, IsReply}
use Rattle.answer_causes.specs.Hints.{SendsHints, hint_message}
use Rattle.answer_causes.proofs.Chains.{within, deeds_do}
use Rattle.answer_causes.proofs.Waiting.{IsFaithful, step_time, known}

-- ---- replies

-- a message whose time was taken was not from too far ahead
taken_by : (b : Bool) (time clock : ℕ) (m : Message) → nat_lt (max time clock + 60000000) m.time ≡ b → m.time < max (time + 1) (max (message_time (if b then Tick else Deliver m)) clock) → b ≡ false
taken_by true time clock m ahead taken = let far = ltb-true (max time clock + 60000000) m.time ahead in absurd (omega (arith, far, taken))
taken_by false time clock m ahead taken = refl

not_ahead : (s : NodeState) (e : Event) (m : Message) → e.what ≡ Deliver m → m.time < time_after s e → is_ahead s.time e (Deliver m) ≡ false
not_ahead s e m is taken =
    taken_by (is_ahead s.time e (Deliver m)) s.time (reading e) m refl
    (subst (λ (w : What). m.time < max (s.time + 1) (max (message_time (if is_ahead s.time e w then Tick else w)) (reading e))) is taken)

-- so it is not refused, if it is not too old
not_refused : (c : Setting) (s : NodeState) (e : Event) (m : Message) (t : ℕ) → e.what ≡ Deliver m → is_ahead s.time e (Deliver m) ≡ false → is_old c t m.born ≡ false → is_refused c s.time t e e.what ≡ false
not_refused c s e m t is near young =
    ap (λ (w : What). is_refused c s.time t e w) is ∙ ap (λ (b : Bool). b || is_old c t m.born) near ∙ young

reply_is : (changes : List Change) (b r : Body) → IsForReplica b → IsAnswer changes b r → IsReply b r
reply_is changes (Write m) r for h = h
reply_is changes (Read q) r for h = (h.0, h.2)
reply_is changes (Mend m) r for h = h
reply_is changes (Hint number m) r for h = h
reply_is changes WriteAck r for h = absurd for
reply_is changes (ReadReply content) r for h = absurd for
reply_is changes MendAck r for h = absurd for
reply_is changes (HintAck number) r for h = absurd for

step_answers : (c : Setting) (k : ℕ) (s : NodeState) (hs : List Happening) (e : Event) (deeds : List Deed) (o : Outputs) (s' : NodeState) → IsFaithful k s hs → NodeStep c k s e deeds o s' → AnswersAtOnce c k e deeds o hs
step_answers c k s hs e deeds o s' f step = record {
  at_once = λ m is fits taken young for.
      let t = time_after s e in
      let time : o.time ≡ t = step_time c k s hs e deeds o s' f step in
      let near = not_ahead s e m is (subst (λ (n : ℕ). m.time < n) time taken) in
      let heard : o.refused ≡ false =
      ap (λ (z : Outputs). z.refused) step.outputs ∙ not_refused c s e m t is near (ap (λ (n : ℕ). is_old c n m.born) (sym time) ∙ young) in
      let r = step_answered c k s e deeds o s' step m is fits heard for in
      (r.0, reply_is (changes_of s.content) m.body r.0 for r.1, r.2);
}

pub answered_at_once : (c : Setting) (w : World) (run : Run c w) → EachStep (AnswersAtOnce c) (story c w run)
answered_at_once c _ fresh = tt
answered_at_once c _ (went_on w w' k e run x) = (step_answers c k x.before (story c w run) e x.deeds x.outputs x.after ((known c w run).faithful k x.before x.at) x.step, answered_at_once c w run)
answered_at_once c _ (stopped_in w w' k e made failed run x) = answered_at_once c w run
answered_at_once c _ (stopped w w' k run x) = answered_at_once c w run
answered_at_once c _ (load w w' k run x) = answered_at_once c w run
answered_at_once c _ (load_failed w w' k run x) = answered_at_once c w run
answered_at_once c _ (turned w w' k run x) = answered_at_once c w run

-- ---- hints behind a mark

mark_in : (c : Setting) (k : ℕ) (s : NodeState) (e : Event) (peer : ℕ) → e.what ≡ Alive peer true → mark_fits c k peer ≡ true → Contains (matter_of c k (looked_at s.time e)) (Marks peer true)
mark_in c k s e peer is fits =
    subst (λ (w : What). Contains (matter_of c k (if is_ahead s.time e w then Tick else w)) (Marks peer true)) (sym is)
    (subst (λ (b : Bool). Contains (if b then Marks peer true ∷ [] else []) (Marks peer true)) (sym fits) (contains_here (Marks peer true) []))

step_sends : (c : Setting) (k : ℕ) (s : NodeState) (hs : List Happening) (e : Event) (deeds : List Deed) (o : Outputs) (s' : NodeState) → NodeStep c k s e deeds o s' → SendsHints c k e deeds o hs
step_sends c k s hs e deeds o s' step = record {
  marked = λ peer is fits.
      let t = time_after s e in
      let time : o.time ≡ s'.time = ap (λ (z : Outputs). z.time) step.outputs in
      let lines : List Act = map act_of step.due in
      let ms = matter_of c k (looked_at s.time e) in
      let act : Act = Marks peer true in
      let in_all = within c k s (Rises t ∷ (lines ++ ms)) deeds s' [] [] step.moves in
      let made : (d : Deed) × Contains deeds d × (d.act ≡ act) = elim (in_all.taken act (contains_there (Rises t) (lines ++ ms) act (Contains-append_right lines ms act (mark_in c k s e peer is fits)))) [ inl left ↦ absurd (contains_nil _ left) | inr done ↦ done ] in
      let d : Deed = made.0 in
      let does : Does c k d.before act d.effects d.after = subst (λ (a : Act). Does c k d.before a d.effects d.after) made.2 (deeds_do c k s (Rises t ∷ (lines ++ ms)) deeds s' [] [] step.moves d made.1) in (
        d,
        made.1,
        made.2,
        λ h there.
            let x : Outbound = send_hint k h in
            let mine : h.peer ≡ peer = eqb-true h.peer peer (first_from c d.before peer h there).2 in
            let other : not (h.peer == k) ≡ true = ap (λ (n : ℕ). not (n == k)) mine ∙ (and_parts (not (peer == k)) _ fits).0 in
            let sent : Contains d.effects.sends x = subst (λ (y : Effects). Contains y.sends x) (sym does.0) (contains_map (send_hint k) (first_hints c d.before peer) h there) in
            let all : Contains (messages_of k s'.time (flat_map sends_of deeds)) (message_of k s'.time x) =
            contains_map (message_of k s'.time) (filter (λ (y : Outbound). not (y.upto == k)) (flat_map sends_of deeds)) x
            (contains_filter (λ (y : Outbound). not (y.upto == k)) (flat_map sends_of deeds) x (contains_flat sends_of deeds d x made.1 sent) other) in
            subst (λ (n : ℕ). Contains o.sends (hint_message k n h)) (sym time) (subst (λ (z : Outputs). Contains z.sends (hint_message k s'.time h)) (sym step.outputs) all),
      );
}

pub marks_send : (c : Setting) (w : World) (run : Run c w) → EachStep (SendsHints c) (story c w run)
marks_send c _ fresh = tt
marks_send c _ (went_on w w' k e run x) = (step_sends c k x.before (story c w run) e x.deeds x.outputs x.after x.step, marks_send c w run)
marks_send c _ (stopped_in w w' k e made failed run x) = marks_send c w run
marks_send c _ (stopped w w' k run x) = marks_send c w run
marks_send c _ (load w w' k run x) = marks_send c w run
marks_send c _ (load_failed w w' k run x) = marks_send c w run
marks_send c _ (turned w w' k run x) = marks_send c w run
