-- A node's time does not fall, not at a load either: it never passes the ceiling that the node keeps.
use Rattle.std.proofs.Common.{◌≡◌, ℕ, inl, inr, ◌≤◌, ◌<◌, ◌+◌, Bool, true, false, Option, Some, None, refl, sym, ap, subst, ◌∙◌, arith, Contains}
use Rattle.std.specs.Prelude.{slice_get, slice_set, nat_lt, if◌then◌else◌, MatchBool, length}
use Rattle.std.proofs.lemmas.Bool.{ltb-false}
use Rattle.cs_base.specs.declared.ids.ReqId.{ReqId}
use Rattle.cs_base.specs.declared.level.Level.{Level}
use Rattle.changes.specs.declared.Mutation.{Mutation}
use Rattle.peer_messages.specs.declared.event.Plan.{Plan}
use Rattle.peer_messages.specs.declared.event.Plan.TheVariants as plan
use Rattle.peer_messages.specs.declared.message.Body.{Body}
use Rattle.peer_messages.specs.declared.message.Body.TheVariants.{Write, WriteAck, Read, ReadReply, Mend, MendAck, Hint, HintAck}
use Rattle.peer_messages.specs.declared.chronicle.Refusal.{Refusal}
use Rattle.peer_messages.specs.declared.setting.Setting.{Setting}
use Rattle.node_steps.specs.State.{NodeState, OpenWrite, OpenRead, loaded, fresh_node}
use Rattle.node_steps.specs.Effects.{Effects, nothing, open_at}
use Rattle.node_steps.specs.Hints.{with_sent, is_last, hint_done}
use Rattle.node_steps.specs.Fitting.{write_fits}
use Rattle.node_steps.specs.Replicas.{Asker}
use Rattle.node_steps.specs.Requests.{refusal_of, Begins, BeginsOrRefuses}
use Rattle.node_steps.specs.Acts.{Act, Rises, Hears, Asks, Marks, DeadlineComes, HintExpires, Incoming, Deed, Does, HearsBody, TakesChanges, Ends, EndsRead, mark_state, ceiling_after, is_old, asker_of, request_at}
use Rattle.cluster_runs.specs.Trace.{Scene, Trace, begun, moved, wakes, forgets, free}
use Rattle.cs_base.proofs.Slots.{get_set}
use Rattle.cluster_runs.proofs.Lists.{all_same}
use Rattle.cs_base.proofs.Members.{contains_nil, contains_cases}

-- what a node's step rose to is not above its time, which stays below the ceiling
pub record HasRisen (s : NodeState) : Type 0 where
  pub risen : s.risen ≤ s.time
  pub under : s.time ≤ s.ceiling

-- time goes on
pub record Later (s s' : NodeState) : Type 0 where
  pub risen : s.risen ≤ s.time → s.risen ≤ s'.risen
  pub below : s.risen ≤ s.time → s'.risen ≤ s'.time
  pub under : s.time ≤ s.ceiling → s'.time ≤ s'.ceiling

same_times : (s s' r : NodeState) → s' ≡ r → r.time ≡ s.time → r.risen ≡ s.risen → r.ceiling ≡ s.ceiling → Later s s'
same_times s s' r is time risen ceiling =
    let e : s'.time ≡ s.time = ap (λ (x : NodeState). x.time) is ∙ time in
    let g : s'.risen ≡ s.risen = ap (λ (x : NodeState). x.risen) is ∙ risen in
    let f : s'.ceiling ≡ s.ceiling = ap (λ (x : NodeState). x.ceiling) is ∙ ceiling in
    record { risen = λ h. omega (arith, g); below = λ h. omega (arith, e, g, h); under = λ h. omega (arith, e, f, h) }

above_case : (b : Bool) (ceiling time : ℕ) → nat_lt ceiling time ≡ b → time ≤ (if b then time + 1000000 else ceiling)
above_case true ceiling time test = omega arith
above_case false ceiling time test = ltb-false ceiling time test

above : (ceiling time : ℕ) → time ≤ ceiling_after ceiling time
above ceiling time = above_case (nat_lt ceiling time) ceiling time refl

rises_later : (s s' : NodeState) (time : ℕ) → s.time < time → s' ≡ record s { time = time; risen = time; ceiling = ceiling_after s.ceiling time } → Later s s'
rises_later s s' time later is =
    let e : s'.time ≡ time = ap (λ (x : NodeState). x.time) is in
    let g : s'.risen ≡ time = ap (λ (x : NodeState). x.risen) is in
    let f : s'.ceiling ≡ ceiling_after s.ceiling time = ap (λ (x : NodeState). x.ceiling) is in
    record {
      risen = λ h. omega (arith, g, later, h);
      below = λ h. omega (arith, e, g);
      under = λ h. subst (λ (n : ℕ). n ≤ s'.ceiling) (sym e) (subst (λ (n : ℕ). time ≤ n) (sym f) (above s.ceiling time));
    }

acked_times : (c : Setting) (b : Bool) (s : NodeState) (peer number : ℕ) → Later s (if b then with_sent c (hint_done s peer number) peer else hint_done s peer number)
acked_times c true s peer number = same_times s _ _ refl refl refl refl
acked_times c false s peer number = same_times s _ _ refl refl refl refl

to_later : (s s' r : NodeState) → s' ≡ r → Later s r → Later s s'
to_later s s' r is h = subst (λ (x : NodeState). Later s x) (sym is) h

mend_later : (a : Asker) (m : Mutation) (fits : Bool) (s : NodeState) (o : Effects) (s' : NodeState) → MatchBool fits (TakesChanges a m.partition m.changes MendAck s o s') ((o ≡ nothing) × (s' ≡ s)) → Later s s'
mend_later a m true s o s' h = same_times s s' _ h.3 refl refl refl
mend_later a m false s o s' h = same_times s s' s h.1 refl refl refl

hears_later : (c : Setting) (me : ℕ) (a : Asker) (b : Body) (s : NodeState) (o : Effects) (s' : NodeState) → HearsBody c me a b s o s' → Later s s'
hears_later c me a (Write m) s o s' h = same_times s s' _ h.3 refl refl refl
hears_later c me a WriteAck s o s' h = same_times s s' _ h.3 refl refl refl
hears_later c me a (Read q) s o s' h = same_times s s' _ h.3 refl refl refl
hears_later c me a (ReadReply content) s o s' h = same_times s s' _ h.3 refl refl refl
hears_later c me a (Mend m) s o s' h = mend_later a m (write_fits c m) s o s' h
hears_later c me a MendAck s o s' h = same_times s s' _ h.3 refl refl refl
hears_later c me a (Hint number m) s o s' h = same_times s s' _ h.3 refl refl refl
hears_later c me a (HintAck number) s o s' h = to_later s s' _ h.1 (acked_times c (is_last s a.from number) s a.from number)

comes_later : (c : Setting) (me : ℕ) (m : Incoming) (old : Bool) (s : NodeState) (o : Effects) (s' : NodeState) → MatchBool old ((o ≡ nothing) × (s' ≡ s)) (HearsBody c me (asker_of m) m.body s o s') → Later s s'
comes_later c me m true s o s' h = same_times s s' s h.1 refl refl refl
comes_later c me m false s o s' h = hears_later c me (asker_of m) m.body s o s' h

ends_read_later : (c : Setting) (id : ReqId) (r : Option OpenRead) (s : NodeState) (o : Effects) (s' : NodeState) → EndsRead c id r s o s' → Later s s'
ends_read_later c id None s o s' h = same_times s s' _ h.1 refl refl refl
ends_read_later c id (Some r) s o s' h = same_times s s' _ h.1 refl refl refl

ends_later : (c : Setting) (id : ReqId) (w : Option OpenWrite) (s : NodeState) (o : Effects) (s' : NodeState) → Ends c id w s o s' → Later s s'
ends_later c id None s o s' h = ends_read_later c id (open_at s.reads id) s o s' h
ends_later c id (Some w) s o s' h = same_times s s' _ h.1 refl refl refl

marks_later : (c : Setting) (s s' : NodeState) (peer : ℕ) (up : Bool) → s' ≡ mark_state c s peer up → Later s s'
marks_later c s s' peer true is = same_times s s' _ is refl refl refl
marks_later c s s' peer false is = same_times s s' _ is refl refl refl

begins_later : (c : Setting) (id : ReqId) (p : Plan) (l : Level) (s : NodeState) (o : Effects) (s' : NodeState) → Begins c id p l s o s' → Later s s'
begins_later c id (plan.Write d) l s o s' h = same_times s s' _ h.1 refl refl refl
begins_later c id (plan.Read q columns) l s o s' h = same_times s s' _ h.1 refl refl refl
begins_later c id (plan.Use keyspace) l s o s' h = same_times s s' _ h.1 refl refl refl
begins_later c id (plan.Invalid fault) l s o s' h = absurd h

asks_later : (c : Setting) (id : ReqId) (p : Plan) (l : Level) (r : Option Refusal) (s : NodeState) (o : Effects) (s' : NodeState) → BeginsOrRefuses c id p l r s o s' → Later s s'
asks_later c id p l None s o s' h = begins_later c id p l s o s' h
asks_later c id p l (Some r) s o s' h = same_times s s' _ h.1 refl refl refl

pub does_later : (c : Setting) (me : ℕ) (s : NodeState) (a : Act) (o : Effects) (s' : NodeState) → Does c me s a o s' → Later s s'
does_later c me s (Rises time) o s' h = rises_later s s' time (let later = h.0 in omega arith) h.2
does_later c me s (Hears m) o s' h = comes_later c me m (is_old c s.risen m.born) s o s' h
does_later c me s (Asks ask) o s' h = asks_later c (request_at me s.risen) ask.plan ask.level (refusal_of c s (request_at me s.risen) ask.plan ask.level) s o s' h
does_later c me s (Marks peer up) o s' h = marks_later c s s' peer up h.1
does_later c me s (DeadlineComes id) o s' h = ends_later c id (open_at s.writes id) s o s' h
does_later c me s (HintExpires peer number) o s' h = same_times s s' _ h.1 refl refl refl

-- ---- time rises at the beginning of a step alone

abbrev pub IsSteady : Act → Type 0
IsSteady (Rises time) = ⊥
IsSteady (Hears m) = Unit {0}
IsSteady (Asks ask) = Unit {0}
IsSteady (Marks peer up) = Unit {0}
IsSteady (DeadlineComes id) = Unit {0}
IsSteady (HintExpires peer number) = Unit {0}

pub record IsAtOnce (s s' : NodeState) : Type 0 where
  pub time : s'.time ≡ s.time
  pub risen : s'.risen ≡ s.risen

at_once : (s s' r : NodeState) → s' ≡ r → r.time ≡ s.time → r.risen ≡ s.risen → IsAtOnce s s'
at_once s s' r is time risen = record { time = ap (λ (x : NodeState). x.time) is ∙ time; risen = ap (λ (x : NodeState). x.risen) is ∙ risen }

acked_at : (c : Setting) (b : Bool) (s : NodeState) (peer number : ℕ) → IsAtOnce s (if b then with_sent c (hint_done s peer number) peer else hint_done s peer number)
acked_at c true s peer number = at_once s _ _ refl refl refl
acked_at c false s peer number = at_once s _ _ refl refl refl

to_at : (s s' r : NodeState) → s' ≡ r → IsAtOnce s r → IsAtOnce s s'
to_at s s' r is h = subst (λ (x : NodeState). IsAtOnce s x) (sym is) h

mend_at : (a : Asker) (m : Mutation) (fits : Bool) (s : NodeState) (o : Effects) (s' : NodeState) → MatchBool fits (TakesChanges a m.partition m.changes MendAck s o s') ((o ≡ nothing) × (s' ≡ s)) → IsAtOnce s s'
mend_at a m true s o s' h = at_once s s' _ h.3 refl refl
mend_at a m false s o s' h = at_once s s' s h.1 refl refl

body_at : (c : Setting) (me : ℕ) (a : Asker) (b : Body) (s : NodeState) (o : Effects) (s' : NodeState) → HearsBody c me a b s o s' → IsAtOnce s s'
body_at c me a (Write m) s o s' h = at_once s s' _ h.3 refl refl
body_at c me a WriteAck s o s' h = at_once s s' _ h.3 refl refl
body_at c me a (Read q) s o s' h = at_once s s' _ h.3 refl refl
body_at c me a (ReadReply content) s o s' h = at_once s s' _ h.3 refl refl
body_at c me a (Mend m) s o s' h = mend_at a m (write_fits c m) s o s' h
body_at c me a MendAck s o s' h = at_once s s' _ h.3 refl refl
body_at c me a (Hint number m) s o s' h = at_once s s' _ h.3 refl refl
body_at c me a (HintAck number) s o s' h = to_at s s' _ h.1 (acked_at c (is_last s a.from number) s a.from number)

comes_at : (c : Setting) (me : ℕ) (m : Incoming) (old : Bool) (s : NodeState) (o : Effects) (s' : NodeState) → MatchBool old ((o ≡ nothing) × (s' ≡ s)) (HearsBody c me (asker_of m) m.body s o s') → IsAtOnce s s'
comes_at c me m true s o s' h = at_once s s' s h.1 refl refl
comes_at c me m false s o s' h = body_at c me (asker_of m) m.body s o s' h

asks_at : (c : Setting) (id : ReqId) (p : Plan) (l : Level) (r : Option Refusal) (s : NodeState) (o : Effects) (s' : NodeState) → BeginsOrRefuses c id p l r s o s' → IsAtOnce s s'
asks_at c id (plan.Write d) l None s o s' h = at_once s s' _ h.1 refl refl
asks_at c id (plan.Read q columns) l None s o s' h = at_once s s' _ h.1 refl refl
asks_at c id (plan.Use keyspace) l None s o s' h = at_once s s' _ h.1 refl refl
asks_at c id (plan.Invalid fault) l None s o s' h = absurd h
asks_at c id p l (Some r) s o s' h = at_once s s' _ h.1 refl refl

ends_read_at : (c : Setting) (id : ReqId) (r : Option OpenRead) (s : NodeState) (o : Effects) (s' : NodeState) → EndsRead c id r s o s' → IsAtOnce s s'
ends_read_at c id None s o s' h = at_once s s' _ h.1 refl refl
ends_read_at c id (Some r) s o s' h = at_once s s' _ h.1 refl refl

ends_at : (c : Setting) (id : ReqId) (w : Option OpenWrite) (s : NodeState) (o : Effects) (s' : NodeState) → Ends c id w s o s' → IsAtOnce s s'
ends_at c id None s o s' h = ends_read_at c id (open_at s.reads id) s o s' h
ends_at c id (Some w) s o s' h = at_once s s' _ h.1 refl refl

marks_at : (c : Setting) (s s' : NodeState) (peer : ℕ) (up : Bool) → s' ≡ mark_state c s peer up → IsAtOnce s s'
marks_at c s s' peer true is = at_once s s' _ is refl refl
marks_at c s s' peer false is = at_once s s' _ is refl refl

pub does_at_once : (c : Setting) (me : ℕ) (s : NodeState) (a : Act) (o : Effects) (s' : NodeState) → IsSteady a → Does c me s a o s' → IsAtOnce s s'
does_at_once c me s (Rises time) o s' steady h = absurd steady
does_at_once c me s (Hears m) o s' steady h = comes_at c me m (is_old c s.risen m.born) s o s' h
does_at_once c me s (Asks ask) o s' steady h = asks_at c (request_at me s.risen) ask.plan ask.level (refusal_of c s (request_at me s.risen) ask.plan ask.level) s o s' h
does_at_once c me s (Marks peer up) o s' steady h = marks_at c s s' peer up h.1
does_at_once c me s (DeadlineComes id) o s' steady h = ends_at c id (open_at s.writes id) s o s' h
does_at_once c me s (HintExpires peer number) o s' steady h = at_once s s' _ h.1 refl refl

pub record AreTimely (w : Scene) : Type 0 where
  -- each move was made in a step that rose to a time that its node's last step rose to too
  pub passed : (d : Deed) → Contains w.past d → (s : NodeState) → slice_get w.nodes d.node ≡ Some s → d.before.risen ≤ s.risen
  pub risen : (k : ℕ) (s : NodeState) → slice_get w.nodes k ≡ Some s → HasRisen s

on_risen : (s s' : NodeState) → Later s s' → HasRisen s → HasRisen s'
on_risen s s' later h = record { risen = later.below h.risen; under = later.under h.under }

pub timely : (c : Setting) (w : Scene) → Trace c w → AreTimely w
timely c _ begun = record {
  passed = λ d h s at. absurd (contains_nil d h);
  risen = λ k s at. subst (λ (x : NodeState). HasRisen x) (all_same (length c.ring) fresh_node k s at) (record { risen = omega arith; under = omega arith });
}
timely c _ (free w e t i) = record { passed = (timely c w t).passed; risen = (timely c w t).risen }
timely c _ (wakes w k t l) = record { passed = (timely c w t).passed; risen = (timely c w t).risen }
timely c _ (forgets w k r found t l there kept) =
    let before = timely c w t in
    let has = before.risen k r there in
    let below = has.risen in
    let under = has.under in
    let ceiling = kept.ceiling in
    record {
      passed = λ d h s at. elim (get_set w.nodes k (loaded found) d.node s at) [
        | inl (same, is) ↦
            let p = before.passed d h r (subst (λ (j : ℕ). slice_get w.nodes j ≡ Some r) (sym same) there) in
            subst (λ (x : NodeState). d.before.risen ≤ x.risen) (sym is) (omega (arith, p, below, under, ceiling))
        | inr (other, old) ↦ before.passed d h s old
      ];
      risen = λ j s at. elim (get_set w.nodes k (loaded found) j s at) [
        | inl (same, is) ↦ subst (λ (x : NodeState). HasRisen x) (sym is) (record { risen = omega arith; under = omega arith })
        | inr (other, old) ↦ before.risen j s old
      ];
    }
timely c _ (moved w w' k lost x t m) =
    let before = timely c w t in
    let later = does_later c k x.before x.act x.effects x.after m.does in
    let has = before.risen k x.before m.at in
    let ahead = later.risen has.risen in
    record {
      passed = λ d h s at.
          let nodes : slice_get (slice_set w.nodes k x.after) d.node ≡ Some s = subst (λ (v : Scene). slice_get v.nodes d.node ≡ Some s) m.scene at in
          elim (contains_cases x w.past d (subst (λ (v : Scene). Contains v.past d) m.scene h)) [
            | inl here ↦
                elim (get_set w.nodes k x.after d.node s nodes) [
                  | inl (same, is) ↦ subst (λ (y : Deed). y.before.risen ≤ s.risen) here (subst (λ (r : NodeState). x.before.risen ≤ r.risen) (sym is) ahead)
                  | inr (other, old) ↦ absurd (other (ap (λ (y : Deed). y.node) (sym here) ∙ m.mine))
                ]
            | inr past ↦
                elim (get_set w.nodes k x.after d.node s nodes) [
                  | inl (same, is) ↦
                      let p = before.passed d past x.before (subst (λ (j : ℕ). slice_get w.nodes j ≡ Some x.before) (sym same) m.at) in
                      subst (λ (r : NodeState). d.before.risen ≤ r.risen) (sym is) (omega (arith, p, ahead))
                  | inr (other, old) ↦ before.passed d past s old
                ]
          ];
      risen = λ j s at.
          elim (get_set w.nodes k x.after j s (subst (λ (v : Scene). slice_get v.nodes j ≡ Some s) m.scene at)) [
            | inl (same, is) ↦ subst (λ (r : NodeState). HasRisen r) (sym is) (on_risen x.before x.after later has)
            | inr (other, old) ↦ before.risen j s old
          ];
    }
