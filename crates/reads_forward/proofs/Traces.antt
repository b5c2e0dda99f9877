-- In each trace, so in each run, reads go forward.
use Rattle.std.proofs.Common.{◌≡◌, ℕ, Bool, true, false, Option, Some, None, ◌∷◌, refl, sym, subst}
use Rattle.std.specs.Prelude.{slice_get, slice_set, length, MatchBool}
use Rattle.cs_base.specs.declared.ids.ReqId.{ReqId}
use Rattle.cs_base.specs.declared.level.Level.{Level}
use Rattle.cs_base.proofs.Members.{contains_nil}
use Rattle.peer_messages.specs.declared.message.Body.{Body}
use Rattle.peer_messages.specs.declared.message.Body.TheVariants.{Write, WriteAck, Read, ReadReply, Mend, MendAck, Hint, HintAck}
use Rattle.peer_messages.specs.declared.chronicle.Entry.{Entry}
use Rattle.peer_messages.specs.declared.chronicle.Refusal.{Refusal}
use Rattle.peer_messages.specs.declared.event.Ask.{Ask}
use Rattle.peer_messages.specs.declared.event.Plan.{Plan}
use Rattle.peer_messages.specs.declared.event.Plan.TheVariants as plan
use Rattle.peer_messages.specs.declared.setting.Setting.{Setting}
use Rattle.node_steps.specs.State.{NodeState, fresh_node}
use Rattle.node_steps.specs.Effects.{Effects, nothing, effects_of}
use Rattle.node_steps.specs.Reads.{start_read}
use Rattle.node_steps.specs.Requests.{refusal_of, Begins, BeginsOrRefuses}
use Rattle.node_steps.specs.Acts.{Act, Rises, Hears, Asks, Marks, DeadlineComes, HintExpires, Incoming, Deed, Does, HearsBody, request_at, is_old, asker_of}
use Rattle.cluster_runs.specs.World.{World}
use Rattle.cluster_runs.specs.Run.{Run}
use Rattle.cluster_runs.specs.Trace.{Scene, scene_of, first_scene, WasMade, MayTake, Move, Trace, IsFree}
use Rattle.cluster_runs.specs.Trace.Trace.{begun, moved, wakes, forgets, free}
use Rattle.cluster_runs.specs.Trace.IsFree.{asked, marks, time, turned, tables, failed, submitted}
use Rattle.cluster_runs.proofs.Runs.{run_traced}
use Rattle.cluster_runs.proofs.Lists.{all_same}
use Rattle.reads_forward.specs.ReadsForward.{ReadsForward}
use Rattle.reads_forward.proofs.Facts.{BodyAhead, NodeAhead, Ahead}
use Rattle.read_consistency.proofs.Cases.{next}
use Rattle.read_consistency.proofs.Step.{with_entry}
use Rattle.reads_forward.proofs.Step.{entry_ahead, waking_ahead, forgetting_ahead}
use Rattle.reads_forward.proofs.Calm.{rises_case, unheard_case, refused_case, used_case, write_case, marks_case, expires_case, deadline_case, taken_in, hint_acked_case, ack_heard}
use Rattle.reads_forward.proofs.Reading.{read_begins, read_heard}
use Rattle.reads_forward.proofs.Hearing.{reply_heard, mend_heard, mend_ack_heard}

-- ---- a client asks

begins_case : (c : Setting) (w : Scene) (k : ℕ) (lost : Bool) (ask : Ask) (p : Plan) (l : Level) (s s' : NodeState) (o : Effects) → Ahead c w → slice_get w.nodes k ≡ Some s → MayTake w.past k s (Asks ask)
    → Begins c (request_at k s.risen) p l s o s' → Ahead c (next w k lost (Asks ask) s o s')
begins_case c w k lost ask (plan.Write d) l s s' o e at may (is, same) = write_case c w k lost (Asks ask) (request_at k s.risen) d s s' _ o e at is same refl refl
begins_case c w k lost ask (plan.Read q v) l s s' o e at may (is, same) =
    subst (λ (x : Effects). Ahead c (next w k lost (Asks ask) s x s')) (sym is)
    (subst (λ (x : NodeState). Ahead c (next w k lost (Asks ask) s (effects_of (start_read c s.down (request_at k s.risen) l q v)) x)) (sym same) (read_begins c w k lost ask s q l v e at may))
begins_case c w k lost ask (plan.Use keyspace) l s s' o e at may (is, same) = used_case c w k lost (Asks ask) (request_at k s.risen) keyspace s s' o e at is same
begins_case c w k lost ask (plan.Invalid fault) l s s' o e at may h = absurd h

asks_case : (c : Setting) (w : Scene) (k : ℕ) (lost : Bool) (ask : Ask) (r : Option Refusal) (s s' : NodeState) (o : Effects) → Ahead c w → slice_get w.nodes k ≡ Some s → MayTake w.past k s (Asks ask)
    → BeginsOrRefuses c (request_at k s.risen) ask.plan ask.level r s o s' → Ahead c (next w k lost (Asks ask) s o s')
asks_case c w k lost ask None s s' o e at may h = begins_case c w k lost ask ask.plan ask.level s s' o e at may h
asks_case c w k lost ask (Some r) s s' o e at may (is, same) = refused_case c w k lost (Asks ask) (request_at k s.risen) r s s' o e at is same

-- ---- a body comes

body_case : (c : Setting) (w : Scene) (k : ℕ) (lost : Bool) (from : ℕ) (id : ReqId) (b : Body) (a : Act) (s s' : NodeState) (o : Effects) → Ahead c w → slice_get w.nodes k ≡ Some s → BodyAhead w from id b
    → HearsBody c k (record { from = from; request = id }) b s o s' → Ahead c (next w k lost a s o s')
body_case c w k lost from id (Write m) a s s' o e at is h = taken_in c w k lost from id m WriteAck a s s' o e at tt h
body_case c w k lost from id WriteAck a s s' o e at is h = ack_heard c w k lost from id a s s' o e at h
body_case c w k lost from id (Read q) a s s' o e at (was, is) h = read_heard c w k lost from id q a s s' o e at was is h
body_case c w k lost from id (ReadReply content) a s s' o e at (was, is) h = reply_heard c w k lost from id content a s s' o e at is h
body_case c w k lost from id (Mend m) a s s' o e at (was, is) h = mend_heard c w k lost from id m a s s' o e at was is h
body_case c w k lost from id MendAck a s s' o e at (was, is) h = mend_ack_heard c w k lost from id a s s' o e at is h
body_case c w k lost from id (Hint number m) a s s' o e at is h = taken_in c w k lost from id m (HintAck number) a s s' o e at tt h
body_case c w k lost from id (HintAck number) a s s' o e at is h = hint_acked_case c w k lost from id number a s s' o e at h

-- what comes to a node is known
known : (c : Setting) (w : Scene) (k : ℕ) (m : Incoming) → Ahead c w → WasMade w.past k m → BodyAhead w m.from m.request m.body
known c w k m e made = subst (λ (j : ℕ). BodyAhead w j m.request m.body) made.node (e.bodies made.deed made.there _ made.made)

-- a body that is too old is not heard
heard_case : (c : Setting) (w : Scene) (k : ℕ) (lost : Bool) (m : Incoming) (old : Bool) (s s' : NodeState) (o : Effects) → Ahead c w → slice_get w.nodes k ≡ Some s → WasMade w.past k m
    → MatchBool old ((o ≡ nothing) × (s' ≡ s)) (HearsBody c k (asker_of m) m.body s o s') → Ahead c (next w k lost (Hears m) s o s')
heard_case c w k lost m true s s' o e at made (is, same) = unheard_case c w k lost (Hears m) s s' o e at is same
heard_case c w k lost m false s s' o e at made h = body_case c w k lost m.from m.request m.body (Hears m) s s' o e at (known c w k m e made) h

-- ---- traces

move_case : (c : Setting) (w : Scene) (k : ℕ) (lost : Bool) (a : Act) (s s' : NodeState) (o : Effects) → Ahead c w → slice_get w.nodes k ≡ Some s → MayTake w.past k s a → Does c k s a o s' → Ahead c (next w k lost a s o s')
move_case c w k lost (Rises t) s s' o e at may h = rises_case c w k lost t s s' o e at h
move_case c w k lost (Hears m) s s' o e at may h = heard_case c w k lost m (is_old c s.risen m.born) s s' o e at may h
move_case c w k lost (Asks ask) s s' o e at may h = asks_case c w k lost ask (refusal_of c s (request_at k s.risen) ask.plan ask.level) s s' o e at may h
move_case c w k lost (Marks peer up) s s' o e at may h = marks_case c w k lost peer up s s' o e at h
move_case c w k lost (DeadlineComes id) s s' o e at may h = deadline_case c w k lost id s s' o e at h
move_case c w k lost (HintExpires peer number) s s' o e at may h = expires_case c w k lost peer number s s' o e at h

moved_case : (c : Setting) (w w' : Scene) (k : ℕ) (lost : Bool) (d : Deed) → Ahead c w → Move c w k lost d w' → Ahead c w'
moved_case c w w' k lost d e m =
    let after = move_case c w k lost d.act d.before d.after d.effects e m.at m.may_take m.does in
    subst (λ (v : Scene). Ahead c v) (sym m.scene)
    (subst (λ (j : ℕ). Ahead c (record {
      nodes = slice_set w.nodes k d.after;
      chronicle = (next w k lost d.act d.before d.effects d.after).chronicle;
      past = record { node = j; act = d.act; before = d.before; after = d.after; effects = d.effects } ∷ w.past;
      losing = w.losing;
    })) (sym m.mine) after)

free_case : (c : Setting) (w : Scene) (x : Entry) → Ahead c w → IsFree w.past x → Ahead c (with_entry w x)
free_case c w _ e (asked r) = entry_ahead c w _ e tt
free_case c w _ e (marks k alive) = entry_ahead c w _ e tt
free_case c w _ e (time k t) = entry_ahead c w _ e tt
free_case c w _ e (turned k refusal) = entry_ahead c w _ e tt
free_case c w _ e (tables k n) = entry_ahead c w _ e tt
free_case c w _ e (failed k) = entry_ahead c w _ e tt
free_case c w _ e (submitted id m new) = entry_ahead c w _ e tt

fresh_ahead : (c : Setting) (w : Scene) (k : ℕ) → NodeAhead c w k fresh_node
fresh_ahead c w k = record { distinct = tt; reads = λ id o h. absurd (contains_nil _ h) }

trace_ahead : (c : Setting) (w : Scene) → Trace c w → Ahead c w
trace_ahead c _ begun = record {
  nodes = λ k s h. subst (λ (v : NodeState). NodeAhead c (first_scene c) k v) (all_same (length c.ring) fresh_node k s h) (fresh_ahead c (first_scene c) k);
  bodies = λ d h. absurd (contains_nil d h);
  entries = λ x h. absurd (contains_nil x h);
  forward = tt;
}
trace_ahead c _ (moved w w' k lost d t m) = moved_case c w w' k lost d (trace_ahead c w t) m
trace_ahead c _ (wakes w k t none) = waking_ahead c w k (trace_ahead c w t)
trace_ahead c _ (forgets w k s found t losing at same) = forgetting_ahead c w k s found (trace_ahead c w t) at same
trace_ahead c _ (free w x t i) = free_case c w x (trace_ahead c w t) i

pub run_forward : (c : Setting) (w : World) → Run c w → ReadsForward c w.chronicle
run_forward c w run = (trace_ahead c (scene_of w) (run_traced c w run)).forward
