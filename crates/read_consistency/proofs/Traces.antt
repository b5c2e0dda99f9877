-- In each trace, so in each run, each answer is right.
use Rattle.std.proofs.Common.{◌≡◌, ℕ, Bool, true, false, Some, ◌∷◌, sym, subst}
use Rattle.std.specs.Prelude.{slice_get, slice_set, length, MatchBool}
use Rattle.cs_base.specs.declared.ids.ReqId.{ReqId}
use Rattle.peer_messages.specs.declared.message.Body.{Body}
use Rattle.peer_messages.specs.declared.message.Body.TheVariants.{Write, WriteAck, Read, ReadReply, Mend, MendAck, Hint, HintAck}
use Rattle.peer_messages.specs.declared.chronicle.Entry.{Entry}
use Rattle.peer_messages.specs.declared.setting.Setting.{Setting}
use Rattle.node_steps.specs.State.{NodeState, fresh_node}
use Rattle.node_steps.specs.Effects.{Effects, nothing}
use Rattle.node_steps.specs.Fitting.{write_fits}
use Rattle.node_steps.specs.Requests.{refusal_of}
use Rattle.node_steps.specs.Acts.{Act, Rises, Hears, Asks, Marks, DeadlineComes, HintExpires, Incoming, Deed, Does, HearsBody, request_at, is_old, asker_of}
use Rattle.cluster_runs.specs.World.{World}
use Rattle.cluster_runs.specs.Run.{Run}
use Rattle.cluster_runs.specs.Trace.{Scene, scene_of, first_scene, WasMade, MayTake, AreTold, loser, Move, Trace, IsFree}
use Rattle.cluster_runs.specs.Trace.Trace.{begun, moved, wakes, forgets, free}
use Rattle.cluster_runs.specs.Trace.IsFree.{asked, marks, time, turned, tables, failed, submitted}
use Rattle.cluster_runs.proofs.Runs.{run_traced}
use Rattle.cluster_runs.proofs.Lists.{all_same}
use Rattle.cs_base.proofs.Members.{contains_nil}
use Rattle.read_consistency.specs.ReadRight.{ReadRight}
use Rattle.read_consistency.proofs.Facts.{WasBegun, BodyIs, NodeOk, Explains}
use Rattle.read_consistency.proofs.Once.{AreOnce, trace_once}
use Rattle.read_consistency.proofs.Step.{explains_entry, explains_waking, explains_forgetting}
use Rattle.read_consistency.proofs.Cases.{next, rises_case, unheard_case, asks_case}
use Rattle.read_consistency.proofs.Hearing.{known, taken_in, mend_heard, ack_heard, read_heard}
use Rattle.read_consistency.proofs.Replies.{reply_heard, mend_ack_heard}
use Rattle.read_consistency.proofs.Hinting.{marks_case, hint_acked_case, expires_case, deadline_case}

body_case : (c : Setting) (w : Scene) (k : ℕ) (lost : Bool) (from : ℕ) (id : ReqId) (b : Body) (a : Act) (s s' : NodeState) (o : Effects) → w.losing ≡ loser lost k → AreOnce w.past → Explains c w → slice_get w.nodes k ≡ Some s → WasBegun w.past id → BodyIs w from id b
    → HearsBody c k (record { from = from; request = id }) b s o s' → Explains c (next w k lost a s o s')
body_case c w k lost from id (Write m) a s s' o losing once e at was is h = taken_in c w k lost from id m WriteAck s s' o e at a was is (λ v has. has) h
body_case c w k lost from id WriteAck a s s' o losing once e at was is h = ack_heard c w k lost from id s s' o e at a is h
body_case c w k lost from id (Read q) a s s' o losing once e at was is h = read_heard c w k lost from id q s s' o e at a is.0 is.1 h
body_case c w k lost from id (ReadReply content) a s s' o losing once e at was is h = reply_heard c w k lost from id content s s' o losing once e at a is h
body_case c w k lost from id (Mend m) a s s' o losing once e at was is h = mend_heard c w k lost from id m (write_fits c m) s s' o e at a was is h
body_case c w k lost from id MendAck a s s' o losing once e at was is h = mend_ack_heard c w k lost from id s s' o losing once e at a h
body_case c w k lost from id (Hint number m) a s s' o losing once e at was is h = taken_in c w k lost from id m (HintAck number) s s' o e at a was is (λ v has. tt) h
body_case c w k lost from id (HintAck number) a s s' o losing once e at was is h = hint_acked_case c w k lost from id number s s' o e at a h

-- a body that is too old is not heard
heard_case : (c : Setting) (w : Scene) (k : ℕ) (lost : Bool) (m : Incoming) (old : Bool) (s s' : NodeState) (o : Effects) → w.losing ≡ loser lost k → AreOnce w.past → Explains c w → slice_get w.nodes k ≡ Some s → WasMade w.past k m
    → MatchBool old ((o ≡ nothing) × (s' ≡ s)) (HearsBody c k (asker_of m) m.body s o s') → Explains c (next w k lost (Hears m) s o s')
heard_case c w k lost m true s s' o losing once e at made (is, same) = unheard_case c w k lost (Hears m) s s' o e at is same
heard_case c w k lost m false s s' o losing once e at made h = let was = known c w k m e made in body_case c w k lost m.from m.request m.body (Hears m) s s' o losing once e at was.begun was.is h

move_case : (c : Setting) (w : Scene) (k : ℕ) (lost : Bool) (a : Act) (s s' : NodeState) (o : Effects) → w.losing ≡ loser lost k → AreOnce w.past → Explains c w → slice_get w.nodes k ≡ Some s → MayTake w.past k s a → AreTold lost w.chronicle o.entries → Does c k s a o s'
    → Explains c (next w k lost a s o s')
move_case c w k lost (Rises t) s s' o losing once e at may told h = rises_case c w k lost t s s' o e at h
move_case c w k lost (Hears m) s s' o losing once e at may told h = heard_case c w k lost m (is_old c s.risen m.born) s s' o losing once e at may h
move_case c w k lost (Asks ask) s s' o losing once e at may told h = asks_case c w k lost ask (refusal_of c s (request_at k s.risen) ask.plan ask.level) s s' o e at may losing told h
move_case c w k lost (Marks peer up) s s' o losing once e at may told h = marks_case c w k lost peer up s s' o e at h
move_case c w k lost (DeadlineComes id) s s' o losing once e at may told h = deadline_case c w k lost id s s' o e at h
move_case c w k lost (HintExpires peer number) s s' o losing once e at may told h = expires_case c w k lost peer number s s' o e at h

fresh_ok : (c : Setting) (w : Scene) (k : ℕ) → NodeOk c w k fresh_node
fresh_ok c w k = record {
  of = λ p x h. absurd (contains_nil _ h);
  writes = λ id o h. absurd (contains_nil _ h);
  reads = λ id o h. absurd (contains_nil _ h);
  hints = λ x h. absurd (contains_nil _ h);
}

free_case : (c : Setting) (w : Scene) (e : Entry) → Explains c w → IsFree w.past e → Explains c (record w { chronicle = e ∷ w.chronicle })
free_case c w _ h (asked r) = explains_entry c w _ h tt tt tt
free_case c w _ h (marks k alive) = explains_entry c w _ h tt tt tt
free_case c w _ h (time k t) = explains_entry c w _ h tt tt tt
free_case c w _ h (turned k refusal) = explains_entry c w _ h tt tt tt
free_case c w _ h (tables k n) = explains_entry c w _ h tt tt tt
free_case c w _ h (failed k) = explains_entry c w _ h tt tt tt
free_case c w _ h (submitted id m new) = explains_entry c w _ h (λ b. new b.0 b.1 b.2) tt tt

moved_case : (c : Setting) (w w' : Scene) (k : ℕ) (lost : Bool) (d : Deed) → AreOnce w.past → Explains c w → Move c w k lost d w' → Explains c w'
moved_case c w w' k lost d once e m =
    let after = move_case c w k lost d.act d.before d.after d.effects m.losing once e m.at m.may_take m.told m.does in
    subst (λ (v : Scene). Explains c v) (sym m.scene)
    (subst (λ (j : ℕ). Explains c (record {
      nodes = slice_set w.nodes k d.after;
      chronicle = (next w k lost d.act d.before d.effects d.after).chronicle;
      past = record { node = j; act = d.act; before = d.before; after = d.after; effects = d.effects } ∷ w.past;
      losing = w.losing;
    })) (sym m.mine) after)

pub trace_explained : (c : Setting) (w : Scene) → Trace c w → Explains c w
trace_explained c _ begun = record {
  nodes = λ k s h. subst (λ (v : NodeState). NodeOk c (first_scene c) k v) (all_same (length c.ring) fresh_node k s h) (fresh_ok c (first_scene c) k);
  bodies = λ d h. absurd (contains_nil d h);
  entries = λ x h. absurd (contains_nil x h);
  right = tt;
}
trace_explained c _ (moved w w' k lost d t m) = moved_case c w w' k lost d (trace_once c w t) (trace_explained c w t) m
trace_explained c _ (wakes w k t none) = explains_waking c w k (trace_explained c w t) none
trace_explained c _ (forgets w k s found t losing at same) = explains_forgetting c w k s found (trace_explained c w t) losing at same
trace_explained c _ (free w e t i) = free_case c w e (trace_explained c w t) i

pub run_right : (c : Setting) (w : World) → Run c w → ReadRight c w.chronicle
run_right c w run = (trace_explained c (scene_of w) (run_traced c w run)).right
