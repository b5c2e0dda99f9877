-- Each move that is about hints, and each deadline, keeps what is known.
use Rattle.std.proofs.Common.{◌≡◌, ℕ, Bool, true, false, Option, Some, None, [], ◌∷◌, refl, sym, subst, Contains}
use Rattle.std.specs.Prelude.{slice_get, nat_lt, if◌then◌else◌}
use Rattle.std.specs.BTreeMap.{is_at}
use Rattle.cs_base.specs.declared.ids.ReqId.{ReqId}
use Rattle.cs_base.specs.Requests.{request_cmp}
use Rattle.row_change.specs.declared.entry.Hint.{Hint}
use Rattle.peer_messages.specs.declared.chronicle.Entry.TheVariants.{Refused}
use Rattle.peer_messages.specs.declared.chronicle.Refusal.{Refusal}
use Rattle.peer_messages.specs.declared.chronicle.Refusal.TheVariants.{WriteTimeout, ReadTimeout}
use Rattle.peer_messages.specs.declared.message.Body.TheVariants as body
use Rattle.peer_messages.specs.declared.outcome.Outbound.{Outbound}
use Rattle.peer_messages.specs.declared.setting.Setting.{Setting}
use Rattle.peer_messages.specs.Settings.{marked}
use Rattle.node_steps.specs.State.{NodeState, OpenWrite, OpenRead}
use Rattle.node_steps.specs.Effects.{Effects, nothing, effects_of, open_at}
use Rattle.node_steps.specs.Hints.{hints_in, drop_hint, send_hint, sends_hints, with_hints_of, with_sent, is_last, hint_done}
use Rattle.node_steps.specs.Writes.{acks_of, write_needs, unheard}
use Rattle.node_steps.specs.Reads.{replies_of, read_needs, received_of, timeout_of}
use Rattle.node_steps.specs.Acts.{Act, Marks, DeadlineComes, HintExpires, Does, HearsBody, Ends, EndsRead, mark_state, mark_sends, ends_write, ends_read}
use Rattle.node_steps.proofs.HintMembers.{sent_from, dropped_from}
use Rattle.node_steps.proofs.Opened.{open_in, in_left}
use Rattle.cs_base.proofs.Members.{contains_nil}
use Rattle.cluster_runs.specs.Trace.{Scene}
use Rattle.read_consistency.proofs.Facts.{BodyOk, HintOk, NodeOk, Explains}
use Rattle.read_consistency.proofs.Grows.{Grows, hint_on}
use Rattle.read_consistency.proofs.Cases.{next, only_sends, same_case, sends_case, one_entry, node_later, left_hints}

-- ---- hints go out

hint_body : (w : Scene) (k : ℕ) (h : Hint) → HintOk w k h → BodyOk w k (send_hint k h)
hint_body w k h ok = record { begun = ok.begun; is = ok.is }

sent_bodies : (c : Setting) (w w' : Scene) (k : ℕ) (s : NodeState) (peer : ℕ) → Grows w w' → ((h : Hint) → Contains s.hints h → HintOk w k h) → (x : Outbound) → Contains (sends_hints c k s peer) x → BodyOk w' k x
sent_bodies c w w' k s peer g hints x there =
    let made = sent_from c k s peer x there in
    subst (λ (y : Outbound). BodyOk w' k y) made.3 (hint_body w' k made.0 (hint_on w w' g k made.0 (hints made.0 made.1)))

none_sent : (w : Scene) (k : ℕ) (x : Outbound) → Contains [] x → BodyOk w k x
none_sent w k x h = absurd (contains_nil x h)

-- ---- a node is marked

marked_case : (c : Setting) (w : Scene) (k : ℕ) (lost : Bool) (peer : ℕ) (up : Bool) (s : NodeState) → Explains c w → slice_get w.nodes k ≡ Some s
    → Explains c (next w k lost (Marks peer up) s (only_sends (mark_sends c k s peer up)) (mark_state c s peer up))
marked_case c w k lost peer true s e at =
    let r = mark_state c s peer true in
    sends_case c w k lost (Marks peer true) s r (sends_hints c k s peer) e at refl
    (λ w' g losing. let old = node_later c w k s e at w' g losing in record { of = old.of; writes = old.writes; reads = old.reads; hints = old.hints })
    (λ w' g. sent_bodies c w w' k s peer g (e.nodes k s at).hints)
marked_case c w k lost peer false s e at = same_case c w k lost (Marks peer false) s (record s { down = marked s.down peer false }) e at refl refl refl refl

pub marks_case : (c : Setting) (w : Scene) (k : ℕ) (lost : Bool) (peer : ℕ) (up : Bool) (s s' : NodeState) (o : Effects) → Explains c w → slice_get w.nodes k ≡ Some s → Does c k s (Marks peer up) o s'
    → Explains c (next w k lost (Marks peer up) s o s')
marks_case c w k lost peer up s s' o e at (is, same) =
    subst (λ (x : Effects). Explains c (next w k lost (Marks peer up) s x s')) (sym is)
    (subst (λ (x : NodeState). Explains c (next w k lost (Marks peer up) s (only_sends (mark_sends c k s peer up)) x)) (sym same) (marked_case c w k lost peer up s e at))

-- ---- a hint is acknowledged, or too old

-- without it the node knows what it knew
done_ok : (c : Setting) (w : Scene) (k : ℕ) (s : NodeState) (peer number : ℕ) → NodeOk c w k s → NodeOk c w k (hint_done s peer number)
done_ok c w k s peer number old = record { of = old.of; writes = old.writes; reads = old.reads; hints = λ h there. old.hints h (dropped_from peer number (hints_in s) h there) }

acked_case : (c : Setting) (w : Scene) (k : ℕ) (lost : Bool) (a : Act) (peer number : ℕ) (last : Bool) (s : NodeState) → Explains c w → slice_get w.nodes k ≡ Some s
    → Explains c (next w k lost a s (only_sends (if last then sends_hints c k (hint_done s peer number) peer else [])) (if last then with_sent c (hint_done s peer number) peer else hint_done s peer number))
acked_case c w k lost a peer number true s e at =
    let done = hint_done s peer number in
    sends_case c w k lost a s (with_sent c done peer) (sends_hints c k done peer) e at refl
    (λ w' g losing. let old = done_ok c w' k s peer number (node_later c w k s e at w' g losing) in record { of = old.of; writes = old.writes; reads = old.reads; hints = old.hints })
    (λ w' g. sent_bodies c w w' k done peer g (done_ok c w k s peer number (e.nodes k s at)).hints)
acked_case c w k lost a peer number false s e at =
    sends_case c w k lost a s (hint_done s peer number) [] e at refl (λ w' g losing. done_ok c w' k s peer number (node_later c w k s e at w' g losing)) (λ w' g. none_sent w' k)

pub hint_acked_case : (c : Setting) (w : Scene) (k : ℕ) (lost : Bool) (from : ℕ) (id : ReqId) (number : ℕ) (s s' : NodeState) (o : Effects) → Explains c w → slice_get w.nodes k ≡ Some s → (a : Act)
    → HearsBody c k (record { from = from; request = id }) (body.HintAck number) s o s' → Explains c (next w k lost a s o s')
hint_acked_case c w k lost from id number s s' o e at a (is, same) =
    subst (λ (x : Effects). Explains c (next w k lost a s x s')) (sym is)
    (subst (λ (x : NodeState). Explains c (next w k lost a s (only_sends (if is_last s from number then sends_hints c k (hint_done s from number) from else [])) x)) (sym same) (acked_case c w k lost a from number (is_last s from number) s e at))

pub expires_case : (c : Setting) (w : Scene) (k : ℕ) (lost : Bool) (peer number : ℕ) (s s' : NodeState) (o : Effects) → Explains c w → slice_get w.nodes k ≡ Some s → Does c k s (HintExpires peer number) o s'
    → Explains c (next w k lost (HintExpires peer number) s o s')
expires_case c w k lost peer number s s' o e at (is, same) =
    let r : NodeState = with_hints_of (drop_hint peer number (hints_in s)) s in
    subst (λ (x : Effects). Explains c (next w k lost (HintExpires peer number) s x s')) (sym is)
    (subst (λ (x : NodeState). Explains c (next w k lost (HintExpires peer number) s nothing x)) (sym same)
    (sends_case c w k lost (HintExpires peer number) s r [] e at refl
    (λ w' g losing. let old = node_later c w k s e at w' g losing in record { of = old.of; writes = old.writes; reads = old.reads; hints = λ h there. old.hints h (dropped_from peer number (hints_in s) h there) })
    (λ w' g. none_sent w' k)))

-- ---- a deadline comes

read_ends_case : (c : Setting) (w : Scene) (k : ℕ) (lost : Bool) (a : Act) (id : ReqId) (r : Option OpenRead) (s s' : NodeState) (o : Effects) → Explains c w → slice_get w.nodes k ≡ Some s → EndsRead c id r s o s' → Explains c (next w k lost a s o s')
read_ends_case c w k lost a id None s s' o e at (is, same) =
    subst (λ (x : Effects). Explains c (next w k lost a s x s')) (sym is) (subst (λ (x : NodeState). Explains c (next w k lost a s nothing x)) (sym same) (same_case c w k lost a s s e at refl refl refl refl))
read_ends_case c w k lost a id (Some r) s s' o e at (is, same) =
    subst (λ (x : Effects). Explains c (next w k lost a s x s')) (sym is)
    (subst (λ (x : NodeState). Explains c (next w k lost a s (effects_of (timeout_of c id r)) x)) (sym same)
    (one_entry c w k lost a s (ends_read id s) (Refused id (ReadTimeout (received_of c r) (read_needs c r) (nat_lt 0 (replies_of c r)))) e at (λ p x h. h) tt
    (λ w' g losing.
    let old = node_later c w k s e at w' g losing in
    record { of = old.of; writes = old.writes; reads = λ i x there. old.reads i x (in_left (is_at (request_cmp id)) s.reads (i, x) there); hints = old.hints })
    tt tt))

-- the node behind the end of a write
write_left : (c : Setting) (w : Scene) (k : ℕ) (id : ReqId) (o : OpenWrite) (s : NodeState) → open_at s.writes id ≡ Some o → NodeOk c w k s → NodeOk c w k (ends_write c id o s)
write_left c w k id o s found old =
    let ok = old.writes id o (open_in s.writes id o found) in
    record {
      of = old.of;
      writes = λ i x there. old.writes i x (in_left (is_at (request_cmp id)) s.writes (i, x) there);
      reads = old.reads;
      hints = left_hints w k id o.mutation (unheard c o) s ok.mine ok.begun ok.is old.hints;
    }

write_told_case : (c : Setting) (w : Scene) (k : ℕ) (lost : Bool) (a : Act) (id : ReqId) (o : OpenWrite) (r : Refusal) (answered : Bool) (s : NodeState) → Explains c w → slice_get w.nodes k ≡ Some s → open_at s.writes id ≡ Some o
    → Explains c (next w k lost a s (record { sends = []; entries = if answered then [] else Refused id r ∷ [] }) (ends_write c id o s))
write_told_case c w k lost a id o r true s e at found =
    sends_case c w k lost a s (ends_write c id o s) [] e at refl (λ w' g losing. write_left c w' k id o s found (node_later c w k s e at w' g losing)) (λ w' g. none_sent w' k)
write_told_case c w k lost a id o r false s e at found =
    one_entry c w k lost a s (ends_write c id o s) (Refused id r) e at (λ p x h. h) tt (λ w' g losing. write_left c w' k id o s found (node_later c w k s e at w' g losing)) tt tt

ends_case : (c : Setting) (w : Scene) (k : ℕ) (lost : Bool) (a : Act) (id : ReqId) (x : Option OpenWrite) (s s' : NodeState) (o : Effects) → Explains c w → slice_get w.nodes k ≡ Some s → open_at s.writes id ≡ x → Ends c id x s o s' → Explains c (next w k lost a s o s')
ends_case c w k lost a id None s s' o e at found h = read_ends_case c w k lost a id (open_at s.reads id) s s' o e at h
ends_case c w k lost a id (Some x) s s' o e at found (is, same) =
    subst (λ (y : Effects). Explains c (next w k lost a s y s')) (sym is)
    (subst (λ (y : NodeState). Explains c (next w k lost a s (record { sends = []; entries = if x.answered then [] else Refused id (WriteTimeout (acks_of c x) (write_needs c x)) ∷ [] }) y)) (sym same)
    (write_told_case c w k lost a id x (WriteTimeout (acks_of c x) (write_needs c x)) x.answered s e at found))

pub deadline_case : (c : Setting) (w : Scene) (k : ℕ) (lost : Bool) (id : ReqId) (s s' : NodeState) (o : Effects) → Explains c w → slice_get w.nodes k ≡ Some s → Does c k s (DeadlineComes id) o s' → Explains c (next w k lost (DeadlineComes id) s o s')
deadline_case c w k lost id s s' o e at h = ends_case c w k lost (DeadlineComes id) id (open_at s.writes id) s s' o e at refl h
