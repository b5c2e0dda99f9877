-- Each body that a node hears keeps what is known; replies to reads stand in a file of their own.
use Rattle.std.proofs.Common.{◌≡◌, ℕ, ◌⊎◌, ◌≤◌, inl, inr, Bool, true, false, Option, Some, None, List, [], ◌∷◌, ◌++◌, refl, sym, subst, ◌∙◌, Contains}
use Rattle.std.specs.Prelude.{slice_get, ◌&&◌, not, if◌then◌else◌, MatchBool, nat_lt}
use Rattle.std.proofs.lemmas.Bool.{ltb-false}
use Rattle.cs_base.specs.declared.ids.ReqId.{ReqId}
use Rattle.cs_base.specs.declared.level.Level.{Level}
use Rattle.cs_base.specs.Quorums.{is_in, heard_of}
use Rattle.changes.specs.declared.Partition.{Partition}
use Rattle.changes.specs.declared.Held.{Held}
use Rattle.changes.specs.declared.Mutation.{Mutation}
use Rattle.changes.specs.declared.Query.{Query}
use Rattle.cs_base.proofs.Members.{contains_push, contains_from_map}
use Rattle.peer_messages.specs.declared.message.Body.{Body}
use Rattle.peer_messages.specs.declared.message.Body.TheVariants.{WriteAck, Read, ReadReply, MendAck}
use Rattle.peer_messages.specs.declared.chronicle.Entry.{Entry}
use Rattle.peer_messages.specs.declared.chronicle.Entry.TheVariants.{Acked}
use Rattle.peer_messages.specs.declared.outcome.Outbound.{Outbound}
use Rattle.peer_messages.specs.declared.outcome.Move.{Move}
use Rattle.peer_messages.specs.declared.setting.Setting.{Setting}
use Rattle.peer_messages.specs.Settings.{replicas_of, needed}
use Rattle.durable_state.specs.State.{changes_of}
use Rattle.node_steps.specs.State.{NodeState, OpenWrite}
use Rattle.node_steps.specs.Effects.{Effects, nothing, effects_of, outbound, send_to, open_at, after_move, Takes}
use Rattle.node_steps.specs.Writes.{acks_of, write_needs, heard_write, answered_write, ack_told, ack_turn, HearsAck}
use Rattle.node_steps.specs.Replicas.{replies}
use Rattle.node_steps.specs.Acts.{Act, Incoming, HearsBody, TakesChanges}
use Rattle.node_steps.proofs.Opened.{open_in, in_moved}
use Rattle.cluster_runs.specs.Chronicle.{submission_of}
use Rattle.cluster_runs.specs.Trace.{Scene, WasMade}
use Rattle.cs_base.proofs.Slots.{some_one, get_set}
use Rattle.read_consistency.proofs.Facts.{WasBegun, Reaches, HasAll, ReplyOk, BodyIs, BodyOk, WriteOk, NodeOk, Explains, IsReadOf, MendOk, IsOf}
use Rattle.read_consistency.proofs.Grows.{Grows, begun_on, of_on, stands_in, write_on, submission_in, read_of_on, was_begun}
use Rattle.read_consistency.proofs.Reach.{grown, taken, source, slice_reached, taken_reached}
use Rattle.read_consistency.proofs.Step.{quietly, telling, quietly_grows, telling_grows, explains_quietly}
use Rattle.read_consistency.proofs.Cases.{next, only_sends, with_one, quiet_next, same_case, none_sent, one_entry, node_later, unheard_case}

-- what comes to a node is known
pub record Known (w : Scene) (m : Incoming) : Type 0 where
  pub begun : WasBegun w.past m.request
  pub is : BodyIs w m.from m.request m.body

pub known : (c : Setting) (w : Scene) (k : ℕ) (m : Incoming) → Explains c w → WasMade w.past k m → Known w m
known c w k m e made =
    let ok = e.bodies made.deed made.there _ made.made in
    record { begun = ok.begun; is = subst (λ (j : ℕ). BodyIs w j m.request m.body) made.node ok.is }

-- ---- changes come

-- changes are taken in, each of a submitted mutation whose changes in its row they reach too
takes_in : (c : Setting) (w : Scene) (k : ℕ) (lost : Bool) (from : ℕ) (id : ReqId) (m : Mutation) (reply : Body) (s s' : NodeState) (o : Effects) → Explains c w → slice_get w.nodes k ≡ Some s → (a : Act) → WasBegun w.past id
    → MendOk w.chronicle m → BodyIs (quietly w k a s (record s { content = s'.content }) (only_sends (send_to id reply (from ∷ [])))) k id reply
    → TakesChanges (record { from = from; request = id }) m.partition m.changes reply s o s' → Explains c (next w k lost a s o s')
takes_in c w k lost from id m reply s s' o e at a begun sources says (t, arrive, is, same) =
    let r : NodeState = record s { content = s'.content } in
    let sends = send_to id reply (from ∷ []) in
    let out = only_sends sends in
    let more : (p : Partition) (x : Held) → Reaches (changes_of s.content) p x → Reaches (changes_of r.content) p x = grown (changes_of s.content) (changes_of s'.content) m.partition m.changes t in
    let w' = quietly w k a s r out in
    let g = quietly_grows w k a s r out at more in
    let old = node_later c w k s e at w' g refl in
    subst (λ (x : Effects). Explains c (next w k lost a s x s')) (sym is)
    (subst (λ (x : NodeState). Explains c (next w k lost a s (replies (record { from = from; request = id }) reply) x)) (sym same)
    (quiet_next c w k lost a s r sends (explains_quietly c w k a s r out e at more
    (record {
      of = λ p x held. elim (source (changes_of s.content) (changes_of s'.content) m.partition m.changes t p x held) [
        | inl before ↦ of_on w w' g p _ _ x (λ y h. more p y h) ((e.nodes k s at).of p x before)
        | inr (here, there) ↦
            subst (λ (q : Partition). IsOf w'.chronicle q (Reaches (changes_of r.content) q) x) (sym here)
            (of_on w w' g m.partition _ _ x (λ y h. taken_reached (changes_of s.content) (changes_of s'.content) m.partition m.changes t y h) (sources x there))
      ];
      writes = old.writes;
      reads = old.reads;
      hints = old.hints;
    })
    (λ x h. let made = contains_from_map (outbound id reply) (from ∷ []) x h in subst (λ (y : Outbound). BodyOk w' k y) made.2 (record { begun = begun_on w w' g id begun; is = says })))))

-- what was submitted is taken in, and this says so
pub taken_in : (c : Setting) (w : Scene) (k : ℕ) (lost : Bool) (from : ℕ) (id : ReqId) (m : Mutation) (reply : Body) (s s' : NodeState) (o : Effects) → Explains c w → slice_get w.nodes k ≡ Some s → (a : Act) → WasBegun w.past id
    → submission_of w.chronicle id ≡ Some m → ((v : Scene) → HasAll v k id → BodyIs v k id reply) → TakesChanges (record { from = from; request = id }) m.partition m.changes reply s o s' → Explains c (next w k lost a s o s')
taken_in c w k lost from id m reply s s' o e at a begun submission says h =
    let r : NodeState = record s { content = s'.content } in
    let w' = quietly w k a s r (only_sends (send_to id reply (from ∷ []))) in
    let has : HasAll w' k id =
    λ st there n sub y in_n.
    let one : n ≡ m = some_one (sym sub ∙ submission) in
    let mine : st ≡ r = elim (get_set w.nodes k r k st there) [ inl here ↦ here.1 | inr away ↦ absurd (away.0 refl) ] in
    subst (λ (v : NodeState). Reaches (changes_of v.content) n.partition y) (sym mine)
    (subst (λ (v : Mutation). Reaches (changes_of r.content) v.partition y) (sym one) (taken (changes_of s.content) (changes_of s'.content) m.partition m.changes h.0 y (subst (λ (v : Mutation). Contains v.changes y) one in_n)))
    in
    takes_in c w k lost from id m reply s s' o e at a begun
    (λ x there. record { request = id; mutation = m; submitted = submission_in w.chronicle id m submission; partition = refl; there = there; beside = λ y c' b. inl c' })
    (says w' has) h

-- a merge is taken in, if it can be written
pub mend_heard : (c : Setting) (w : Scene) (k : ℕ) (lost : Bool) (from : ℕ) (id : ReqId) (m : Mutation) (fits : Bool) (s s' : NodeState) (o : Effects) → Explains c w → slice_get w.nodes k ≡ Some s → (a : Act) → WasBegun w.past id
    → MendOk w.chronicle m → MatchBool fits (TakesChanges (record { from = from; request = id }) m.partition m.changes MendAck s o s') ((o ≡ nothing) × (s' ≡ s)) → Explains c (next w k lost a s o s')
mend_heard c w k lost from id m true s s' o e at a begun sources h = takes_in c w k lost from id m MendAck s s' o e at a begun sources tt h
mend_heard c w k lost from id m false s s' o e at a begun sources (is, same) = unheard_case c w k lost a s s' o e at is same

-- ---- an acknowledgement comes

in_heard : (b : Bool) (heard : List ℕ) (from j : ℕ) → Contains (if b then heard ++ from ∷ [] else heard) j → Contains heard j ⊎ (from ≡ j)
in_heard true heard from j h = (contains_push heard from j).0 h
in_heard false heard from j h = inl h

pub ack_ok : (c : Setting) (w : Scene) (k from : ℕ) (id : ReqId) (o : OpenWrite) → WriteOk w k id o → HasAll w from id → WriteOk w k id (heard_write c from o)
ack_ok c w k from id o ok has = record {
  mine = ok.mine;
  begun = ok.begun;
  is = ok.is;
  heard = λ j h. elim (in_heard (not (is_in o.heard from) && is_in (replicas_of c o.mutation.partition) from) o.heard from j h) [
    | inl old ↦ ok.heard j old
    | inr here ↦ subst (λ (i : ℕ). HasAll w i id) here has
  ];
}

answered_ok : (c : Setting) (w : Scene) (k : ℕ) (id : ReqId) (o : OpenWrite) → WriteOk w k id o → WriteOk w k id (answered_write c o)
answered_ok c w k id o ok = record { mine = ok.mine; begun = ok.begun; is = ok.is; heard = ok.heard }

-- the open writes that are left of those of the node and this one
write_left : (ended : Bool) (w : Scene) (k : ℕ) (id : ReqId) (xs : List (ReqId × OpenWrite)) (o : OpenWrite) → ((i : ReqId) (x : OpenWrite) → Contains xs (i, x) → WriteOk w k i x) → WriteOk w k id o
    → (i : ReqId) (x : OpenWrite) → Contains (after_move ended id o xs) (i, x) → WriteOk w k i x
write_left ended w k id xs o old ok i x h = elim (in_moved ended id xs o (i, x) h) [
  | inl there ↦ old i x there
  | inr (here, same) ↦ subst (λ (y : ReqId). WriteOk w k y x) (sym here) (subst (λ (y : OpenWrite). WriteOk w k id y) (sym same) ok)
]

-- the node behind an acknowledgement, in a later scene
ack_node : (c : Setting) (w : Scene) (k : ℕ) (ended : Bool) (id : ReqId) (s : NodeState) (o : OpenWrite) → Explains c w → slice_get w.nodes k ≡ Some s → WriteOk w k id o
    → (v : Scene) → Grows w v → v.losing ≡ w.losing → NodeOk c v k (record s { writes = after_move ended id o s.writes })
ack_node c w k ended id s o e at ok v more same =
    let old = node_later c w k s e at v more same in
    record { of = old.of; writes = write_left ended v k id s.writes o old.writes (write_on w v more k id o ok); reads = old.reads; hints = old.hints }

ack_quiet : (c : Setting) (w : Scene) (k : ℕ) (lost : Bool) (a : Act) (ended : Bool) (id : ReqId) (s : NodeState) (o : OpenWrite) → Explains c w → slice_get w.nodes k ≡ Some s → WriteOk w k id o
    → Explains c (next w k lost a s nothing (record s { writes = after_move ended id o s.writes }))
ack_quiet c w k lost a ended id s o e at ok =
    let r : NodeState = record s { writes = after_move ended id o s.writes } in
    let w' = quietly w k a s r nothing in
    let g = quietly_grows w k a s r nothing at (λ p x h. h) in
    quiet_next c w k lost a s r [] (explains_quietly c w k a s r nothing e at (λ p x h. h) (ack_node c w k ended id s o e at ok w' g refl) (none_sent w' k))

ack_tells : (c : Setting) (w : Scene) (k : ℕ) (lost : Bool) (a : Act) (ended : Bool) (id : ReqId) (s : NodeState) (n o : OpenWrite) → Explains c w → slice_get w.nodes k ≡ Some s → WriteOk w k id n → WriteOk w k id o → write_needs c n ≤ acks_of c n
    → Explains c (next w k lost a s (with_one [] (Acked id n.level n.heard)) (record s { writes = after_move ended id o s.writes }))
ack_tells c w k lost a ended id s n o e at heard ok enough =
    let r : NodeState = record s { writes = after_move ended id o s.writes } in
    let x : Entry = Acked id n.level n.heard in
    let g = telling_grows w k a s r [] x at (λ p y h. h) tt in
    let heard' = write_on w (telling w k a s r [] x) g k id n heard in
    one_entry c w k lost a s r x e at (λ p y h. h) tt (ack_node c w k ended id s o e at ok)
    (record {
      begun = heard'.begun;
      count = λ m sub. subst (λ (v : Mutation). needed c n.level v.partition ≤ heard_of (replicas_of c v.partition) n.heard) (some_one (sym heard'.is ∙ sub)) enough;
      has = heard'.heard;
    })
    tt

ack_told_case : (c : Setting) (w : Scene) (k : ℕ) (lost : Bool) (a : Act) (ended : Bool) (id : ReqId) (s : NodeState) (n o : OpenWrite) (answered less : Bool) → Explains c w → slice_get w.nodes k ≡ Some s → WriteOk w k id n → WriteOk w k id o
    → nat_lt (acks_of c n) (write_needs c n) ≡ less → Explains c (next w k lost a s (record { sends = []; entries = ack_told answered (not less) id n }) (record s { writes = after_move ended id o s.writes }))
ack_told_case c w k lost a ended id s n o true less e at heard ok test = ack_quiet c w k lost a ended id s o e at ok
ack_told_case c w k lost a ended id s n o false true e at heard ok test = ack_quiet c w k lost a ended id s o e at ok
ack_told_case c w k lost a ended id s n o false false e at heard ok test = ack_tells c w k lost a ended id s n o e at heard ok (ltb-false _ _ test)

ack_taken : (c : Setting) (w : Scene) (k : ℕ) (lost : Bool) (from : ℕ) (a : Act) (id : ReqId) (s : NodeState) (turn : Move) (xs' : List (ReqId × OpenWrite)) (o : Option OpenWrite) → Explains c w → slice_get w.nodes k ≡ Some s → HasAll w from id
    → open_at s.writes id ≡ o → Takes (HearsAck c id from) id s.writes o turn xs' → Explains c (next w k lost a s (effects_of turn) (record s { writes = xs' }))
ack_taken c w k lost from a id s turn xs' None e at has found (is, same) =
    subst (λ (t : Move). Explains c (next w k lost a s (effects_of t) (record s { writes = xs' }))) (sym is) (same_case c w k lost a s (record s { writes = xs' }) e at refl same refl refl)
ack_taken c w k lost from a id s turn xs' (Some o) e at has found (o', (is, same), after) =
    let n = heard_write c from o in
    let heard = ack_ok c w k from id o ((e.nodes k s at).writes id o (open_in s.writes id o found)) has in
    let told = ack_told_case c w k lost a (ack_turn c id n).ended id s n (answered_write c n) n.answered (nat_lt (acks_of c n) (write_needs c n)) e at heard (answered_ok c w k id n heard) refl in
    subst (λ (xs : List (ReqId × OpenWrite)). Explains c (next w k lost a s (effects_of turn) (record s { writes = xs }))) (sym after)
    (subst (λ (x : OpenWrite). Explains c (next w k lost a s (effects_of turn) (record s { writes = after_move turn.ended id x s.writes }))) (sym same)
    (subst (λ (t : Move). Explains c (next w k lost a s (effects_of t) (record s { writes = after_move t.ended id (answered_write c n) s.writes }))) (sym is) told))

pub ack_heard : (c : Setting) (w : Scene) (k : ℕ) (lost : Bool) (from : ℕ) (id : ReqId) (s s' : NodeState) (o : Effects) → Explains c w → slice_get w.nodes k ≡ Some s → (a : Act) → HasAll w from id
    → HearsBody c k (record { from = from; request = id }) WriteAck s o s' → Explains c (next w k lost a s o s')
ack_heard c w k lost from id s s' o e at a has (turn, moves, is, same) =
    subst (λ (x : Effects). Explains c (next w k lost a s x s')) (sym is)
    (subst (λ (x : NodeState). Explains c (next w k lost a s (effects_of turn) x)) (sym same) (ack_taken c w k lost from a id s turn s'.writes (open_at s.writes id) e at has refl moves))

-- ---- a query comes

pub read_heard : (c : Setting) (w : Scene) (k : ℕ) (lost : Bool) (from : ℕ) (id : ReqId) (q : Query) (s s' : NodeState) (o : Effects) → Explains c w → slice_get w.nodes k ≡ Some s → (a : Act) → (l : Level) → IsReadOf w.past id q l
    → HearsBody c k (record { from = from; request = id }) (Read q) s o s' → Explains c (next w k lost a s o s')
read_heard c w k lost from id q s s' o e at a l asked (part, answer, is, same) =
    let sends = send_to id (ReadReply part) (from ∷ []) in
    let out = only_sends sends in
    let w' = quietly w k a s s out in
    let g = quietly_grows w k a s s out at (λ p x h. h) in
    let node = e.nodes k s at in
    let reply : ReplyOk w' k id part = record {
      query = q;
      level = l;
      asked = read_of_on w w' g id q l asked;
      answers = record {
        of = λ x c'. of_on w w' g q.partition _ _ x (λ y h inside. slice_reached (changes_of s.content) q part answer.0 y inside h) (node.of q.partition x ((answer.0 x).0 c').0);
        inside = λ x c'. ((answer.0 x).0 c').1;
      };
      sees = λ i n heard before there m sub in_part y in_m inside.
          let acked = e.entries (Acked i n heard) (stands_in w.chronicle id (Acked i n heard) before) in
          slice_reached (changes_of s.content) q part answer.0 y inside (subst (λ (p : Partition). Reaches (changes_of s.content) p y) in_part (acked.has k there s at m sub y in_m));
    } in
    subst (λ (x : Effects). Explains c (next w k lost a s x s')) (sym is)
    (subst (λ (x : NodeState). Explains c (next w k lost a s (replies (record { from = from; request = id }) (ReadReply part)) x)) (sym same)
    (quiet_next c w k lost a s s sends (explains_quietly c w k a s s out e at (λ p x h. h) (node_later c w k s e at w' g refl)
    (λ x h. let made = contains_from_map (outbound id (ReadReply part)) (from ∷ []) x h in subst (λ (y : Outbound). BodyOk w' k y) made.2 (record { begun = begun_on w w' g id (was_begun w.past id q l asked); is = reply })))))
