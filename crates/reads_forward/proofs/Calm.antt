-- Each move that leaves the open reads as they are, and each end of a read without an answer, keeps what is known.
use Rattle.std.proofs.Common.{◌≡◌, ℕ, inr, Bool, true, false, Option, Some, None, List, [], ◌∷◌, refl, sym, ap, subst, ◌∙◌, Contains}
use Rattle.std.specs.Prelude.{slice_get, if◌then◌else◌}
use Rattle.std.specs.BTreeMap.{is_at}
use Rattle.std.specs.Map.{remove_entry}
use Rattle.cs_base.specs.declared.ids.ReqId.{ReqId}
use Rattle.cs_base.specs.Requests.{request_cmp}
use Rattle.cs_base.proofs.Members.{contains_nil, contains_one, contains_from_map}
use Rattle.changes.specs.declared.Mutation.{Mutation}
use Rattle.changes.specs.declared.DraftMutation.{DraftMutation}
use Rattle.changes.specs.Drafts.{mutation_of}
use Rattle.peer_messages.specs.declared.message.Body.{Body}
use Rattle.peer_messages.specs.declared.message.Body.TheVariants.{Write, WriteAck, Read, ReadReply, Mend, MendAck, Hint, HintAck}
use Rattle.peer_messages.specs.declared.chronicle.Entry.{Entry}
use Rattle.peer_messages.specs.declared.chronicle.Entry.TheVariants.{Submitted, Refused, Used}
use Rattle.peer_messages.specs.declared.chronicle.Refusal.{Refusal}
use Rattle.peer_messages.specs.declared.outcome.Outbound.{Outbound}
use Rattle.peer_messages.specs.declared.outcome.Move.{Move}
use Rattle.peer_messages.specs.declared.setting.Setting.{Setting}
use Rattle.durable_state.specs.State.{changes_of}
use Rattle.node_steps.specs.State.{NodeState, OpenWrite, OpenRead}
use Rattle.node_steps.specs.Effects.{Effects, nothing, effects_of, outbound, send_to, open_at, Takes}
use Rattle.node_steps.specs.Hints.{sends_hints, with_sent, is_last, hint_done}
use Rattle.node_steps.specs.Writes.{start_write, HearsAck, heard_write, ack_told}
use Rattle.node_steps.specs.Reads.{timeout_of}
use Rattle.node_steps.specs.Replicas.{replies}
use Rattle.node_steps.specs.Acts.{Act, Rises, Marks, DeadlineComes, HintExpires, Does, HearsBody, TakesChanges, Ends, EndsRead, mark_state, mark_sends}
use Rattle.node_steps.proofs.HintMembers.{sent_from}
use Rattle.node_steps.proofs.Opened.{in_left}
use Rattle.cluster_runs.specs.Trace.{Scene}
use Rattle.read_consistency.proofs.Facts.{Reaches}
use Rattle.read_consistency.proofs.Reach.{grown}
use Rattle.reads_forward.proofs.Facts.{BodyAhead, NodeAhead, AreDistinct, Ahead}
use Rattle.reads_forward.proofs.Grows.{Grown, FollowOn, Grows, follows_itself, node_on}
use Rattle.reads_forward.proofs.Distinct.{distinct_left}
use Rattle.read_consistency.proofs.Cases.{next}
use Rattle.reads_forward.proofs.Step.{next_grows, IsPlain, ArePlain, plain_new, plain_next}

pub none_plain : ArePlain []
none_plain x h = absurd (contains_nil x h)

one_plain : (e : Entry) → IsPlain e → ArePlain (e ∷ [])
one_plain e is x h = subst IsPlain (contains_one e x h) is

-- of such effects the entries are plain
pub entries_plain : (o p : Effects) → o ≡ p → ArePlain p.entries → ArePlain o.entries
entries_plain o p is h = subst (λ (x : Effects). ArePlain x.entries) (sym is) h

-- the node as it was, under another name
same_node : (c : Setting) (w w' : Scene) (k : ℕ) (s r : NodeState) → Ahead c w → slice_get w.nodes k ≡ Some s → r.reads ≡ s.reads → Grows w w' → NodeAhead c w' k r
same_node c w w' k s r e at same g =
    let old = node_on c w w' g e k s (e.nodes k s at) in
    record {
      distinct = subst AreDistinct (sym same) old.distinct;
      reads = λ id u h. old.reads id u (subst (λ (xs : List (ReqId × OpenRead)). Contains xs (id, u)) same h);
    }

same_follow : (w : Scene) (s r : NodeState) → r.reads ≡ s.reads → FollowOn w.past s.reads r.reads
same_follow w s r same = subst (λ (xs : List (ReqId × OpenRead)). FollowOn w.past s.reads xs) (sym same) (follows_itself w.past s.reads)

-- a move that leaves the open reads
pub calm_case : (c : Setting) (w : Scene) (k : ℕ) (lost : Bool) (a : Act) (s r : NodeState) (o : Effects) → Ahead c w → slice_get w.nodes k ≡ Some s → Grown s r → r.reads ≡ s.reads → ArePlain o.entries
    → (Grows w (next w k lost a s o r) → (x : Outbound) → Contains o.sends x → BodyAhead (next w k lost a s o r) k x.request x.body) → Ahead c (next w k lost a s o r)
calm_case c w k lost a s r o e at more same are bodies =
    let w' = next w k lost a s o r in
    let g = next_grows w k lost a s o r at more (same_follow w s r same) (plain_new c w o.entries are) in
    plain_next c w k lost a s o r e are g (same_node c w w' k s r e at same g) (bodies g)

-- ---- bodies that are of no read

abbrev IsOther : Body → Type 0
IsOther (Write m) = Unit {0}
IsOther WriteAck = Unit {0}
IsOther (Hint number m) = Unit {0}
IsOther (HintAck number) = Unit {0}
IsOther (Read q) = ⊥
IsOther (ReadReply content) = ⊥
IsOther (Mend m) = ⊥
IsOther MendAck = ⊥

other_ahead : (w : Scene) (j : ℕ) (id : ReqId) (b : Body) → IsOther b → BodyAhead w j id b
other_ahead w j id (Write m) h = tt
other_ahead w j id WriteAck h = tt
other_ahead w j id (Hint number m) h = tt
other_ahead w j id (HintAck number) h = tt
other_ahead w j id (Read q) h = absurd h
other_ahead w j id (ReadReply content) h = absurd h
other_ahead w j id (Mend m) h = absurd h
other_ahead w j id MendAck h = absurd h

abbrev AreOther : List Outbound → Type 0
AreOther sends = (x : Outbound) → Contains sends x → IsOther x.body

none_other : AreOther []
none_other x h = absurd (contains_nil x h)

sent_other : (id : ReqId) (b : Body) (ks : List ℕ) → IsOther b → AreOther (send_to id b ks)
sent_other id b ks is x h = let made = contains_from_map (outbound id b) ks x h in subst (λ (y : Outbound). IsOther y.body) made.2 is

hints_other : (c : Setting) (me : ℕ) (s : NodeState) (peer : ℕ) → AreOther (sends_hints c me s peer)
hints_other c me s peer x h = let made = sent_from c me s peer x h in subst (λ (y : Outbound). IsOther y.body) made.3 tt

sends_other : (o p : Effects) → o ≡ p → AreOther p.sends → AreOther o.sends
sends_other o p is h = subst (λ (x : Effects). AreOther x.sends) (sym is) h

-- and sends nothing of reads
other_case : (c : Setting) (w : Scene) (k : ℕ) (lost : Bool) (a : Act) (s r : NodeState) (o : Effects) → Ahead c w → slice_get w.nodes k ≡ Some s → Grown s r → r.reads ≡ s.reads → ArePlain o.entries → AreOther o.sends → Ahead c (next w k lost a s o r)
other_case c w k lost a s r o e at more same are other = calm_case c w k lost a s r o e at more same are (λ g x h. other_ahead (next w k lost a s o r) k x.request x.body (other x h))

pub same_grown : (s r : NodeState) → r.content ≡ s.content → Grown s r
same_grown s r same p x h = subst (λ cs. Reaches (changes_of cs) p x) (sym same) h

-- and takes nothing in
kept_case : (c : Setting) (w : Scene) (k : ℕ) (lost : Bool) (a : Act) (s r : NodeState) (o : Effects) → Ahead c w → slice_get w.nodes k ≡ Some s → r.content ≡ s.content → r.reads ≡ s.reads → ArePlain o.entries → AreOther o.sends → Ahead c (next w k lost a s o r)
kept_case c w k lost a s r o e at content same are other = other_case c w k lost a s r o e at (same_grown s r content) same are other

-- by what the node becomes and what it gives
plain_case : (c : Setting) (w : Scene) (k : ℕ) (lost : Bool) (a : Act) (s s' r : NodeState) (o p : Effects) → Ahead c w → slice_get w.nodes k ≡ Some s → o ≡ p → s' ≡ r → r.content ≡ s.content → r.reads ≡ s.reads → ArePlain p.entries → AreOther p.sends → Ahead c (next w k lost a s o s')
plain_case c w k lost a s s' r o p e at is same content reads are other =
    kept_case c w k lost a s s' o e at (ap (λ (x : NodeState). x.content) same ∙ content) (ap (λ (x : NodeState). x.reads) same ∙ reads) (entries_plain o p is are) (sends_other o p is other)

-- ---- moves without a body

pub rises_case : (c : Setting) (w : Scene) (k : ℕ) (lost : Bool) (t : ℕ) (s s' : NodeState) (o : Effects) → Ahead c w → slice_get w.nodes k ≡ Some s → Does c k s (Rises t) o s' → Ahead c (next w k lost (Rises t) s o s')
rises_case c w k lost t s s' o e at (later, is, same) = plain_case c w k lost (Rises t) s s' _ o nothing e at is same refl refl none_plain none_other

-- what is not looked at
pub unheard_case : (c : Setting) (w : Scene) (k : ℕ) (lost : Bool) (a : Act) (s s' : NodeState) (o : Effects) → Ahead c w → slice_get w.nodes k ≡ Some s → o ≡ nothing → s' ≡ s → Ahead c (next w k lost a s o s')
unheard_case c w k lost a s s' o e at is same = plain_case c w k lost a s s' s o nothing e at is same refl refl none_plain none_other

pub refused_case : (c : Setting) (w : Scene) (k : ℕ) (lost : Bool) (a : Act) (id : ReqId) (r : Refusal) (s s' : NodeState) (o : Effects) → Ahead c w → slice_get w.nodes k ≡ Some s → o ≡ record { sends = []; entries = Refused id r ∷ [] } → s' ≡ s
    → Ahead c (next w k lost a s o s')
refused_case c w k lost a id r s s' o e at is same = plain_case c w k lost a s s' s o _ e at is same refl refl (one_plain (Refused id r) tt) none_other

pub used_case : (c : Setting) (w : Scene) (k : ℕ) (lost : Bool) (a : Act) (id : ReqId) (keyspace : List ℕ) (s s' : NodeState) (o : Effects) → Ahead c w → slice_get w.nodes k ≡ Some s → o ≡ record { sends = []; entries = Used id keyspace ∷ [] } → s' ≡ s
    → Ahead c (next w k lost a s o s')
used_case c w k lost a id keyspace s s' o e at is same = plain_case c w k lost a s s' s o _ e at is same refl refl (one_plain (Used id keyspace) tt) none_other

-- a write begins
pub write_case : (c : Setting) (w : Scene) (k : ℕ) (lost : Bool) (a : Act) (id : ReqId) (d : DraftMutation) (s s' r : NodeState) (o : Effects) → Ahead c w → slice_get w.nodes k ≡ Some s → o ≡ effects_of (start_write c s.down id d) → s' ≡ r → r.content ≡ s.content → r.reads ≡ s.reads
    → Ahead c (next w k lost a s o s')
write_case c w k lost a id d s s' r o e at is same content reads =
    plain_case c w k lost a s s' r o _ e at is same content reads (one_plain (Submitted id (mutation_of id d)) tt) (sent_other id (Write (mutation_of id d)) _ tt)

marked_case : (c : Setting) (w : Scene) (k : ℕ) (lost : Bool) (a : Act) (peer : ℕ) (up : Bool) (s s' : NodeState) (o : Effects) → Ahead c w → slice_get w.nodes k ≡ Some s → o ≡ record { sends = mark_sends c k s peer up; entries = [] } → s' ≡ mark_state c s peer up
    → Ahead c (next w k lost a s o s')
marked_case c w k lost a peer true s s' o e at is same = plain_case c w k lost a s s' _ o _ e at is same refl refl none_plain (hints_other c k s peer)
marked_case c w k lost a peer false s s' o e at is same = plain_case c w k lost a s s' _ o _ e at is same refl refl none_plain none_other

pub marks_case : (c : Setting) (w : Scene) (k : ℕ) (lost : Bool) (peer : ℕ) (up : Bool) (s s' : NodeState) (o : Effects) → Ahead c w → slice_get w.nodes k ≡ Some s → Does c k s (Marks peer up) o s'
    → Ahead c (next w k lost (Marks peer up) s o s')
marks_case c w k lost peer up s s' o e at (is, same) = marked_case c w k lost (Marks peer up) peer up s s' o e at is same

pub expires_case : (c : Setting) (w : Scene) (k : ℕ) (lost : Bool) (peer number : ℕ) (s s' : NodeState) (o : Effects) → Ahead c w → slice_get w.nodes k ≡ Some s → Does c k s (HintExpires peer number) o s'
    → Ahead c (next w k lost (HintExpires peer number) s o s')
expires_case c w k lost peer number s s' o e at (is, same) = plain_case c w k lost (HintExpires peer number) s s' _ o nothing e at is same refl refl none_plain none_other

-- ---- a deadline comes

-- a read of the node goes
pub left_follow : (w : Scene) (id : ReqId) (xs : List (ReqId × OpenRead)) → FollowOn w.past xs (remove_entry (is_at (request_cmp id)) xs)
left_follow w id xs i u h = inr (u, in_left (is_at (request_cmp id)) xs (i, u) h, λ fixed. (fixed, refl, refl))

pub left_node : (c : Setting) (w w' : Scene) (k : ℕ) (id : ReqId) (s r : NodeState) → Ahead c w → slice_get w.nodes k ≡ Some s → r.reads ≡ remove_entry (is_at (request_cmp id)) s.reads → Grows w w' → NodeAhead c w' k r
left_node c w w' k id s r e at same g =
    let old = node_on c w w' g e k s (e.nodes k s at) in
    record {
      distinct = subst AreDistinct (sym same) (distinct_left (is_at (request_cmp id)) s.reads old.distinct);
      reads = λ i u h. old.reads i u (in_left (is_at (request_cmp id)) s.reads (i, u) (subst (λ (xs : List (ReqId × OpenRead)). Contains xs (i, u)) same h));
    }

read_ends_case : (c : Setting) (w : Scene) (k : ℕ) (lost : Bool) (a : Act) (id : ReqId) (x : Option OpenRead) (s s' : NodeState) (o : Effects) → Ahead c w → slice_get w.nodes k ≡ Some s → EndsRead c id x s o s' → Ahead c (next w k lost a s o s')
read_ends_case c w k lost a id None s s' o e at (is, same) = unheard_case c w k lost a s s' o e at is same
read_ends_case c w k lost a id (Some r) s s' o e at (is, same) =
    let w' = next w k lost a s o s' in
    let reads : s'.reads ≡ remove_entry (is_at (request_cmp id)) s.reads = ap (λ (x : NodeState). x.reads) same in
    let more = same_grown s s' (ap (λ (x : NodeState). x.content) same) in
    let are = entries_plain o (effects_of (timeout_of c id r)) is (one_plain _ tt) in
    let follow = subst (λ (xs : List (ReqId × OpenRead)). FollowOn w.past s.reads xs) (sym reads) (left_follow w id s.reads) in
    let g = next_grows w k lost a s o s' at more follow (plain_new c w o.entries are) in
    plain_next c w k lost a s o s' e are g (left_node c w w' k id s s' e at reads g) (λ x h. other_ahead w' k x.request x.body (sends_other o (effects_of (timeout_of c id r)) is none_other x h))

told_plain : (answered : Bool) (x : Entry) → IsPlain x → ArePlain (if answered then [] else x ∷ [])
told_plain true x is = none_plain
told_plain false x is = one_plain x is

ends_case : (c : Setting) (w : Scene) (k : ℕ) (lost : Bool) (a : Act) (id : ReqId) (x : Option OpenWrite) (s s' : NodeState) (o : Effects) → Ahead c w → slice_get w.nodes k ≡ Some s → Ends c id x s o s' → Ahead c (next w k lost a s o s')
ends_case c w k lost a id None s s' o e at h = read_ends_case c w k lost a id (open_at s.reads id) s s' o e at h
ends_case c w k lost a id (Some x) s s' o e at (is, same) = plain_case c w k lost a s s' _ o _ e at is same refl refl (told_plain x.answered _ tt) none_other

pub deadline_case : (c : Setting) (w : Scene) (k : ℕ) (lost : Bool) (id : ReqId) (s s' : NodeState) (o : Effects) → Ahead c w → slice_get w.nodes k ≡ Some s → Does c k s (DeadlineComes id) o s' → Ahead c (next w k lost (DeadlineComes id) s o s')
deadline_case c w k lost id s s' o e at h = ends_case c w k lost (DeadlineComes id) id (open_at s.writes id) s s' o e at h

-- ---- bodies that are of no read

-- changes of a partition are taken in
pub taken_in : (c : Setting) (w : Scene) (k : ℕ) (lost : Bool) (from : ℕ) (id : ReqId) (m : Mutation) (reply : Body) (a : Act) (s s' : NodeState) (o : Effects) → Ahead c w → slice_get w.nodes k ≡ Some s → IsOther reply
    → TakesChanges (record { from = from; request = id }) m.partition m.changes reply s o s' → Ahead c (next w k lost a s o s')
taken_in c w k lost from id m reply a s s' o e at other (t, arrive, is, same) =
    other_case c w k lost a s s' o e at (grown (changes_of s.content) (changes_of s'.content) m.partition m.changes t) (ap (λ (x : NodeState). x.reads) same)
    (entries_plain o (replies (record { from = from; request = id }) reply) is none_plain) (sends_other o (replies (record { from = from; request = id }) reply) is (sent_other id reply (from ∷ []) other))

acked_case : (c : Setting) (w : Scene) (k : ℕ) (lost : Bool) (a : Act) (peer number : ℕ) (last : Bool) (s s' : NodeState) (o : Effects) → Ahead c w → slice_get w.nodes k ≡ Some s
    → o ≡ record { sends = if last then sends_hints c k (hint_done s peer number) peer else []; entries = [] } → s' ≡ (if last then with_sent c (hint_done s peer number) peer else hint_done s peer number) → Ahead c (next w k lost a s o s')
acked_case c w k lost a peer number true s s' o e at is same = plain_case c w k lost a s s' _ o _ e at is same refl refl none_plain (hints_other c k (hint_done s peer number) peer)
acked_case c w k lost a peer number false s s' o e at is same = plain_case c w k lost a s s' _ o _ e at is same refl refl none_plain none_other

pub hint_acked_case : (c : Setting) (w : Scene) (k : ℕ) (lost : Bool) (from : ℕ) (id : ReqId) (number : ℕ) (a : Act) (s s' : NodeState) (o : Effects) → Ahead c w → slice_get w.nodes k ≡ Some s
    → HearsBody c k (record { from = from; request = id }) (HintAck number) s o s' → Ahead c (next w k lost a s o s')
hint_acked_case c w k lost from id number a s s' o e at (is, same) = acked_case c w k lost a from number (is_last s from number) s s' o e at is same

ack_plain : (answered enough : Bool) (id : ReqId) (n : OpenWrite) → ArePlain (ack_told answered enough id n)
ack_plain true enough id n = none_plain
ack_plain false true id n = one_plain _ tt
ack_plain false false id n = none_plain

-- what an acknowledgement of a write gives
ack_turned : (c : Setting) (from : ℕ) (id : ReqId) (xs xs' : List (ReqId × OpenWrite)) (x : Option OpenWrite) (turn : Move) → Takes (HearsAck c id from) id xs x turn xs' → ArePlain turn.entries × AreOther turn.sends
ack_turned c from id xs xs' None turn (is, same) = (subst (λ (t : Move). ArePlain t.entries) (sym is) none_plain, subst (λ (t : Move). AreOther t.sends) (sym is) none_other)
ack_turned c from id xs xs' (Some x) turn (x', (is, same), after) = (
  subst (λ (t : Move). ArePlain t.entries) (sym is) (ack_plain (heard_write c from x).answered _ id (heard_write c from x)),
  subst (λ (t : Move). AreOther t.sends) (sym is) none_other,
)

pub ack_heard : (c : Setting) (w : Scene) (k : ℕ) (lost : Bool) (from : ℕ) (id : ReqId) (a : Act) (s s' : NodeState) (o : Effects) → Ahead c w → slice_get w.nodes k ≡ Some s
    → HearsBody c k (record { from = from; request = id }) WriteAck s o s' → Ahead c (next w k lost a s o s')
ack_heard c w k lost from id a s s' o e at (turn, moves, is, same) =
    let turned = ack_turned c from id s.writes s'.writes (open_at s.writes id) turn moves in
    plain_case c w k lost a s s' _ o (effects_of turn) e at is same refl refl turned.0 turned.1
