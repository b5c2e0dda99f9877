-- Each move keeps what is known.
use Rattle.std.proofs.Common.{◌≡◌, ℕ, ◌⊎◌, inl, inr, Bool, true, false, Option, Some, None, List, [], ◌∷◌, ◌++◌, refl, sym, ap, subst, ◌∙◌, Contains, reverse}
use Rattle.std.specs.Prelude.{slice_get, slice_set, if◌then◌else◌}
use Rattle.std.specs.BTreeMap.{insert_entry}
use Rattle.cs_base.specs.declared.ids.ReqId.{ReqId}
use Rattle.cs_base.specs.declared.level.Level.{Level}
use Rattle.cs_base.specs.Requests.{request_cmp}
use Rattle.changes.specs.declared.Partition.{Partition}
use Rattle.changes.specs.declared.Held.{Held}
use Rattle.changes.specs.declared.Mutation.{Mutation}
use Rattle.changes.specs.declared.DraftMutation.{DraftMutation}
use Rattle.changes.specs.declared.Query.{Query}
use Rattle.statement_plan.specs.declared.plan.Columns.{Columns}
use Rattle.row_change.specs.declared.entry.Hint.{Hint}
use Rattle.changes.specs.Drafts.{mutation_of}
use Rattle.changes.proofs.Ranks.{request_made}
use Rattle.cs_base.proofs.Members.{contains_nil, contains_here, contains_from_map}
use Rattle.peer_messages.specs.declared.event.Ask.{Ask}
use Rattle.peer_messages.specs.declared.event.Plan.{Plan}
use Rattle.peer_messages.specs.declared.event.Plan.TheVariants as plan
use Rattle.peer_messages.specs.declared.message.Body.TheVariants.{Write, Read}
use Rattle.peer_messages.specs.declared.chronicle.Entry.{Entry}
use Rattle.peer_messages.specs.declared.chronicle.Entry.TheVariants.{Submitted, Refused, Used, Began}
use Rattle.peer_messages.specs.declared.chronicle.Refusal.{Refusal}
use Rattle.peer_messages.specs.declared.outcome.Outbound.{Outbound}
use Rattle.peer_messages.specs.declared.setting.Setting.{Setting}
use Rattle.peer_messages.specs.Settings.{alive_at}
use Rattle.durable_state.specs.State.{changes_of, Holds}
use Rattle.node_steps.specs.State.{NodeState, OpenWrite, OpenRead}
use Rattle.node_steps.specs.Effects.{Effects, nothing, effects_of, outbound, send_to}
use Rattle.node_steps.specs.Writes.{start_write, started_write}
use Rattle.node_steps.specs.Reads.{start_read, started_read}
use Rattle.node_steps.specs.Hints.{hints_in, push_hints}
use Rattle.node_steps.specs.Requests.{hinted_at, leaves_hints, Begins, BeginsOrRefuses}
use Rattle.node_steps.specs.Acts.{Act, Rises, Asks, Deed, Does, ceiling_after}
use Rattle.node_steps.proofs.HintMembers.{pushed_from}
use Rattle.node_steps.proofs.Opened.{in_inserted}
use Rattle.cluster_runs.specs.Chronicle.{submission_of}
use Rattle.cluster_runs.specs.Trace.{Scene, MayTake, AreTold, entered, loser}
use Rattle.cluster_runs.proofs.Submissions.{itself}
use Rattle.read_consistency.proofs.Facts.{WasBegun, IsReadOf, Reaches, IsOf, BodyOk, WriteOk, HintOk, ReadOk, NodeOk, EntryOk, Explains}
use Rattle.read_consistency.specs.ReadRight.{HasStart, IsRightEntry}
use Rattle.read_consistency.proofs.Grows.{Grows, IsNew, was_begun, node_on}
use Rattle.read_consistency.proofs.Step.{deed_of, quietly, telling, quietly_grows, telling_grows, explains_quietly, explains_telling}

-- the scene behind a move, of which no entry comes into the chronicle if its outputs are lost
abbrev pub next : Scene → ℕ → Bool → Act → NodeState → Effects → NodeState → Scene
next w k lost a s o s' = record { nodes = slice_set w.nodes k s'; chronicle = reverse (entered lost o.entries) ++ w.chronicle; past = deed_of k a s s' o ∷ w.past; losing = w.losing }

abbrev pub only_sends : List Outbound → Effects
only_sends sends = record { sends = sends; entries = [] }

abbrev pub with_one : List Outbound → Entry → Effects
with_one sends e = record { sends = sends; entries = e ∷ [] }

pub quiet_next : (c : Setting) (w : Scene) (k : ℕ) (lost : Bool) (a : Act) (s s' : NodeState) (sends : List Outbound) → Explains c (quietly w k a s s' (only_sends sends)) → Explains c (next w k lost a s (only_sends sends) s')
quiet_next c w k true a s s' sends e = e
quiet_next c w k false a s s' sends e = e

pub none_sent : (w : Scene) (k : ℕ) (x : Outbound) → Contains [] x → BodyOk w k x
none_sent w k x h = absurd (contains_nil x h)

-- the node has what it had, under other names
same_node : (c : Setting) (w : Scene) (k : ℕ) (s r : NodeState) → r.content ≡ s.content → r.writes ≡ s.writes → r.reads ≡ s.reads → r.hints ≡ s.hints → NodeOk c w k s → NodeOk c w k r
same_node c w k s r content writes reads hints ok = record {
  of = λ p x h.
      subst (λ cs. IsOf w.chronicle p (Reaches (changes_of cs) p) x) (sym content) (ok.of p x (subst (λ cs. Holds (changes_of cs) p x) content h));
  writes = λ id o h. ok.writes id o (subst (λ (xs : List (ReqId × OpenWrite)). Contains xs (id, o)) writes h);
  reads = λ id o h. ok.reads id o (subst (λ (xs : List (ReqId × OpenRead)). Contains xs (id, o)) reads h);
  hints = λ x h. ok.hints x (subst (λ (xs : List Hint). Contains xs x) hints h);
}

-- a move by which a node keeps all and tells nothing
pub same_case : (c : Setting) (w : Scene) (k : ℕ) (lost : Bool) (a : Act) (s r : NodeState) → Explains c w → slice_get w.nodes k ≡ Some s → r.content ≡ s.content → r.writes ≡ s.writes → r.reads ≡ s.reads → r.hints ≡ s.hints
    → Explains c (next w k lost a s nothing r)
same_case c w k lost a s r e at content writes reads hints =
    let more : (p : Partition) (x : Held) → Reaches (changes_of s.content) p x → Reaches (changes_of r.content) p x = λ p x h. subst (λ cs. Reaches (changes_of cs) p x) (sym content) h in
    let w' = quietly w k a s r nothing in
    let g = quietly_grows w k a s r nothing at more in
    quiet_next c w k lost a s r [] (explains_quietly c w k a s r nothing e at more (same_node c w' k s r content writes reads hints (node_on c w w' g e k (λ l. l) s (e.nodes k s at))) (none_sent w' k))

-- a move by which bodies go out, and nothing is told
pub sends_case : (c : Setting) (w : Scene) (k : ℕ) (lost : Bool) (a : Act) (s r : NodeState) (sends : List Outbound) → Explains c w → slice_get w.nodes k ≡ Some s → r.content ≡ s.content
    → ((w' : Scene) → Grows w w' → w'.losing ≡ w.losing → NodeOk c w' k r) → ((w' : Scene) → Grows w w' → (x : Outbound) → Contains sends x → BodyOk w' k x) → Explains c (next w k lost a s (only_sends sends) r)
sends_case c w k lost a s r sends e at content node bodies =
    let more : (p : Partition) (x : Held) → Reaches (changes_of s.content) p x → Reaches (changes_of r.content) p x = λ p x h. subst (λ cs. Reaches (changes_of cs) p x) (sym content) h in
    let w' = quietly w k a s r (only_sends sends) in
    let g = quietly_grows w k a s r (only_sends sends) at more in
    quiet_next c w k lost a s r sends (explains_quietly c w k a s r (only_sends sends) e at more (node w' g refl) (bodies w' g))

-- an entry, or a lost one, by a node that stays in a state of which this is known in each later scene
pub one_entry : (c : Setting) (w : Scene) (k : ℕ) (lost : Bool) (a : Act) (s r : NodeState) (x : Entry) → Explains c w → slice_get w.nodes k ≡ Some s → ((p : Partition) (y : Held) → Reaches (changes_of s.content) p y → Reaches (changes_of r.content) p y) → IsNew w.past x
    → ((w' : Scene) → Grows w w' → w'.losing ≡ w.losing → NodeOk c w' k r) → EntryOk c (telling w k a s r [] x) x → IsRightEntry c w.chronicle x → Explains c (next w k lost a s (with_one [] x) r)
one_entry c w k true a s r x e at more new node entry right =
    let w' = quietly w k a s r (with_one [] x) in
    explains_quietly c w k a s r (with_one [] x) e at more (node w' (quietly_grows w k a s r (with_one [] x) at more) refl) (none_sent w' k)
one_entry c w k false a s r x e at more new node entry right =
    let w' = telling w k a s r [] x in
    explains_telling c w k a s r [] x e at more new (node w' (telling_grows w k a s r [] x at more new) refl) (none_sent w' k) entry right

-- the node as it was
pub node_later : (c : Setting) (w : Scene) (k : ℕ) (s : NodeState) → Explains c w → slice_get w.nodes k ≡ Some s → (w' : Scene) → Grows w w' → w'.losing ≡ w.losing → NodeOk c w' k s
node_later c w k s e at w' g losing = node_on c w w' g e k (λ l. losing ∙ l) s (e.nodes k s at)

-- ---- time rises, and a request is refused

pub rises_case : (c : Setting) (w : Scene) (k : ℕ) (lost : Bool) (t : ℕ) (s s' : NodeState) (o : Effects) → Explains c w → slice_get w.nodes k ≡ Some s → Does c k s (Rises t) o s' → Explains c (next w k lost (Rises t) s o s')
rises_case c w k lost t s s' o e at (later, is, same) =
    subst (λ (x : Effects). Explains c (next w k lost (Rises t) s x s')) (sym is)
    (subst (λ (x : NodeState). Explains c (next w k lost (Rises t) s nothing x)) (sym same)
    (same_case c w k lost (Rises t) s (record s { time = t; risen = t; ceiling = ceiling_after s.ceiling t }) e at refl refl refl refl))

-- what is not looked at
pub unheard_case : (c : Setting) (w : Scene) (k : ℕ) (lost : Bool) (a : Act) (s s' : NodeState) (o : Effects) → Explains c w → slice_get w.nodes k ≡ Some s → o ≡ nothing → s' ≡ s → Explains c (next w k lost a s o s')
unheard_case c w k lost a s s' o e at is same =
    subst (λ (x : Effects). Explains c (next w k lost a s x s')) (sym is)
    (subst (λ (x : NodeState). Explains c (next w k lost a s nothing x)) (sym same) (same_case c w k lost a s s e at refl refl refl refl))

refused_case : (c : Setting) (w : Scene) (k : ℕ) (lost : Bool) (a : Act) (id : ReqId) (r : Refusal) (s s' : NodeState) (o : Effects) → Explains c w → slice_get w.nodes k ≡ Some s → o ≡ record { sends = []; entries = Refused id r ∷ [] } → s' ≡ s
    → Explains c (next w k lost a s o s')
refused_case c w k lost a id r s s' o e at is same =
    subst (λ (x : Effects). Explains c (next w k lost a s x s')) (sym is)
    (subst (λ (x : NodeState). Explains c (next w k lost a s (with_one [] (Refused id r)) x)) (sym same) (one_entry c w k lost a s s (Refused id r) e at (λ p x h. h) tt (node_later c w k s e at) tt tt))

used_case : (c : Setting) (w : Scene) (k : ℕ) (lost : Bool) (a : Act) (id : ReqId) (keyspace : List ℕ) (s s' : NodeState) (o : Effects) → Explains c w → slice_get w.nodes k ≡ Some s → o ≡ record { sends = []; entries = Used id keyspace ∷ [] } → s' ≡ s
    → Explains c (next w k lost a s o s')
used_case c w k lost a id keyspace s s' o e at is same =
    subst (λ (x : Effects). Explains c (next w k lost a s x s')) (sym is)
    (subst (λ (x : NodeState). Explains c (next w k lost a s (with_one [] (Used id keyspace)) x)) (sym same) (one_entry c w k lost a s s (Used id keyspace) e at (λ p x h. h) tt (node_later c w k s e at) tt tt))

-- ---- a write begins

abbrev writing : NodeState → ReqId → Level → DraftMutation → List ℕ → NodeState
writing s id l d hinted = record (leaves_hints hinted id (mutation_of id d) s) { writes = insert_entry request_cmp s.writes id (started_write id l d hinted) }

-- the hint is of the write that its request submitted
hint_is : (w : Scene) (k : ℕ) (id : ReqId) (m : Mutation) (x : Hint) → id.node ≡ k → WasBegun w.past id → submission_of w.chronicle id ≡ Some m → x.born ≡ id.time → x.mutation ≡ m → HintOk w k x
hint_is w k id m x mine begun submission born is =
    let request : id ≡ record { node = k; time = x.born } = request_made mine (sym born) in
    record {
      begun = subst (λ (r : ReqId). WasBegun w.past r) request begun;
      is = ap (λ (r : ReqId). submission_of w.chronicle r) (sym request) ∙ submission ∙ ap (λ (y : Mutation). Some y) (sym is);
    }

-- the hints behind those that a write leaves
pub left_hints : (w : Scene) (k : ℕ) (id : ReqId) (m : Mutation) (peers : List ℕ) (s : NodeState) → id.node ≡ k → WasBegun w.past id → submission_of w.chronicle id ≡ Some m → ((x : Hint) → Contains s.hints x → HintOk w k x)
    → (x : Hint) → Contains (push_hints peers id.time m (hints_in s)).hints x → HintOk w k x
left_hints w k id m peers s mine begun submission old x there = elim (pushed_from peers id.time m (hints_in s) x there) [
  | inl before ↦ old x before
  | inr (born, is) ↦ hint_is w k id m x mine begun submission born is
]

-- where what it submits is the last under its id
write_node : (c : Setting) (w' : Scene) (k : ℕ) (s : NodeState) (id : ReqId) (l : Level) (d : DraftMutation) (hinted : List ℕ) → id.node ≡ k → NodeOk c w' k s → WasBegun w'.past id → submission_of w'.chronicle id ≡ Some (mutation_of id d) → NodeOk c w' k (writing s id l d hinted)
write_node c w' k s id l d hinted mine old begun submission =
    let fresh : WriteOk w' k id (started_write id l d hinted) = record {
      mine = mine;
      begun = begun;
      is = submission;
      heard = λ j h. absurd (contains_nil j h);
    } in
    record {
      of = old.of;
      writes = λ i o h. elim (in_inserted s.writes id (started_write id l d hinted) (i, o) h) [
        | inl is ↦ subst (λ (x : ReqId × OpenWrite). WriteOk w' k x.0 x.1) (sym is) fresh
        | inr there ↦ old.writes i o there
      ];
      reads = old.reads;
      hints = left_hints w' k id (mutation_of id d) hinted s mine begun submission old.hints;
    }

write_bodies : (w' : Scene) (k : ℕ) (id : ReqId) (m : Mutation) (ks : List ℕ) → WasBegun w'.past id → submission_of w'.chronicle id ≡ Some m → (x : Outbound) → Contains (send_to id (Write m) ks) x → BodyOk w' k x
write_bodies w' k id m ks begun submission x h = let made = contains_from_map (outbound id (Write m)) ks x h in subst (λ (y : Outbound). BodyOk w' k y) made.2 (record { begun = begun; is = submission })

write_case : (c : Setting) (w : Scene) (k : ℕ) (lost : Bool) (ask : Ask) (s : NodeState) (d : DraftMutation) (l : Level) → Explains c w → slice_get w.nodes k ≡ Some s → MayTake w.past k s (Asks ask)
    → let id : ReqId = record { node = k; time = s.risen } in
    AreTold lost w.chronicle (Submitted id (mutation_of id d) ∷ []) → Explains c (next w k lost (Asks ask) s (effects_of (start_write c s.down id d)) (writing s id l d (hinted_at c s d)))
write_case c w k true ask s d l e at may told =
    let id : ReqId = record { node = k; time = s.risen } in
    let m = mutation_of id d in
    let ks = alive_at c s.down d.partition in
    let r = writing s id l d (hinted_at c s d) in
    let o = with_one (send_to id (Write m) ks) (Submitted id m) in
    let w' = quietly w k (Asks ask) s r o in
    let g = quietly_grows w k (Asks ask) s r o at (λ p x h. h) in
    let begun : WasBegun w'.past id = (deed_of k (Asks ask) s r o, contains_here _ w.past, (refl, refl, (ask, refl))) in
    let submission : submission_of w'.chronicle id ≡ Some m = told (Submitted id m) (contains_here (Submitted id m) []) in
    explains_quietly c w k (Asks ask) s r o e at (λ p x h. h) (write_node c w' k s id l d (hinted_at c s d) refl (node_later c w k s e at w' g refl) begun submission) (write_bodies w' k id m ks begun submission)
write_case c w k false ask s d l e at may told =
    let id : ReqId = record { node = k; time = s.risen } in
    let m = mutation_of id d in
    let ks = alive_at c s.down d.partition in
    let r = writing s id l d (hinted_at c s d) in
    let sends = send_to id (Write m) ks in
    let w' = telling w k (Asks ask) s r sends (Submitted id m) in
    let new : WasBegun w.past id → ⊥ = λ b. may b.0 b.1 b.2 in
    let g = telling_grows w k (Asks ask) s r sends (Submitted id m) at (λ p x h. h) new in
    let begun : WasBegun w'.past id = (deed_of k (Asks ask) s r (with_one sends (Submitted id m)), contains_here _ w.past, (refl, refl, (ask, refl))) in
    let submission : submission_of w'.chronicle id ≡ Some m = ap (λ (b : Bool). if b then Some m else submission_of w.chronicle id) (itself id) in
    explains_telling c w k (Asks ask) s r sends (Submitted id m) e at (λ p x h. h) new (write_node c w' k s id l d (hinted_at c s d) refl (node_later c w k s e at w' g refl) begun submission) (write_bodies w' k id m ks begun submission) tt tt

-- ---- a read begins

abbrev reading : NodeState → ReqId → Level → Query → NodeState
reading s id l q = record s { reads = insert_entry request_cmp s.reads id (started_read l q) }

read_node : (c : Setting) (w' : Scene) (k : ℕ) (s : NodeState) (id : ReqId) (l : Level) (q : Query) → NodeOk c w' k s → IsReadOf w'.past id q l → HasStart w'.chronicle id ⊎ (w'.losing ≡ Some k) → NodeOk c w' k (reading s id l q)
read_node c w' k s id l q old asked start =
    let fresh : ReadOk c w' k id (started_read l q) = record {
      start = start;
      asked = asked;
      answers = record { of = λ x there. absurd (contains_nil x there); inside = λ x there. absurd (contains_nil x there) };
      sees = λ j there. absurd (contains_nil j there);
      enough = λ ks none. cc;
    } in
    record {
      of = old.of;
      writes = old.writes;
      reads = λ i o h. elim (in_inserted s.reads id (started_read l q) (i, o) h) [
        | inl is ↦ subst (λ (x : ReqId × OpenRead). ReadOk c w' k x.0 x.1) (sym is) fresh
        | inr there ↦ old.reads i o there
      ];
      hints = old.hints;
    }

read_bodies : (w' : Scene) (k : ℕ) (id : ReqId) (l : Level) (q : Query) (ks : List ℕ) → IsReadOf w'.past id q l → (x : Outbound) → Contains (send_to id (Read q) ks) x → BodyOk w' k x
read_bodies w' k id l q ks asked x h =
    let made = contains_from_map (outbound id (Read q)) ks x h in
    subst (λ (y : Outbound). BodyOk w' k y) made.2 (record { begun = was_begun w'.past id q l asked; is = (l, asked) })

-- the move that begins a read
read_begun : (past : List Deed) (k : ℕ) (ask : Ask) (s s' : NodeState) (o : Effects) (q : Query) (l : Level) (v : Columns) → ask.plan ≡ plan.Read q v → ask.level ≡ l → IsReadOf (deed_of k (Asks ask) s s' o ∷ past) (record { node = k; time = s.risen }) q l
read_begun past k ask s s' o q l v asks level = record { deed = deed_of k (Asks ask) s s' o; there = contains_here _ past; at = (refl, refl, (ask, refl)); columns = v; asks = asks; level = level }

read_case : (c : Setting) (w : Scene) (k : ℕ) (lost : Bool) (ask : Ask) (s : NodeState) (q : Query) (l : Level) (v : Columns) → ask.plan ≡ plan.Read q v → ask.level ≡ l → Explains c w → slice_get w.nodes k ≡ Some s → MayTake w.past k s (Asks ask) → w.losing ≡ loser lost k
    → let id : ReqId = record { node = k; time = s.risen } in
    Explains c (next w k lost (Asks ask) s (effects_of (start_read c s.down id l q v)) (record s { reads = insert_entry request_cmp s.reads id (started_read l q) }))
read_case c w k true ask s q l v asks level e at may losing =
    let id : ReqId = record { node = k; time = s.risen } in
    let ks = alive_at c s.down q.partition in
    let r = reading s id l q in
    let o = with_one (send_to id (Read q) ks) (Began id q l v) in
    let w' = quietly w k (Asks ask) s r o in
    let g = quietly_grows w k (Asks ask) s r o at (λ p x h. h) in
    let asked = read_begun w.past k ask s r o q l v asks level in
    explains_quietly c w k (Asks ask) s r o e at (λ p x h. h) (read_node c w' k s id l q (node_later c w k s e at w' g refl) asked (inr losing)) (read_bodies w' k id l q ks asked)
read_case c w k false ask s q l v asks level e at may losing =
    let id : ReqId = record { node = k; time = s.risen } in
    let ks = alive_at c s.down q.partition in
    let r = reading s id l q in
    let sends = send_to id (Read q) ks in
    let w' = telling w k (Asks ask) s r sends (Began id q l v) in
    let new : WasBegun w.past id → ⊥ = λ b. may b.0 b.1 b.2 in
    let g = telling_grows w k (Asks ask) s r sends (Began id q l v) at (λ p x h. h) new in
    let asked = read_begun w.past k ask s r (with_one sends (Began id q l v)) q l v asks level in
    explains_telling c w k (Asks ask) s r sends (Began id q l v) e at (λ p x h. h) new
    (read_node c w' k s id l q (node_later c w k s e at w' g refl) asked (inl (q, l, v, contains_here (Began id q l v) w.chronicle))) (read_bodies w' k id l q ks asked) asked tt

begins_case : (c : Setting) (w : Scene) (k : ℕ) (lost : Bool) (ask : Ask) (p : Plan) (l : Level) (s s' : NodeState) (o : Effects) → ask.plan ≡ p → ask.level ≡ l → Explains c w → slice_get w.nodes k ≡ Some s → MayTake w.past k s (Asks ask) → w.losing ≡ loser lost k
    → AreTold lost w.chronicle o.entries → Begins c (record { node = k; time = s.risen }) p l s o s' → Explains c (next w k lost (Asks ask) s o s')
begins_case c w k lost ask (plan.Write d) l s s' o asks level e at may losing told (is, same) =
    subst (λ (x : Effects). Explains c (next w k lost (Asks ask) s x s')) (sym is)
    (subst (λ (x : NodeState). Explains c (next w k lost (Asks ask) s (effects_of (start_write c s.down (record { node = k; time = s.risen }) d)) x)) (sym same)
    (write_case c w k lost ask s d l e at may (subst (λ (x : Effects). AreTold lost w.chronicle x.entries) is told)))
begins_case c w k lost ask (plan.Read q v) l s s' o asks level e at may losing told (is, same) =
    subst (λ (x : Effects). Explains c (next w k lost (Asks ask) s x s')) (sym is)
    (subst (λ (x : NodeState). Explains c (next w k lost (Asks ask) s (effects_of (start_read c s.down (record { node = k; time = s.risen }) l q v)) x)) (sym same) (read_case c w k lost ask s q l v asks level e at may losing))
begins_case c w k lost ask (plan.Use keyspace) l s s' o asks level e at may losing told (is, same) = used_case c w k lost (Asks ask) (record { node = k; time = s.risen }) keyspace s s' o e at is same
begins_case c w k lost ask (plan.Invalid fault) l s s' o asks level e at may losing told h = absurd h

pub asks_case : (c : Setting) (w : Scene) (k : ℕ) (lost : Bool) (ask : Ask) (r : Option Refusal) (s s' : NodeState) (o : Effects) → Explains c w → slice_get w.nodes k ≡ Some s → MayTake w.past k s (Asks ask) → w.losing ≡ loser lost k
    → AreTold lost w.chronicle o.entries → BeginsOrRefuses c (record { node = k; time = s.risen }) ask.plan ask.level r s o s' → Explains c (next w k lost (Asks ask) s o s')
asks_case c w k lost ask None s s' o e at may losing told h = begins_case c w k lost ask ask.plan ask.level s s' o refl refl e at may losing told h
asks_case c w k lost ask (Some r) s s' o e at may losing told (is, same) = refused_case c w k lost (Asks ask) (record { node = k; time = s.risen }) r s s' o e at is same
