-- A read begins, and its query comes to a replica.
use Rattle.std.proofs.Common.{◌≡◌, ℕ, inl, inr, Bool, true, false, Some, None, List, [], ◌∷◌, ◌++◌, refl, sym, ap, subst, ◌∙◌, Contains, reverse}
use Rattle.std.specs.Prelude.{slice_get}
use Rattle.std.specs.BTreeMap.{insert_entry}
use Rattle.std.proofs.lemmas.List.Elements.{Contains-append_cases}
use Rattle.cs_base.specs.declared.ids.ReqId.{ReqId}
use Rattle.cs_base.specs.declared.level.Level.{Level}
use Rattle.cs_base.specs.Requests.{request_cmp}
use Rattle.cs_base.proofs.Slots.{some_one}
use Rattle.cs_base.proofs.Members.{contains_nil, contains_one, contains_here, contains_from_map}
use Rattle.changes.specs.declared.Partition.{Partition}
use Rattle.changes.specs.declared.Held.{Held}
use Rattle.changes.specs.declared.Query.{Query}
use Rattle.statement_plan.specs.declared.plan.Columns.{Columns}
use Rattle.peer_messages.specs.declared.message.Body.TheVariants.{Read, ReadReply}
use Rattle.peer_messages.specs.declared.chronicle.Entry.{Entry}
use Rattle.peer_messages.specs.declared.chronicle.Entry.TheVariants.{Began, Rows}
use Rattle.peer_messages.specs.declared.event.Ask.{Ask}
use Rattle.peer_messages.specs.declared.outcome.Outbound.{Outbound}
use Rattle.peer_messages.specs.declared.setting.Setting.{Setting}
use Rattle.peer_messages.specs.Settings.{alive_at}
use Rattle.durable_state.specs.State.{changes_of}
use Rattle.node_steps.specs.State.{NodeState, OpenRead}
use Rattle.node_steps.specs.Effects.{Effects, effects_of, outbound, send_to}
use Rattle.node_steps.specs.Reads.{start_read, started_read}
use Rattle.node_steps.specs.Replicas.{IsReplyTo, replies}
use Rattle.node_steps.specs.Acts.{Act, Asks, HearsBody}
use Rattle.node_steps.proofs.Opened.{in_inserted}
use Rattle.cluster_runs.specs.Trace.{Scene, entered, MayTake}
use Rattle.reads_forward.specs.ReadsForward.{GoesForward, ReadsForward}
use Rattle.read_consistency.proofs.Facts.{WasBegun, Reaches}
use Rattle.read_consistency.proofs.Grows.{stands_in}
use Rattle.read_consistency.proofs.Reach.{slice_reached}
use Rattle.reads_forward.proofs.Facts.{IsQueryOf, ReachesAll, SeesAnswers, ReplyAhead, BodyAhead, ReadAhead, EntryAhead, Ahead}
use Rattle.reads_forward.proofs.Grows.{FollowOn, begun_on, reaches_on, query_on, sees_on, node_on, AreNew, IsNew}
use Rattle.reads_forward.proofs.Distinct.{distinct_inserted}
use Rattle.read_consistency.proofs.Cases.{next}
use Rattle.read_consistency.proofs.Step.{deed_of}
use Rattle.reads_forward.proofs.Step.{next_grows, next_ahead, in_entered}
use Rattle.reads_forward.proofs.Calm.{none_plain, entries_plain, calm_case}

-- one entry, which may be lost
pub one_forward : (c : Setting) (lost : Bool) (x : Entry) (earlier : List Entry) → GoesForward c earlier x → ReadsForward c earlier → ReadsForward c (reverse (entered lost (x ∷ [])) ++ earlier)
one_forward c true x earlier goes forward = forward
one_forward c false x earlier goes forward = (goes, forward)

pub one_entered : (lost : Bool) (x y : Entry) → Contains (reverse (entered lost (x ∷ []))) y → x ≡ y
one_entered lost x y h = contains_one x y (in_entered lost (x ∷ []) y h)

-- ---- a read begins

pub none_fixed : (ks : List ℕ) → None ≡ Some ks → ⊥
none_fixed ks e = cc

same_start : (id : ReqId) (q p : Query) (l n : Level) (v u : Columns) → Began id q l v ≡ Began id p n u → (p ≡ q) × (n ≡ l)
same_start id q p l n v u e = (cc, cc)

pub read_begins : (c : Setting) (w : Scene) (k : ℕ) (lost : Bool) (ask : Ask) (s : NodeState) (q : Query) (l : Level) (v : Columns) → Ahead c w → slice_get w.nodes k ≡ Some s → MayTake w.past k s (Asks ask)
    → let id : ReqId = record { node = k; time = s.risen } in
    Ahead c (next w k lost (Asks ask) s (effects_of (start_read c s.down id l q v)) (record s { reads = insert_entry request_cmp s.reads id (started_read l q) }))
read_begins c w k lost ask s q l v e at may =
    let id : ReqId = record { node = k; time = s.risen } in
    let a = Asks ask in
    let ks = alive_at c s.down q.partition in
    let o : Effects = record { sends = send_to id (Read q) ks; entries = Began id q l v ∷ [] } in
    let r : NodeState = record s { reads = insert_entry request_cmp s.reads id (started_read l q) } in
    let w' = next w k lost a s o r in
    let new : WasBegun w.past id → ⊥ = λ b. may b.0 b.1 b.2 in
    let follow : FollowOn w.past s.reads r.reads = λ i u h. elim (in_inserted s.reads id (started_read l q) (i, u) h) [
      | inl here ↦ inl (λ b. new (subst (λ (j : ReqId). WasBegun w.past j) (ap (λ (x : ReqId × OpenRead). x.0) here) b))
      | inr there ↦ inr (u, there, λ fixed. (fixed, refl, refl))
    ] in
    let come : AreNew w.past (Began id q l v ∷ []) = λ y there. subst (IsNew w.past) (contains_one (Began id q l v) y there) new in
    let g = next_grows w k lost a s o r at (λ p x h. h) follow come in
    let begun : WasBegun w'.past id = (deed_of k a s r o, contains_here _ w.past, (refl, refl, (ask, refl))) in
    let only : (p : Query) (n : Level) (u : Columns) → Contains w'.chronicle (Began id p n u) → (p ≡ q) × (n ≡ l) =
    λ p n u h. elim (Contains-append_cases (reverse (entered lost (Began id q l v ∷ []))) w.chronicle (Began id p n u) h) [
      | inl here ↦ same_start id q p l n v u (one_entered lost (Began id q l v) (Began id p n u) here)
      | inr there ↦ absurd (new (e.entries (Began id p n u) there))
    ] in
    let old = node_on c w w' g e k s (e.nodes k s at) in
    let fresh : ReadAhead c w' k id (started_read l q) = record {
      mine = refl;
      begun = begun;
      replicas = λ j there. absurd (contains_nil j there);
      enough = λ fixed. absurd (none_fixed fixed.0 fixed.1);
      is = λ p n u h.
          let both = only p n u h in
          record {
            query = both.0;
            level = both.1;
            replies = λ x there. absurd (contains_nil x there);
            sees = λ j there. absurd (contains_nil j there);
            mended = λ js fixed j there. absurd (contains_nil j there);
          };
    } in
    next_ahead c w k lost a s o r e g
    (record {
      distinct = distinct_inserted s.reads id (started_read l q) (e.nodes k s at).distinct
          (λ x there same. new (subst (λ (j : ReqId). WasBegun w.past j) same ((e.nodes k s at).reads x.0 x.1 there).begun));
      reads = λ i u h. elim (in_inserted s.reads id (started_read l q) (i, u) h) [
        | inl here ↦ subst (λ (x : ReqId × OpenRead). ReadAhead c w' k x.0 x.1) (sym here) fresh
        | inr there ↦ old.reads i u there
      ];
    })
    (λ x h. let made = contains_from_map (outbound id (Read q)) ks x h in subst (λ (y : Outbound). BodyAhead w' k y.request y.body) made.2 (begun, λ p n u there. (only p n u there).0))
    (λ x h. subst (EntryAhead c w') (one_entered lost (Began id q l v) x h) begun)
    (one_forward c lost (Began id q l v) w.chronicle tt e.forward)

-- ---- a query comes

-- what is held of what the query asks reaches what was held of each answer before
part_sees : (c : Setting) (w : Scene) (k : ℕ) (id : ReqId) (q : Query) (s : NodeState) (part : List Held) → Ahead c w → slice_get w.nodes k ≡ Some s → IsReplyTo (changes_of s.content) q part → SeesAnswers w.chronicle id k q part
part_sees c w k id q s part e at answer first rows more grounds before there asked l v began same x inside in_q =
    let answered = e.entries (Rows first rows more grounds) (stands_in w.chronicle id (Rows first rows more grounds) before) in
    let held : Reaches (changes_of s.content) asked.partition x = (answered.1 asked l v began).reach k there s at x inside in
    slice_reached (changes_of s.content) q part answer.0 x in_q (subst (λ (p : Partition). Reaches (changes_of s.content) p x) same held)

part_held : (w : Scene) (k : ℕ) (q : Query) (s : NodeState) (part : List Held) → slice_get w.nodes k ≡ Some s → IsReplyTo (changes_of s.content) q part → ReachesAll w k q.partition part
part_held w k q s part at answer t here x there =
    let same : s ≡ t = some_one (sym at ∙ here) in
    subst (λ (v : NodeState). Reaches (changes_of v.content) q.partition x) same (inl ((answer.0 x).0 there).0)

pub read_heard : (c : Setting) (w : Scene) (k : ℕ) (lost : Bool) (from : ℕ) (id : ReqId) (q : Query) (a : Act) (s s' : NodeState) (o : Effects) → Ahead c w → slice_get w.nodes k ≡ Some s → WasBegun w.past id → IsQueryOf w.chronicle id q
    → HearsBody c k (record { from = from; request = id }) (Read q) s o s' → Ahead c (next w k lost a s o s')
read_heard c w k lost from id q a s s' o e at begun query (part, answer, is, same) =
    let out = replies (record { from = from; request = id }) (ReadReply part) in
    let w' = next w k lost a s o s' in
    calm_case c w k lost a s s' o e at (λ p x h. subst (λ (v : NodeState). Reaches (changes_of v.content) p x) (sym same) h) (ap (λ (v : NodeState). v.reads) same) (entries_plain o out is none_plain)
    (λ g x h.
    let only = query_on w w' g id q begun query in
    let reply : ReplyAhead w' k id part = λ p n u there.
    subst (λ (v : Query). ReachesAll w' k v.partition part × SeesAnswers w'.chronicle id k v part) (sym (only p n u there))
    (reaches_on w w' g k q.partition part (part_held w k q s part at answer), sees_on c w w' g e id k q part begun (part_sees c w k id q s part e at answer)) in
    let made = contains_from_map (outbound id (ReadReply part)) (from ∷ []) x (subst (λ (y : Effects). Contains y.sends x) is h) in
    subst (λ (y : Outbound). BodyAhead w' k y.request y.body) made.2 (begun_on w w' g id begun, reply))
