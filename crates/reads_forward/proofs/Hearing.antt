-- A reply, a merge and the acknowledgement of a merge come.
use Rattle.std.proofs.Common.{◌≡◌, ℕ, ◌⊎◌, ◌≤◌, inl, inr, Bool, true, false, Option, Some, None, List, [], ◌∷◌, ◌++◌, map, refl, sym, ap, subst, ◌∙◌, Contains}
use Rattle.std.specs.Prelude.{slice_get, ◌==◌, ◌&&◌, ◌||◌, not, nat_lt, MatchBool}
use Rattle.std.specs.BTreeMap.{is_at}
use Rattle.std.specs.Map.{set_value}
use Rattle.std.proofs.lemmas.Bool.{cases_Bool, ltb-false, or_parts, eqb-true, eq-eqb}
use Rattle.std.proofs.lemmas.List.{map-append}
use Rattle.cs_base.specs.declared.ids.ReqId.{ReqId}
use Rattle.cs_base.specs.Requests.{request_cmp}
use Rattle.cs_base.specs.Quorums.{is_in}
use Rattle.cs_base.proofs.Quorums.{is_in_contains}
use Rattle.cs_base.proofs.Slots.{some_one, get_set}
use Rattle.cs_base.proofs.Members.{contains_nil, contains_push, contains_from_map, contains_filter, none_passes}
use Rattle.changes.specs.declared.Partition.{Partition}
use Rattle.changes.specs.declared.Held.{Held}
use Rattle.changes.specs.declared.Mutation.{Mutation}
use Rattle.changes.specs.declared.Query.{Query}
use Rattle.changes.specs.Contents.{IsMergeOf}
use Rattle.peer_messages.specs.declared.message.Body.TheVariants.{ReadReply, Mend, MendAck}
use Rattle.peer_messages.specs.declared.outcome.Outbound.{Outbound}
use Rattle.peer_messages.specs.declared.outcome.Move.{Move}
use Rattle.peer_messages.specs.declared.setting.Setting.{Setting}
use Rattle.peer_messages.specs.Settings.{replicas_of}
use Rattle.peer_messages.specs.Moves.{quiet}
use Rattle.durable_state.specs.State.{changes_of}
use Rattle.durable_state.specs.Taking.{TakesIn}
use Rattle.node_steps.specs.State.{NodeState, OpenRead, Replied}
use Rattle.node_steps.specs.Effects.{Effects, nothing, effects_of, outbound, send_to, open_at, after_move, Takes}
use Rattle.node_steps.specs.Fitting.{write_fits}
use Rattle.node_steps.specs.Reads.{replied_from, heard_by, replies_of, read_needs, is_same, differs, differing, mend_of, mends, AwaitsMends, is_merged, is_stray, MergesReply, HearsReply, without_one, is_awaited, mended_by, HearsMendAck}
use Rattle.node_steps.specs.Replicas.{replies}
use Rattle.node_steps.specs.Acts.{Act, HearsBody, TakesChanges}
use Rattle.node_steps.proofs.Opened.{open_in}
use Rattle.node_steps.proofs.Mends.{is_same_exact}
use Rattle.cluster_runs.specs.Trace.{Scene}
use Rattle.read_consistency.proofs.Facts.{WasBegun, Reaches}
use Rattle.read_consistency.proofs.Reach.{grown, taken, merge_first, merge_second}
use Rattle.reads_forward.proofs.Facts.{ReachesAll, SeesAnswers, IsMergeAt, HasMerge, ReplyAhead, BodyAhead, ReadAhead, Ahead}
use Rattle.reads_forward.proofs.Grows.{begun_on, merge_on}
use Rattle.read_consistency.proofs.Cases.{next}
use Rattle.reads_forward.proofs.Calm.{none_plain, entries_plain, unheard_case, calm_case}
use Rattle.reads_forward.proofs.Reading.{none_fixed}
use Rattle.reads_forward.proofs.Mending.{set_case, awaiting, AreMends, awaits_case}

-- a read that stays as it is
unchanged_case : (c : Setting) (w : Scene) (k : ℕ) (lost : Bool) (a : Act) (id : ReqId) (s s' : NodeState) (r r' : OpenRead) (turn : Move) (o : Effects) → Ahead c w → slice_get w.nodes k ≡ Some s → open_at s.reads id ≡ Some r
    → o ≡ effects_of turn → s' ≡ record s { reads = after_move turn.ended id r' s.reads } → turn ≡ quiet → r' ≡ r → Ahead c (next w k lost a s o s')
unchanged_case c w k lost a id s s' r r' turn o e at found out is none same =
    let given : o ≡ nothing = subst (λ (t : Move). o ≡ effects_of t) none out in
    let become : s' ≡ record s { reads = set_value (is_at (request_cmp id)) s.reads r } =
    subst (λ (v : OpenRead). s' ≡ record s { reads = set_value (is_at (request_cmp id)) s.reads v }) same
    (subst (λ (t : Move). s' ≡ record s { reads = after_move t.ended id r' s.reads }) none is) in
    set_case c w k lost a id s s' r r o e at found become (entries_plain o nothing given none_plain) ((e.nodes k s at).reads id r (open_in s.reads id r found)) (λ fixed. (fixed, refl, refl))
    (λ g y there. absurd (contains_nil y (subst (λ (v : Effects). Contains v.sends y) given there)))

-- the node has these open reads, and is as it was otherwise
with_reads : (s s' : NodeState) (xs : List (ReqId × OpenRead)) → s' ≡ record s { reads = s'.reads } → s'.reads ≡ xs → s' ≡ record s { reads = xs }
with_reads s s' xs is same = subst (λ (ys : List (ReqId × OpenRead)). s' ≡ record s { reads = ys }) same is

-- no such read is open
unfound_case : (c : Setting) (w : Scene) (k : ℕ) (lost : Bool) (a : Act) (s s' : NodeState) (turn : Move) (o : Effects) → Ahead c w → slice_get w.nodes k ≡ Some s → o ≡ effects_of turn → s' ≡ record s { reads = s'.reads } → turn ≡ quiet → s'.reads ≡ s.reads
    → Ahead c (next w k lost a s o s')
unfound_case c w k lost a s s' turn o e at out is none same = unheard_case c w k lost a s s' o e at (subst (λ (t : Move). o ≡ effects_of t) none out) (with_reads s s' s.reads is same)

-- ---- a reply is merged

replies_are : (xs : List Replied) (from : ℕ) (content : List Held) → map replied_from (xs ++ record { from = from; content = content } ∷ []) ≡ map replied_from xs ++ from ∷ []
replies_are xs from content = map-append replied_from xs (record { from = from; content = content } ∷ [])

-- the read can use the reply
record IsUsed (c : Setting) (from : ℕ) (r : OpenRead) : Type 0 where
  open_still : r.mending ≡ None
  replica : Contains (replicas_of c r.query.partition) from

not_merged : (o : Option (List ℕ)) → is_merged o ≡ false → o ≡ None
not_merged None h = refl
not_merged (Some ks) h = cc

not_false : (b : Bool) → not b ≡ false → b ≡ true
not_false true h = refl
not_false false h = cc

is_used : (c : Setting) (from : ℕ) (r : OpenRead) → is_stray c from r ≡ false → IsUsed c from r
is_used c from r h =
    let parts = or_parts (is_merged r.mending) (is_in (heard_by r) from || not (is_in (replicas_of c r.query.partition) from)) h in
    let rest = or_parts (is_in (heard_by r) from) (not (is_in (replicas_of c r.query.partition) from)) parts.1 in
    record { open_still = not_merged r.mending parts.0; replica = is_in_contains (replicas_of c r.query.partition) from (not_false (is_in (replicas_of c r.query.partition) from) rest.1) }

-- the read behind the reply: its merge is open still
merged_ok : (c : Setting) (w : Scene) (k from : ℕ) (id : ReqId) (content : List Held) (r n : OpenRead) → ReadAhead c w k id r → ReplyAhead w from id content → IsUsed c from r
    → n ≡ record r { replies = r.replies ++ record { from = from; content = content } ∷ []; merged = n.merged } → IsMergeOf n.merged r.merged content → ReadAhead c w k id n
merged_ok c w k from id content r n ok reply used is merge =
    let one : Replied = record { from = from; content = content } in
    let query : n.query ≡ r.query = ap (λ (x : OpenRead). x.query) is in
    let level : n.level ≡ r.level = ap (λ (x : OpenRead). x.level) is in
    let all : n.replies ≡ r.replies ++ one ∷ [] = ap (λ (x : OpenRead). x.replies) is in
    let heard : heard_by n ≡ heard_by r ++ from ∷ [] = ap heard_by is ∙ replies_are r.replies from content in
    let none : n.mending ≡ None = ap (λ (x : OpenRead). x.mending) is ∙ used.open_still in
    record {
      mine = ok.mine;
      begun = ok.begun;
      replicas = λ j there. subst (λ (q : Query). Contains (replicas_of c q.partition) j) (sym query)
          (elim ((contains_push (heard_by r) from j).0 (subst (λ (js : List ℕ). Contains js j) heard there)) [
            | inl earlier ↦ ok.replicas j earlier
            | inr now ↦ subst (λ (i : ℕ). Contains (replicas_of c r.query.partition) i) now used.replica
          ]);
      enough = λ fixed. absurd (none_fixed fixed.0 (sym none ∙ fixed.1));
      is = λ q l v there.
          let old = ok.is q l v there in
          let new = reply q l v there in
          record {
            query = old.query ∙ sym query;
            level = old.level ∙ sym level;
            replies = λ x in_x. elim ((contains_push r.replies one x).0 (subst (λ (xs : List Replied). Contains xs x) all in_x)) [
              | inl earlier ↦ old.replies x earlier
              | inr now ↦ subst (λ (y : Replied). ReachesAll w y.from q.partition y.content) now new.0
            ];
            sees = λ j in_j first rows more grounds before in_heard asked i u began same x inside in_q.
                elim ((contains_push (heard_by r) from j).0 (subst (λ (js : List ℕ). Contains js j) heard in_j)) [
                  | inl earlier ↦ merge_first n.merged r.merged content merge x (old.sees j earlier first rows more grounds before in_heard asked i u began same x inside in_q)
                  | inr now ↦ merge_second n.merged r.merged content merge x (subst (λ (y : ℕ). SeesAnswers w.chronicle id y q content) now new.1 first rows more grounds before in_heard asked i u began same x inside in_q)
                ];
            mended = λ ks fixed. absurd (none_fixed ks (sym none ∙ fixed));
          };
    }

-- ---- its merge is fixed

same_content : (from_is same : Bool) → (from_is && not same) ≡ false → from_is ≡ true → same ≡ true
same_content true true h t = refl
same_content true false h t = cc
same_content false same h t = cc

-- a replica that replied differs, or reaches the merge
differs_or_reaches : (w : Scene) (c : Setting) (n : OpenRead) (p : Partition) (j : ℕ) → Contains (replicas_of c n.query.partition) j → ((x : Replied) → Contains n.replies x → ReachesAll w x.from p x.content) → Contains (heard_by n) j
    → Contains (differing c n) j ⊎ ReachesAll w j p n.merged
differs_or_reaches w c n p j replica reach there =
    let made = contains_from_map replied_from n.replies j there in
    elim (cases_Bool (differs n j)) [
      | inl t ↦ inl (contains_filter (λ (i : ℕ). differs n i) (replicas_of c n.query.partition) j replica t)
      | inr f ↦
          let passed = none_passes (λ (x : Replied). (x.from == j) && not (is_same x.content n.merged)) n.replies f made.0 made.1 in
          let test = same_content (made.0.from == j) (is_same made.0.content n.merged) passed (eq-eqb made.0.from j made.2) in
          let same : made.0.content ≡ n.merged = (is_same_exact made.0.content n.merged).0 test in
          inr (subst (λ (i : ℕ). ReachesAll w i p n.merged) made.2 (subst (λ (xs : List Held). ReachesAll w made.0.from p xs) same (reach made.0 made.1)))
    ]

fixed_ok : (c : Setting) (w : Scene) (k : ℕ) (id : ReqId) (n : OpenRead) → ReadAhead c w k id n → read_needs c n ≤ replies_of c n → ReadAhead c w k id (awaiting n (differing c n))
fixed_ok c w k id n ok enough = record {
  mine = ok.mine;
  begun = ok.begun;
  replicas = ok.replicas;
  enough = λ fixed. enough;
  is = λ q l v there.
      let old = ok.is q l v there in
      record {
        query = old.query;
        level = old.level;
        replies = old.replies;
        sees = old.sees;
        mended = λ ks fixed j heard.
            subst (λ (js : List ℕ). Contains js j ⊎ ReachesAll w j q.partition n.merged) (some_one fixed) (differs_or_reaches w c n q.partition j (ok.replicas j heard) old.replies heard);
      };
}

are_mends : (id : ReqId) (n : OpenRead) (ks : List ℕ) → AreMends id n (send_to id (Mend (mend_of n)) ks)
are_mends id n ks y there = let made = contains_from_map (outbound id (Mend (mend_of n))) ks y there in (ap (λ (v : Outbound). v.request) (sym made.2), ap (λ (v : Outbound). v.body) (sym made.2))

-- ---- a reply comes

reply_counted : (c : Setting) (w : Scene) (k : ℕ) (lost : Bool) (a : Act) (id : ReqId) (s s' : NodeState) (r n n' : OpenRead) (turn : Move) (b : Bool) (o : Effects) → Ahead c w → slice_get w.nodes k ≡ Some s → open_at s.reads id ≡ Some r
    → o ≡ effects_of turn → s' ≡ record s { reads = after_move turn.ended id n' s.reads } → r.mending ≡ None → ReadAhead c w k id n → nat_lt (replies_of c n) (read_needs c n) ≡ b
    → MatchBool b ((turn ≡ quiet) × (n' ≡ n)) (AwaitsMends id n (differing c n) (mends id n (differing c n)) turn n') → Ahead c (next w k lost a s o s')
reply_counted c w k lost a id s s' r n n' turn true o e at found out is none ok test (waits, same) =
    let given : o ≡ nothing = subst (λ (t : Move). o ≡ effects_of t) waits out in
    let become : s' ≡ record s { reads = set_value (is_at (request_cmp id)) s.reads n } =
    subst (λ (v : OpenRead). s' ≡ record s { reads = set_value (is_at (request_cmp id)) s.reads v }) same
    (subst (λ (t : Move). s' ≡ record s { reads = after_move t.ended id n' s.reads }) waits is) in
    set_case c w k lost a id s s' r n o e at found become (entries_plain o nothing given none_plain) ok (λ fixed. absurd (none_fixed fixed.0 (sym none ∙ fixed.1)))
    (λ g y there. absurd (contains_nil y (subst (λ (v : Effects). Contains v.sends y) given there)))
reply_counted c w k lost a id s s' r n n' turn false o e at found out is none ok test h =
    awaits_case c w k lost a id s s' r n n' (differing c n) (send_to id (Mend (mend_of n)) (differing c n)) turn o e at found out is (fixed_ok c w k id n ok (ltb-false _ _ test))
    (λ fixed. absurd (none_fixed fixed.0 (sym none ∙ fixed.1))) (are_mends id n (differing c n)) h

reply_merged : (c : Setting) (w : Scene) (k : ℕ) (lost : Bool) (from : ℕ) (a : Act) (id : ReqId) (content : List Held) (s s' : NodeState) (r r' : OpenRead) (turn : Move) (b : Bool) (o : Effects) → Ahead c w → slice_get w.nodes k ≡ Some s → open_at s.reads id ≡ Some r
    → o ≡ effects_of turn → s' ≡ record s { reads = after_move turn.ended id r' s.reads } → ReplyAhead w from id content → is_stray c from r ≡ b
    → MatchBool b ((turn ≡ quiet) × (r' ≡ r)) (MergesReply c id from content r turn r') → Ahead c (next w k lost a s o s')
reply_merged c w k lost from a id content s s' r r' turn true o e at found out is reply stray (none, same) = unchanged_case c w k lost a id s s' r r' turn o e at found out is none same
reply_merged c w k lost from a id content s s' r r' turn false o e at found out is reply stray (n, next_is, merge, counts) =
    let used = is_used c from r stray in
    let ok = merged_ok c w k from id content r n ((e.nodes k s at).reads id r (open_in s.reads id r found)) reply used next_is merge.0 in
    reply_counted c w k lost a id s s' r n r' turn (nat_lt (replies_of c n) (read_needs c n)) o e at found out is used.open_still ok refl counts

reply_taken : (c : Setting) (w : Scene) (k : ℕ) (lost : Bool) (from : ℕ) (a : Act) (id : ReqId) (content : List Held) (s s' : NodeState) (turn : Move) (x : Option OpenRead) (o : Effects) → Ahead c w → slice_get w.nodes k ≡ Some s → ReplyAhead w from id content → open_at s.reads id ≡ x
    → o ≡ effects_of turn → s' ≡ record s { reads = s'.reads } → Takes (HearsReply c id from content) id s.reads x turn s'.reads → Ahead c (next w k lost a s o s')
reply_taken c w k lost from a id content s s' turn None o e at reply found out is (none, same) = unfound_case c w k lost a s s' turn o e at out is none same
reply_taken c w k lost from a id content s s' turn (Some r) o e at reply found out is (r', step, after) =
    reply_merged c w k lost from a id content s s' r r' turn (is_stray c from r) o e at found out (with_reads s s' _ is after) reply refl step

pub reply_heard : (c : Setting) (w : Scene) (k : ℕ) (lost : Bool) (from : ℕ) (id : ReqId) (content : List Held) (a : Act) (s s' : NodeState) (o : Effects) → Ahead c w → slice_get w.nodes k ≡ Some s → ReplyAhead w from id content
    → HearsBody c k (record { from = from; request = id }) (ReadReply content) s o s' → Ahead c (next w k lost a s o s')
reply_heard c w k lost from id content a s s' o e at reply (turn, moves, out, is) = reply_taken c w k lost from a id content s s' turn (open_at s.reads id) o e at reply refl out is moves

-- ---- a merge comes

-- what the node reaches then
merge_taken : (w : Scene) (k : ℕ) (lost : Bool) (a : Act) (s s' : NodeState) (o : Effects) (m : Mutation) → TakesIn (changes_of s.content) m.partition m.changes (changes_of s'.content) → ReachesAll (next w k lost a s o s') k m.partition m.changes
merge_taken w k lost a s s' o m t v here x there = elim (get_set w.nodes k s' k v here) [
  | inl (same, is) ↦ subst (λ (u : NodeState). Reaches (changes_of u.content) m.partition x) (sym is) (taken (changes_of s.content) (changes_of s'.content) m.partition m.changes t x there)
  | inr (away, old) ↦ absurd (away refl)
]

has_merge : (w : Scene) (j : ℕ) (id : ReqId) (m : Mutation) → IsMergeAt w id m → ReachesAll w j m.partition m.changes → HasMerge w j id
has_merge w j id m tie reach k s at u there =
    let is = tie k s at u there in
    (is.0, subst (λ (p : Partition). ReachesAll w j p u.merged) (sym is.2) (subst (λ (xs : List Held). ReachesAll w j m.partition xs) (sym is.1) reach))

mend_taken : (c : Setting) (w : Scene) (k : ℕ) (lost : Bool) (from : ℕ) (id : ReqId) (m : Mutation) (a : Act) (s s' : NodeState) (o : Effects) (fits : Bool) → Ahead c w → slice_get w.nodes k ≡ Some s → WasBegun w.past id → IsMergeAt w id m
    → MatchBool fits (TakesChanges (record { from = from; request = id }) m.partition m.changes MendAck s o s') ((o ≡ nothing) × (s' ≡ s)) → Ahead c (next w k lost a s o s')
mend_taken c w k lost from id m a s s' o true e at begun tie (t, arrive, is, same) =
    let w' = next w k lost a s o s' in
    let out = replies (record { from = from; request = id }) MendAck in
    calm_case c w k lost a s s' o e at (grown (changes_of s.content) (changes_of s'.content) m.partition m.changes t) (ap (λ (v : NodeState). v.reads) same) (entries_plain o out is none_plain)
    (λ g y there.
    let made = contains_from_map (outbound id MendAck) (from ∷ []) y (subst (λ (v : Effects). Contains v.sends y) is there) in
    subst (λ (v : Outbound). BodyAhead w' k v.request v.body) made.2 (begun_on w w' g id begun, has_merge w' k id m (merge_on w w' g id m begun tie) (merge_taken w k lost a s s' o m t)))
mend_taken c w k lost from id m a s s' o false e at begun tie (is, same) = unheard_case c w k lost a s s' o e at is same

pub mend_heard : (c : Setting) (w : Scene) (k : ℕ) (lost : Bool) (from : ℕ) (id : ReqId) (m : Mutation) (a : Act) (s s' : NodeState) (o : Effects) → Ahead c w → slice_get w.nodes k ≡ Some s → WasBegun w.past id → IsMergeAt w id m
    → HearsBody c k (record { from = from; request = id }) (Mend m) s o s' → Ahead c (next w k lost a s o s')
mend_heard c w k lost from id m a s s' o e at begun tie h = mend_taken c w k lost from id m a s s' o (write_fits c m) e at begun tie h

-- ---- the acknowledgement of a merge comes

awaited_fixed : (o : Option (List ℕ)) (from : ℕ) → is_awaited o from ≡ true → (ks : List ℕ) × (o ≡ Some ks)
awaited_fixed None from h = cc
awaited_fixed (Some ks) from h = (ks, refl)

-- without the replica that has the merge each is waited for or has it
mended_ok : (c : Setting) (w : Scene) (k from : ℕ) (id : ReqId) (r : OpenRead) (ks : List ℕ) → ReadAhead c w k id r → r.mending ≡ Some ks → ReachesAll w from r.query.partition r.merged → ReadAhead c w k id (awaiting r (without_one ks from))
mended_ok c w k from id r ks ok some has = record {
  mine = ok.mine;
  begun = ok.begun;
  replicas = ok.replicas;
  enough = λ fixed. ok.enough (ks, some);
  is = λ q l v there.
      let old = ok.is q l v there in
      record {
        query = old.query;
        level = old.level;
        replies = old.replies;
        sees = old.sees;
        mended = λ js fixed j heard. subst (λ (is : List ℕ). Contains is j ⊎ ReachesAll w j q.partition r.merged) (some_one fixed)
            (elim (old.mended ks some j heard) [
              | inl waits ↦ elim (cases_Bool (j == from)) [
                | inl t ↦ inr (subst (λ (i : ℕ). ReachesAll w i q.partition r.merged) (sym (eqb-true j from t)) (subst (λ (p : Query). ReachesAll w from p.partition r.merged) (sym old.query) has))
                | inr f ↦ inl (contains_filter (λ (i : ℕ). not (i == from)) ks j waits (ap not f))
              ]
              | inr reach ↦ inr reach
            ]);
      };
}

mend_acked : (c : Setting) (w : Scene) (k : ℕ) (lost : Bool) (from : ℕ) (a : Act) (id : ReqId) (s s' : NodeState) (r r' : OpenRead) (turn : Move) (b : Bool) (o : Effects) → Ahead c w → slice_get w.nodes k ≡ Some s → open_at s.reads id ≡ Some r
    → o ≡ effects_of turn → s' ≡ record s { reads = after_move turn.ended id r' s.reads } → HasMerge w from id → is_awaited r.mending from ≡ b
    → MatchBool b (AwaitsMends id r (mended_by r.mending from) quiet turn r') ((turn ≡ quiet) × (r' ≡ r)) → Ahead c (next w k lost a s o s')
mend_acked c w k lost from a id s s' r r' turn true o e at found out is has test h =
    let fixed = awaited_fixed r.mending from test in
    let there = open_in s.reads id r found in
    let left : mended_by r.mending from ≡ without_one fixed.0 from = ap (λ (x : Option (List ℕ)). mended_by x from) fixed.1 in
    let ok = mended_ok c w k from id r fixed.0 ((e.nodes k s at).reads id r there) fixed.1 (has k s at r there).1 in
    awaits_case c w k lost a id s s' r r r' (mended_by r.mending from) [] turn o e at found out is (subst (λ (ks : List ℕ). ReadAhead c w k id (awaiting r ks)) (sym left) ok)
    (λ f. ((mended_by r.mending from, refl), refl, refl)) (λ y none. absurd (contains_nil y none)) h
mend_acked c w k lost from a id s s' r r' turn false o e at found out is has test (none, same) = unchanged_case c w k lost a id s s' r r' turn o e at found out is none same

mend_ack_taken : (c : Setting) (w : Scene) (k : ℕ) (lost : Bool) (from : ℕ) (a : Act) (id : ReqId) (s s' : NodeState) (turn : Move) (x : Option OpenRead) (o : Effects) → Ahead c w → slice_get w.nodes k ≡ Some s → HasMerge w from id → open_at s.reads id ≡ x
    → o ≡ effects_of turn → s' ≡ record s { reads = s'.reads } → Takes (HearsMendAck c id from) id s.reads x turn s'.reads → Ahead c (next w k lost a s o s')
mend_ack_taken c w k lost from a id s s' turn None o e at has found out is (none, same) = unfound_case c w k lost a s s' turn o e at out is none same
mend_ack_taken c w k lost from a id s s' turn (Some r) o e at has found out is (r', step, after) =
    mend_acked c w k lost from a id s s' r r' turn (is_awaited r.mending from) o e at found out (with_reads s s' _ is after) has refl step

pub mend_ack_heard : (c : Setting) (w : Scene) (k : ℕ) (lost : Bool) (from : ℕ) (id : ReqId) (a : Act) (s s' : NodeState) (o : Effects) → Ahead c w → slice_get w.nodes k ≡ Some s → HasMerge w from id
    → HearsBody c k (record { from = from; request = id }) MendAck s o s' → Ahead c (next w k lost a s o s')
mend_ack_heard c w k lost from id a s s' o e at has (turn, moves, out, is) = mend_ack_taken c w k lost from a id s s' turn (open_at s.reads id) o e at has refl out is moves
