-- An open read that changes, and one whose merge is fixed: it waits for mends, or it is answered.
use Rattle.std.proofs.Common.{◌≡◌, ℕ, ◌≤◌, inl, inr, Bool, false, Some, List, [], ◌∷◌, refl, sym, ap, subst, ◌∙◌, Contains}
use Rattle.std.specs.Prelude.{slice_get, slice_set}
use Rattle.std.specs.BTreeMap.{is_at}
use Rattle.std.specs.Map.{set_value, remove_entry}
use Rattle.cs_base.specs.declared.ids.ReqId.{ReqId}
use Rattle.cs_base.specs.declared.level.Level.{Level}
use Rattle.cs_base.specs.Requests.{request_cmp}
use Rattle.cs_base.specs.Quorums.{heard_of}
use Rattle.cs_base.proofs.Slots.{some_one, get_set}
use Rattle.cs_base.proofs.Members.{contains_nil, contains_one}
use Rattle.changes.specs.declared.Mutation.{Mutation}
use Rattle.changes.specs.declared.Query.{Query}
use Rattle.changes.specs.declared.ShownRow.{ShownRow}
use Rattle.peer_messages.specs.declared.message.Body.{Body}
use Rattle.peer_messages.specs.declared.message.Body.TheVariants.{Mend}
use Rattle.peer_messages.specs.declared.chronicle.Entry.{Entry}
use Rattle.peer_messages.specs.declared.chronicle.Entry.TheVariants.{Rows}
use Rattle.peer_messages.specs.declared.outcome.Outbound.{Outbound}
use Rattle.peer_messages.specs.declared.outcome.Move.{Move}
use Rattle.peer_messages.specs.declared.setting.Setting.{Setting}
use Rattle.peer_messages.specs.Settings.{replicas_of, needed}
use Rattle.node_steps.specs.State.{NodeState, OpenRead}
use Rattle.node_steps.specs.Effects.{Effects, effects_of, open_at, after_move}
use Rattle.node_steps.specs.Reads.{heard_by, mend_of, AwaitsMends}
use Rattle.node_steps.specs.Acts.{Act}
use Rattle.node_steps.proofs.Opened.{open_in, in_set}
use Rattle.cluster_runs.specs.Trace.{Scene}
use Rattle.reads_forward.proofs.Facts.{IsFixed, IsMergeAt, BodyAhead, ReadAhead, NodeAhead, AreDistinct, EntryAhead, Ahead}
use Rattle.reads_forward.proofs.Grows.{Follows, FollowOn, Grows, begun_on, read_on, node_on, answer_on, AreNew, IsNew}
use Rattle.reads_forward.proofs.Distinct.{distinct_set, set_one}
use Rattle.read_consistency.proofs.Cases.{next}
use Rattle.reads_forward.proofs.Step.{next_grows, next_ahead, ArePlain, plain_new, plain_next}
use Rattle.reads_forward.proofs.Calm.{none_plain, entries_plain, same_grown, left_follow, left_node}
use Rattle.reads_forward.proofs.Showing.{goes_forward}
use Rattle.reads_forward.proofs.Reading.{one_forward, one_entered}

-- ---- a read changes

set_follow : (w : Scene) (id : ReqId) (xs : List (ReqId × OpenRead)) (o n : OpenRead) → open_at xs id ≡ Some o → Follows o n → FollowOn w.past xs (set_value (is_at (request_cmp id)) xs n)
set_follow w id xs o n found follows i u h = elim (in_set id xs n (i, u) h) [
  | inl there ↦ inr (u, there, λ fixed. (fixed, refl, refl))
  | inr (here, is) ↦ inr (
    o,
    subst (λ (j : ReqId). Contains xs (j, o)) (sym here) (open_in xs id o found),
    subst (λ (v : OpenRead). Follows o v) (sym is) follows,
  )
]

set_node : (c : Setting) (w w' : Scene) (k : ℕ) (id : ReqId) (s r : NodeState) (n : OpenRead) → Ahead c w → slice_get w.nodes k ≡ Some s → r.reads ≡ set_value (is_at (request_cmp id)) s.reads n → Grows w w' → ReadAhead c w k id n → NodeAhead c w' k r
set_node c w w' k id s r n e at same g ok =
    let old = node_on c w w' g e k s (e.nodes k s at) in
    record {
      distinct = subst AreDistinct (sym same) (distinct_set id s.reads n old.distinct);
      reads = λ i u h. elim (in_set id s.reads n (i, u) (subst (λ (xs : List (ReqId × OpenRead)). Contains xs (i, u)) same h)) [
        | inl there ↦ old.reads i u there
        | inr (here, is) ↦ subst (λ (j : ReqId). ReadAhead c w' k j u) (sym here) (subst (λ (v : OpenRead). ReadAhead c w' k id v) (sym is) (read_on c w w' g e k id n ok))
      ];
    }

-- the read under this id becomes another
pub set_case : (c : Setting) (w : Scene) (k : ℕ) (lost : Bool) (a : Act) (id : ReqId) (s s' : NodeState) (x n : OpenRead) (o : Effects) → Ahead c w → slice_get w.nodes k ≡ Some s → open_at s.reads id ≡ Some x
    → s' ≡ record s { reads = set_value (is_at (request_cmp id)) s.reads n } → ArePlain o.entries → ReadAhead c w k id n → Follows x n
    → (Grows w (next w k lost a s o s') → (y : Outbound) → Contains o.sends y → BodyAhead (next w k lost a s o s') k y.request y.body) → Ahead c (next w k lost a s o s')
set_case c w k lost a id s s' x n o e at found is are ok follows bodies =
    let w' = next w k lost a s o s' in
    let reads : s'.reads ≡ set_value (is_at (request_cmp id)) s.reads n = ap (λ (v : NodeState). v.reads) is in
    let follow = subst (λ (xs : List (ReqId × OpenRead)). FollowOn w.past s.reads xs) (sym reads) (set_follow w id s.reads x n found follows) in
    let g = next_grows w k lost a s o s' at (same_grown s s' (ap (λ (v : NodeState). v.content) is)) follow (plain_new c w o.entries are) in
    plain_next c w k lost a s o s' e are g (set_node c w w' k id s s' n e at reads g ok) (bodies g)

-- ---- its merge is fixed

-- whatever read is open under the id is that one
merge_made : (c : Setting) (w w' : Scene) (k : ℕ) (id : ReqId) (s s' : NodeState) (n : OpenRead) (m : Mutation) → Ahead c w → slice_get w.nodes k ≡ Some s → w'.nodes ≡ slice_set w.nodes k s' → s'.reads ≡ set_value (is_at (request_cmp id)) s.reads n
    → id.node ≡ k → IsFixed n → n.merged ≡ m.changes → n.query.partition ≡ m.partition → IsMergeAt w' id m
merge_made c w w' k id s s' n m e at nodes reads mine fixed merged partition j t here u there =
    elim (get_set w.nodes k s' j t (subst (λ (ns : List NodeState). slice_get ns j ≡ Some t) nodes here)) [
      | inl (same, is) ↦
          let inside : Contains (set_value (is_at (request_cmp id)) s.reads n) (id, u) =
          subst (λ (xs : List (ReqId × OpenRead)). Contains xs (id, u)) (ap (λ (v : NodeState). v.reads) is ∙ reads) there in
          let one : u ≡ n = set_one id s.reads n u (e.nodes k s at).distinct inside in
          subst (λ (v : OpenRead). IsFixed v × (v.merged ≡ m.changes) × (v.query.partition ≡ m.partition)) (sym one) (fixed, merged, partition)
      | inr (away, old) ↦ absurd (away (sym ((e.nodes j t old).reads id u there).mine ∙ mine))
    ]

-- it waits for none
abbrev IsNoneAwaited : OpenRead → Type 0
IsNoneAwaited n = (ks : List ℕ) → n.mending ≡ Some ks → (j : ℕ) → Contains ks j → ⊥

-- it is answered
told_case : (c : Setting) (w : Scene) (k : ℕ) (lost : Bool) (a : Act) (id : ReqId) (s s' : NodeState) (n : OpenRead) (rows : List ShownRow) (more : Bool) (o : Effects) → Ahead c w → slice_get w.nodes k ≡ Some s → s' ≡ record s { reads = remove_entry (is_at (request_cmp id)) s.reads }
    → o ≡ record { sends = []; entries = Rows id rows more (record { heard = heard_by n; merged = n.merged }) ∷ [] } → ReadAhead c w k id n → IsFixed n → IsNoneAwaited n → Ahead c (next w k lost a s o s')
told_case c w k lost a id s s' n rows more o e at is out ok fixed none =
    let x : Entry = Rows id rows more (record { heard = heard_by n; merged = n.merged }) in
    let p : Effects = record { sends = []; entries = x ∷ [] } in
    let v = next w k lost a s p s' in
    let reads : s'.reads ≡ remove_entry (is_at (request_cmp id)) s.reads = ap (λ (y : NodeState). y.reads) is in
    let follow = subst (λ (xs : List (ReqId × OpenRead)). FollowOn w.past s.reads xs) (sym reads) (left_follow w id s.reads) in
    let come : AreNew w.past (x ∷ []) = λ y there. subst (IsNew w.past) (contains_one x y there) tt in
    let g = next_grows w k lost a s p s' at (same_grown s s' (ap (λ (y : NodeState). y.content) is)) follow come in
    let known : EntryAhead c w x = (
      ok.begun,
      λ q l u began.
          let read = ok.is q l u began in
          record {
            count = subst (λ (i : Level). needed c i q.partition ≤ heard_of (replicas_of c q.partition) (heard_by n)) (sym read.level)
                (subst (λ (i : Query). needed c n.level i.partition ≤ heard_of (replicas_of c i.partition) (heard_by n)) (sym read.query) (ok.enough fixed));
            reach = λ j heard. elim (read.mended fixed.0 fixed.1 j heard) [ inl waits ↦ absurd (none fixed.0 fixed.1 j waits) | inr has ↦ has ];
          },
    ) in
    subst (λ (y : Effects). Ahead c (next w k lost a s y s')) (sym out)
    (next_ahead c w k lost a s p s' e g (left_node c w v k id s s' e at reads g) (λ y there. absurd (contains_nil y there))
    (λ y there. subst (EntryAhead c v) (one_entered lost x y there) (answer_on c w v g x known)) (one_forward c lost x w.chronicle (goes_forward c w k id n rows more e ok fixed) e.forward))

-- the read as it waits for these
abbrev pub awaiting : OpenRead → List ℕ → OpenRead
awaiting n ks = record n { mending = Some ks }

-- the bodies that it sends are its mends
abbrev pub AreMends : ReqId → OpenRead → List Outbound → Type 0
AreMends id n sends = (y : Outbound) → Contains sends y → (y.request ≡ id) × (y.body ≡ Mend (mend_of n))

-- it waits for these, and where there is none it is answered
pub awaits_case : (c : Setting) (w : Scene) (k : ℕ) (lost : Bool) (a : Act) (id : ReqId) (s s' : NodeState) (x n n' : OpenRead) (ks : List ℕ) (sends : List Outbound) (turn : Move) (o : Effects) → Ahead c w → slice_get w.nodes k ≡ Some s → open_at s.reads id ≡ Some x
    → o ≡ effects_of turn → s' ≡ record s { reads = after_move turn.ended id n' s.reads } → ReadAhead c w k id (awaiting n ks) → Follows x (awaiting n ks) → AreMends id n sends
    → AwaitsMends id n ks (record { sends = sends; entries = []; ended = false }) turn n' → Ahead c (next w k lost a s o s')
awaits_case c w k lost a id s s' x n n' [] sends turn o e at found out is ok follows mends (rows, more, shown, told) =
    told_case c w k lost a id s s' (awaiting n []) rows more o e at
    (subst (λ (t : Move). s' ≡ record s { reads = after_move t.ended id n' s.reads }) told is)
    (subst (λ (t : Move). o ≡ effects_of t) told out) ok ([], refl) (λ ks fixed j there. contains_nil j (subst (λ (js : List ℕ). Contains js j) (sym (some_one fixed)) there))
awaits_case c w k lost a id s s' x n n' (j ∷ js) sends turn o e at found out is ok follows mends (sent, same) =
    let u = awaiting n (j ∷ js) in
    let w' = next w k lost a s o s' in
    let given : o ≡ record { sends = sends; entries = [] } = subst (λ (t : Move). o ≡ effects_of t) sent out in
    let become : s' ≡ record s { reads = set_value (is_at (request_cmp id)) s.reads u } =
    subst (λ (v : OpenRead). s' ≡ record s { reads = set_value (is_at (request_cmp id)) s.reads v }) same
    (subst (λ (t : Move). s' ≡ record s { reads = after_move t.ended id n' s.reads }) sent is) in
    set_case c w k lost a id s s' x u o e at found become (entries_plain o _ given none_plain) ok follows
    (λ g y there.
    let is_mend = mends y (subst (λ (v : Effects). Contains v.sends y) given there) in
    let made = merge_made c w w' k id s s' u (mend_of n) e at refl (ap (λ (v : NodeState). v.reads) become) ok.mine (j ∷ js, refl) refl refl in
    subst (λ (i : ReqId). BodyAhead w' k i y.body) (sym is_mend.0) (subst (λ (b : Body). BodyAhead w' k id b) (sym is_mend.1) (begun_on w w' g id ok.begun, made)))
