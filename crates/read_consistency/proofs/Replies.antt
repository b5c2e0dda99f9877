-- Each reply to a read, and each acknowledgement of its merge, keeps what is known; and an answer is right.
use Rattle.std.proofs.Common.{◌≡◌, ℕ, ◌≤◌, inl, inr, Bool, true, false, Option, Some, None, List, [], ◌∷◌, ◌++◌, refl, sym, subst, ◌∙◌, Contains}
use Rattle.std.specs.Prelude.{slice_get, MatchBool, nat_lt, ◌||◌}
use Rattle.std.specs.BTreeMap.{is_at}
use Rattle.std.proofs.lemmas.Bool.{ltb-false}
use Rattle.std.proofs.lemmas.List.{map-append}
use Rattle.cs_base.specs.declared.ids.ReqId.{ReqId}
use Rattle.cs_base.specs.declared.level.Level.{Level}
use Rattle.cs_base.specs.Requests.{request_cmp}
use Rattle.changes.specs.declared.Partition.{Partition}
use Rattle.changes.specs.declared.Held.{Held}
use Rattle.changes.specs.declared.Query.{Query}
use Rattle.changes.specs.declared.ShownRow.{ShownRow}
use Rattle.changes.specs.Contents.{IsMergeOf}
use Rattle.changes.specs.Shown.{IsShown}
use Rattle.cs_base.proofs.Members.{contains_push, contains_from_map}
use Rattle.peer_messages.specs.declared.message.Body.TheVariants.{ReadReply, Mend, MendAck}
use Rattle.peer_messages.specs.declared.chronicle.Entry.{Entry}
use Rattle.peer_messages.specs.declared.chronicle.Entry.TheVariants.{Rows, Began}
use Rattle.peer_messages.specs.declared.outcome.Outbound.{Outbound}
use Rattle.peer_messages.specs.declared.outcome.Move.{Move}
use Rattle.peer_messages.specs.declared.setting.Setting.{Setting}
use Rattle.peer_messages.specs.Moves.{quiet, tells}
use Rattle.durable_state.specs.State.{changes_of}
use Rattle.node_steps.specs.State.{NodeState, OpenRead}
use Rattle.node_steps.specs.Effects.{Effects, effects_of, outbound, send_to, open_at, after_move, Takes}
use Rattle.node_steps.specs.Reads.{replied_from, heard_by, replies_of, read_needs, is_stray, MergesReply, HearsReply, mends, mend_of, differing, is_merged, is_awaited, mended_by, AwaitsMends, HearsMendAck}
use Rattle.node_steps.specs.Acts.{Act, HearsBody}
use Rattle.node_steps.proofs.Opened.{open_in, in_set, in_left}
use Rattle.cluster_runs.specs.Trace.{Scene, loser}
use Rattle.read_consistency.specs.ReadRight.{IsRightEntry, IsRight}
use Rattle.read_consistency.proofs.Facts.{Reaches, Sees, Answers, ReplyOk, BodyOk, ReadOk, NodeOk, Explains}
use Rattle.read_consistency.proofs.Grows.{Grows, read_on, body_on, was_begun}
use Rattle.read_consistency.proofs.Reach.{merge_first, merge_second, merge_answers, merge_mends}
use Rattle.read_consistency.proofs.Answer.{right_answer}
use Rattle.read_consistency.proofs.Step.{none_some, quietly, telling, quietly_grows, telling_grows, explains_quietly, explains_telling}
use Rattle.read_consistency.proofs.Cases.{next, only_sends, same_case, none_sent, node_later, sends_case}
use Rattle.read_consistency.proofs.Once.{AreOnce, one_read}

-- ---- an open read goes on

-- with one reply more
pub merged_ok : (c : Setting) (w : Scene) (k from : ℕ) (id : ReqId) (content : List Held) (r : OpenRead) (merged : List Held) → AreOnce w.past → ReadOk c w k id r → r.mending ≡ None → ReplyOk w from id content → IsMergeOf merged r.merged content
    → ReadOk c w k id (record r { replies = r.replies ++ record { from = from; content = content } ∷ []; merged = merged })
merged_ok c w k from id content r merged once ok unmerged reply merge =
    let one = one_read w.past id reply.query r.query reply.level r.level once reply.asked ok.asked in
    let heard : heard_by (record r { replies = r.replies ++ record { from = from; content = content } ∷ []; merged = merged }) ≡ heard_by r ++ from ∷ [] = map-append replied_from r.replies (record { from = from; content = content } ∷ []) in
    record {
      start = ok.start;
      asked = ok.asked;
      answers = merge_answers w.chronicle r.query merged r.merged content merge ok.answers (subst (λ (q : Query). Answers w.chronicle q content) one.0 reply.answers);
      sees = λ j h i n acks before in_acks m sub part y in_m inside.
          elim ((contains_push (heard_by r) from j).0 (subst (λ (js : List ℕ). Contains js j) heard h)) [
            | inl earlier ↦ merge_first merged r.merged content merge y (ok.sees j earlier i n acks before in_acks m sub part y in_m inside)
            | inr now ↦
                let sees = subst (λ (q : Query). Sees w.chronicle id from q content) one.0 reply.sees in
                merge_second merged r.merged content merge y (subst (λ (x : ℕ). Sees w.chronicle id x r.query content) now sees i n acks before in_acks m sub part y in_m inside)
          ];
      enough = λ ks has. absurd (none_some ks (sym unmerged ∙ has));
    }

-- with its merge for good
mending_ok : (c : Setting) (w : Scene) (k : ℕ) (id : ReqId) (r : OpenRead) (ks : List ℕ) → ReadOk c w k id r → read_needs c r ≤ replies_of c r → ReadOk c w k id (record r { mending = Some ks })
mending_ok c w k id r ks ok enough = record { start = ok.start; asked = ok.asked; answers = ok.answers; sees = ok.sees; enough = λ js has. enough }

-- it stays open, and these bodies go out
read_waits : (c : Setting) (w : Scene) (k : ℕ) (lost : Bool) (a : Act) (id : ReqId) (s : NodeState) (r' : OpenRead) (sends : List Outbound) → Explains c w → slice_get w.nodes k ≡ Some s → ReadOk c w k id r' → ((x : Outbound) → Contains sends x → BodyOk w k x)
    → Explains c (next w k lost a s (only_sends sends) (record s { reads = after_move false id r' s.reads }))
read_waits c w k lost a id s r' sends e at ok bodies =
    sends_case c w k lost a s (record s { reads = after_move false id r' s.reads }) sends e at refl
    (λ w' g losing.
    let old = node_later c w k s e at w' g losing in
    record {
      of = old.of;
      writes = old.writes;
      reads = λ i o h. elim (in_set id s.reads r' (i, o) h) [
        | inl there ↦ old.reads i o there
        | inr (here, same) ↦ subst (λ (x : ReqId). ReadOk c w' k x o) (sym here) (subst (λ (x : OpenRead). ReadOk c w' k id x) (sym same) (read_on c w w' g e k (λ l. losing ∙ l) id r' ok))
      ];
      hints = old.hints;
    })
    (λ w' g x there. body_on c w w' g e k x (bodies x there))

-- a move by which it stays as it is
read_stays : (c : Setting) (w : Scene) (k : ℕ) (lost : Bool) (a : Act) (id : ReqId) (s : NodeState) (r r' : OpenRead) (turn : Move) → Explains c w → slice_get w.nodes k ≡ Some s → ReadOk c w k id r → (turn ≡ quiet) × (r' ≡ r)
    → Explains c (next w k lost a s (effects_of turn) (record s { reads = after_move turn.ended id r' s.reads }))
read_stays c w k lost a id s r r' turn e at ok (is, same) =
    subst (λ (t : Move). Explains c (next w k lost a s (effects_of t) (record s { reads = after_move t.ended id r' s.reads }))) (sym is)
    (read_waits c w k lost a id s r' [] e at (subst (λ (x : OpenRead). ReadOk c w k id x) (sym same) ok) (none_sent w k))

-- ---- it is answered

-- the rows are right, where they come into the chronicle
rows_right : (c : Setting) (w : Scene) (k : ℕ) (id : ReqId) (n : OpenRead) (rows : List ShownRow) (more : Bool) → w.losing ≡ None → AreOnce w.past → Explains c w → ReadOk c w k id n
    → read_needs c n ≤ replies_of c n → IsShown (Contains n.merged) n.query rows more → IsRightEntry c w.chronicle (Rows id rows more (record { heard = heard_by n; merged = n.merged }))
rows_right c w k id n rows more whole once e ok enough shown = (
  elim ok.start [ inl there ↦ there | inr loses ↦ absurd (none_some k (sym whole ∙ loses)) ],
  λ q l u there.
      let one = one_read w.past id q n.query l n.level once (e.entries (Began id q l u) there) ok.asked in
      subst (λ (v : Query). IsRight c w.chronicle id v l n.merged rows more) (sym one.0)
      (subst (λ (v : Level). IsRight c w.chronicle id n.query v n.merged rows more) (sym one.1) (right_answer c w id n.query n.level (heard_by n) n.merged rows more e ok.answers ok.sees enough shown)),
)

reply_told : (c : Setting) (w : Scene) (k : ℕ) (lost : Bool) (a : Act) (id : ReqId) (s r : NodeState) (n : OpenRead) (rows : List ShownRow) (more : Bool) → w.losing ≡ loser lost k → AreOnce w.past → Explains c w → slice_get w.nodes k ≡ Some s → ReadOk c w k id n
    → read_needs c n ≤ replies_of c n → IsShown (Contains n.merged) n.query rows more → r.content ≡ s.content
    → ((v : Scene) → Grows w v → v.losing ≡ w.losing → NodeOk c v k r) → Explains c (next w k lost a s (effects_of (tells (Rows id rows more (record { heard = heard_by n; merged = n.merged })))) r)
reply_told c w k true a id s r n rows more losing once e at ok enough shown same node =
    let out = effects_of (tells (Rows id rows more (record { heard = heard_by n; merged = n.merged }))) in
    let w' = quietly w k a s r out in
    let grown_on : (p : Partition) (x : Held) → Reaches (changes_of s.content) p x → Reaches (changes_of r.content) p x = λ p x h. subst (λ cs. Reaches (changes_of cs) p x) (sym same) h in
    explains_quietly c w k a s r out e at grown_on (node w' (quietly_grows w k a s r out at grown_on) refl) (none_sent w' k)
reply_told c w k false a id s r n rows more losing once e at ok enough shown same node =
    let x : Entry = Rows id rows more (record { heard = heard_by n; merged = n.merged }) in
    let w' = telling w k a s r [] x in
    let grown_on : (p : Partition) (y : Held) → Reaches (changes_of s.content) p y → Reaches (changes_of r.content) p y = λ p y h. subst (λ cs. Reaches (changes_of cs) p y) (sym same) h in
    explains_telling c w k a s r [] x e at grown_on tt (node w' (telling_grows w k a s r [] x at grown_on tt) refl) (none_sent w' k) tt (rows_right c w k id n rows more losing once e ok enough shown)

reply_answers : (c : Setting) (w : Scene) (k : ℕ) (lost : Bool) (a : Act) (id : ReqId) (s : NodeState) (n r' : OpenRead) (rows : List ShownRow) (more : Bool) → w.losing ≡ loser lost k → AreOnce w.past → Explains c w → slice_get w.nodes k ≡ Some s → ReadOk c w k id n
    → read_needs c n ≤ replies_of c n → IsShown (Contains n.merged) n.query rows more
    → Explains c (next w k lost a s (effects_of (tells (Rows id rows more (record { heard = heard_by n; merged = n.merged })))) (record s { reads = after_move true id r' s.reads }))
reply_answers c w k lost a id s n r' rows more losing once e at ok enough shown =
    let r : NodeState = record s { reads = after_move true id r' s.reads } in
    let node : (v : Scene) → Grows w v → v.losing ≡ w.losing → NodeOk c v k r =
    λ v grows same. let old = node_later c w k s e at v grows same in record { of = old.of; writes = old.writes; reads = λ i o h. old.reads i o (in_left (is_at (request_cmp id)) s.reads (i, o) h); hints = old.hints } in
    reply_told c w k lost a id s r n rows more losing once e at ok enough shown refl node

-- as many have replied as it waits for: these have to acknowledge the merge, or it is answered
awaits_case : (c : Setting) (w : Scene) (k : ℕ) (lost : Bool) (a : Act) (id : ReqId) (s : NodeState) (n r' : OpenRead) (ks : List ℕ) (sends : List Outbound) (turn : Move) → w.losing ≡ loser lost k → AreOnce w.past → Explains c w → slice_get w.nodes k ≡ Some s → ReadOk c w k id n
    → read_needs c n ≤ replies_of c n → ((x : Outbound) → Contains sends x → BodyOk w k x) → AwaitsMends id n ks (record { sends = sends; entries = []; ended = false }) turn r'
    → Explains c (next w k lost a s (effects_of turn) (record s { reads = after_move turn.ended id r' s.reads }))
awaits_case c w k lost a id s n r' [] sends turn losing once e at ok enough bodies (rows, more, shown, is) =
    subst (λ (t : Move). Explains c (next w k lost a s (effects_of t) (record s { reads = after_move t.ended id r' s.reads }))) (sym is) (reply_answers c w k lost a id s n r' rows more losing once e at ok enough shown)
awaits_case c w k lost a id s n r' (j ∷ ks) sends turn losing once e at ok enough bodies (is, same) =
    subst (λ (t : Move). Explains c (next w k lost a s (effects_of t) (record s { reads = after_move t.ended id r' s.reads }))) (sym is)
    (read_waits c w k lost a id s r' sends e at (subst (λ (x : OpenRead). ReadOk c w k id x) (sym same) (mending_ok c w k id n (j ∷ ks) ok enough)) bodies)

-- ---- a reply comes

-- the merge goes out
mend_bodies : (c : Setting) (w : Scene) (k : ℕ) (id : ReqId) (n : OpenRead) (ks : List ℕ) → ReadOk c w k id n → (x : Outbound) → Contains (send_to id (Mend (mend_of n)) ks) x → BodyOk w k x
mend_bodies c w k id n ks ok x there =
    let made = contains_from_map (outbound id (Mend (mend_of n))) ks x there in
    subst (λ (y : Outbound). BodyOk w k y) made.2 (record { begun = was_begun w.past id n.query n.level ok.asked; is = merge_mends w.chronicle n.query n.merged ok.answers })

reply_counted : (c : Setting) (w : Scene) (k : ℕ) (lost : Bool) (a : Act) (id : ReqId) (s : NodeState) (n r' : OpenRead) (turn : Move) (b : Bool) → w.losing ≡ loser lost k → AreOnce w.past → Explains c w → slice_get w.nodes k ≡ Some s → ReadOk c w k id n
    → nat_lt (replies_of c n) (read_needs c n) ≡ b → MatchBool b ((turn ≡ quiet) × (r' ≡ n)) (AwaitsMends id n (differing c n) (mends id n (differing c n)) turn r')
    → Explains c (next w k lost a s (effects_of turn) (record s { reads = after_move turn.ended id r' s.reads }))
reply_counted c w k lost a id s n r' turn true losing once e at ok test h = read_stays c w k lost a id s n r' turn e at ok h
reply_counted c w k lost a id s n r' turn false losing once e at ok test h =
    awaits_case c w k lost a id s n r' (differing c n) (send_to id (Mend (mend_of n)) (differing c n)) turn losing once e at ok (ltb-false _ _ test) (mend_bodies c w k id n (differing c n) ok) h

-- a reply that it can use comes before its merge is for good
unmerged_in : (o : Option (List ℕ)) (b : Bool) → (is_merged o || b) ≡ false → o ≡ None
unmerged_in None b h = refl
unmerged_in (Some ks) b h = cc

reply_merged : (c : Setting) (w : Scene) (k : ℕ) (lost : Bool) (from : ℕ) (a : Act) (id : ReqId) (content : List Held) (s : NodeState) (r r' : OpenRead) (turn : Move) (b : Bool) → w.losing ≡ loser lost k → AreOnce w.past → Explains c w → slice_get w.nodes k ≡ Some s → ReadOk c w k id r
    → ReplyOk w from id content → is_stray c from r ≡ b → MatchBool b ((turn ≡ quiet) × (r' ≡ r)) (MergesReply c id from content r turn r')
    → Explains c (next w k lost a s (effects_of turn) (record s { reads = after_move turn.ended id r' s.reads }))
reply_merged c w k lost from a id content s r r' turn true losing once e at ok reply test h = read_stays c w k lost a id s r r' turn e at ok h
reply_merged c w k lost from a id content s r r' turn false losing once e at ok reply test (n, is, merge, counts) =
    let merged = merged_ok c w k from id content r n.merged once ok (unmerged_in r.mending _ test) reply merge.0 in
    reply_counted c w k lost a id s n r' turn (nat_lt (replies_of c n) (read_needs c n)) losing once e at (subst (λ (x : OpenRead). ReadOk c w k id x) (sym is) merged) refl counts

reply_taken : (c : Setting) (w : Scene) (k : ℕ) (lost : Bool) (from : ℕ) (a : Act) (id : ReqId) (content : List Held) (s : NodeState) (turn : Move) (xs' : List (ReqId × OpenRead)) (o : Option OpenRead) → w.losing ≡ loser lost k → AreOnce w.past → Explains c w → slice_get w.nodes k ≡ Some s
    → ReplyOk w from id content → open_at s.reads id ≡ o → Takes (HearsReply c id from content) id s.reads o turn xs' → Explains c (next w k lost a s (effects_of turn) (record s { reads = xs' }))
reply_taken c w k lost from a id content s turn xs' None losing once e at reply found (is, same) =
    subst (λ (t : Move). Explains c (next w k lost a s (effects_of t) (record s { reads = xs' }))) (sym is) (same_case c w k lost a s (record s { reads = xs' }) e at refl refl same refl)
reply_taken c w k lost from a id content s turn xs' (Some r) losing once e at reply found (r', step, after) =
    subst (λ (xs : List (ReqId × OpenRead)). Explains c (next w k lost a s (effects_of turn) (record s { reads = xs }))) (sym after)
    (reply_merged c w k lost from a id content s r r' turn (is_stray c from r) losing once e at ((e.nodes k s at).reads id r (open_in s.reads id r found)) reply refl step)

pub reply_heard : (c : Setting) (w : Scene) (k : ℕ) (lost : Bool) (from : ℕ) (id : ReqId) (content : List Held) (s s' : NodeState) (o : Effects) → w.losing ≡ loser lost k → AreOnce w.past → Explains c w → slice_get w.nodes k ≡ Some s → (a : Act)
    → ReplyOk w from id content → HearsBody c k (record { from = from; request = id }) (ReadReply content) s o s' → Explains c (next w k lost a s o s')
reply_heard c w k lost from id content s s' o losing once e at a reply (turn, moves, is, same) =
    subst (λ (x : Effects). Explains c (next w k lost a s x s')) (sym is)
    (subst (λ (x : NodeState). Explains c (next w k lost a s (effects_of turn) x)) (sym same) (reply_taken c w k lost from a id content s turn s'.reads (open_at s.reads id) losing once e at reply refl moves))

-- ---- a merge is acknowledged

mend_awaited : (c : Setting) (w : Scene) (k : ℕ) (lost : Bool) (a : Act) (id : ReqId) (s : NodeState) (r r' : OpenRead) (turn : Move) (ks : List ℕ) (b : Bool) → w.losing ≡ loser lost k → AreOnce w.past → Explains c w → slice_get w.nodes k ≡ Some s → ReadOk c w k id r
    → read_needs c r ≤ replies_of c r → MatchBool b (AwaitsMends id r ks quiet turn r') ((turn ≡ quiet) × (r' ≡ r)) → Explains c (next w k lost a s (effects_of turn) (record s { reads = after_move turn.ended id r' s.reads }))
mend_awaited c w k lost a id s r r' turn ks true losing once e at ok enough h = awaits_case c w k lost a id s r r' ks [] turn losing once e at ok enough (none_sent w k) h
mend_awaited c w k lost a id s r r' turn ks false losing once e at ok enough h = read_stays c w k lost a id s r r' turn e at ok h

mend_acked : (c : Setting) (w : Scene) (k : ℕ) (lost : Bool) (from : ℕ) (a : Act) (id : ReqId) (s : NodeState) (r r' : OpenRead) (turn : Move) (o : Option (List ℕ)) → w.losing ≡ loser lost k → AreOnce w.past → Explains c w → slice_get w.nodes k ≡ Some s → ReadOk c w k id r
    → r.mending ≡ o → MatchBool (is_awaited o from) (AwaitsMends id r (mended_by o from) quiet turn r') ((turn ≡ quiet) × (r' ≡ r)) → Explains c (next w k lost a s (effects_of turn) (record s { reads = after_move turn.ended id r' s.reads }))
mend_acked c w k lost from a id s r r' turn None losing once e at ok has h = read_stays c w k lost a id s r r' turn e at ok h
mend_acked c w k lost from a id s r r' turn (Some ks) losing once e at ok has h = mend_awaited c w k lost a id s r r' turn (mended_by (Some ks) from) (is_awaited (Some ks) from) losing once e at ok (ok.enough ks has) h

mend_ack_taken : (c : Setting) (w : Scene) (k : ℕ) (lost : Bool) (from : ℕ) (a : Act) (id : ReqId) (s : NodeState) (turn : Move) (xs' : List (ReqId × OpenRead)) (o : Option OpenRead) → w.losing ≡ loser lost k → AreOnce w.past → Explains c w → slice_get w.nodes k ≡ Some s
    → open_at s.reads id ≡ o → Takes (HearsMendAck c id from) id s.reads o turn xs' → Explains c (next w k lost a s (effects_of turn) (record s { reads = xs' }))
mend_ack_taken c w k lost from a id s turn xs' None losing once e at found (is, same) =
    subst (λ (t : Move). Explains c (next w k lost a s (effects_of t) (record s { reads = xs' }))) (sym is) (same_case c w k lost a s (record s { reads = xs' }) e at refl refl same refl)
mend_ack_taken c w k lost from a id s turn xs' (Some r) losing once e at found (r', step, after) =
    subst (λ (xs : List (ReqId × OpenRead)). Explains c (next w k lost a s (effects_of turn) (record s { reads = xs }))) (sym after)
    (mend_acked c w k lost from a id s r r' turn r.mending losing once e at ((e.nodes k s at).reads id r (open_in s.reads id r found)) refl step)

pub mend_ack_heard : (c : Setting) (w : Scene) (k : ℕ) (lost : Bool) (from : ℕ) (id : ReqId) (s s' : NodeState) (o : Effects) → w.losing ≡ loser lost k → AreOnce w.past → Explains c w → slice_get w.nodes k ≡ Some s → (a : Act)
    → HearsBody c k (record { from = from; request = id }) MendAck s o s' → Explains c (next w k lost a s o s')
mend_ack_heard c w k lost from id s s' o losing once e at a (turn, moves, is, same) =
    subst (λ (x : Effects). Explains c (next w k lost a s x s')) (sym is)
    (subst (λ (x : NodeState). Explains c (next w k lost a s (effects_of turn) x)) (sym same) (mend_ack_taken c w k lost from a id s turn s'.reads (open_at s.reads id) losing once e at refl moves))
