-- What comes of a reply: nothing, one reply more, mends, or an answer. And of an acknowledgement of a mend.
use Rattle.std.proofs.Common.{◌≡◌, ℕ, Bool, true, false, ◌||◌, refl, sym, ap, ◌∙◌, subst, List, [], ◌∷◌, ◌++◌, map}
use Rattle.std.specs.Prelude.{◌==◌, MatchBool, nat_lt, not, ◌&&◌, ◌≢◌, Option, Some, None, filter}
use Rattle.std.proofs.lemmas.Bool.{and_parts, eqb-true}
use Rattle.std.proofs.lemmas.Map.Views.{any-filter_same}
use Rattle.std.proofs.lemmas.List.{map-append}
use Rattle.cs_base.specs.declared.ids.ReqId.{ReqId}
use Rattle.cs_base.specs.Quorums.{is_in, heard_of}
use Rattle.changes.specs.declared.Held.{Held}
use Rattle.changes.specs.declared.Query.{Query}
use Rattle.peer_messages.specs.declared.outcome.Move.{Move}
use Rattle.peer_messages.specs.declared.setting.Setting.{Setting}
use Rattle.peer_messages.specs.Settings.{replicas_of, needed}
use Rattle.peer_messages.specs.Moves.{quiet}
use Rattle.node_steps.specs.State.{OpenRead}
use Rattle.node_steps.specs.Reads.{is_stray, is_merged, heard_by, replied_from, replies_of, read_needs, differing, mends, is_awaited, mended_by, received_in, received_of, TellsRows, IsMergedInOrder, AwaitsMends, MergesReply, HearsReply, HearsMendAck}
use Rattle.read_coord.specs.Keeping.{replies_with, with_reply, Keeps, TellsMerge, IsMending, Fixes, Decides, differing_in, counted, is_last, ends}
use Rattle.read_coord.specs.Merges.{agrees}
use Rattle.read_coord.proofs.Replies.{none_differing}

when_true : (b : Bool) (P Q : Type 0) → b ≡ true → P → MatchBool b P Q
when_true b P Q test p = subst (λ (v : Bool). MatchBool v P Q) (sym test) p

when_false : (b : Bool) (P Q : Type 0) → b ≡ false → Q → MatchBool b P Q
when_false b P Q test q = subst (λ (v : Bool). MatchBool v P Q) (sym test) q

-- those that have replied, with one more
heard_more : (r : OpenRead) (from : ℕ) (content : List Held) → map replied_from (replies_with r from content) ≡ heard_by r ++ from ∷ []
heard_more r from content = map-append replied_from r.replies (record { from = from; content = content } ∷ [])

pub tells_rows : (id : ReqId) (from : ℕ) (content merged : List Held) (r : OpenRead) (heard : List ℕ) (turn : Move) → heard ≡ heard_by r ++ from ∷ []
    → TellsMerge id r.query heard merged turn → TellsRows id (with_reply r from content merged) turn
tells_rows id from content merged r heard turn is told = subst (λ (ks : List ℕ). TellsMerge id r.query ks merged turn) (is ∙ sym (heard_more r from content)) told

-- ---- a merge that is fixed

awaits_none : (id : ReqId) (r : OpenRead) (ks : List ℕ) (sent turn : Move) (next : OpenRead) → ks ≡ [] → TellsRows id r turn → AwaitsMends id r ks sent turn next
awaits_none id r ks sent turn next none told = subst (λ (js : List ℕ). AwaitsMends id r js sent turn next) (sym none) told

awaits_some : (id : ReqId) (r : OpenRead) (ks : List ℕ) (sent turn : Move) (next : OpenRead) → ks ≢ [] → turn ≡ sent → next ≡ record r { mending = Some ks } → AwaitsMends id r ks sent turn next
awaits_some id r [] sent turn next some sends is = absurd (some refl)
awaits_some id r (k ∷ ks) sent turn next some sends is = (sends, is)

pub fixes_at_once : (id : ReqId) (replicas : List ℕ) (r : OpenRead) (ks : List ℕ) (turn : Move) (next : OpenRead) → ks ≡ differing_in replicas r → ks ≡ [] → TellsRows id r turn
    → Fixes id replicas r turn next
fixes_at_once id replicas r ks turn next are none told = awaits_none id r (differing_in replicas r) (mends id r (differing_in replicas r)) turn next (sym are ∙ none) told

pub fixes_by_mends : (id : ReqId) (replicas : List ℕ) (r : OpenRead) (ks : List ℕ) (turn : Move) (next : OpenRead) → ks ≡ differing_in replicas r → ks ≢ [] → IsMending id ks r turn next
    → Fixes id replicas r turn next
fixes_by_mends id replicas r ks turn next are some sent =
    subst (λ (js : List ℕ). AwaitsMends id r js (mends id r js) turn next) are (awaits_some id r ks (mends id r ks) turn next some sent.0 sent.1)

pub decides_at_once : (id : ReqId) (replicas : List ℕ) (from : ℕ) (content : List Held) (r : OpenRead) (turn : Move) (next : OpenRead) → agrees r.replies content ≡ true
    → IsMergedInOrder content r.merged content → TellsRows id (with_reply r from content content) turn → Decides id replicas from content r turn next
decides_at_once id replicas from content r turn next all merge told =
    (content, merge, fixes_at_once id replicas (with_reply r from content content) [] turn next (sym (none_differing replicas r from content all)) refl told)

-- ---- replies

-- the test of strays, and the count, by the replicas that were worked out
strays : (c : Setting) (from : ℕ) (r : OpenRead) (replicas : List ℕ) (b : Bool) → replicas ≡ replicas_of c r.query.partition
    → (is_merged r.mending || (is_in (heard_by r) from || not (is_in replicas from))) ≡ b → is_stray c from r ≡ b
strays c from r replicas b are test = subst (λ (ks : List ℕ). (is_merged r.mending || (is_in (heard_by r) from || not (is_in ks from))) ≡ b) are test

counts : (c : Setting) (from : ℕ) (content merged : List Held) (r : OpenRead) (replicas : List ℕ) (b : Bool) → replicas ≡ replicas_of c r.query.partition
    → nat_lt (heard_of replicas (heard_by r ++ from ∷ [])) (needed c r.level r.query.partition) ≡ b
    → nat_lt (replies_of c (with_reply r from content merged)) (read_needs c r) ≡ b
counts c from content merged r replicas b are test =
    ap (λ (ks : List ℕ). nat_lt (heard_of (replicas_of c r.query.partition) ks) (needed c r.level r.query.partition)) (heard_more r from content)
    ∙ subst (λ (ks : List ℕ). nat_lt (heard_of ks (heard_by r ++ from ∷ [])) (needed c r.level r.query.partition) ≡ b) are test

pub reply_strays : (c : Setting) (id : ReqId) (from : ℕ) (content : List Held) (r : OpenRead) (turn : Move) (replicas : List ℕ) → replicas ≡ replicas_of c r.query.partition
    → (is_merged r.mending || (is_in (heard_by r) from || not (is_in replicas from))) ≡ true → turn ≡ quiet → HearsReply c id from content r turn r
reply_strays c id from content r turn replicas are stray none =
    when_true (is_stray c from r) ((turn ≡ quiet) × (r ≡ r)) (MergesReply c id from content r turn r) (strays c from r replicas true are stray) (none, refl)

pub reply_waits : (c : Setting) (id : ReqId) (from : ℕ) (content : List Held) (r next : OpenRead) (turn : Move) (replicas : List ℕ) → replicas ≡ replicas_of c r.query.partition
    → (is_merged r.mending || (is_in (heard_by r) from || not (is_in replicas from))) ≡ false
    → nat_lt (heard_of replicas (heard_by r ++ from ∷ [])) (needed c r.level r.query.partition) ≡ true → Keeps from content r next → turn ≡ quiet → HearsReply c id from content r turn next
reply_waits c id from content r next turn replicas are stray few keeps none =
    let kept : OpenRead = with_reply r from content next.merged in
    when_false (is_stray c from r) ((turn ≡ quiet) × (next ≡ r)) (MergesReply c id from content r turn next) (strays c from r replicas false are stray)
    (kept, refl, keeps.merge, when_true (nat_lt (replies_of c kept) (read_needs c kept)) ((turn ≡ quiet) × (next ≡ kept)) (AwaitsMends id kept (differing c kept) (mends id kept (differing c kept)) turn next) (counts c from content next.merged r replicas true are few) (none, keeps.next_is))

pub reply_decides : (c : Setting) (id : ReqId) (from : ℕ) (content : List Held) (r next : OpenRead) (turn : Move) (replicas : List ℕ) → replicas ≡ replicas_of c r.query.partition
    → (is_merged r.mending || (is_in (heard_by r) from || not (is_in replicas from))) ≡ false
    → nat_lt (heard_of replicas (heard_by r ++ from ∷ [])) (needed c r.level r.query.partition) ≡ false → Decides id replicas from content r turn next → HearsReply c id from content r turn next
reply_decides c id from content r next turn replicas are stray enough decides =
    let kept : OpenRead = with_reply r from content decides.0 in
    let fixes : AwaitsMends id kept (differing c kept) (mends id kept (differing c kept)) turn next = subst (λ (ks : List ℕ). Fixes id ks kept turn next) are decides.2 in
    when_false (is_stray c from r) ((turn ≡ quiet) × (next ≡ r)) (MergesReply c id from content r turn next) (strays c from r replicas false are stray)
    (kept, refl, decides.1, when_false (nat_lt (replies_of c kept) (read_needs c kept)) ((turn ≡ quiet) × (next ≡ kept)) (AwaitsMends id kept (differing c kept) (mends id kept (differing c kept)) turn next) (counts c from content decides.0 r replicas false are enough) fixes)

-- ---- a reply that ends the read

neither : (a b : Bool) → (not a && not b) ≡ true → (a ≡ false) × (b ≡ false)
neither true b h = absurd (cc)
neither false true h = absurd (cc)
neither false false h = (refl, refl)

pub last_by : (c : Setting) (from : ℕ) (r : OpenRead) (replicas : List ℕ) (a b : Bool) → replicas ≡ replicas_of c r.query.partition
    → a ≡ (is_merged r.mending || (is_in (heard_by r) from || not (is_in replicas from))) → b ≡ nat_lt (heard_of replicas (heard_by r ++ from ∷ [])) (needed c r.level r.query.partition)
    → (not a && not b) ≡ is_last c from r
last_by c from r replicas a b are stray few =
    ap (λ (x : Bool). not x && not b) (stray ∙ ap (λ (ks : List ℕ). is_merged r.mending || (is_in (heard_by r) from || not (is_in ks from))) are)
    ∙ ap (λ (x : Bool). not (is_stray c from r) && not x) (few ∙ ap (λ (ks : List ℕ). nat_lt (heard_of ks (heard_by r ++ from ∷ [])) (needed c r.level r.query.partition)) are)

pub end_answers : (c : Setting) (id : ReqId) (from : ℕ) (content : List Held) (r : OpenRead) (turn : Move)
    → (agrees r.replies content ≡ true → Decides id (replicas_of c r.query.partition) from content r turn r) → ends c from content r ≡ true → HearsReply c id from content r turn r
end_answers c id from content r turn decides last =
    let parts = and_parts (is_last c from r) (agrees r.replies content) last in
    let both = neither (is_stray c from r) (nat_lt (heard_of (replicas_of c r.query.partition) (heard_by r ++ from ∷ [])) (read_needs c r)) parts.0 in
    reply_decides c id from content r r turn (replicas_of c r.query.partition) refl both.0 both.1 (decides parts.1)

pub told_ends : (id : ReqId) (q : Query) (heard : List ℕ) (merged : List Held) (turn : Move) → TellsMerge id q heard merged turn → turn.ended ≡ true
told_ends id q heard merged turn told = let sent = told.3 in ap (λ (m : Move). m.ended) sent

-- ---- acknowledgements of mends

pub ack_strays : (c : Setting) (id : ReqId) (from : ℕ) (r : OpenRead) (turn : Move) → is_awaited r.mending from ≡ false → turn ≡ quiet → HearsMendAck c id from r turn r
ack_strays c id from r turn stray none =
    when_false (is_awaited r.mending from) (AwaitsMends id r (mended_by r.mending from) quiet turn r) ((turn ≡ quiet) × (r ≡ r)) stray (none, refl)

pub ack_answers : (c : Setting) (id : ReqId) (from : ℕ) (r next : OpenRead) (left : List ℕ) (turn : Move) → is_awaited r.mending from ≡ true → left ≡ mended_by r.mending from → left ≡ []
    → TellsRows id r turn → HearsMendAck c id from r turn next
ack_answers c id from r next left turn awaited are none told =
    when_true (is_awaited r.mending from) (AwaitsMends id r (mended_by r.mending from) quiet turn next) ((turn ≡ quiet) × (next ≡ r)) awaited
    (awaits_none id r (mended_by r.mending from) quiet turn next (sym are ∙ none) told)

pub ack_waits : (c : Setting) (id : ReqId) (from : ℕ) (r next : OpenRead) (left : List ℕ) (turn : Move) → is_awaited r.mending from ≡ true → left ≡ mended_by r.mending from → left ≢ []
    → turn ≡ quiet → next ≡ record r { mending = Some left } → HearsMendAck c id from r turn next
ack_waits c id from r next left turn awaited are some none is =
    when_true (is_awaited r.mending from) (AwaitsMends id r (mended_by r.mending from) quiet turn next) ((turn ≡ quiet) × (next ≡ r)) awaited
    (subst (λ (ks : List ℕ). AwaitsMends id r ks quiet turn next) are (awaits_some id r left quiet turn next some none is))

-- ---- the deadline

either_way : (a b : Bool) → (a && b) ≡ (b && a)
either_way true true = refl
either_way true false = refl
either_way false true = refl
either_way false false = refl

in_rest : (ks heard : List ℕ) (k : ℕ) → (is_in heard k && not (is_in ks k)) ≡ is_in (filter (λ j. not (is_in ks j)) heard) k
in_rest ks heard k =
    either_way (is_in heard k) (not (is_in ks k))
    ∙ sym (any-filter_same (λ (j : ℕ). j == k) (λ (j : ℕ). not (is_in ks j)) (not (is_in ks k)) (λ j e. ap (λ (x : ℕ). not (is_in ks x)) (eqb-true j k e)) heard)

among_counted : (own : Option (List ℕ)) (heard : List ℕ) (k : ℕ) → (is_in heard k && not (is_awaited own k)) ≡ is_in (counted own heard) k
among_counted None heard k = and_not (is_in heard k)
  where
    and_not : (b : Bool) → (b && true) ≡ b
    and_not true = refl
    and_not false = refl
among_counted (Some ks) heard k = in_rest ks heard k

pub counted_then : (own : Option (List ℕ)) (heard : List ℕ) (k : ℕ) (b : Bool) → is_in heard k ≡ true → b ≡ is_awaited own k → not b ≡ is_in (counted own heard) k
counted_then own heard k b there awaited = ap not awaited ∙ ap (λ (x : Bool). x && not (is_awaited own k)) (sym there) ∙ among_counted own heard k

pub counted_else : (own : Option (List ℕ)) (heard : List ℕ) (k : ℕ) → is_in heard k ≡ false → false ≡ is_in (counted own heard) k
counted_else own heard k there = ap (λ (x : Bool). x && not (is_awaited own k)) (sym there) ∙ among_counted own heard k

pub received_is : (c : Setting) (r : OpenRead) → heard_of (replicas_of c r.query.partition) (counted r.mending (heard_by r)) ≡ received_of c r
received_is c r = by_mending c r r.mending
  where
    by_mending : (c : Setting) (r : OpenRead) (own : Option (List ℕ)) → heard_of (replicas_of c r.query.partition) (counted own (heard_by r)) ≡ received_in c r own
    by_mending c r None = refl
    by_mending c r (Some ks) = refl
