-- What was told of an open read is what its coordinator counts.
use Rattle.std.proofs.Common.{◌≡◌, ℕ, inl, inr, ◌⊎◌, ◌≤◌, ◌<◌, ◌+◌, Bool, true, false, Option, Some, None, List, [], ◌∷◌, ◌++◌, refl, sym, ap, subst, ◌∙◌, arith, Contains, filter, map}
use Rattle.std.specs.Prelude.{◌==◌, ◌||◌, ◌&&◌, not, if◌then◌else◌, nat_lt, MatchBool}
use Rattle.std.proofs.lemmas.Bool.{and_parts, eqb-true, eq-eqb, le-ltb, lt-ltb, ltb-false, ltb-true}
use Rattle.std.proofs.lemmas.List.{map-append}
use Rattle.std.proofs.lemmas.Map.Views.{any-filter_same}
use Rattle.std.specs.List.Sorted.{IsStrictlySortedBy}
use Rattle.cs_base.specs.declared.ids.ReqId.{ReqId}
use Rattle.cs_base.specs.declared.level.Level.{Level}
use Rattle.cs_base.specs.Quorums.{is_in}
use Rattle.cs_base.proofs.Members.{contains_here, contains_from_filter, contains_nil}
use Rattle.cs_base.proofs.Quorums.{is_in_contains}
use Rattle.changes.specs.declared.Held.{Held}
use Rattle.changes.specs.declared.Query.{Query}
use Rattle.changes.specs.Places.{AreInOrder}
use Rattle.statement_plan.specs.declared.plan.Columns.{Columns}
use Rattle.peer_messages.specs.declared.event.Ask.{Ask}
use Rattle.peer_messages.specs.declared.event.Plan.TheVariants as plan
use Rattle.peer_messages.specs.declared.outcome.Move.{Move}
use Rattle.peer_messages.specs.declared.setting.Setting.{Setting}
use Rattle.peer_messages.specs.Settings.{replicas_of, needed, HasFactors}
use Rattle.peer_messages.specs.Moves.{quiet as quiet_move}
use Rattle.node_steps.specs.State.{OpenRead, Replied}
use Rattle.node_steps.specs.Reads.{replied_from, heard_by, replies_of, read_needs, differs, differing, mends, AwaitsMends, CountsReply, is_merged, is_stray, IsMergedInOrder, MergesReply, HearsReply, TellsRows, without_one, is_awaited, mended_by, HearsMendAck, received_in, received_of, started_read}
use Rattle.answer_causes.specs.Numbers.{ReadTold, replied_of, with_reply, first_reply, IsMergeOfReplies, has_merge, merged_of, IsReceived, nothing_told}
use Rattle.answer_causes.proofs.Counts.{push_in, is_in_same, same_tests, fewer, one_more, replica_needs, none_heard}
use Rattle.answer_causes.proofs.Firsts.{is_found, heard_first, SameFirsts, push_both, push_later, OnceEach, once_push, is_other, differs_first, has_it, merge_push, merge_as}

-- ---- what is known

-- these replicas have not acknowledged the merge, and some of them is waited for
pub record IsMending (c : Setting) (r : OpenRead) (t : ReadTold) (ks : List ℕ) : Type 0 where
  pub full : replies_of c r ≡ read_needs c r
  pub within : (j : ℕ) → Contains ks j → Contains (replicas_of c r.query.partition) j
  pub some : (k : ℕ) × Contains ks k
  pub left : (j : ℕ) → Contains (replicas_of c r.query.partition) j → is_in ks j ≡ (differs r j && not (is_in t.acks j))

pub record IsTold (c : Setting) (r : OpenRead) (t : ReadTold) : Type 0 where
  pub firsts : SameFirsts (replicas_of c r.query.partition) r.replies t.replies
  pub once : OnceEach r.replies
  pub merge : IsMergeOfReplies (replicas_of c r.query.partition) r.replies r.merged
  pub waits : r.mending ≡ None → 1 ≤ read_needs c r → replies_of c r < read_needs c r
  pub mends : (ks : List ℕ) → r.mending ≡ Some ks → IsMending c r t ks

abbrev pub Told : Type 0
Told = List ℕ → ℕ → ReadTold

pub record ReadIs (c : Setting) (r : OpenRead) (asked : Option Ask) (told : Told) : Type 0 where
  pub ask : Ask
  pub columns : Columns
  pub was_asked : asked ≡ Some ask
  pub for : ask.plan ≡ plan.Read r.query columns
  pub level : ask.level ≡ r.level
  pub some : HasFactors c → 1 ≤ read_needs c r
  pub is_told : IsTold c r (told (replicas_of c r.query.partition) (read_needs c r))

none_some : {X : Type 0} (x : X) → None ≡ Some x → ⊥
none_some {X} x e = cc

some_one : {X : Type 0} {x y : X} → Some x ≡ Some y → x ≡ y
some_one e = cc

in_filter : (p : ℕ → Bool) (ks : List ℕ) (j : ℕ) → is_in (filter p ks) j ≡ (p j && is_in ks j)
in_filter p ks j = any-filter_same (λ i. i == j) p (p j) (λ k at. ap p (eqb-true k j at)) ks

same_replied : (c : Setting) (r : OpenRead) (t : ReadTold) → IsTold c r t → replied_of (replicas_of c r.query.partition) t ≡ replies_of c r
same_replied c r t h = same_tests (replicas_of c r.query.partition) (is_in (map replied_from t.replies)) (is_in (heard_by r)) (λ j at. heard_first t.replies j ∙ ap is_found (sym (h.firsts j at)) ∙ sym (heard_first r.replies j))

-- what comes of what is heard: the read is done with, or this was told of it
record Stays (c : Setting) (r r' : OpenRead) (turn : Move) (t : ReadTold) : Type 0 where
  pub goes : turn.ended ≡ false
  pub query : r'.query ≡ r.query
  pub level : r'.level ≡ r.level
  pub told : IsTold c r' t

abbrev StaysOrEnds : Setting → OpenRead → OpenRead → Move → ReadTold → Type 0
StaysOrEnds c r r' turn t = (turn.ended ≡ true) ⊎ Stays c r r' turn t

stays_by : (c : Setting) (r r' x : OpenRead) (turn : Move) (t : ReadTold) → turn.ended ≡ false → r' ≡ x → x.query ≡ r.query → x.level ≡ r.level → IsTold c x t → StaysOrEnds c r r' turn t
stays_by c r r' x turn t goes same query level h = inr (record {
  goes = goes;
  query = ap (λ (y : OpenRead). y.query) same ∙ query;
  level = ap (λ (y : OpenRead). y.level) same ∙ level;
  told = subst (λ (y : OpenRead). IsTold c y t) (sym same) h;
})

quiet_goes : (turn : Move) → turn ≡ quiet_move → turn.ended ≡ false
quiet_goes turn quiet = ap (λ (m : Move). m.ended) quiet

stays_as : (c : Setting) (r r' : OpenRead) (turn : Move) (t : ReadTold) → turn ≡ quiet_move → r' ≡ r → IsTold c r t → StaysOrEnds c r r' turn t
stays_as c r r' turn t quiet same h = stays_by c r r' r turn t (quiet_goes turn quiet) same refl refl h

tells_end : (id : ReqId) (r : OpenRead) (turn : Move) → TellsRows id r turn → turn.ended ≡ true
tells_end id r turn (rows, more, shown, tells) = ap (λ (m : Move). m.ended) tells

none_in_order : AreInOrder []
unfolding IsStrictlySortedBy
none_in_order = tt

-- nothing was told of a read that was just begun
pub first_told : (c : Setting) (l : Level) (q : Query) → IsTold c (started_read l q) nothing_told
first_told c l q = record {
  firsts = λ j at. refl;
  once = λ x at. absurd (contains_nil x at);
  merge = (record { within = λ x at. absurd (contains_nil x at); reached = λ x (k, content, there, first, at). absurd (none_some content first); apart = λ x y at. absurd (contains_nil x at) }, none_in_order);
  waits = λ e some. let none = none_heard (replicas_of c q.partition) in omega (arith, none, some);
  mends = λ ks e. absurd (none_some ks e);
}

-- ---- a reply that the read cannot use

heard_stray : (a b : Bool) → (a || not b) ≡ true → b ≡ true → a ≡ true
heard_stray true b h at = refl
heard_stray false true h at = h
heard_stray false false h at = at

-- while it waits for replies
stray_waits : (b : Bool) (c : Setting) (r : OpenRead) (t : ReadTold) (y : Replied) → r.mending ≡ None → (Contains (replicas_of c r.query.partition) y.from → is_in (heard_by r) y.from ≡ true) → IsTold c r t
    → IsTold c r (if b then record { replies = t.replies ++ y ∷ []; acks = [] } else t)
stray_waits true c r t y none heard h = record {
  firsts = push_later (replicas_of c r.query.partition) r.replies t.replies y heard h.firsts;
  once = h.once;
  merge = h.merge;
  waits = h.waits;
  mends = λ ks e. absurd (none_some ks (sym none ∙ e));
}
stray_waits false c r t y none heard h = h

stray_by : (o : Option (List ℕ)) (c : Setting) (r : OpenRead) (t : ReadTold) (from : ℕ) (content : List Held) → r.mending ≡ o → is_stray c from r ≡ true → IsTold c r t
    → IsTold c r (with_reply (replicas_of c r.query.partition) (read_needs c r) from content t)
stray_by None c r t from content none stray h =
    stray_waits (nat_lt (replied_of (replicas_of c r.query.partition) t) (read_needs c r)) c r t (record { from = from; content = content }) none
    (λ at. heard_stray (is_in (heard_by r) from) (is_in (replicas_of c r.query.partition) from) (ap (λ (o : Option (List ℕ)). is_merged o || (is_in (heard_by r) from || not (is_in (replicas_of c r.query.partition) from))) (sym none) ∙ stray) (is_in_same (replicas_of c r.query.partition) from at))
    h
stray_by (Some ks) c r t from content is stray h =
    let full = (h.mends ks is).full in
    let same = same_replied c r t h in
    let late : nat_lt (replied_of (replicas_of c r.query.partition) t) (read_needs c r) ≡ false = le-ltb (replied_of (replicas_of c r.query.partition) t) (read_needs c r) (omega (arith, full, same)) in
    subst (λ (b : Bool). IsTold c r (if b then record { replies = t.replies ++ record { from = from; content = content } ∷ []; acks = [] } else t)) (sym late) h

-- ---- one that it can

not_stray : (m h p : Bool) → (m || (h || not p)) ≡ false → (m ≡ false) × (h ≡ false) × (p ≡ true)
not_stray true h p e = cc
not_stray false true p e = cc
not_stray false false true e = (refl, refl, refl)
not_stray false false false e = cc

not_merged : (o : Option (List ℕ)) → is_merged o ≡ false → o ≡ None
not_merged None h = refl
not_merged (Some ks) h = cc

abbrev next_read : ℕ → List Held → List Held → OpenRead → OpenRead
next_read from content merged r = record r { replies = r.replies ++ record { from = from; content = content } ∷ []; merged = merged }

abbrev next_told : ℕ → List Held → ReadTold → ReadTold
next_told from content t = record { replies = t.replies ++ record { from = from; content = content } ∷ []; acks = [] }

record IsGood (c : Setting) (from : ℕ) (r : OpenRead) : Type 0 where
  pub none : r.mending ≡ None
  pub new : is_in (heard_by r) from ≡ false
  pub replica : Contains (replicas_of c r.query.partition) from

good_is : (c : Setting) (from : ℕ) (r : OpenRead) → is_stray c from r ≡ false → IsGood c from r
good_is c from r good =
    let parts = not_stray (is_merged r.mending) (is_in (heard_by r) from) (is_in (replicas_of c r.query.partition) from) good in
    record { none = not_merged r.mending parts.0; new = parts.1; replica = is_in_contains (replicas_of c r.query.partition) from parts.2 }

next_heard : (from : ℕ) (content merged : List Held) (r : OpenRead) (j : ℕ) → is_in (heard_by (next_read from content merged r)) j ≡ (is_in (heard_by r) j || (from == j))
next_heard from content merged r j =
    ap (λ (ks : List ℕ). is_in ks j) (map-append replied_from r.replies (record { from = from; content = content } ∷ [])) ∙ push_in (heard_by r) from j

-- the n-th of them makes just n
next_full : (c : Setting) (from : ℕ) (content merged : List Held) (r : OpenRead) (t : ReadTold) → IsGood c from r → IsTold c r t → nat_lt (replies_of c (next_read from content merged r)) (read_needs c r) ≡ false
    → replies_of c (next_read from content merged r) ≡ read_needs c r
next_full c from content merged r t good h test =
    let low = h.waits good.none (replica_needs c r.level r.query.partition from good.replica) in
    let step : replies_of c (next_read from content merged r) ≤ replies_of c r + 1 = one_more c r.query.partition (is_in (heard_by r)) (is_in (heard_by (next_read from content merged r))) from (next_heard from content merged r) in
    let high = ltb-false (replies_of c (next_read from content merged r)) (read_needs c r) test in
    omega (arith, low, step, high)

next_merge : (c : Setting) (from : ℕ) (content merged : List Held) (r : OpenRead) (t : ReadTold) → IsGood c from r → IsTold c r t → IsMergedInOrder merged r.merged content
    → IsMergeOfReplies (replicas_of c r.query.partition) (r.replies ++ record { from = from; content = content } ∷ []) merged
next_merge c from content merged r t good h merge =
    (merge_push (replicas_of c r.query.partition) r.replies (record { from = from; content = content }) r.merged merged good.replica good.new h.merge.0 merge.0, merge.1)

-- it waits for more of them
next_waits : (c : Setting) (from : ℕ) (content merged : List Held) (r : OpenRead) (t : ReadTold) → IsGood c from r → IsTold c r t → IsMergedInOrder merged r.merged content
    → replies_of c (next_read from content merged r) < read_needs c r → IsTold c (next_read from content merged r) (next_told from content t)
next_waits c from content merged r t good h merge low = record {
  firsts = push_both (replicas_of c r.query.partition) r.replies t.replies (record { from = from; content = content }) h.firsts;
  once = once_push r.replies (record { from = from; content = content }) good.new h.once;
  merge = next_merge c from content merged r t good h merge;
  waits = λ none some. low;
  mends = λ ks e. absurd (none_some ks (sym good.none ∙ e));
}

-- or for these to acknowledge the merge
first_left : (replicas : List ℕ) (n : OpenRead) (j : ℕ) → Contains replicas j → is_in (filter (λ k. differs n k) replicas) j ≡ (differs n j && not (is_in [] j))
first_left replicas n j there =
    in_filter (λ k. differs n k) replicas j ∙ ap (λ (b : Bool). differs n j && b) (is_in_same replicas j there)

next_mends : (c : Setting) (from : ℕ) (content merged : List Held) (r : OpenRead) (t : ReadTold) (k : ℕ) (ks : List ℕ) → IsGood c from r → IsTold c r t → IsMergedInOrder merged r.merged content
    → nat_lt (replies_of c (next_read from content merged r)) (read_needs c r) ≡ false → differing c (next_read from content merged r) ≡ k ∷ ks
    → IsTold c (record (next_read from content merged r) { mending = Some (k ∷ ks) }) (next_told from content t)
next_mends c from content merged r t k ks good h merge test are = record {
  firsts = push_both (replicas_of c r.query.partition) r.replies t.replies (record { from = from; content = content }) h.firsts;
  once = once_push r.replies (record { from = from; content = content }) good.new h.once;
  merge = next_merge c from content merged r t good h merge;
  waits = λ e some. absurd (none_some (k ∷ ks) (sym e));
  mends = λ ls e. subst (λ (xs : List ℕ). IsMending c (record (next_read from content merged r) { mending = Some (k ∷ ks) }) (next_told from content t) xs) (some_one e) (record {
    full = next_full c from content merged r t good h test;
    within = λ j at. (contains_from_filter (λ i. differs (next_read from content merged r) i) (replicas_of c r.query.partition) j (subst (λ (xs : List ℕ). Contains xs j) (sym are) at)).0;
    some = (k, contains_here k ks);
    left = λ j at. ap (λ (xs : List ℕ). is_in xs j) (sym are) ∙ first_left (replicas_of c r.query.partition) (next_read from content merged r) j at;
  });
}

next_ends : (c : Setting) (id : ReqId) (from : ℕ) (content merged : List Held) (r r' : OpenRead) (turn sent : Move) (t : ReadTold) (ks : List ℕ) → IsGood c from r → IsTold c r t → IsMergedInOrder merged r.merged content
    → nat_lt (replies_of c (next_read from content merged r)) (read_needs c r) ≡ false → differing c (next_read from content merged r) ≡ ks → sent.ended ≡ false → AwaitsMends id (next_read from content merged r) ks sent turn r'
    → StaysOrEnds c r r' turn (next_told from content t)
next_ends c id from content merged r r' turn sent t [] good h merge test are goes awaits = inl (tells_end id (next_read from content merged r) turn awaits)
next_ends c id from content merged r r' turn sent t (k ∷ ks) good h merge test are goes (sends, same) =
    stays_by c r r' (record (next_read from content merged r) { mending = Some (k ∷ ks) }) turn (next_told from content t) (ap (λ (m : Move). m.ended) sends ∙ goes) same refl refl (next_mends c from content merged r t k ks good h merge test are)

next_counts : (b : Bool) (c : Setting) (id : ReqId) (from : ℕ) (content merged : List Held) (r r' : OpenRead) (turn : Move) (t : ReadTold) → nat_lt (replies_of c (next_read from content merged r)) (read_needs c r) ≡ b → IsGood c from r → IsTold c r t
    → IsMergedInOrder merged r.merged content
    → MatchBool b ((turn ≡ quiet_move) × (r' ≡ next_read from content merged r)) (AwaitsMends id (next_read from content merged r) (differing c (next_read from content merged r)) (mends id (next_read from content merged r) (differing c (next_read from content merged r))) turn r')
    → StaysOrEnds c r r' turn (next_told from content t)
next_counts true c id from content merged r r' turn t test good h merge (quiet, same) =
    stays_by c r r' (next_read from content merged r) turn (next_told from content t) (quiet_goes turn quiet) same refl refl (next_waits c from content merged r t good h merge (ltb-true _ _ test))
next_counts false c id from content merged r r' turn t test good h merge awaits =
    next_ends c id from content merged r r' turn (mends id (next_read from content merged r) (differing c (next_read from content merged r))) t (differing c (next_read from content merged r)) good h merge test refl refl awaits

reply_merges : (c : Setting) (id : ReqId) (from : ℕ) (content : List Held) (r r' : OpenRead) (turn : Move) (t : ReadTold) → IsGood c from r → IsTold c r t → MergesReply c id from content r turn r'
    → StaysOrEnds c r r' turn (with_reply (replicas_of c r.query.partition) (read_needs c r) from content t)
reply_merges c id from content r r' turn t good h (n, is, merge, counts) =
    let low = h.waits good.none (replica_needs c r.level r.query.partition from good.replica) in
    let same = same_replied c r t h in
    let taken : nat_lt (replied_of (replicas_of c r.query.partition) t) (read_needs c r) ≡ true = lt-ltb (replied_of (replicas_of c r.query.partition) t) (read_needs c r) (omega (arith, low, same)) in
    let made : CountsReply c id (next_read from content n.merged r) turn r' = subst (λ (x : OpenRead). CountsReply c id x turn r') is counts in
    subst (λ (b : Bool). StaysOrEnds c r r' turn (if b then next_told from content t else t)) (sym taken)
    (next_counts (nat_lt (replies_of c (next_read from content n.merged r)) (read_needs c r)) c id from content n.merged r r' turn t refl good h merge made)

reply_comes : (b : Bool) (c : Setting) (id : ReqId) (from : ℕ) (content : List Held) (r r' : OpenRead) (turn : Move) (t : ReadTold) → is_stray c from r ≡ b → IsTold c r t → MatchBool b ((turn ≡ quiet_move) × (r' ≡ r)) (MergesReply c id from content r turn r')
    → StaysOrEnds c r r' turn (with_reply (replicas_of c r.query.partition) (read_needs c r) from content t)
reply_comes true c id from content r r' turn t stray h (quiet, same) = stays_as c r r' turn _ quiet same (stray_by r.mending c r t from content refl stray h)
reply_comes false c id from content r r' turn t stray h merges = reply_merges c id from content r r' turn t (good_is c from r stray) h merges

-- ---- an acknowledgement of the merge

abbrev more_acks : ReadTold → ℕ → ReadTold
more_acks t from = record { replies = t.replies; acks = t.acks ++ from ∷ [] }

not_awaited : (w d a e : Bool) → w ≡ (d && not a) → (e ≡ true → w ≡ false) → w ≡ (d && not (a || e))
not_awaited w d true e is other = is
not_awaited w true false true is other = other refl
not_awaited w false false true is other = is
not_awaited w d false false is other = is

one_less : (w d a e f : Bool) → w ≡ (d && not a) → f ≡ e → (not f && w) ≡ (d && not (a || e))
one_less w d a true true is same = none d a
  where
    none : (d a : Bool) → false ≡ (d && not (a || true))
    none true true = refl
    none true false = refl
    none false a = refl
one_less w d true false false is same = is
one_less w d false false false is same = is
one_less w d a true false is same = cc
one_less w d a false true is same = cc

as_tests : (a b : Bool) → (a ≡ true → b ≡ true) → (b ≡ true → a ≡ true) → a ≡ b
as_tests true b to back = sym (to refl)
as_tests false true to back = back refl
as_tests false false to back = refl

turned : (j k : ℕ) → (j == k) ≡ (k == j)
turned j k = as_tests (j == k) (k == j) (λ is. eq-eqb k j (sym (eqb-true j k is))) (λ is. eq-eqb j k (sym (eqb-true k j is)))

-- of one that is not waited for
ack_stray : (c : Setting) (r : OpenRead) (t : ReadTold) (from : ℕ) (ks : List ℕ) → is_in ks from ≡ false → IsMending c r t ks → IsMending c r (more_acks t from) ks
ack_stray c r t from ks other m = record {
  full = m.full;
  within = m.within;
  some = m.some;
  left = λ j at.
      not_awaited (is_in ks j) (differs r j) (is_in t.acks j) (from == j) (m.left j at) (λ is. subst (λ (i : ℕ). is_in ks i ≡ false) (eqb-true from j is) other)
      ∙ ap (λ (b : Bool). differs r j && not b) (sym (push_in t.acks from j));
}

ack_stays : (c : Setting) (r : OpenRead) (t : ReadTold) (from : ℕ) → ((ks : List ℕ) → r.mending ≡ Some ks → IsMending c r (more_acks t from) ks) → IsTold c r t → IsTold c r (more_acks t from)
ack_stays c r t from left h = record { firsts = h.firsts; once = h.once; merge = h.merge; waits = h.waits; mends = left }

without_in : (ks : List ℕ) (from j : ℕ) → is_in (without_one ks from) j ≡ (not (j == from) && is_in ks j)
without_in ks from j = in_filter (λ k. not (k == from)) ks j

ack_mends : (c : Setting) (r : OpenRead) (t : ReadTold) (from : ℕ) (ks : List ℕ) (l : ℕ) (ls : List ℕ) → without_one ks from ≡ l ∷ ls → IsMending c r t ks → IsTold c r t → IsTold c (record r { mending = Some (l ∷ ls) }) (more_acks t from)
ack_mends c r t from ks l ls are m h = record {
  firsts = h.firsts;
  once = h.once;
  merge = h.merge;
  waits = λ e some. absurd (none_some (l ∷ ls) (sym e));
  mends = λ xs e. subst (λ (ys : List ℕ). IsMending c (record r { mending = Some (l ∷ ls) }) (more_acks t from) ys) (some_one e) (record {
    full = m.full;
    within = λ j at. m.within j (contains_from_filter (λ k. not (k == from)) ks j (subst (λ (ys : List ℕ). Contains ys j) (sym are) at)).0;
    some = (l, contains_here l ls);
    left = λ j at.
        ap (λ (ys : List ℕ). is_in ys j) (sym are) ∙ without_in ks from j ∙ one_less (is_in ks j) (differs r j) (is_in t.acks j) (from == j) (j == from) (m.left j at) (turned j from)
        ∙ ap (λ (b : Bool). differs r j && not b) (sym (push_in t.acks from j));
  });
}

ack_ends : (c : Setting) (id : ReqId) (from : ℕ) (r r' : OpenRead) (turn : Move) (t : ReadTold) (ks ls : List ℕ) → without_one ks from ≡ ls → IsMending c r t ks → IsTold c r t → AwaitsMends id r ls quiet_move turn r' → StaysOrEnds c r r' turn (more_acks t from)
ack_ends c id from r r' turn t ks [] are m h awaits = inl (tells_end id r turn awaits)
ack_ends c id from r r' turn t ks (l ∷ ls) are m h (quiet, same) =
    stays_by c r r' (record r { mending = Some (l ∷ ls) }) turn (more_acks t from) (quiet_goes turn quiet) same refl refl (ack_mends c r t from ks l ls are m h)

ack_of : (b : Bool) (c : Setting) (id : ReqId) (from : ℕ) (r r' : OpenRead) (turn : Move) (t : ReadTold) (ks : List ℕ) → r.mending ≡ Some ks → is_in ks from ≡ b → IsTold c r t
    → MatchBool b (AwaitsMends id r (without_one ks from) quiet_move turn r') ((turn ≡ quiet_move) × (r' ≡ r)) → StaysOrEnds c r r' turn (more_acks t from)
ack_of true c id from r r' turn t ks is test h awaits = ack_ends c id from r r' turn t ks (without_one ks from) refl (h.mends ks is) h awaits
ack_of false c id from r r' turn t ks is test h (quiet, same) =
    stays_as c r r' turn (more_acks t from) quiet same (ack_stays c r t from (λ xs e. subst (λ (ys : List ℕ). IsMending c r (more_acks t from) ys) (some_one (sym is ∙ e)) (ack_stray c r t from ks test (h.mends ks is))) h)

ack_comes : (o : Option (List ℕ)) (c : Setting) (id : ReqId) (from : ℕ) (r r' : OpenRead) (turn : Move) (t : ReadTold) → r.mending ≡ o → IsTold c r t
    → MatchBool (is_awaited o from) (AwaitsMends id r (mended_by o from) quiet_move turn r') ((turn ≡ quiet_move) × (r' ≡ r)) → StaysOrEnds c r r' turn (more_acks t from)
ack_comes None c id from r r' turn t none h (quiet, same) = stays_as c r r' turn (more_acks t from) quiet same (ack_stays c r t from (λ ks e. absurd (none_some ks (sym none ∙ e))) h)
ack_comes (Some ks) c id from r r' turn t is h step = ack_of (is_in ks from) c id from r r' turn t ks is refl h step

-- ---- the read

abbrev pub ReadWaits : Setting → OpenRead → Move → Option Ask → Told → Type 0
ReadWaits c r' turn asked told = (turn.ended ≡ true) ⊎ ((turn.ended ≡ false) × ReadIs c r' asked told)

read_waits : (c : Setting) (r r' : OpenRead) (turn : Move) (asked : Option Ask) (before after : Told) → ReadIs c r asked before → StaysOrEnds c r r' turn (after (replicas_of c r.query.partition) (read_needs c r)) → ReadWaits c r' turn asked after
read_waits c r r' turn asked before after h (inl ended) = inl ended
read_waits c r r' turn asked before after h (inr s) = inr (
  s.goes,
  record {
    ask = h.ask;
    columns = h.columns;
    was_asked = h.was_asked;
    for = h.for ∙ ap (λ (q : Query). plan.Read q h.columns) (sym s.query);
    level = h.level ∙ sym s.level;
    some = λ factors. subst (λ (l : Level). 1 ≤ needed c l r'.query.partition) (sym s.level) (subst (λ (q : Query). 1 ≤ needed c r.level q.partition) (sym s.query) (h.some factors));
    is_told = subst (λ (q : Query). IsTold c r' (after (replicas_of c q.partition) (needed c r'.level q.partition))) (sym s.query) (subst (λ (l : Level). IsTold c r' (after (replicas_of c r.query.partition) (needed c l r.query.partition))) (sym s.level) s.told);
  },
)

pub reply_waits : (c : Setting) (id : ReqId) (from : ℕ) (content : List Held) (r r' : OpenRead) (turn : Move) (asked : Option Ask) (told : Told) → ReadIs c r asked told → HearsReply c id from content r turn r'
    → ReadWaits c r' turn asked (λ replicas n. with_reply replicas n from content (told replicas n))
reply_waits c id from content r r' turn asked told h step =
    read_waits c r r' turn asked told (λ replicas n. with_reply replicas n from content (told replicas n)) h
    (reply_comes (is_stray c from r) c id from content r r' turn (told (replicas_of c r.query.partition) (read_needs c r)) refl h.is_told step)

pub ack_waits : (c : Setting) (id : ReqId) (from : ℕ) (r r' : OpenRead) (turn : Move) (asked : Option Ask) (told : Told) → ReadIs c r asked told → HearsMendAck c id from r turn r'
    → ReadWaits c r' turn asked (λ replicas n. record { replies = (told replicas n).replies; acks = (told replicas n).acks ++ from ∷ [] })
ack_waits c id from r r' turn asked told h step =
    read_waits c r r' turn asked told (λ replicas n. record { replies = (told replicas n).replies; acks = (told replicas n).acks ++ from ∷ [] }) h
    (ack_comes r.mending c id from r r' turn (told (replicas_of c r.query.partition) (read_needs c r)) refl h.is_told step)

-- ---- the numbers

-- who replied and is not waited for has the merge
counts_merged : (c : Setting) (r : OpenRead) (t : ReadTold) (ks : List ℕ) → r.mending ≡ Some ks → IsTold c r t → received_in c r (Some ks) ≡ merged_of (replicas_of c r.query.partition) r.merged t
counts_merged c r t ks is h =
    let m = h.mends ks is in
    same_tests (replicas_of c r.query.partition) (is_in (filter (λ k. not (is_in ks k)) (heard_by r))) (λ k. has_merge r.merged (first_reply t.replies k) (is_in t.acks k)) (λ j at.
    in_filter (λ k. not (is_in ks k)) (heard_by r) j
    ∙ ap (λ (b : Bool). not b && is_in (heard_by r) j) (m.left j at) ∙ ap (λ (b : Bool). not (b && not (is_in t.acks j)) && is_in (heard_by r) j) (differs_first r.merged r.replies j h.once)
    ∙ ap (λ (b : Bool). not (is_other r.merged (first_reply r.replies j) && not (is_in t.acks j)) && b) (heard_first r.replies j) ∙ has_it r.merged (first_reply r.replies j) (is_in t.acks j)
    ∙ ap (λ (o : Option (List Held)). has_merge r.merged o (is_in t.acks j)) (h.firsts j at))

waits_received : (b : Bool) (c : Setting) (r : OpenRead) (t : ReadTold) → nat_lt (replied_of (replicas_of c r.query.partition) t) (read_needs c r) ≡ b → r.mending ≡ None → IsTold c r t → IsReceived (replicas_of c r.query.partition) t (replies_of c r) (read_needs c r)
waits_received true c r t test none h = inl (ltb-true _ _ test, sym (same_replied c r t h))
waits_received false c r t test none h =
    let high = ltb-false (replied_of (replicas_of c r.query.partition) t) (read_needs c r) test in
    let same = same_replied c r t h in
    inr (
      high,
      (
        r.merged,
        (merge_as (replicas_of c r.query.partition) r.replies t.replies r.merged h.firsts h.merge.0, h.merge.1),
        same_tests (replicas_of c r.query.partition) (is_in (heard_by r)) (λ k. has_merge r.merged (first_reply t.replies k) (is_in t.acks k)) (λ j at.
            let low = h.waits none (replica_needs c r.level r.query.partition j at) in
            absurd (omega (arith, high, same, low))),
      ),
    )

received_by : (o : Option (List ℕ)) (c : Setting) (r : OpenRead) (t : ReadTold) → r.mending ≡ o → IsTold c r t → IsReceived (replicas_of c r.query.partition) t (received_in c r o) (read_needs c r)
received_by None c r t is h = waits_received (nat_lt (replied_of (replicas_of c r.query.partition) t) (read_needs c r)) c r t refl is h
received_by (Some ks) c r t is h =
    let full = (h.mends ks is).full in
    let same = same_replied c r t h in
    inr (omega (arith, full, same), (r.merged, (merge_as (replicas_of c r.query.partition) r.replies t.replies r.merged h.firsts h.merge.0, h.merge.1), counts_merged c r t ks is h))

pub is_received : (c : Setting) (r : OpenRead) (t : ReadTold) → IsTold c r t → IsReceived (replicas_of c r.query.partition) t (received_of c r) (read_needs c r)
is_received c r t h = received_by r.mending c r t refl h

other_found : (merged : List Held) (o : Option (List Held)) → is_other merged o ≡ true → is_found o ≡ true
other_found merged None h = h
other_found merged (Some content) h = refl

low_by : (o : Option (List ℕ)) (c : Setting) (r : OpenRead) (t : ReadTold) → r.mending ≡ o → IsTold c r t → 1 ≤ read_needs c r → received_in c r o < read_needs c r
low_by None c r t is h some = h.waits is some
low_by (Some ks) c r t is h some =
    let m = h.mends ks is in
    let replicas = replicas_of c r.query.partition in
    let k = m.some.0 in
    let there = m.within k m.some.1 in
    let waited : is_in ks k ≡ true = is_in_same ks k m.some.1 in
    let differs_there = (and_parts (differs r k) (not (is_in t.acks k)) (sym (m.left k there) ∙ waited)).0 in
    let heard : is_in (heard_by r) k ≡ true = heard_first r.replies k ∙ other_found r.merged (first_reply r.replies k) (sym (differs_first r.merged r.replies k h.once) ∙ differs_there) in
    let test = λ (j : ℕ). in_filter (λ k. not (is_in ks k)) (heard_by r) j in
    let less : received_in c r (Some ks) < replies_of c r = fewer replicas (is_in (filter (λ k. not (is_in ks k)) (heard_by r))) (is_in (heard_by r)) (λ j at is. (and_parts (not (is_in ks j)) (is_in (heard_by r) j) (sym (test j) ∙ is)).1) k there
    (test k ∙ ap (λ (b : Bool). not b && is_in (heard_by r) k) waited) heard in
    let full = m.full in
    omega (arith, less, full)

pub received_low : (c : Setting) (r : OpenRead) (t : ReadTold) → IsTold c r t → 1 ≤ read_needs c r → received_of c r < read_needs c r
received_low c r t h some = low_by r.mending c r t refl h some

pub some_replied : (c : Setting) (r : OpenRead) (t : ReadTold) → IsTold c r t → nat_lt 0 (replies_of c r) ≡ nat_lt 0 (replied_of (replicas_of c r.query.partition) t)
some_replied c r t h = ap (λ (n : ℕ). nat_lt 0 n) (sym (same_replied c r t h))
