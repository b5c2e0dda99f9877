-- Of each open request it is known what was asked, and which replicas were heard of.
use Rattle.std.proofs.Common.{◌≡◌, ◌≢◌, ℕ, inl, inr, ◌⊎◌, ◌<◌, Bool, true, false, Option, Some, None, List, [], ◌∷◌, ◌++◌, refl, sym, ap, subst, ◌∙◌, arith}
use Rattle.std.specs.Prelude.{◌||◌, ◌&&◌, not, if◌then◌else◌, nat_lt, MatchBool}
use Rattle.std.specs.Map.{set_value, remove_entry}
use Rattle.std.specs.BTreeMap.{is_at, insert_entry}
use Rattle.std.proofs.lemmas.Bool.{and_parts, ltb-true, not-false}
use Rattle.cs_base.specs.declared.ids.ReqId.{ReqId}
use Rattle.cs_base.specs.Requests.{request_cmp, is_request}
use Rattle.changes.specs.declared.DraftMutation.{DraftMutation}
use Rattle.changes.specs.declared.Query.{Query}
use Rattle.changes.specs.Drafts.{mutation_of}
use Rattle.changes.specs.declared.Mutation.{Mutation}
use Rattle.statement_plan.specs.declared.plan.Columns.{Columns}
use Rattle.peer_messages.specs.declared.event.Ask.{Ask}
use Rattle.peer_messages.specs.declared.event.Plan.{Plan}
use Rattle.peer_messages.specs.declared.event.Plan.TheVariants as plan
use Rattle.peer_messages.specs.declared.message.Body.{Body}
use Rattle.peer_messages.specs.declared.message.Body.TheVariants.{Write, WriteAck, Read, ReadReply, Mend, MendAck, Hint, HintAck}
use Rattle.peer_messages.specs.declared.chronicle.Invalid.TheVariants as reason
use Rattle.peer_messages.specs.declared.chronicle.Refusal.{Refusal}
use Rattle.peer_messages.specs.declared.chronicle.Refusal.TheVariants.{Invalid}
use Rattle.peer_messages.specs.declared.outcome.Move.{Move}
use Rattle.peer_messages.specs.declared.setting.Setting.{Setting}
use Rattle.peer_messages.specs.Settings.{replicas_of, HasFactors}
use Rattle.node_steps.specs.State.{NodeState, OpenWrite, OpenRead}
use Rattle.node_steps.specs.Effects.{Effects, nothing, open_at, after_move, Takes}
use Rattle.node_steps.specs.Fitting.{is_table, mutation_fits, write_fits, query_fits}
use Rattle.node_steps.specs.Hints.{with_sent, is_last, hint_done}
use Rattle.node_steps.specs.Replicas.{Asker}
use Rattle.node_steps.specs.Writes.{acks_of, write_needs, is_enough, heard_write, answered_write, started_write, HearsAck}
use Rattle.node_steps.specs.Reads.{read_needs, started_read, HearsReply, HearsMendAck}
use Rattle.node_steps.specs.Requests.{refusal_of, hinted_at, BeginsOrRefuses}
use Rattle.node_steps.specs.Acts.{Act, Rises, Hears, Asks, Marks, DeadlineComes, HintExpires, Incoming, Does, HearsBody, Ends, EndsRead, mark_state, request_at, is_old, asker_of, TakesChanges}
use Rattle.cluster_runs.proofs.Submissions.{same_request, itself}
use Rattle.answer_causes.specs.Numbers.{WritesTo, is_ack, asked_then, heard_then, nothing_told, ReadTold, read_told_by, read_told_then}
use Rattle.answer_causes.proofs.Entries.{Apart, same_or_other, remove_other, remove_same, set_other, set_same, insert_other, insert_same}
use Rattle.answer_causes.proofs.Turns.{Found, IsHere, IsNeat, IsAsk}
use Rattle.answer_causes.proofs.Reading.{Told, IsTold, ReadIs, ReadWaits, reply_waits, ack_waits, first_told}
use Rattle.answer_causes.proofs.Counts.{SameIn, needs_some, same_push, none_heard, is_false}

-- ---- what is known of an open request

pub record WriteIs (c : Setting) (w : OpenWrite) (asked : Option Ask) (told : List ℕ) : Type 0 where
  pub ask : Ask
  pub was_asked : asked ≡ Some ask
  pub for : WritesTo ask.plan w.mutation.partition
  pub level : ask.level ≡ w.level
  pub heard : SameIn (replicas_of c w.mutation.partition) w.heard told
  pub less : w.answered ≡ false → HasFactors c → acks_of c w < write_needs c w

abbrev pub WritesAre : Setting → List (ReqId × OpenWrite) → (ReqId → Option Ask) → (ReqId → List ℕ) → Type 0
WritesAre c xs asked told = (id : ReqId) (w : OpenWrite) → open_at xs id ≡ Some w → WriteIs c w (asked id) (told id)

abbrev pub ReadsAre : Setting → List (ReqId × OpenRead) → (ReqId → Option Ask) → (ReqId → Told) → Type 0
ReadsAre c xs asked told = (id : ReqId) (r : OpenRead) → open_at xs id ≡ Some r → ReadIs c r (asked id) (told id)

pub record Counted (c : Setting) (s : NodeState) (asked : ReqId → Option Ask) (acks : ReqId → List ℕ) (replies : ReqId → Told) : Type 0 where
  pub writes : WritesAre c s.writes asked acks
  pub reads : ReadsAre c s.reads asked replies

pub write_as : (c : Setting) (w : OpenWrite) (a b : Option Ask) (xs ys : List ℕ) → b ≡ a → ys ≡ xs → WriteIs c w a xs → WriteIs c w b ys
write_as c w a b xs ys is same h = subst (λ (x : Option Ask). WriteIs c w x ys) (sym is) (subst (λ (zs : List ℕ). WriteIs c w a zs) (sym same) h)

pub read_as : (c : Setting) (r : OpenRead) (a b : Option Ask) (xs ys : Told) → b ≡ a → ((replicas : List ℕ) (n : ℕ) → ys replicas n ≡ xs replicas n) → ReadIs c r a xs → ReadIs c r b ys
read_as c r a b xs ys is same h = record {
  ask = h.ask;
  columns = h.columns;
  was_asked = is ∙ h.was_asked;
  for = h.for;
  level = h.level;
  some = h.some;
  is_told = subst (λ (t : ReadTold). IsTold c r t) (sym (same (replicas_of c r.query.partition) (read_needs c r))) h.is_told;
}

none_some : {X : Type 0} (x : X) → None ≡ Some x → ⊥
none_some {X} x e = cc

some_one : {X : Type 0} {x y : X} → Some x ≡ Some y → x ≡ y
some_one e = cc

-- ids and their test
not_request : (a b : ReqId) → b ≢ a → is_request a b ≡ false
not_request a b other = is_false (is_request a b) (λ is. other (sym (same_request a b is)))

-- ---- lists that stay, lose one, or have one set

writes_stay : (c : Setting) (xs xs' : List (ReqId × OpenWrite)) (asked : ReqId → Option Ask) (told : ReqId → List ℕ) → xs' ≡ xs → WritesAre c xs asked told → WritesAre c xs' asked told
writes_stay c xs xs' asked told is h id w found = h id w (ap (λ (ys : List (ReqId × OpenWrite)). open_at ys id) (sym is) ∙ found)

reads_stay : (c : Setting) (xs xs' : List (ReqId × OpenRead)) (asked : ReqId → Option Ask) (told : ReqId → Told) → xs' ≡ xs → ReadsAre c xs asked told → ReadsAre c xs' asked told
reads_stay c xs xs' asked told is h id r found = h id r (ap (λ (ys : List (ReqId × OpenRead)). open_at ys id) (sym is) ∙ found)

-- what is found behind a removal was there
found_left : {A : Type 0} (xs xs' : List (ReqId × A)) (at id : ReqId) (a : A) → Apart xs → xs' ≡ remove_entry (is_at (request_cmp at)) xs → open_at xs' id ≡ Some a → (id ≢ at) × (open_at xs id ≡ Some a)
found_left {A} xs xs' at id a apart is found = elim (same_or_other at id) [
  | inl same ↦
      absurd (none_some a (sym (ap (λ (ys : List (ReqId × A)). open_at ys id) is ∙ subst (λ (q : ReqId). open_at (remove_entry (is_at (request_cmp at)) xs) q ≡ None) (sym same) (remove_same xs at apart)) ∙ found))
  | inr other ↦ (other, sym (ap (λ (ys : List (ReqId × A)). open_at ys id) is ∙ remove_other xs at id other) ∙ found)
]

-- and behind a change at one id that one, or one that was there
found_set : {A : Type 0} (xs xs' : List (ReqId × A)) (at id : ReqId) (a b new : A) → open_at xs at ≡ Some b → xs' ≡ set_value (is_at (request_cmp at)) xs new → open_at xs' id ≡ Some a → ((id ≡ at) × (a ≡ new)) ⊎ ((id ≢ at) × (open_at xs id ≡ Some a))
found_set {A} xs xs' at id a b new there is found = elim (same_or_other at id) [
  | inl same ↦ inl (same, some_one (sym found ∙ ap (λ (ys : List (ReqId × A)). open_at ys id) is ∙ subst (λ (q : ReqId). open_at (set_value (is_at (request_cmp at)) xs new) q ≡ Some new) (sym same) (set_same xs at new b there)))
  | inr other ↦ inr (other, sym (ap (λ (ys : List (ReqId × A)). open_at ys id) is ∙ set_other xs at new id other) ∙ found)
]

found_inserted : {A : Type 0} (xs xs' : List (ReqId × A)) (at id : ReqId) (a new : A) → xs' ≡ insert_entry request_cmp xs at new → open_at xs' id ≡ Some a → ((id ≡ at) × (a ≡ new)) ⊎ ((id ≢ at) × (open_at xs id ≡ Some a))
found_inserted {A} xs xs' at id a new is found = elim (same_or_other at id) [
  | inl same ↦ inl (same, some_one (sym found ∙ ap (λ (ys : List (ReqId × A)). open_at ys id) is ∙ subst (λ (q : ReqId). open_at (insert_entry request_cmp xs at new) q ≡ Some new) (sym same) (insert_same xs at new)))
  | inr other ↦ inr (other, sym (ap (λ (ys : List (ReqId × A)). open_at ys id) is ∙ insert_other xs at new id other) ∙ found)
]

-- ---- an acknowledgement

abbrev more_told : ReqId → ℕ → (ReqId → List ℕ) → ReqId → List ℕ
more_told at from told id = if is_request at id && true then told id ++ from ∷ [] else told id

told_other : (at id : ReqId) (from : ℕ) (told : ReqId → List ℕ) → id ≢ at → more_told at from told id ≡ told id
told_other at id from told other = ap (λ (b : Bool). if b && true then told id ++ from ∷ [] else told id) (not_request at id other)

told_same : (at id : ReqId) (from : ℕ) (told : ReqId → List ℕ) → id ≡ at → more_told at from told id ≡ told id ++ from ∷ []
told_same at id from told same = ap (λ (b : Bool). if b && true then told id ++ from ∷ [] else told id) (ap (λ (q : ReqId). is_request at q) same ∙ itself at)

-- a write that has heard one more
still_waits : (a e : Bool) → (a || e) ≡ false → e ≡ false
still_waits true e h = cc
still_waits false e h = h

ack_write : (c : Setting) (from : ℕ) (w : OpenWrite) (asked : Option Ask) (told : List ℕ) → WriteIs c w asked told → WriteIs c (answered_write c (heard_write c from w)) asked (told ++ from ∷ [])
ack_write c from w asked told h =
    let v = heard_write c from w in
    record {
      ask = h.ask;
      was_asked = h.was_asked;
      for = h.for;
      level = h.level;
      heard = same_push (replicas_of c w.mutation.partition) w.heard told from h.heard;
      less = λ waits factors. ltb-true (acks_of c v) (write_needs c v) (not-false (nat_lt (acks_of c v) (write_needs c v)) (still_waits w.answered (is_enough c v) waits));
    }

moved_writes : (c : Setting) (at : ReqId) (from : ℕ) (xs xs' : List (ReqId × OpenWrite)) (w w' : OpenWrite) (ended : Bool) (asked : ReqId → Option Ask) (told : ReqId → List ℕ) → Apart xs → open_at xs at ≡ Some w → xs' ≡ after_move ended at w' xs
    → WriteIs c w' (asked at) (told at ++ from ∷ []) → WritesAre c xs asked told → WritesAre c xs' asked (more_told at from told)
moved_writes c at from xs xs' w w' true asked told apart there is new h id x found =
    let old = found_left xs xs' at id x apart is found in
    write_as c x (asked id) (asked id) (told id) _ refl (told_other at id from told old.0) (h id x old.1)
moved_writes c at from xs xs' w w' false asked told apart there is new h id x found = elim (found_set xs xs' at id x w w' there is found) [
  | inl (same, is_new) ↦
      subst (λ (y : OpenWrite). WriteIs c y (asked id) (more_told at from told id)) (sym is_new)
      (write_as c w' (asked id) (asked id) (told id ++ from ∷ []) _ refl (told_same at id from told same) (subst (λ (q : ReqId). WriteIs c w' (asked q) (told q ++ from ∷ [])) (sym same) new))
  | inr (other, old) ↦ write_as c x (asked id) (asked id) (told id) _ refl (told_other at id from told other) (h id x old)
]

acked_writes : (c : Setting) (at : ReqId) (from : ℕ) (xs xs' : List (ReqId × OpenWrite)) (found : Option OpenWrite) (turn : Move) (asked : ReqId → Option Ask) (told : ReqId → List ℕ) → Apart xs → open_at xs at ≡ found → Takes (HearsAck c at from) at xs found turn xs'
    → WritesAre c xs asked told → WritesAre c xs' asked (more_told at from told)
acked_writes c at from xs xs' None turn asked told apart there h before id w found =
    let old : open_at xs id ≡ Some w = ap (λ (ys : List (ReqId × OpenWrite)). open_at ys id) (sym h.1) ∙ found in
    let other : id ≢ at = λ same. none_some w (sym there ∙ subst (λ (q : ReqId). open_at xs q ≡ Some w) same old) in
    write_as c w (asked id) (asked id) (told id) _ refl (told_other at id from told other) (before id w old)
acked_writes c at from xs xs' (Some v) turn asked told apart there (w', (is, same), left) before id w found =
    moved_writes c at from xs xs' v w' turn.ended asked told apart there left (subst (λ (x : OpenWrite). WriteIs c x (asked at) (told at ++ from ∷ [])) (sym same) (ack_write c from v (asked at) (told at) (before at v there))) before id w found

-- ---- what is told of a read

-- by a body that came
abbrev told_more : ReqId → ℕ → Body → (ReqId → Told) → ReqId → Told
told_more at from b told id replicas n = if is_request at id && true then read_told_by replicas n from b (told id replicas n) else told id replicas n

more_other : (at id : ReqId) (from : ℕ) (b : Body) (told : ReqId → Told) (replicas : List ℕ) (n : ℕ) → id ≢ at → told_more at from b told id replicas n ≡ told id replicas n
more_other at id from b told replicas n other = ap (λ (is : Bool). if is && true then read_told_by replicas n from b (told id replicas n) else told id replicas n) (not_request at id other)

more_same : (at id : ReqId) (from : ℕ) (b : Body) (told : ReqId → Told) (replicas : List ℕ) (n : ℕ) → id ≡ at → told_more at from b told id replicas n ≡ read_told_by replicas n from b (told id replicas n)
more_same at id from b told replicas n same = ap (λ (is : Bool). if is && true then read_told_by replicas n from b (told id replicas n) else told id replicas n) (ap (λ (q : ReqId). is_request at q) same ∙ itself at)

moved_reads : (c : Setting) (at : ReqId) (from : ℕ) (b : Body) (xs xs' : List (ReqId × OpenRead)) (r r' : OpenRead) (turn : Move) (asked : ReqId → Option Ask) (told : ReqId → Told) → Apart xs → open_at xs at ≡ Some r → xs' ≡ after_move turn.ended at r' xs
    → ReadWaits c r' turn (asked at) (λ replicas n. read_told_by replicas n from b (told at replicas n)) → ReadsAre c xs asked told → ReadsAre c xs' asked (told_more at from b told)
moved_reads c at from b xs xs' r r' turn asked told apart there is (inl ended) h id x found =
    let old = found_left xs xs' at id x apart (is ∙ ap (λ (b : Bool). after_move b at r' xs) ended) found in
    read_as c x (asked id) (asked id) (told id) _ refl (λ replicas n. more_other at id from b told replicas n old.0) (h id x old.1)
moved_reads c at from b xs xs' r r' turn asked told apart there is (inr (goes, new)) h id x found = elim (found_set xs xs' at id x r r' there (is ∙ ap (λ (b : Bool). after_move b at r' xs) goes) found) [
  | inl (same, is_new) ↦
      subst (λ (y : OpenRead). ReadIs c y (asked id) (told_more at from b told id)) (sym is_new)
      (read_as c r' (asked id) (asked id) (λ replicas n. read_told_by replicas n from b (told id replicas n)) _ refl (λ replicas n. more_same at id from b told replicas n same)
      (subst (λ (q : ReqId). ReadIs c r' (asked q) (λ replicas n. read_told_by replicas n from b (told q replicas n))) (sym same) new))
  | inr (other, old) ↦ read_as c x (asked id) (asked id) (told id) _ refl (λ replicas n. more_other at id from b told replicas n other) (h id x old)
]

taken_reads : (c : Setting) (Goes : OpenRead → Move → OpenRead → Type 0) (at : ReqId) (from : ℕ) (b : Body) (xs xs' : List (ReqId × OpenRead)) (found : Option OpenRead) (turn : Move) (asked : ReqId → Option Ask) (told : ReqId → Told)
    → ((r r' : OpenRead) → ReadIs c r (asked at) (told at) → Goes r turn r' → ReadWaits c r' turn (asked at) (λ replicas n. read_told_by replicas n from b (told at replicas n))) → Apart xs → open_at xs at ≡ found → Takes Goes at xs found turn xs'
    → ReadsAre c xs asked told → ReadsAre c xs' asked (told_more at from b told)
taken_reads c Goes at from b xs xs' None turn asked told waits apart there h before id r found =
    let old : open_at xs id ≡ Some r = ap (λ (ys : List (ReqId × OpenRead)). open_at ys id) (sym h.1) ∙ found in
    let other : id ≢ at = λ same. none_some r (sym there ∙ subst (λ (q : ReqId). open_at xs q ≡ Some r) same old) in
    read_as c r (asked id) (asked id) (told id) _ refl (λ replicas n. more_other at id from b told replicas n other) (before id r old)
taken_reads c Goes at from b xs xs' (Some v) turn asked told waits apart there (r', step, left) before id r found =
    moved_reads c at from b xs xs' v r' turn asked told apart there left (waits v r' (before at v there) step) before id r found

-- ---- moves

abbrev acked_by : Body → ReqId → ℕ → (ReqId → List ℕ) → ReqId → List ℕ
acked_by b at from told id = if is_ack b && (is_request at id && true) then told id ++ from ∷ [] else told id

counted_stay : (c : Setting) (s s' r : NodeState) (asked : ReqId → Option Ask) (acks : ReqId → List ℕ) (replies : ReqId → Told) → s' ≡ r → r.writes ≡ s.writes → r.reads ≡ s.reads → Counted c s asked acks replies → Counted c s' asked acks replies
counted_stay c s s' r asked acks replies is writes reads h = record {
  writes = writes_stay c s.writes s'.writes asked acks (ap (λ (x : NodeState). x.writes) is ∙ writes) h.writes;
  reads = reads_stay c s.reads s'.reads asked replies (ap (λ (x : NodeState). x.reads) is ∙ reads) h.reads;
}

-- a body that tells nothing of a read
abbrev TellsNothing : Body → ℕ → Type 0
TellsNothing b from = (replicas : List ℕ) (n : ℕ) (t : ReadTold) → read_told_by replicas n from b t ≡ t

same_either : {A : Type 0} (b : Bool) (x y : A) → x ≡ y → (if b then x else y) ≡ y
same_either {A} true x y is = is
same_either {A} false x y is = refl

not_told : (c : Setting) (s : NodeState) (at : ReqId) (from : ℕ) (b : Body) (asked : ReqId → Option Ask) (acks : ReqId → List ℕ) (replies : ReqId → Told) → TellsNothing b from → Counted c s asked acks replies → Counted c s asked acks (told_more at from b replies)
not_told c s at from b asked acks replies none h = record {
  writes = h.writes;
  reads = λ id r found. read_as c r (asked id) (asked id) (replies id) _ refl (λ replicas n. same_either (is_request at id && true) _ (replies id replicas n) (none replicas n (replies id replicas n))) (h.reads id r found);
}

counted_unmoved : (c : Setting) (a : Asker) (b : Body) (s s' r : NodeState) (asked : ReqId → Option Ask) (acks : ReqId → List ℕ) (replies : ReqId → Told) → TellsNothing b a.from → s' ≡ r → r.writes ≡ s.writes → r.reads ≡ s.reads → Counted c s asked acks replies
    → Counted c s' asked acks (told_more a.request a.from b replies)
counted_unmoved c a b s s' r asked acks replies none is writes reads h = not_told c s' a.request a.from b asked acks replies none (counted_stay c s s' r asked acks replies is writes reads h)

acked_lists : (c : Setting) (b : Bool) (s : NodeState) (peer number : ℕ) → let r : NodeState = if b then with_sent c (hint_done s peer number) peer else hint_done s peer number in (r.writes ≡ s.writes) × (r.reads ≡ s.reads)
acked_lists c true s peer number = (refl, refl)
acked_lists c false s peer number = (refl, refl)

merge_counted : (c : Setting) (a : Asker) (m : Mutation) (fits : Bool) (s : NodeState) (o : Effects) (s' : NodeState) (asked : ReqId → Option Ask) (acks : ReqId → List ℕ) (replies : ReqId → Told)
    → MatchBool fits (TakesChanges a m.partition m.changes MendAck s o s') ((o ≡ nothing) × (s' ≡ s)) → Counted c s asked acks replies → Counted c s' asked acks (told_more a.request a.from (Mend m) replies)
merge_counted c a m true s o s' asked acks replies h x = counted_unmoved c a (Mend m) s s' _ asked acks replies (λ replicas n t. refl) h.3 refl refl x
merge_counted c a m false s o s' asked acks replies h x = counted_unmoved c a (Mend m) s s' s asked acks replies (λ replicas n t. refl) h.1 refl refl x

body_counted : (c : Setting) (k : ℕ) (a : Asker) (b : Body) (s : NodeState) (o : Effects) (s' : NodeState) (asked : ReqId → Option Ask) (acks : ReqId → List ℕ) (replies : ReqId → Told) → IsNeat s → HearsBody c k a b s o s' → Counted c s asked acks replies
    → Counted c s' asked (acked_by b a.request a.from acks) (told_more a.request a.from b replies)
body_counted c k a (Write m) s o s' asked acks replies neat h x = counted_unmoved c a (Write m) s s' _ asked acks replies (λ replicas n t. refl) h.3 refl refl x
body_counted c k a WriteAck s o s' asked acks replies neat (turn, moves, is, same) x = not_told c s' a.request a.from WriteAck asked _ replies (λ replicas n t. refl) (record {
  writes = acked_writes c a.request a.from s.writes s'.writes (open_at s.writes a.request) turn asked acks neat.writes refl moves x.writes;
  reads = reads_stay c s.reads s'.reads asked replies (ap (λ (y : NodeState). y.reads) same) x.reads;
})
body_counted c k a (Read q) s o s' asked acks replies neat h x = counted_unmoved c a (Read q) s s' _ asked acks replies (λ replicas n t. refl) h.3 refl refl x
body_counted c k a (ReadReply content) s o s' asked acks replies neat (turn, moves, is, same) x = record {
  writes = writes_stay c s.writes s'.writes asked acks (ap (λ (y : NodeState). y.writes) same) x.writes;
  reads = taken_reads c (HearsReply c a.request a.from content) a.request a.from (ReadReply content) s.reads s'.reads (open_at s.reads a.request) turn asked replies
      (λ r r' known step. reply_waits c a.request a.from content r r' turn (asked a.request) (replies a.request) known step) neat.reads refl moves x.reads;
}
body_counted c k a (Mend m) s o s' asked acks replies neat h x = merge_counted c a m (write_fits c m) s o s' asked acks replies h x
body_counted c k a MendAck s o s' asked acks replies neat (turn, moves, is, same) x = record {
  writes = writes_stay c s.writes s'.writes asked acks (ap (λ (y : NodeState). y.writes) same) x.writes;
  reads = taken_reads c (HearsMendAck c a.request a.from) a.request a.from MendAck s.reads s'.reads (open_at s.reads a.request) turn asked replies
      (λ r r' known step. ack_waits c a.request a.from r r' turn (asked a.request) (replies a.request) known step) neat.reads refl moves x.reads;
}
body_counted c k a (Hint number m) s o s' asked acks replies neat h x = counted_unmoved c a (Hint number m) s s' _ asked acks replies (λ replicas n t. refl) h.3 refl refl x
body_counted c k a (HintAck number) s o s' asked acks replies neat h x =
    let lists = acked_lists c (is_last s a.from number) s a.from number in
    counted_unmoved c a (HintAck number) s s' _ asked acks replies (λ replicas n t. refl) h.1 lists.0 lists.1 x

none_by : {A : Type 0} (b : Bool) (x y : A) → (if b && false then x else y) ≡ y
none_by {A} true x y = refl
none_by {A} false x y = refl

no_more : (counts : Bool) (at id : ReqId) (from : ℕ) (told : List ℕ) → (if counts && (is_request at id && false) then told ++ from ∷ [] else told) ≡ told
no_more true at id from told = none_by (is_request at id) _ told
no_more false at id from told = refl

heard_counted : (c : Setting) (k : ℕ) (m : Incoming) (old : Bool) (s : NodeState) (o : Effects) (s' : NodeState) (asked : ReqId → Option Ask) (acks : ReqId → List ℕ) (replies : ReqId → Told) → IsNeat s
    → MatchBool old ((o ≡ nothing) × (s' ≡ s)) (HearsBody c k (asker_of m) m.body s o s') → Counted c s asked acks replies
    → Counted c s' asked (λ id. if is_ack m.body && (is_request m.request id && not old) then acks id ++ m.from ∷ [] else acks id)
    (λ id replicas n. if is_request m.request id && not old then read_told_by replicas n m.from m.body (replies id replicas n) else replies id replicas n)
heard_counted c k m true s o s' asked acks replies neat (is, same) x = record {
  writes = λ id w found. write_as c w (asked id) (asked id) (acks id) _ refl (no_more (is_ack m.body) m.request id m.from (acks id)) (x.writes id w (ap (λ (y : NodeState). open_at y.writes id) (sym same) ∙ found));
  reads = λ id r found. read_as c r (asked id) (asked id) (replies id) _ refl (λ replicas n. none_by (is_request m.request id) _ (replies id replicas n)) (x.reads id r (ap (λ (y : NodeState). open_at y.reads id) (sym same) ∙ found));
}
heard_counted c k m false s o s' asked acks replies neat h x = body_counted c k (asker_of m) m.body s o s' asked acks replies neat h x

-- ---- a request

abbrev asked_now : ReqId → Ask → (ReqId → Option Ask) → ReqId → Option Ask
asked_now at ask asked id = if is_request at id then Some ask else asked id

abbrev told_now : ReqId → (ReqId → List ℕ) → ReqId → List ℕ
told_now at told id = if is_request at id then [] else told id

asked_other : (at id : ReqId) (ask : Ask) (asked : ReqId → Option Ask) → id ≢ at → asked_now at ask asked id ≡ asked id
asked_other at id ask asked other = ap (λ (b : Bool). if b then Some ask else asked id) (not_request at id other)

asked_same : (at id : ReqId) (ask : Ask) (asked : ReqId → Option Ask) → id ≡ at → asked_now at ask asked id ≡ Some ask
asked_same at id ask asked same = ap (λ (b : Bool). if b then Some ask else asked id) (ap (λ (q : ReqId). is_request at q) same ∙ itself at)

abbrev read_now : ReqId → (ReqId → Told) → ReqId → Told
read_now at told id replicas n = if is_request at id then nothing_told else told id replicas n

read_away : (at id : ReqId) (told : ReqId → Told) (replicas : List ℕ) (n : ℕ) → id ≢ at → read_now at told id replicas n ≡ told id replicas n
read_away at id told replicas n other = ap (λ (b : Bool). if b then nothing_told else told id replicas n) (not_request at id other)

read_first : (at id : ReqId) (told : ReqId → Told) (replicas : List ℕ) (n : ℕ) → id ≡ at → read_now at told id replicas n ≡ nothing_told
read_first at id told replicas n same = ap (λ (b : Bool). if b then nothing_told else told id replicas n) (ap (λ (q : ReqId). is_request at q) same ∙ itself at)

told_away : (at id : ReqId) (told : ReqId → List ℕ) → id ≢ at → told_now at told id ≡ told id
told_away at id told other = ap (λ (b : Bool). if b then [] else told id) (not_request at id other)

told_first : (at id : ReqId) (told : ReqId → List ℕ) → id ≡ at → told_now at told id ≡ []
told_first at id told same = ap (λ (b : Bool). if b then [] else told id) (ap (λ (q : ReqId). is_request at q) same ∙ itself at)

some_found : {A : Type 0} (xs : List (ReqId × A)) (id : ReqId) (a : A) → open_at xs id ≡ Some a → Found (open_at xs id)
some_found {A} xs id a is = subst (λ (o : Option A). Found o) (sym is) tt

-- what is open under another id
writes_other : (c : Setting) (s s' : NodeState) (at : ReqId) (ask : Ask) (asked : ReqId → Option Ask) (told : ReqId → List ℕ) → (IsHere s at → ⊥) → s'.writes ≡ s.writes → WritesAre c s.writes asked told → WritesAre c s'.writes (asked_now at ask asked) (told_now at told)
writes_other c s s' at ask asked told new is h id w found =
    let old : open_at s.writes id ≡ Some w = ap (λ (ys : List (ReqId × OpenWrite)). open_at ys id) (sym is) ∙ found in
    let other : id ≢ at = λ same. new (inl (subst (λ (q : ReqId). Found (open_at s.writes q)) same (some_found s.writes id w old))) in
    write_as c w (asked id) _ (told id) _ (asked_other at id ask asked other) (told_away at id told other) (h id w old)

reads_other : (c : Setting) (s s' : NodeState) (at : ReqId) (ask : Ask) (asked : ReqId → Option Ask) (told : ReqId → Told) → (IsHere s at → ⊥) → s'.reads ≡ s.reads → ReadsAre c s.reads asked told → ReadsAre c s'.reads (asked_now at ask asked) (read_now at told)
reads_other c s s' at ask asked told new is h id r found =
    let old : open_at s.reads id ≡ Some r = ap (λ (ys : List (ReqId × OpenRead)). open_at ys id) (sym is) ∙ found in
    let other : id ≢ at = λ same. new (inr (subst (λ (q : ReqId). Found (open_at s.reads q)) same (some_found s.reads id r old))) in
    read_as c r (asked id) _ (told id) _ (asked_other at id ask asked other) (λ replicas n. read_away at id told replicas n other) (h id r old)

first_write : (c : Setting) (at : ReqId) (ask : Ask) (d : DraftMutation) (hinted : List ℕ) → ask.plan ≡ plan.Write d → is_table c d.partition ≡ true → WriteIs c (started_write at ask.level d hinted) (Some ask) []
first_write c at ask d hinted is table = record {
  ask = ask;
  was_asked = refl;
  for = subst (λ (p : Plan). WritesTo p d.partition) (sym is) refl;
  level = refl;
  heard = λ j h. refl;
  less = λ waits factors. let none = none_heard (replicas_of c d.partition) in let some = needs_some c ask.level d.partition factors table in omega (arith, none, some);
}

first_read : (c : Setting) (ask : Ask) (q : Query) (columns : Columns) → ask.plan ≡ plan.Read q columns → is_table c q.partition ≡ true → ReadIs c (started_read ask.level q) (Some ask) (λ replicas n. nothing_told)
first_read c ask q columns is table = record {
  ask = ask;
  columns = columns;
  was_asked = refl;
  for = is;
  level = refl;
  some = λ factors. needs_some c ask.level q.partition factors table;
  is_told = first_told c ask.level q;
}

not_refused : (b : Bool) (rest : Option Refusal) → (if not b then Some (Invalid reason.UnknownTable) else rest) ≡ None → b ≡ true
not_refused true rest h = refl
not_refused false rest h = cc

asks_counted : (c : Setting) (at : ReqId) (ask : Ask) (p : Plan) (r : Option Refusal) (s : NodeState) (o : Effects) (s' : NodeState) (asked : ReqId → Option Ask) (acks : ReqId → List ℕ) (replies : ReqId → Told) → (IsHere s at → ⊥) → ask.plan ≡ p → refusal_of c s at p ask.level ≡ r
    → BeginsOrRefuses c at p ask.level r s o s' → Counted c s asked acks replies → Counted c s' (asked_now at ask asked) (told_now at acks) (read_now at replies)
asks_counted c at ask (plan.Write d) None s o s' asked acks replies new is none h x =
    let hinted = hinted_at c s d in
    let m = mutation_of at d in
    let table = (and_parts (is_table c d.partition) (mutation_fits m) (not_refused (write_fits c m) _ none)).0 in
    record {
      writes = λ id w found. elim (found_inserted s.writes s'.writes at id w (started_write at ask.level d hinted) (ap (λ (y : NodeState). y.writes) h.1) found) [
        | inl (same, is_new) ↦
            subst (λ (y : OpenWrite). WriteIs c y (asked_now at ask asked id) (told_now at acks id)) (sym is_new)
            (write_as c (started_write at ask.level d hinted) (Some ask) _ [] _ (asked_same at id ask asked same) (told_first at id acks same) (first_write c at ask d hinted is table))
        | inr (other, old) ↦ write_as c w (asked id) _ (acks id) _ (asked_other at id ask asked other) (told_away at id acks other) (x.writes id w old)
      ];
      reads = reads_other c s s' at ask asked replies new (ap (λ (y : NodeState). y.reads) h.1) x.reads;
    }
asks_counted c at ask (plan.Read q columns) None s o s' asked acks replies new is none h x =
    let table = (and_parts (is_table c q.partition) _ (not_refused (query_fits c q) _ none)).0 in
    record {
      writes = writes_other c s s' at ask asked acks new (ap (λ (y : NodeState). y.writes) h.1) x.writes;
      reads = λ id r found. elim (found_inserted s.reads s'.reads at id r (started_read ask.level q) (ap (λ (y : NodeState). y.reads) h.1) found) [
        | inl (same, is_new) ↦
            subst (λ (y : OpenRead). ReadIs c y (asked_now at ask asked id) (read_now at replies id)) (sym is_new)
            (read_as c (started_read ask.level q) (Some ask) _ (λ replicas n. nothing_told) _ (asked_same at id ask asked same) (λ replicas n. read_first at id replies replicas n same) (first_read c ask q columns is table))
        | inr (other, old) ↦ read_as c r (asked id) _ (replies id) _ (asked_other at id ask asked other) (λ replicas n. read_away at id replies replicas n other) (x.reads id r old)
      ];
    }
asks_counted c at ask (plan.Use keyspace) None s o s' asked acks replies new is none h x = record {
  writes = writes_other c s s' at ask asked acks new (ap (λ (y : NodeState). y.writes) h.1) x.writes;
  reads = reads_other c s s' at ask asked replies new (ap (λ (y : NodeState). y.reads) h.1) x.reads;
}
asks_counted c at ask (plan.Invalid fault) None s o s' asked acks replies new is none h x = absurd h
asks_counted c at ask p (Some y) s o s' asked acks replies new is none h x = record {
  writes = writes_other c s s' at ask asked acks new (ap (λ (y : NodeState). y.writes) h.1) x.writes;
  reads = reads_other c s s' at ask asked replies new (ap (λ (y : NodeState). y.reads) h.1) x.reads;
}

-- ---- a deadline

ends_read_counted : (c : Setting) (at : ReqId) (r : Option OpenRead) (s : NodeState) (o : Effects) (s' : NodeState) (asked : ReqId → Option Ask) (acks : ReqId → List ℕ) (replies : ReqId → Told) → IsNeat s → EndsRead c at r s o s' → Counted c s asked acks replies → Counted c s' asked acks replies
ends_read_counted c at None s o s' asked acks replies neat h x = counted_stay c s s' s asked acks replies h.1 refl refl x
ends_read_counted c at (Some r) s o s' asked acks replies neat h x = record {
  writes = writes_stay c s.writes s'.writes asked acks (ap (λ (y : NodeState). y.writes) h.1) x.writes;
  reads = λ id y found. x.reads id y (found_left s.reads s'.reads at id y neat.reads (ap (λ (z : NodeState). z.reads) h.1) found).1;
}

ends_counted : (c : Setting) (at : ReqId) (w : Option OpenWrite) (s : NodeState) (o : Effects) (s' : NodeState) (asked : ReqId → Option Ask) (acks : ReqId → List ℕ) (replies : ReqId → Told) → IsNeat s → Ends c at w s o s' → Counted c s asked acks replies → Counted c s' asked acks replies
ends_counted c at None s o s' asked acks replies neat h x = ends_read_counted c at (open_at s.reads at) s o s' asked acks replies neat h x
ends_counted c at (Some w) s o s' asked acks replies neat h x = record {
  writes = λ id y found. x.writes id y (found_left s.writes s'.writes at id y neat.writes (ap (λ (z : NodeState). z.writes) h.1) found).1;
  reads = reads_stay c s.reads s'.reads asked replies (ap (λ (y : NodeState). y.reads) h.1) x.reads;
}

marks_counted : (c : Setting) (s s' : NodeState) (peer : ℕ) (up : Bool) (asked : ReqId → Option Ask) (acks : ReqId → List ℕ) (replies : ReqId → Told) → s' ≡ mark_state c s peer up → Counted c s asked acks replies → Counted c s' asked acks replies
marks_counted c s s' peer true asked acks replies is x = counted_stay c s s' _ asked acks replies is refl refl x
marks_counted c s s' peer false asked acks replies is x = counted_stay c s s' _ asked acks replies is refl refl x

pub does_counted : (c : Setting) (k : ℕ) (s : NodeState) (a : Act) (o : Effects) (s' : NodeState) (asked : ReqId → Option Ask) (acks : ReqId → List ℕ) (replies : ReqId → Told) → IsNeat s → (IsAsk a → IsHere s (request_at k s.risen) → ⊥) → Does c k s a o s' → Counted c s asked acks replies
    → Counted c s' (λ id. asked_then id k s.risen a (asked id)) (λ id. heard_then c id k s.risen a (acks id)) (λ id replicas n. read_told_then replicas n c id k s.risen a (replies id replicas n))
does_counted c k s (Rises t) o s' asked acks replies neat new h x = counted_stay c s s' _ asked acks replies h.2 refl refl x
does_counted c k s (Hears m) o s' asked acks replies neat new h x = heard_counted c k m (is_old c s.risen m.born) s o s' asked acks replies neat h x
does_counted c k s (Asks ask) o s' asked acks replies neat new h x =
    asks_counted c (request_at k s.risen) ask ask.plan (refusal_of c s (request_at k s.risen) ask.plan ask.level) s o s' asked acks replies (new (ask, refl)) refl refl h x
does_counted c k s (Marks peer up) o s' asked acks replies neat new h x = marks_counted c s s' peer up asked acks replies h.1 x
does_counted c k s (DeadlineComes id) o s' asked acks replies neat new h x = ends_counted c id (open_at s.writes id) s o s' asked acks replies neat h x
does_counted c k s (HintExpires peer number) o s' asked acks replies neat new h x = counted_stay c s s' _ asked acks replies h.1 refl refl x
