-- What is known of a repair behind each of its moves, by its phase.
use Rattle.std.proofs.Common.{◌≡◌, ◌⊎◌, inl, inr, ℕ, Bool, true, false, Option, Some, None, List, [], ◌∷◌, ◌++◌, map, refl, sym, ap, subst, ◌∙◌, cond, Contains}
use Rattle.std.specs.Prelude.{◌==◌, not, find, MatchBool}
use Rattle.std.specs.List.{list_all}
use Rattle.std.proofs.lemmas.Bool.{and_parts, or_left, or_right, eqb-true, eq-eqb, false≢true}
use Rattle.cs_base.proofs.Members.{contains_nil, contains_here, contains_cases, contains_push, contains_filter, contains_flat, contains_map, contains_from_map}
use Rattle.cs_base.proofs.Quorums.{is_in_contains}
use Rattle.cs_base.specs.declared.ids.ReqId.{ReqId}
use Rattle.cs_base.specs.declared.range.Range.{Range}
use Rattle.cs_base.specs.Quorums.{is_in}
use Rattle.changes.specs.declared.Mutation.{Mutation}
use Rattle.peer_messages.specs.declared.setting.Setting.{Setting}
use Rattle.repair_messages.specs.declared.answer.RepairAnswer.{RepairAnswer}
use Rattle.repair_messages.specs.declared.answer.RepairAnswer.TheVariants.{Repaired, Unmarked, TimedOut}
use Rattle.repair_messages.specs.declared.message.RepairMessage.{RepairMessage}
use Rattle.repair_messages.specs.declared.message.RepairMessage.TheVariants as message
use Rattle.repair_messages.specs.declared.outcome.RepairMove.{RepairMove}
use Rattle.repair_messages.specs.declared.outcome.RepairSend.{RepairSend}
use Rattle.repair_moves.specs.declared.repair.Fetched.{Fetched}
use Rattle.repair_moves.specs.declared.repair.Phase.{Phase}
use Rattle.repair_moves.specs.declared.repair.Phase.TheVariants.{Asking, Fetching, Streaming}
use Rattle.repair_moves.specs.declared.repair.Repair.{Repair}
use Rattle.repair_moves.specs.declared.repair.Snapshot.{Snapshot}
use Rattle.repair_moves.specs.Merges.{fetched_from, IsMergeOfAll, lacked_by, lacked_count, stream_to, streams, receiver}
use Rattle.repair_moves.specs.Ranges.{range_replicas}
use Rattle.repair_moves.specs.Repairs.{idle, send, closing_by, Ignores, Becomes, Closes, with_snapshot, counts, without, Fetches, TakesSnapshot, HearsSnapshot, Streams, Merges, TakesFetched, HearsFetched, TakesAck, HearsAck, Hears}
use Rattle.repair_moves.specs.Snapshots.{snapshot_from, are_all_heard, differing_leaves, first_with_row, told_row, marks}
use Rattle.repair_moves.specs.Stories.{Happening, Asked, Heard, Time, Turn, Ever, BeginsBy, MovesBy, IsStory}
use Rattle.repair_moves.specs.Laws.{IsSnapshot, IsFetched, IsAck, SendsStream, AreSnapshots, AreFetched, HasAll, AreMerged, IsGrounded, RepairedOnceAllHaveIt}

-- ---- nodes

in_list : (ks : List ℕ) (k : ℕ) → Contains ks k → is_in ks k ≡ true
in_list [] k at = absurd (contains_nil k at)
in_list (j ∷ js) k at =
    elim (contains_cases j js k at) [
      | inl e ↦ or_left (j == k) (is_in js k) (eq-eqb j k e)
      | inr rest ↦ or_right (j == k) (is_in js k) (in_list js k rest)
    ]

heard_each : (replicas heard : List ℕ) → are_all_heard replicas heard ≡ true → (k : ℕ) → Contains replicas k → is_in heard k ≡ true
heard_each [] heard h k at = absurd (contains_nil k at)
heard_each (j ∷ js) heard h k at =
    let parts = and_parts (is_in heard j) (list_all (is_in heard) js) h in
    elim (contains_cases j js k at) [
      | inl e ↦ subst (λ (n : ℕ). is_in heard n ≡ true) e parts.0
      | inr rest ↦ heard_each js heard parts.1 k rest
    ]

-- one of them comes from each replica
all_from : {X : Type 0} (from : X → ℕ) (replicas : List ℕ) (xs : List X) → are_all_heard replicas (map from xs) ≡ true → (k : ℕ) → Contains replicas k → (x : X) × Contains xs x × (from x ≡ k)
all_from {X} from replicas xs h k at =
    let there : (x : X) × Contains xs x × (from x ≡ k) = contains_from_map from xs k (is_in_contains (map from xs) k (heard_each replicas (map from xs) h k at)) in there

found_none : (p : ℕ → Bool) (j : ℕ) (js : List ℕ) (b : Bool) → p j ≡ b → cond b (Some j) (find p js) ≡ None → (p j ≡ false) × (find p js ≡ None)
found_none p j js true e none = cc
found_none p j js false e none = (e, none)

find_none : (p : ℕ → Bool) (ks : List ℕ) → find p ks ≡ None → (k : ℕ) → Contains ks k → p k ≡ false
find_none p [] e k at = absurd (contains_nil k at)
find_none p (j ∷ js) e k at =
    let parts = found_none p j js (p j) refl e in
    elim (contains_cases j js k at) [ inl same ↦ sym (ap p same) ∙ parts.0 | inr rest ↦ find_none p js parts.1 k rest ]

-- ---- what is known

-- the replica lacks nothing, or was sent what it lacks and is waited for still, or has taken it
abbrev IsSent : List ℕ → List Mutation → ℕ → List Turn → Type 0
IsSent waiting lacked k turns = ((is_in waiting k ≡ true) × Ever (SendsStream k lacked) turns) ⊎ HasAll lacked k turns

record StreamedKnown (c : Setting) (replicas : List ℕ) (streamed : ℕ) (waiting : List ℕ) (turns : List Turn) : Type 0 where
  fetched : List Fetched
  told : AreFetched replicas fetched turns
  merge : List Mutation
  is_merge : IsMergeOfAll fetched merge
  count : streamed ≡ lacked_count c fetched merge replicas
  sent : (k : ℕ) → Contains replicas k → IsSent waiting (lacked_by c fetched merge k) k turns

abbrev KnownIn : Setting → Repair → List Turn → Phase → Type 0
KnownIn c r turns Asking = Unit {0}
KnownIn c r turns (Fetching leaves fs) = AreSnapshots r.replicas r.snapshots turns × ((f : Fetched) → Contains fs f → Ever (IsFetched f) turns)
KnownIn c r turns (Streaming streamed waiting) = AreSnapshots r.replicas r.snapshots turns × StreamedKnown c r.replicas streamed waiting turns

record Known (c : Setting) (range : Range) (turns : List Turn) (r : Repair) : Type 0 where
  range_is : r.range ≡ range
  replicas_are : r.replicas ≡ range_replicas c range
  each : (s : Snapshot) → Contains r.snapshots s → Ever (IsSnapshot s) turns
  in_phase : KnownIn c r turns r.phase

-- ---- it stays known

snapshots_on : (replicas : List ℕ) (ss : List Snapshot) (t : Turn) (turns : List Turn) → AreSnapshots replicas ss turns → AreSnapshots replicas ss (t ∷ turns)
snapshots_on replicas ss t turns h = record { each = λ s at. inr (h.each s at); all = h.all }

fetched_on : (replicas : List ℕ) (fs : List Fetched) (t : Turn) (turns : List Turn) → AreFetched replicas fs turns → AreFetched replicas fs (t ∷ turns)
fetched_on replicas fs t turns h = record { each = λ f at. inr (h.each f at); all = h.all }

has_on : (lacked : List Mutation) (k : ℕ) (t : Turn) (turns : List Turn) → HasAll lacked k turns → HasAll lacked k (t ∷ turns)
has_on lacked k t turns (inl nothing) = inl nothing
has_on lacked k t turns (inr (sent, taken)) = inr (inr sent, inr taken)

sent_on : (waiting : List ℕ) (lacked : List Mutation) (k : ℕ) (t : Turn) (turns : List Turn) → IsSent waiting lacked k turns → IsSent waiting lacked k (t ∷ turns)
sent_on waiting lacked k t turns (inl (waits, sent)) = inl (waits, inr sent)
sent_on waiting lacked k t turns (inr has) = inr (has_on lacked k t turns has)

streamed_on : (c : Setting) (replicas : List ℕ) (n : ℕ) (waiting : List ℕ) (t : Turn) (turns : List Turn) → StreamedKnown c replicas n waiting turns → StreamedKnown c replicas n waiting (t ∷ turns)
streamed_on c replicas n waiting t turns h = record {
  fetched = h.fetched;
  told = fetched_on replicas h.fetched t turns h.told;
  merge = h.merge;
  is_merge = h.is_merge;
  count = h.count;
  sent = λ k at. sent_on waiting (lacked_by c h.fetched h.merge k) k t turns (h.sent k at);
}

phase_on : (c : Setting) (r : Repair) (t : Turn) (turns : List Turn) (phase : Phase) → KnownIn c r turns phase → KnownIn c r (t ∷ turns) phase
phase_on c r t turns Asking h = h
phase_on c r t turns (Fetching leaves fs) h = (snapshots_on r.replicas r.snapshots t turns h.0, λ f at. inr (h.1 f at))
phase_on c r t turns (Streaming n waiting) h = (snapshots_on r.replicas r.snapshots t turns h.0, streamed_on c r.replicas n waiting t turns h.1)

known_on : (c : Setting) (range : Range) (t : Turn) (turns : List Turn) (r : Repair) → Known c range turns r → Known c range (t ∷ turns) r
known_on c range t turns r h = record { range_is = h.range_is; replicas_are = h.replicas_are; each = λ s at. inr (h.each s at); in_phase = phase_on c r t turns r.phase h.in_phase }

-- ---- what a move makes of it

-- answered as repaired it rests on what the law says; and where it is not answered all is known of it again
abbrev Goes : Setting → Range → Turn → List Turn → Type 0
Goes c range t turns = ((n : ℕ) → t.move.answer ≡ Some (Repaired n) → IsGrounded c range t n turns) × (t.move.answer ≡ None → Known c range turns t.after)

is_told : (x : Option RepairAnswer) (a : RepairAnswer) → x ≡ None → x ≡ Some a → ⊥
is_told x a none some = let e : None ≡ Some a = sym none ∙ some in cc

silent : (c : Setting) (range : Range) (t : Turn) (turns : List Turn) → t.move.answer ≡ None → Known c range turns t.after → Goes c range t turns
silent c range t turns none known = (λ n told. absurd (is_told t.move.answer (Repaired n) none told), λ e. known)

becomes : (c : Setting) (range : Range) (t : Turn) (turns : List Turn) (next : Repair) → Becomes next t.move t.after → Known c range turns next → Goes c range t turns
becomes c range t turns next h known =
    silent c range t turns (ap (λ (m : RepairMove). m.answer) h.0) (subst (λ (r : Repair). Known c range turns r) (sym h.1) known)

-- it ends otherwise
otherwise : (c : Setting) (range : Range) (t : Turn) (turns : List Turn) (a : RepairAnswer) → t.move.answer ≡ Some a → ((n : ℕ) → a ≡ Repaired n → ⊥) → Goes c range t turns
otherwise c range t turns a told never = (
  λ n e. let same : Some a ≡ Some (Repaired n) = sym told ∙ e in absurd (never n cc),
  λ none. absurd (is_told t.move.answer a none told),
)

abbrev Held : Setting → List ℕ → List Snapshot → ℕ → List Turn → Type 0
Held c replicas ss n turns = ((differing_leaves ss ≡ []) × (n ≡ 0)) ⊎ AreMerged c replicas n turns

-- with what it ends on
record Ends (c : Setting) (range : Range) (r : Repair) (n : ℕ) (turns : List Turn) : Type 0 where
  range_is : r.range ≡ range
  replicas_are : r.replicas ≡ range_replicas c range
  told : AreSnapshots r.replicas r.snapshots turns
  held : Held c r.replicas r.snapshots n turns

grounded : (c : Setting) (range : Range) (t : Turn) (turns : List Turn) (r : Repair) (n : ℕ) → Ends c range r n turns → first_with_row r.snapshots r.replicas ≡ None
    → t.move.sends ≡ marks r.range t.time r.snapshots r.replicas → IsGrounded c range t n turns
grounded c range t turns r n h none sends = record {
  snapshots = r.snapshots;
  told = subst (λ (ks : List ℕ). AreSnapshots ks r.snapshots turns) h.replicas_are h.told;
  rowless = subst (λ (ks : List ℕ). (k : ℕ) → Contains ks k → told_row r.snapshots k ≡ false) h.replicas_are (find_none (told_row r.snapshots) r.replicas none);
  held = subst (λ (ks : List ℕ). Held c ks r.snapshots n turns) h.replicas_are h.held;
  marked = sends ∙ ap (λ (x : Range). marks x t.time r.snapshots r.replicas) h.range_is ∙ ap (λ (ks : List ℕ). marks range t.time r.snapshots ks) h.replicas_are;
}

closes_by : (c : Setting) (range : Range) (t : Turn) (turns : List Turn) (r : Repair) (n : ℕ) (first : Option ℕ) → first_with_row r.snapshots r.replicas ≡ first
    → t.move ≡ closing_by t.time r n first → Ends c range r n turns → Goes c range t turns
closes_by c range t turns r n None e move h = (
  λ m told.
      let same : Some (Repaired n) ≡ Some (Repaired m) = sym (ap (λ (x : RepairMove). x.answer) move) ∙ told in
      let count : n ≡ m = cc in
      subst (λ (x : ℕ). IsGrounded c range t x turns) count (grounded c range t turns r n h e (ap (λ (x : RepairMove). x.sends) move)),
  λ none. absurd (is_told t.move.answer (Repaired n) none (ap (λ (x : RepairMove). x.answer) move)),
)
closes_by c range t turns r n (Some k) e move h = otherwise c range t turns (Unmarked k) (ap (λ (x : RepairMove). x.answer) move) (λ m same. cc)

closes : (c : Setting) (range : Range) (t : Turn) (turns : List Turn) (r : Repair) (n : ℕ) → Closes t.time r n t.move t.after → Ends c range r n turns → Goes c range t turns
closes c range t turns r n move h = closes_by c range t turns r n (first_with_row r.snapshots r.replicas) refl move.0 h

-- ---- snapshots

known_with : (c : Setting) (range : Range) (t : Turn) (turns : List Turn) (r : Repair) (s : Snapshot) → Known c range turns r → r.phase ≡ Asking → IsSnapshot s t → Known c range (t ∷ turns) (with_snapshot r s)
known_with c range t turns r s h phase heard = record {
  range_is = h.range_is;
  replicas_are = h.replicas_are;
  each = λ x at. elim ((contains_push r.snapshots s x).0 at) [
    | inl before ↦ inr (h.each x before)
    | inr this ↦ inl (subst (λ (y : Snapshot). IsSnapshot y t) this heard)
  ];
  in_phase = subst (KnownIn c (with_snapshot r s) (t ∷ turns)) (sym phase) tt;
}

all_told : (r : Repair) (turns : List Turn) → ((s : Snapshot) → Contains r.snapshots s → Ever (IsSnapshot s) turns) → are_all_heard r.replicas (map snapshot_from r.snapshots) ≡ true
    → AreSnapshots r.replicas r.snapshots turns
all_told r turns each all = record { each = each; all = all_from snapshot_from r.replicas r.snapshots all }

fetches : (c : Setting) (range : Range) (t : Turn) (turns : List Turn) (r : Repair) (leaves : List ℕ) → differing_leaves r.snapshots ≡ leaves → AreSnapshots r.replicas r.snapshots turns → Known c range turns r
    → Fetches t.time r leaves t.move t.after → Goes c range t turns
fetches c range t turns r [] e told known h =
    closes c range t turns r 0 h (record { range_is = known.range_is; replicas_are = known.replicas_are; told = told; held = inl (e, refl) })
fetches c range t turns r (leaf ∷ leaves) e told known h =
    silent c range t turns (ap (λ (m : RepairMove). m.answer) h.0)
    (subst (λ (x : Repair). Known c range turns x) (sym h.1) (record {
      range_is = known.range_is;
      replicas_are = known.replicas_are;
      each = known.each;
      in_phase = (told, λ f at. absurd (contains_nil f at));
    }))

takes_snapshot : (c : Setting) (range : Range) (t : Turn) (turns : List Turn) (r : Repair) (b : Bool) → are_all_heard r.replicas (map snapshot_from r.snapshots) ≡ b → Known c range turns r
    → MatchBool b (Fetches t.time r (differing_leaves r.snapshots) t.move t.after) (Becomes r t.move t.after) → Goes c range t turns
takes_snapshot c range t turns r true all known h = fetches c range t turns r (differing_leaves r.snapshots) refl (all_told r turns known.each all) known h
takes_snapshot c range t turns r false all known h = becomes c range t turns r h known

ignored : (c : Setting) (range : Range) (t : Turn) (turns : List Turn) (r : Repair) → Known c range turns r → Ignores r t.move t.after → Goes c range t (t ∷ turns)
ignored c range t turns r known h = becomes c range t (t ∷ turns) r h (known_on c range t turns r known)

counts_snapshot : (c : Setting) (range : Range) (t : Turn) (turns : List Turn) (r : Repair) (s : Snapshot) (b : Bool) → Known c range turns r → r.phase ≡ Asking → IsSnapshot s t
    → MatchBool b (TakesSnapshot t.time (with_snapshot r s) t.move t.after) (Ignores r t.move t.after) → Goes c range t (t ∷ turns)
counts_snapshot c range t turns r s true known phase heard h =
    takes_snapshot c range t (t ∷ turns) (with_snapshot r s) (are_all_heard r.replicas (map snapshot_from (r.snapshots ++ s ∷ []))) refl (known_with c range t turns r s known phase heard) h
counts_snapshot c range t turns r s false known phase heard h = ignored c range t turns r known h

hears_snapshot : (c : Setting) (range : Range) (t : Turn) (turns : List Turn) (r : Repair) (s : Snapshot) (phase : Phase) → r.phase ≡ phase → Known c range turns r → IsSnapshot s t
    → HearsSnapshot t.time s r phase t.move t.after → Goes c range t (t ∷ turns)
hears_snapshot c range t turns r s Asking e known heard h = counts_snapshot c range t turns r s (counts r (map snapshot_from r.snapshots) s.from) known e heard h
hears_snapshot c range t turns r s (Fetching leaves fs) e known heard h = ignored c range t turns r known h
hears_snapshot c range t turns r s (Streaming n waiting) e known heard h = ignored c range t turns r known h

-- ---- what was fetched

abbrev stream_of : Setting → List Fetched → List Mutation → ℕ → List RepairSend
stream_of c fs merge k = stream_to k (lacked_by c fs merge k)

no_append : {X : Type 0} (xs ys : List X) → xs ++ ys ≡ [] → (xs ≡ []) × (ys ≡ [])
no_append [] ys e = (refl, e)
no_append (x ∷ xs) ys e = cc

no_stream : (k : ℕ) (lacked : List Mutation) → stream_to k lacked ≡ [] → lacked ≡ []
no_stream k [] e = refl
no_stream k (m ∷ ms) e = cc

-- where nothing is sent nobody lacks anything
no_streams : (c : Setting) (fs : List Fetched) (merge : List Mutation) (replicas : List ℕ) → streams c fs merge replicas ≡ [] → (k : ℕ) → Contains replicas k → lacked_by c fs merge k ≡ []
no_streams c fs merge [] e k at = absurd (contains_nil k at)
no_streams c fs merge (j ∷ js) e k at =
    let parts = no_append (stream_of c fs merge j) (streams c fs merge js) e in
    elim (contains_cases j js k at) [
      | inl same ↦ subst (λ (n : ℕ). lacked_by c fs merge n ≡ []) same (no_stream j (lacked_by c fs merge j) parts.0)
      | inr rest ↦ no_streams c fs merge js parts.1 k rest
    ]

-- who lacks something is sent it, and is waited for
sent_at : (c : Setting) (fs : List Fetched) (merge : List Mutation) (replicas : List ℕ) (t : Turn) (turns : List Turn) (k : ℕ) (lacked : List Mutation) → lacked_by c fs merge k ≡ lacked
    → Contains replicas k → t.move.sends ≡ streams c fs merge replicas → IsSent (map receiver (streams c fs merge replicas)) lacked k (t ∷ turns)
sent_at c fs merge replicas t turns k [] e at sends = inr (inl refl)
sent_at c fs merge replicas t turns k (m ∷ ms) e at sends =
    let one : Contains (stream_of c fs merge k) (send (message.Stream (m ∷ ms)) k) =
    subst (λ (xs : List Mutation). Contains (stream_to k xs) (send (message.Stream (m ∷ ms)) k)) (sym e) (contains_here (send (message.Stream (m ∷ ms)) k) []) in
    let there : Contains (streams c fs merge replicas) (send (message.Stream (m ∷ ms)) k) =
    contains_flat (stream_of c fs merge) replicas k (send (message.Stream (m ∷ ms)) k) at one in
    inl (
      in_list (map receiver (streams c fs merge replicas)) k (contains_map receiver (streams c fs merge replicas) (send (message.Stream (m ∷ ms)) k) there),
      inl (subst (λ (xs : List RepairSend). Contains xs (send (message.Stream (m ∷ ms)) k)) (sym sends) there),
    )

streams_out : (c : Setting) (range : Range) (t : Turn) (turns : List Turn) (r : Repair) (fs : List Fetched) (merge : List Mutation) (xs : List RepairSend)
    → streams c fs merge r.replicas ≡ xs → IsMergeOfAll fs merge → AreFetched r.replicas fs (t ∷ turns) → AreSnapshots r.replicas r.snapshots (t ∷ turns) → Known c range (t ∷ turns) r
    → Streams t.time r (lacked_count c fs merge r.replicas) xs t.move t.after → Goes c range t (t ∷ turns)
streams_out c range t turns r fs merge [] e is fetched told known h =
    closes c range t (t ∷ turns) r (lacked_count c fs merge r.replicas) h (record {
      range_is = known.range_is;
      replicas_are = known.replicas_are;
      told = told;
      held = inr (record { fetched = fs; told = fetched; merge = merge; is_merge = is; count = refl; taken = λ k at. inl (no_streams c fs merge r.replicas e k at) });
    })
streams_out c range t turns r fs merge (x ∷ xs) e is fetched told known h =
    let sends : t.move.sends ≡ streams c fs merge r.replicas = ap (λ (m : RepairMove). m.sends) h.0 ∙ sym e in
    let streamed : StreamedKnown c r.replicas (lacked_count c fs merge r.replicas) (map receiver (x ∷ xs)) (t ∷ turns) = record {
      fetched = fs;
      told = fetched;
      merge = merge;
      is_merge = is;
      count = refl;
      sent = λ k at. subst (λ (ys : List RepairSend). IsSent (map receiver ys) (lacked_by c fs merge k) k (t ∷ turns)) e (sent_at c fs merge r.replicas t turns k (lacked_by c fs merge k) refl at sends);
    } in
    silent c range t (t ∷ turns) (ap (λ (m : RepairMove). m.answer) h.0)
    (subst (λ (y : Repair). Known c range (t ∷ turns) y) (sym h.1) (record {
      range_is = known.range_is;
      replicas_are = known.replicas_are;
      each = known.each;
      in_phase = (told, streamed);
    }))

merges : (c : Setting) (range : Range) (t : Turn) (turns : List Turn) (r : Repair) (fs : List Fetched) → AreFetched r.replicas fs (t ∷ turns) → AreSnapshots r.replicas r.snapshots (t ∷ turns)
    → Known c range (t ∷ turns) r → Merges c t.time r fs t.move t.after → Goes c range t (t ∷ turns)
merges c range t turns r fs fetched told known (merge, is, h) = streams_out c range t turns r fs merge (streams c fs merge r.replicas) refl is fetched told known h

fetched_push : (fs : List Fetched) (f : Fetched) (t : Turn) (turns : List Turn) → ((x : Fetched) → Contains fs x → Ever (IsFetched x) turns) → IsFetched f t
    → (x : Fetched) → Contains (fs ++ f ∷ []) x → Ever (IsFetched x) (t ∷ turns)
fetched_push fs f t turns each heard x at =
    elim ((contains_push fs f x).0 at) [
      | inl before ↦ inr (each x before)
      | inr this ↦ inl (subst (λ (y : Fetched). IsFetched y t) this heard)
    ]

takes_fetched : (c : Setting) (range : Range) (t : Turn) (turns : List Turn) (r : Repair) (leaves : List ℕ) (fs : List Fetched) (b : Bool) → are_all_heard r.replicas (map fetched_from fs) ≡ b
    → ((x : Fetched) → Contains fs x → Ever (IsFetched x) (t ∷ turns)) → AreSnapshots r.replicas r.snapshots (t ∷ turns) → Known c range (t ∷ turns) r
    → MatchBool b (Merges c t.time r fs t.move t.after) (Becomes (record r { phase = Fetching leaves fs }) t.move t.after) → Goes c range t (t ∷ turns)
takes_fetched c range t turns r leaves fs true all each told known h = merges c range t turns r fs (record { each = each; all = all_from fetched_from r.replicas fs all }) told known h
takes_fetched c range t turns r leaves fs false all each told known h =
    becomes c range t (t ∷ turns) (record r { phase = Fetching leaves fs }) h
    (record { range_is = known.range_is; replicas_are = known.replicas_are; each = known.each; in_phase = (told, each) })

counts_fetched : (c : Setting) (range : Range) (t : Turn) (turns : List Turn) (r : Repair) (f : Fetched) (leaves : List ℕ) (fs : List Fetched) (b : Bool) → Known c range turns r
    → KnownIn c r turns (Fetching leaves fs) → IsFetched f t → MatchBool b (TakesFetched c t.time r leaves (fs ++ f ∷ []) t.move t.after) (Ignores r t.move t.after) → Goes c range t (t ∷ turns)
counts_fetched c range t turns r f leaves fs true known here heard h =
    takes_fetched c range t turns r leaves (fs ++ f ∷ []) (are_all_heard r.replicas (map fetched_from (fs ++ f ∷ []))) refl (fetched_push fs f t turns here.1 heard)
    (snapshots_on r.replicas r.snapshots t turns here.0) (known_on c range t turns r known) h
counts_fetched c range t turns r f leaves fs false known here heard h = ignored c range t turns r known h

hears_fetched : (c : Setting) (range : Range) (t : Turn) (turns : List Turn) (r : Repair) (f : Fetched) (phase : Phase) → KnownIn c r turns phase → Known c range turns r → IsFetched f t
    → HearsFetched c t.time f r phase t.move t.after → Goes c range t (t ∷ turns)
hears_fetched c range t turns r f Asking here known heard h = ignored c range t turns r known h
hears_fetched c range t turns r f (Fetching leaves fs) here known heard h = counts_fetched c range t turns r f leaves fs (counts r (map fetched_from fs) f.from) known here heard h
hears_fetched c range t turns r f (Streaming n waiting) here known heard h = ignored c range t turns r known h

-- ---- acknowledgements

stays : (waiting : List ℕ) (from k : ℕ) → is_in waiting k ≡ true → (k == from) ≡ false → is_in (without from waiting) k ≡ true
stays waiting from k waits other = in_list (without from waiting) k (contains_filter (λ j. not (j == from)) waiting k (is_in_contains waiting k waits) (ap not other))

acked_at : (waiting : List ℕ) (lacked : List Mutation) (from k : ℕ) (t : Turn) (turns : List Turn) (b : Bool) → (k == from) ≡ b → IsAck from t → IsSent waiting lacked k turns
    → IsSent (without from waiting) lacked k (t ∷ turns)
acked_at waiting lacked from k t turns true e heard (inl (waits, sent)) = inr (inr (inr sent, inl (subst (λ (n : ℕ). IsAck n t) (sym (eqb-true k from e)) heard)))
acked_at waiting lacked from k t turns false e heard (inl (waits, sent)) = inl (stays waiting from k waits e, inr sent)
acked_at waiting lacked from k t turns b e heard (inr has) = inr (has_on lacked k t turns has)

acked : (c : Setting) (replicas : List ℕ) (n : ℕ) (waiting : List ℕ) (from : ℕ) (t : Turn) (turns : List Turn) → IsAck from t → StreamedKnown c replicas n waiting turns
    → StreamedKnown c replicas n (without from waiting) (t ∷ turns)
acked c replicas n waiting from t turns heard h = record {
  fetched = h.fetched;
  told = fetched_on replicas h.fetched t turns h.told;
  merge = h.merge;
  is_merge = h.is_merge;
  count = h.count;
  sent = λ k at. acked_at waiting (lacked_by c h.fetched h.merge k) from k t turns (k == from) refl heard (h.sent k at);
}

-- where none is waited for any more, each has all of it
has_all : (lacked : List Mutation) (k : ℕ) (turns : List Turn) → IsSent [] lacked k turns → HasAll lacked k turns
has_all lacked k turns (inl (waits, sent)) = absurd (false≢true waits)
has_all lacked k turns (inr has) = has

takes_ack : (c : Setting) (range : Range) (t : Turn) (turns : List Turn) (r : Repair) (n : ℕ) (left : List ℕ) → StreamedKnown c r.replicas n left turns → AreSnapshots r.replicas r.snapshots turns
    → Known c range turns r → TakesAck t.time r n left t.move t.after → Goes c range t turns
takes_ack c range t turns r n [] streamed told known h =
    closes c range t turns r n h (record {
      range_is = known.range_is;
      replicas_are = known.replicas_are;
      told = told;
      held = inr (record {
        fetched = streamed.fetched;
        told = streamed.told;
        merge = streamed.merge;
        is_merge = streamed.is_merge;
        count = streamed.count;
        taken = λ k at. has_all (lacked_by c streamed.fetched streamed.merge k) k turns (streamed.sent k at);
      });
    })
takes_ack c range t turns r n (k ∷ ks) streamed told known h =
    becomes c range t turns (record r { phase = Streaming n (k ∷ ks) }) h
    (record { range_is = known.range_is; replicas_are = known.replicas_are; each = known.each; in_phase = (told, streamed) })

counts_ack : (c : Setting) (range : Range) (t : Turn) (turns : List Turn) (r : Repair) (from n : ℕ) (waiting : List ℕ) (b : Bool) → Known c range turns r → KnownIn c r turns (Streaming n waiting)
    → IsAck from t → MatchBool b (TakesAck t.time r n (without from waiting) t.move t.after) (Ignores r t.move t.after) → Goes c range t (t ∷ turns)
counts_ack c range t turns r from n waiting true known here heard h =
    takes_ack c range t (t ∷ turns) r n (without from waiting) (acked c r.replicas n waiting from t turns heard here.1) (snapshots_on r.replicas r.snapshots t turns here.0) (known_on c range t turns r known) h
counts_ack c range t turns r from n waiting false known here heard h = ignored c range t turns r known h

hears_ack : (c : Setting) (range : Range) (t : Turn) (turns : List Turn) (r : Repair) (from : ℕ) (phase : Phase) → KnownIn c r turns phase → Known c range turns r → IsAck from t
    → HearsAck t.time from r phase t.move t.after → Goes c range t (t ∷ turns)
hears_ack c range t turns r from Asking here known heard h = ignored c range t turns r known h
hears_ack c range t turns r from (Fetching leaves fs) here known heard h = ignored c range t turns r known h
hears_ack c range t turns r from (Streaming n waiting) here known heard h = counts_ack c range t turns r from n waiting (is_in waiting from) known here heard h

-- ---- its moves

hears : (c : Setting) (range : Range) (t : Turn) (turns : List Turn) (r : Repair) (from : ℕ) (m : RepairMessage) → Known c range turns r → t.what ≡ Heard from m → Hears c t.time from m r t.move t.after
    → Goes c range t (t ∷ turns)
hears c range t turns r from (message.Tree x) known heard h = ignored c range t turns r known h
hears c range t turns r from (message.TreeReply leaves told has_row) known heard h =
    hears_snapshot c range t turns r (record { from = from; time = told; leaves = leaves; has_row = has_row }) r.phase refl known heard h
hears c range t turns r from (message.Fetch x leaves) known heard h = ignored c range t turns r known h
hears c range t turns r from (message.FetchReply parts) known heard h = hears_fetched c range t turns r (record { from = from; parts = parts }) r.phase known.in_phase known heard h
hears c range t turns r from (message.Stream ms) known heard h = ignored c range t turns r known h
hears c range t turns r from message.StreamAck known heard h = hears_ack c range t turns r from r.phase known.in_phase known heard h
hears c range t turns r from (message.SetMark mark) known heard h = ignored c range t turns r known h

reaches : (c : Setting) (id : ReqId) (range : Range) (t : Turn) (turns : List Turn) (r : Repair) (b : Bool) → Known c range turns r → t.move ≡ cond b idle (record { sends = []; answer = Some TimedOut }) → t.after ≡ r
    → Goes c range t (t ∷ turns)
reaches c id range t turns r true known move after = ignored c range t turns r known (move, after)
reaches c id range t turns r false known move after = otherwise c range t (t ∷ turns) TimedOut (ap (λ (x : RepairMove). x.answer) move) (λ n same. cc)

moves : (c : Setting) (id : ReqId) (range : Range) (t : Turn) (turns : List Turn) (r : Repair) (what : Happening) → Known c range turns r → t.what ≡ what → MovesBy c id t.time what r t.move t.after
    → Goes c range t (t ∷ turns)
moves c id range t turns r Asked known is h = absurd h
moves c id range t turns r (Heard from m) known is h = hears c range t turns r from m known is h
moves c id range t turns r Time known is h = reaches c id range t turns r _ known h.0 h.1

begins : (c : Setting) (range : Range) (t : Turn) (what : Happening) → BeginsBy c range what t.move t.after → Goes c range t (t ∷ [])
begins c range t Asked h =
    silent c range t (t ∷ []) (ap (λ (m : RepairMove). m.answer) h.0)
    (subst (λ (r : Repair). Known c range (t ∷ []) r) (sym h.1) (record { range_is = refl; replicas_are = refl; each = λ s at. absurd (contains_nil s at); in_phase = tt }))
begins c range t (Heard from m) h = absurd h
begins c range t Time h = absurd h

goes : (c : Setting) (id : ReqId) (range : Range) (t : Turn) (earlier : List Turn) → IsStory c id range (t ∷ earlier) → Goes c range t (t ∷ earlier)
goes c id range t [] story = begins c range t t.what story.1
goes c id range t (before ∷ earlier) story =
    let known : Known c range (before ∷ earlier) before.after = (goes c id range before earlier story.0).1 story.1.0.open_still in
    moves c id range t (before ∷ earlier) before.after t.what known refl story.1.1

pub repaired_once_all_have_it : RepairedOnceAllHaveIt
repaired_once_all_have_it c id range t earlier story n told = (goes c id range t earlier story).0 n told
