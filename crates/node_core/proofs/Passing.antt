-- How a step takes what is due, one after another.
use Rattle.std.proofs.Common.{◌≡◌, ◌⊎◌, inl, inr, ℕ, ◌≤◌, List, [], ◌∷◌, ◌++◌, map, refl, sym, ap, subst, ◌∙◌, Contains}
use Rattle.std.specs.Ordering.{nat_cmp, ordering_then}
use Rattle.std.specs.Cmp.{nat_cmp_is}
use Rattle.std.specs.declared.cmp.Ordering.{Ordering}
use Rattle.std.specs.declared.cmp.Ordering.TheVariants.{Less, Equal}
use Rattle.std.proofs.lemmas.List.{map-append, append_assoc}
use Rattle.cs_base.specs.declared.ids.ReqId.{ReqId}
use Rattle.cs_base.specs.Requests.{request_cmp}
use Rattle.cs_base.proofs.Members.{contains_cases, contains_here, contains_map, contains_nil, contains_push, contains_there}
use Rattle.peer_messages.specs.declared.outcome.Outbound.{Outbound}
use Rattle.durable_state.specs.State.{Durable}
use Rattle.node_steps.specs.State.{NodeState}
use Rattle.node_steps.specs.Hints.{KeptHints}
use Rattle.node_steps.specs.Acts.{Act, DeadlineComes, HintExpires}
use Rattle.node_steps.specs.Steps.{AreAscending, Due, IsDeadline, IsDue, IsExpiry, due_cmp, kind_of}
use Rattle.node_core.specs.declared.base.Base.{Base}
use Rattle.node_core.specs.declared.due.DueKind.{DueKind}
use Rattle.node_core.specs.declared.due.DueKind.TheVariants.{Deadline}
use Rattle.node_core.specs.declared.due.DueKey.{DueKey}
use Rattle.node_core.specs.Asking.{IsFresh, IsUnmoved}
use Rattle.node_core.specs.Deadlines.{EndsDue, EndedBy, IsNextDue}
use Rattle.node_core.specs.Due.{AreDueKeys, act_by, deadline_key, due_by, waits_in}
use Rattle.node_core.specs.Hinting.{Stage}
use Rattle.node_core.specs.Working.{IsSound, own_sent}
use Rattle.node_core.specs.Moving.{EndsOne, HasCome, IsHolding, TakesDue}
use Rattle.node_core.proofs.Coming.{matter_more}
use Rattle.node_core.proofs.Taking.{fresh_sound}
use Rattle.node_core.proofs.DueMatters.{deadline_act}

-- ---- one after another

-- of each of these requests the deadline is among these keys
abbrev EndedAll : List DueKey → List ReqId → Type 0
EndedAll keys ids = (e : ReqId) → Contains ids e → (j : DueKey) × Contains keys j × (j.kind ≡ Deadline) × (j.request ≡ e)

-- what was due so far was taken
pub record Passed (b : Base) (x0 : Stage) (keys : List DueKey) (x : Stage) : Type 0 where
  pub comes : (d : Durable) (s : NodeState) (matters left : List Act) → HasCome b d s matters (map act_by keys ++ left) [] x0 → HasCome b d s matters left [] x
  pub unmoved : IsUnmoved x.work
  pub sound : IsSound b x.work
  pub writes : EndedAll keys x.work.ended_writes
  pub reads : EndedAll keys x.work.ended_reads
  pub time : x.work.time ≡ x0.work.time
  pub ceiling : x.work.ceiling ≡ x0.work.ceiling
  pub request : x.work.request ≡ x0.work.request

none_ended : (ids : List ReqId) → ids ≡ [] → EndedAll [] ids
none_ended ids is e there = absurd (contains_nil e (subst (λ (xs : List ReqId). Contains xs e) is there))

pub passed_none : (b : Base) (x : Stage) → IsHolding b → IsFresh b x.work → Passed b x [] x
passed_none b x holding fresh = record {
  comes = λ d s matters left come. come;
  unmoved = fresh.unmoved;
  sound = fresh_sound b x.work holding fresh;
  writes = none_ended x.work.ended_writes fresh.ended_writes;
  reads = none_ended x.work.ended_reads fresh.ended_reads;
  time = refl;
  ceiling = refl;
  request = refl;
}

more_ended : (keys : List DueKey) (k : DueKey) (ids ids' : List ReqId) → EndedAll keys ids → EndedBy k ids ids' → EndedAll (keys ++ k ∷ []) ids'
more_ended keys k ids ids' all by e there = elim (by e there) [
  | inl before ↦ let j = all e before in (j.0, (contains_push keys k j.0).1 (inl j.1), j.2, j.3)
  | inr here ↦ (k, (contains_push keys k k).1 (inr refl), here.0, sym here.1)
]

one_come : (b : Base) (d : Durable) (s : NodeState) (matters left : List Act) (a : Act) (x x' : Stage) → EndsOne b d x a x' → HasCome b d s matters (a ∷ left) [] x → HasCome b d s matters left [] x'
one_come b d s matters left a x x' e come =
    subst (λ (xs : List Outbound). HasCome b d s matters left (own_sent b.me xs) x') e.none (matter_more b d s matters left a x e.mid x' e.given come e.moves e.goes_on e.sent e.hints)

one_left : (keys : List DueKey) (k : DueKey) (left : List Act) → map act_by (keys ++ k ∷ []) ++ left ≡ map act_by keys ++ act_by k ∷ left
one_left keys k left = ap (λ (acts : List Act). acts ++ left) (map-append act_by keys (k ∷ [])) ∙ append_assoc (map act_by keys) (act_by k ∷ []) left

pub passed_more : (b : Base) (x0 x x' : Stage) (keys : List DueKey) (k : DueKey) → Passed b x0 keys x → EndsDue b k x x' → Passed b x0 (keys ++ k ∷ []) x'
passed_more b x0 x x' keys k so_far e = record {
  comes = λ d s matters left come. one_come b d s matters left (act_by k) x x' (e.one d) (so_far.comes d s matters (act_by k ∷ left) (subst (λ (acts : List Act). HasCome b d s matters acts [] x0) (one_left keys k left) come));
  unmoved = e.unmoved;
  sound = e.sound;
  writes = more_ended keys k x.work.ended_writes x'.work.ended_writes so_far.writes e.writes;
  reads = more_ended keys k x.work.ended_reads x'.work.ended_reads so_far.reads e.reads;
  time = e.time ∙ so_far.time;
  ceiling = e.ceiling ∙ so_far.ceiling;
  request = e.request ∙ so_far.request;
}

-- ---- the next one

not_below : (d : Due) → due_cmp d d ≡ Less → ⊥
not_below d less = absurd (equal_less (sym (due_itself d) ∙ less))
  where
    equal_less : Equal ≡ Less → ⊥
    equal_less e = cc

    same : (n : ℕ) → nat_cmp n n ≡ Equal
    same n = sym (nat_cmp_is n n Equal refl)

    request_same : (r : ReqId) → request_cmp r r ≡ Equal
    request_same r = ap (λ (o : Ordering). ordering_then o (nat_cmp r.time r.time)) (same r.node) ∙ same r.time

    due_itself : (d : Due) → due_cmp d d ≡ Equal
    due_itself d =
        ap (λ (o : Ordering). ordering_then o (ordering_then (request_cmp d.request d.request) (ordering_then (nat_cmp (kind_of d.act) (kind_of d.act)) (ordering_then (nat_cmp d.peer d.peer) (nat_cmp d.number d.number))))) (same d.moment)
        ∙ ap (λ (o : Ordering). ordering_then o (ordering_then (nat_cmp (kind_of d.act) (kind_of d.act)) (ordering_then (nat_cmp d.peer d.peer) (nat_cmp d.number d.number)))) (request_same d.request)
        ∙ ap (λ (o : Ordering). ordering_then o (ordering_then (nat_cmp d.peer d.peer) (nat_cmp d.number d.number))) (same (kind_of d.act))
        ∙ ap (λ (o : Ordering). ordering_then o (nat_cmp d.number d.number)) (same d.peer)
        ∙ same d.number

ascends : (xs : List DueKey) (y : DueKey) (ys : List DueKey) → AreAscending (map due_by (xs ++ y ∷ ys)) → (x : DueKey) → Contains xs x → due_cmp (due_by x) (due_by y) ≡ Less
ascends [] y ys all x there = absurd (contains_nil x there)
ascends (z ∷ zs) y ys all x there = elim (contains_cases z zs x there) [
  | inl here ↦ subst (λ (k : DueKey). due_cmp (due_by k) (due_by y) ≡ Less) here (all.0 (due_by y) (contains_map due_by (zs ++ y ∷ ys) y (contains_mid zs y ys)))
  | inr later ↦ ascends zs y ys all.1 x later
]
  where
    contains_mid : (front : List DueKey) (k : DueKey) (bs : List DueKey) → Contains (front ++ k ∷ bs) k
    contains_mid [] k bs = contains_here k bs
    contains_mid (a ∷ front) k bs = contains_there a (front ++ k ∷ bs) k (contains_mid front k bs)

due_key : (b : Base) (k : KeptHints) (time : ℕ) (keys : List DueKey) (d : DueKey) → AreDueKeys b k time keys → Contains keys d → IsDue b.setting b.me time (waits_in b k) (due_by d)
due_key b k time keys d are there = (are.each (due_by d)).0 (contains_map due_by keys d there)

-- it has come
pub key_moment : (b : Base) (k : KeptHints) (time : ℕ) (keys : List DueKey) (d : DueKey) → AreDueKeys b k time keys → Contains keys d → d.moment ≤ time
key_moment b k time keys d are there = (due_key b k time keys d are there).0

-- one of a deadline's kind is it
own_key : (b : Base) (k : KeptHints) (d : DueKey) → IsDeadline (waits_in b k) (due_by d) ⊎ IsExpiry b.setting b.me (waits_in b k) (due_by d) → d.kind ≡ Deadline → d ≡ deadline_key d.request
own_key b k d (inl (open', is)) own =
    ap (λ (kind : DueKind). let j : DueKey = record { moment = d.moment; request = d.request; kind = kind; peer = d.peer; number = d.number } in j) own ∙ ap key_of is
  where
    key_of : Due → DueKey
    key_of x = record { moment = x.moment; request = x.request; kind = Deadline; peer = x.peer; number = x.number }
own_key b k d (inr (h, there, is)) own = absurd (other_act (sym (deadline_act d own) ∙ ap (λ (x : Due). x.act) is))
  where
    other_act : DeadlineComes d.request ≡ HintExpires h.peer h.number → ⊥
    other_act e = cc

pub key_own : (b : Base) (k : KeptHints) (time : ℕ) (keys : List DueKey) (d : DueKey) → AreDueKeys b k time keys → Contains keys d → d.kind ≡ Deadline → d ≡ deadline_key d.request
key_own b k time keys d are there own = own_key b k d (due_key b k time keys d are there).1 own

not_ended : (b : Base) (k : KeptHints) (time : ℕ) (keys done rest : List DueKey) (d : DueKey) (ids : List ReqId) → AreDueKeys b k time keys → keys ≡ done ++ d ∷ rest → EndedAll done ids → d.kind ≡ Deadline → (e : ReqId) → Contains ids e → e ≡ d.request → ⊥
not_ended b k time keys done rest d ids are split all own e there same =
    let found = all e there in
    let j = found.0 in
    let in_keys : (x : DueKey) → Contains (done ++ d ∷ rest) x → Contains keys x = λ x h. subst (λ (ks : List DueKey). Contains ks x) (sym split) h in
    let j_is = key_own b k time keys j are (in_keys j (contains_left done (d ∷ rest) j found.1)) found.2 in
    let d_is = key_own b k time keys d are (in_keys d (contains_right done (d ∷ rest) d (contains_here d rest))) own in
    let is : j ≡ d = j_is ∙ ap deadline_key (found.3 ∙ same) ∙ sym d_is in
    not_below (due_by d) (subst (λ (x : DueKey). due_cmp (due_by x) (due_by d) ≡ Less) is (ascends done d rest (subst (λ (ks : List DueKey). AreAscending (map due_by ks)) split are.ascending) j found.1))
  where
    contains_left : (xs ys : List DueKey) (x : DueKey) → Contains xs x → Contains (xs ++ ys) x
    contains_left [] ys x h = absurd (contains_nil x h)
    contains_left (z ∷ zs) ys x h = elim (contains_cases z zs x h) [
      | inl here ↦ subst (λ (k : DueKey). Contains (z ∷ zs ++ ys) k) here (contains_here z (zs ++ ys))
      | inr later ↦ contains_there z (zs ++ ys) x (contains_left zs ys x later)
    ]

    contains_right : (xs ys : List DueKey) (x : DueKey) → Contains ys x → Contains (xs ++ ys) x
    contains_right [] ys x h = h
    contains_right (z ∷ zs) ys x h = contains_there z (zs ++ ys) x (contains_right zs ys x h)

pub next_due : (b : Base) (k : KeptHints) (time : ℕ) (keys done rest : List DueKey) (d : DueKey) (x0 x : Stage) → AreDueKeys b k time keys → keys ≡ done ++ d ∷ rest → Passed b x0 done x → IsNextDue d x.work
next_due b k time keys done rest d x0 x are split so_far own = record {
  writes = not_ended b k time keys done rest d x.work.ended_writes are split so_far.writes own;
  reads = not_ended b k time keys done rest d x.work.ended_reads are split so_far.reads own;
}

pub among : (front : List DueKey) (k : DueKey) (rest : List DueKey) → Contains (front ++ k ∷ rest) k
among [] k rest = contains_here k rest
among (a ∷ front) k rest = contains_there a (front ++ k ∷ rest) k (among front k rest)

pub due_taken : (b : Base) (x x' : Stage) (keys : List DueKey) → AreDueKeys b x.hints x.work.time keys → Passed b x keys x' → TakesDue b x x'
due_taken b x x' keys are h = record {
  keys = keys;
  due = are;
  comes = h.comes;
  unmoved = h.unmoved;
  sound = h.sound;
  time = h.time;
  ceiling = h.ceiling;
  request = h.request;
}
