-- What is known of an operation behind each of its moves, by its phase.
use Rattle.std.proofs.Common.{◌≡◌, ◌⊎◌, inl, inr, ℕ, ◌≤◌, Bool, true, false, Option, Some, None, List, [], ◌∷◌, ◌++◌, refl, sym, ap, subst, ◌∙◌}
use Rattle.std.specs.Prelude.{◌==◌, ◌||◌, nat_lt, Contains}
use Rattle.std.specs.List.{list_all}
use Rattle.std.proofs.lemmas.Bool.{or_cases, or_left, or_right, not-true, ltb-false, eqb-true, eq-eqb, false≢true, and_parts}
use Rattle.std.proofs.lemmas.List.Folds.{list_any-append}
use Rattle.cs_base.proofs.Members.{contains_nil, contains_cases}
use Rattle.cs_base.specs.declared.ids.ReqId.{ReqId}
use Rattle.cs_base.specs.Quorums.{is_in, heard_of}
use Rattle.changes.specs.declared.Partition.{Partition}
use Rattle.row_change.specs.declared.entry.Update.{Update}
use Rattle.paxos_messages.specs.declared.message.PaxosMessage.{PaxosMessage}
use Rattle.paxos_messages.specs.declared.message.PaxosMessage.TheVariants as message
use Rattle.paxos_messages.specs.declared.outcome.PaxosMove.{PaxosMove}
use Rattle.paxos_messages.specs.declared.outcome.PaxosSend.{PaxosSend}
use Rattle.paxos_moves.specs.declared.operation.Context.{Context}
use Rattle.paxos_moves.specs.declared.operation.Operation.{Operation}
use Rattle.paxos_moves.specs.declared.operation.Phase.{Phase}
use Rattle.paxos_moves.specs.declared.operation.Phase.TheVariants.{Preparing, ProposingOwn, ProposingOlder, CommittingOwn, CommittingOlder, Completing}
use Rattle.paxos_moves.specs.declared.operation.Promised.{Promised}
use Rattle.paxos_moves.specs.declared.operation.Promises.{Promises}
use Rattle.paxos_moves.specs.declared.operation.Verdict.{Verdict}
use Rattle.paxos_moves.specs.declared.operation.Votes.{Votes}
use Rattle.paxos_moves.specs.Promises.{promisers, no_promises}
use Rattle.paxos_moves.specs.Proposals.{is_applied}
use Rattle.paxos_moves.specs.Operations.{idle, send, send_to, proposing, no_votes, is_dead, is_enough, refused_more, voted_down}
use Rattle.paxos_moves.specs.Stories.{Happening, Heard, Asked, Time, Turn, GoesOn, BeginsBy, IsStory, Ever}
use Rattle.paxos_moves.specs.Laws.{IsOwn, ProposesTo, IsRefusal, IsPromise, IsAcceptance, IsAck, AreHeard}
use Rattle.paxos_moves.specs.Timing.{new_ballot, retry_if}
use Rattle.paxos_moves.proofs.MoveKinds.{Kind, IsNotOwn, IsAside, kind_of}
use Rattle.paxos_moves.proofs.MoveKinds.Kind.{same, promised, refused, anew, aside, own, accepted, chosen, told_empty, acked, told_applied, outvoted, timed_out}

-- of each of these nodes some turn is such
abbrev pub Each : (ℕ → Turn → Type 0) → List ℕ → List Turn → Type 0
Each P ks turns = (k : ℕ) → is_in ks k ≡ true → Ever (P k) turns

-- all own proposals were refused by all to which they went
abbrev pub AllRefused : List Turn → Type 0
AllRefused turns = (b k : ℕ) → Ever (ProposesTo b k) turns → Ever (IsRefusal b k) turns

-- but for the one under ballot b, which went to these
abbrev pub AllOthersRefused : ℕ → List ℕ → List Turn → Type 0
AllOthersRefused b targets turns = (b' k : ℕ) → Ever (ProposesTo b' k) turns → ((b' ≡ b) × (is_in targets k ≡ true)) ⊎ Ever (IsRefusal b' k) turns

pub record OwnKnown (c : Context) (turns : List Turn) (b : ℕ) (v : Verdict) (votes : Votes) (retry : Option ℕ) : Type 0 where
  pub promises : AreHeard c c.majority (IsPromise b) v.promised turns
  pub acceptances : Each (IsAcceptance b) votes.accepted turns
  pub refusals : Each (IsRefusal b) votes.refused turns
  pub dead : (moment : ℕ) → retry ≡ Some moment → is_dead votes ≡ true
  pub others : AllOthersRefused b votes.targets turns

pub record ChosenKnown (c : Context) (turns : List Turn) (b : ℕ) (v : Verdict) (heard : List ℕ) (retry : Option ℕ) : Type 0 where
  pub promises : AreHeard c c.majority (IsPromise b) v.promised turns
  pub accepted : List ℕ
  pub acceptances : AreHeard c c.majority (IsAcceptance b) accepted turns
  pub applied : is_applied v.reply ≡ true
  pub acks : Each (IsAck b) heard turns
  pub never : retry ≡ None

abbrev pub Known : Context → List Turn → Phase → Option ℕ → Type 0
Known c turns (Preparing b w) retry = Each (IsPromise b) (promisers w.got) turns × AllRefused turns
Known c turns (ProposingOwn b u v votes) retry = OwnKnown c turns b v votes retry
Known c turns (ProposingOlder b u votes) retry = AllRefused turns
Known c turns (CommittingOwn b v heard) retry = ChosenKnown c turns b v heard retry
Known c turns (CommittingOlder b heard) retry = AllRefused turns
Known c turns (Completing b left) retry = AllRefused turns

-- ---- lists of nodes

is_in_push : (ks : List ℕ) (k j : ℕ) → is_in (ks ++ k ∷ []) j ≡ true → (is_in ks j ≡ true) ⊎ (k ≡ j)
is_in_push ks k j h =
    elim (or_cases (is_in ks j) (is_in (k ∷ []) j) (sym (list_any-append (λ i. i == j) ks (k ∷ [])) ∙ h)) [
      | inl before ↦ inl before
      | inr here ↦ elim (or_cases (k == j) false here) [ inl this ↦ inr (eqb-true k j this) | inr none ↦ absurd (false≢true none) ]
    ]

promisers_push : (ps : List Promised) (p : Promised) → promisers (ps ++ p ∷ []) ≡ promisers ps ++ p.from ∷ []
promisers_push [] p = refl
promisers_push (q ∷ qs) p = ap (λ (ks : List ℕ). q.from ∷ ks) (promisers_push qs p)

all_in : (ks heard : List ℕ) (k : ℕ) → list_all (is_in heard) ks ≡ true → is_in ks k ≡ true → is_in heard k ≡ true
all_in [] heard k h i = absurd (false≢true i)
all_in (j ∷ js) heard k h i =
    let parts = and_parts (is_in heard j) (list_all (is_in heard) js) h in
    elim (or_cases (j == k) (is_in js k) i) [
      | inl here ↦ subst (λ (n : ℕ). is_in heard n ≡ true) (eqb-true j k here) parts.0
      | inr more ↦ all_in js heard k parts.1 more
    ]

none_in : (k : ℕ) → is_in [] k ≡ true → ⊥
none_in k h = false≢true h

-- ---- what stays known

pub each_later : (P : ℕ → Turn → Type 0) (ks : List ℕ) (t : Turn) (turns : List Turn) → Each P ks turns → Each P ks (t ∷ turns)
each_later P ks t turns h k i = inr (h k i)

pub each_push : (P : ℕ → Turn → Type 0) (ks : List ℕ) (k : ℕ) (t : Turn) (turns : List Turn) → Each P ks turns → P k t → Each P (ks ++ k ∷ []) (t ∷ turns)
each_push P ks k t turns h here j i =
    elim (is_in_push ks k j i) [
      | inl before ↦ inr (h j before)
      | inr this ↦ inl (subst (λ (n : ℕ). P n t) this here)
    ]

pub none_each : (P : ℕ → Turn → Type 0) (turns : List Turn) → Each P [] turns
none_each P turns k i = absurd (none_in k i)

heard_later : (c : Context) (n : ℕ) (P : ℕ → Turn → Type 0) (ks : List ℕ) (t : Turn) (turns : List Turn) → AreHeard c n P ks turns → AreHeard c n P ks (t ∷ turns)
heard_later c n P ks t turns h = record { enough = h.enough; each = each_later P ks t turns h.each }

-- contexts of one story count alike
pub enough_on : (before t : Turn) (n m : ℕ) (ks : List ℕ) → GoesOn before t → n ≡ m → n ≤ heard_of before.context.members ks → m ≤ heard_of t.context.members ks
enough_on before t n m ks on e h =
    subst (λ (x : ℕ). x ≤ heard_of t.context.members ks) e (subst (λ (ms : List ℕ). n ≤ heard_of ms ks) (sym on.members) h)

-- the test of a count
pub enough_is : (c : Context) (n : ℕ) (ks : List ℕ) → is_enough c n ks ≡ true → n ≤ heard_of c.members ks
enough_is c n ks e = ltb-false (heard_of c.members ks) n (not-true (nat_lt (heard_of c.members ks) n) e)

pub heard_on : (before t : Turn) (P : ℕ → Turn → Type 0) (ks : List ℕ) (turns : List Turn) → GoesOn before t
    → AreHeard before.context before.context.majority P ks turns → AreHeard t.context t.context.majority P ks (t ∷ turns)
heard_on before t P ks turns on h = record {
  enough = enough_on before t before.context.majority t.context.majority ks on (sym on.majority) h.enough;
  each = each_later P ks t turns h.each;
}

-- ---- turns that propose nothing of the operation's own

abbrev ProposesNothing : Turn → Type 0
ProposesNothing t = (b k : ℕ) → ProposesTo b k t → ⊥

refused_later : (t : Turn) (turns : List Turn) → ProposesNothing t → AllRefused turns → AllRefused (t ∷ turns)
refused_later t turns not_this all b k e = elim e [ inl this ↦ absurd (not_this b k this) | inr before ↦ inr (all b k before) ]

others_later : (b : ℕ) (targets : List ℕ) (t : Turn) (turns : List Turn) → ProposesNothing t → AllOthersRefused b targets turns → AllOthersRefused b targets (t ∷ turns)
others_later b targets t turns not_this all b' k e =
    elim e [
      | inl this ↦ absurd (not_this b' k this)
      | inr before ↦ elim (all b' k before) [ inl here ↦ inl here | inr down ↦ inr (inr down) ]
    ]

by_idle : (t : Turn) → t.move ≡ idle → ProposesNothing t
by_idle t e b k h =
    contains_nil (send (message.Propose h.1.0 b h.1.1) k) (subst (λ (m : PaxosMove). Contains m.sends (send (message.Propose h.1.0 b h.1.1) k)) e h.1.2)

by_phase : (t : Turn) (phase : Phase) → t.after.phase ≡ phase → ((b : ℕ) → IsOwn b phase → ⊥) → ProposesNothing t
by_phase t phase e never b k h = never b (subst (IsOwn b) e h.0)

aside_not_own : (phase : Phase) → IsAside phase → (b : ℕ) → IsOwn b phase → ⊥
aside_not_own (Preparing b' w) h b o = absurd h
aside_not_own (ProposingOwn b' u v votes) h b o = absurd h
aside_not_own (ProposingOlder b' u votes) h b o = o
aside_not_own (CommittingOwn b' v heard) h b o = absurd h
aside_not_own (CommittingOlder b' heard) h b o = o
aside_not_own (Completing b' left) h b o = o

-- ---- from known to known

refused_by : (c : Context) (turns : List Turn) (phase : Phase) (retry : Option ℕ) → IsNotOwn phase → Known c turns phase retry → AllRefused turns
refused_by c turns (Preparing b w) retry n h = h.1
refused_by c turns (ProposingOwn b u v votes) retry n h = absurd n
refused_by c turns (ProposingOlder b u votes) retry n h = h
refused_by c turns (CommittingOwn b v heard) retry n h = absurd n
refused_by c turns (CommittingOlder b heard) retry n h = h
refused_by c turns (Completing b left) retry n h = h

abbrev IsNothing : Option ℕ → Type 0
IsNothing None = Unit {0}
IsNothing (Some n) = ⊥

some_not_none : (A : Type 0) (x : Option ℕ) (moment : ℕ) → x ≡ None → x ≡ Some moment → A
some_not_none A x moment e f = absurd (subst IsNothing (sym e ∙ f) tt)

-- a retry is armed behind an own proposal only where all have refused it
refused_if_armed : (c : Context) (turns : List Turn) (phase : Phase) (retry : Option ℕ) (moment : ℕ) → retry ≡ Some moment → Known c turns phase retry → AllRefused turns
refused_if_armed c turns (Preparing b w) retry moment e h = h.1
refused_if_armed c turns (ProposingOwn b u v votes) retry moment e h =
    λ b' k went. elim (h.others b' k went) [
      | inl here ↦
          subst (λ (n : ℕ). Ever (IsRefusal n k) turns) (sym here.0)
          (h.refusals k (all_in votes.targets votes.refused k (h.dead moment e) here.1))
      | inr down ↦ down
    ]
refused_if_armed c turns (ProposingOlder b u votes) retry moment e h = h
refused_if_armed c turns (CommittingOwn b v heard) retry moment e h = some_not_none (AllRefused turns) retry moment h.never e
refused_if_armed c turns (CommittingOlder b heard) retry moment e h = h
refused_if_armed c turns (Completing b left) retry moment e h = h

pub refused_at_new : (c : Context) (turns : List Turn) (o : Operation) → IsNotOwn o.phase ⊎ ((moment : ℕ) × (o.retry ≡ Some moment)) → Known c turns o.phase o.retry → AllRefused turns
refused_at_new c turns o reason h =
    elim reason [
      | inl n ↦ refused_by c turns o.phase o.retry n h
      | inr armed ↦ refused_if_armed c turns o.phase o.retry armed.0 armed.1 h
    ]

-- the same phase, one turn later, in which nothing was sent
known_idle : (before t : Turn) (turns : List Turn) (phase : Phase) (retry : Option ℕ) → GoesOn before t → t.move ≡ idle → Known before.context turns phase retry → Known t.context (t ∷ turns) phase retry
known_idle before t turns (Preparing b w) retry on e h =
    (each_later (IsPromise b) (promisers w.got) t turns h.0, refused_later t turns (by_idle t e) h.1)
known_idle before t turns (ProposingOwn b u v votes) retry on e h = record {
  promises = heard_on before t (IsPromise b) v.promised turns on h.promises;
  acceptances = each_later (IsAcceptance b) votes.accepted t turns h.acceptances;
  refusals = each_later (IsRefusal b) votes.refused t turns h.refusals;
  dead = h.dead;
  others = others_later b votes.targets t turns (by_idle t e) h.others;
}
known_idle before t turns (ProposingOlder b u votes) retry on e h = refused_later t turns (by_idle t e) h
known_idle before t turns (CommittingOwn b v heard) retry on e h = record {
  promises = heard_on before t (IsPromise b) v.promised turns on h.promises;
  accepted = h.accepted;
  acceptances = heard_on before t (IsAcceptance b) h.accepted turns on h.acceptances;
  applied = h.applied;
  acks = each_later (IsAck b) heard t turns h.acks;
  never = h.never;
}
known_idle before t turns (CommittingOlder b heard) retry on e h = refused_later t turns (by_idle t e) h
known_idle before t turns (Completing b left) retry on e h = refused_later t turns (by_idle t e) h

-- a phase with another one's update
known_aside : (c : Context) (turns : List Turn) (phase : Phase) (retry : Option ℕ) → IsAside phase → AllRefused turns → Known c turns phase retry
known_aside c turns (Preparing b w) retry a h = absurd a
known_aside c turns (ProposingOwn b u v votes) retry a h = absurd a
known_aside c turns (ProposingOlder b u votes) retry a h = h
known_aside c turns (CommittingOwn b v heard) retry a h = absurd a
known_aside c turns (CommittingOlder b heard) retry a h = h
known_aside c turns (Completing b left) retry a h = h

self_in : (k : ℕ) (ks : List ℕ) → is_in (k ∷ ks) k ≡ true
self_in k ks = or_left (k == k) (is_in ks k) (eq-eqb k k refl)

later_in : (k : ℕ) (ks : List ℕ) (j : ℕ) → is_in ks j ≡ true → is_in (k ∷ ks) j ≡ true
later_in k ks j h = or_right (k == j) (is_in ks j) h

-- an own proposal has gone to those that are alive
sent_in : (m : PaxosMessage) (ks : List ℕ) (x : PaxosSend) → Contains (send_to m ks) x → is_in ks x.upto ≡ true
sent_in m [] x h = absurd (contains_nil x h)
sent_in m (k ∷ ks) x h =
    elim (contains_cases (send m k) (send_to m ks) x h) [
      | inl here ↦ subst (λ (y : PaxosSend). ((k == y.upto) || is_in ks y.upto) ≡ true) here (self_in k ks)
      | inr more ↦ later_in k ks x.upto (sent_in m ks x more)
    ]

-- only a proposal under its own ballot is sent by it
sent_under : (p : Partition) (b : ℕ) (u : Update) (ks : List ℕ) (q : Partition) (b' : ℕ) (u' : Update) (k : ℕ)
    → Contains (send_to (message.Propose p b u) ks) (send (message.Propose q b' u') k) → is_in ks k ≡ true
sent_under p b u ks q b' u' k h = sent_in (message.Propose p b u) ks (send (message.Propose q b' u') k) h

own_ballot : (t : Turn) (b : ℕ) (u : Update) (v : Verdict) (votes : Votes) → t.after.phase ≡ ProposingOwn b u v votes → (b' k : ℕ) → ProposesTo b' k t → b' ≡ b
own_ballot t b u v votes e b' k h = subst (IsOwn b') e h.0

own_others : (t : Turn) (turns : List Turn) → AllRefused turns → (c : Context) (o : Operation) (b : ℕ) (u : Update) (v : Verdict) → t.move ≡ proposing c o b u
    → t.after.phase ≡ ProposingOwn b u v (no_votes c.alive) → AllOthersRefused b c.alive (t ∷ turns)
own_others t turns all c o b u v moves becomes b' k went =
    elim went [
      | inl this ↦
          inl (
            own_ballot t b u v (no_votes c.alive) becomes b' k this,
            sent_under o.operation.partition b u c.alive this.1.0 b' this.1.1 k
                (subst (λ (m : PaxosMove). Contains m.sends (send (message.Propose this.1.0 b' this.1.1) k)) moves this.1.2),
          )
      | inr before ↦ inr (inr (all b' k before))
    ]

armed_is_dead : (d : Bool) (c : Context) (moment : ℕ) → retry_if d c ≡ Some moment → d ≡ true
armed_is_dead true c moment e = refl
armed_is_dead false c moment e = absurd (subst IsNothing e tt)

module _ (before t : Turn) (turns : List Turn) (on : GoesOn before t) (h : Known before.context turns before.after.phase before.after.retry) where
  at : (phase : Phase) → before.after.phase ≡ phase → Known before.context turns phase before.after.retry
  at phase e = subst (λ (x : Phase). Known before.context turns x before.after.retry) e h

  to_ : (phase : Phase) → t.after.phase ≡ phase → Known t.context (t ∷ turns) phase t.after.retry → Known t.context (t ∷ turns) t.after.phase t.after.retry
  to_ phase e k = subst (λ (x : Phase). Known t.context (t ∷ turns) x t.after.retry) (sym e) k

  known_same : t.move ≡ idle → t.after.phase ≡ before.after.phase → t.after.retry ≡ before.after.retry → Known t.context (t ∷ turns) t.after.phase t.after.retry
  known_same e phase retry =
      to_ before.after.phase phase
      (subst (λ (r : Option ℕ). Known t.context (t ∷ turns) before.after.phase r) (sym retry) (known_idle before t turns before.after.phase before.after.retry on e h))

  known_promised : (b : ℕ) (w : Promises) (p : Promised) → before.after.phase ≡ Preparing b w → t.what ≡ Heard p.from (message.Promise b p.row p.content)
      → t.move ≡ idle → t.after.phase ≡ Preparing b (record w { got = w.got ++ p ∷ [] }) → Known t.context (t ∷ turns) t.after.phase t.after.retry
  known_promised b w p e came quiet_move becomes =
      let k = at (Preparing b w) e in
      to_ (Preparing b (record w { got = w.got ++ p ∷ [] })) becomes (
        subst (λ (ks : List ℕ). Each (IsPromise b) ks (t ∷ turns)) (sym (promisers_push w.got p)) (each_push (IsPromise b) (promisers w.got) p.from t turns k.0 (p.row, p.content, came)),
        refused_later t turns (by_idle t quiet_move) k.1,
      )

  known_refused : (b : ℕ) (w : Promises) (k : ℕ) → before.after.phase ≡ Preparing b w → t.move ≡ idle → t.after.phase ≡ Preparing b (refused_more w k) → Known t.context (t ∷ turns) t.after.phase t.after.retry
  known_refused b w k e quiet_move becomes =
      let was = at (Preparing b w) e in
      to_ (Preparing b (refused_more w k)) becomes (each_later (IsPromise b) (promisers w.got) t turns was.0, refused_later t turns (by_idle t quiet_move) was.1)

  known_anew : IsNotOwn before.after.phase ⊎ ((moment : ℕ) × (before.after.retry ≡ Some moment)) → (b : ℕ) (targets : List ℕ) → t.after.phase ≡ Preparing b (no_promises targets)
      → Known t.context (t ∷ turns) t.after.phase t.after.retry
  known_anew reason b targets becomes =
      to_ (Preparing b (no_promises targets)) becomes (
        none_each (IsPromise b) (t ∷ turns),
        refused_later t turns (by_phase t (Preparing b (no_promises targets)) becomes (λ b' never. never)) (refused_at_new before.context turns before.after reason h),
      )

  known_beside : IsNotOwn before.after.phase → IsAside t.after.phase → Known t.context (t ∷ turns) t.after.phase t.after.retry
  known_beside n a =
      known_aside t.context (t ∷ turns) t.after.phase t.after.retry a
      (refused_later t turns (by_phase t t.after.phase refl (aside_not_own t.after.phase a)) (refused_by before.context turns before.after.phase before.after.retry n h))

  known_own : (b : ℕ) (w : Promises) (p : Promised) (u : Update) (v : Verdict) → before.after.phase ≡ Preparing b w
      → t.what ≡ Heard p.from (message.Promise b p.row p.content) → is_enough t.context t.context.majority (promisers (w.got ++ p ∷ [])) ≡ true
      → v.promised ≡ promisers (w.got ++ p ∷ []) → t.move ≡ proposing t.context before.after b u → t.after.phase ≡ ProposingOwn b u v (no_votes t.context.alive)
      → t.after.retry ≡ retry_if (is_dead (no_votes t.context.alive)) t.context → Known t.context (t ∷ turns) t.after.phase t.after.retry
  known_own b w p u v e came enough who moves becomes retry =
      let k = at (Preparing b w) e in
      to_ (ProposingOwn b u v (no_votes t.context.alive)) becomes (record {
        promises =
            subst (λ (ks : List ℕ). AreHeard t.context t.context.majority (IsPromise b) ks (t ∷ turns)) (sym who) (record {
              enough = enough_is t.context t.context.majority (promisers (w.got ++ p ∷ [])) enough;
              each = subst (λ (ks : List ℕ). Each (IsPromise b) ks (t ∷ turns)) (sym (promisers_push w.got p)) (each_push (IsPromise b) (promisers w.got) p.from t turns k.0 (p.row, p.content, came));
            });
        acceptances = none_each (IsAcceptance b) (t ∷ turns);
        refusals = none_each (IsRefusal b) (t ∷ turns);
        dead = λ moment armed. armed_is_dead (is_dead (no_votes t.context.alive)) t.context moment (sym retry ∙ armed);
        others = own_others t turns k.1 t.context before.after b u v moves becomes;
      })

  known_accepted : (b : ℕ) (u : Update) (v : Verdict) (votes : Votes) (k : ℕ) → before.after.phase ≡ ProposingOwn b u v votes → t.what ≡ Heard k (message.Accepted b)
      → t.move ≡ idle → t.after.phase ≡ ProposingOwn b u v (record votes { accepted = votes.accepted ++ k ∷ [] }) → t.after.retry ≡ before.after.retry
      → Known t.context (t ∷ turns) t.after.phase t.after.retry
  known_accepted b u v votes k e came quiet_move becomes retry =
      let was = at (ProposingOwn b u v votes) e in
      to_ (ProposingOwn b u v (record votes { accepted = votes.accepted ++ k ∷ [] })) becomes (record {
        promises = heard_on before t (IsPromise b) v.promised turns on was.promises;
        acceptances = each_push (IsAcceptance b) votes.accepted k t turns was.acceptances came;
        refusals = each_later (IsRefusal b) votes.refused t turns was.refusals;
        dead = λ moment armed. was.dead moment (sym retry ∙ armed);
        others = others_later b votes.targets t turns (by_idle t quiet_move) was.others;
      })

  known_outvoted : (b : ℕ) (u : Update) (v : Verdict) (votes : Votes) (k promise : ℕ) → before.after.phase ≡ ProposingOwn b u v votes
      → t.what ≡ Heard k (message.Refused b promise true) → t.move ≡ idle → t.after.phase ≡ ProposingOwn b u v (voted_down votes k)
      → t.after.retry ≡ retry_if (is_dead (voted_down votes k)) t.context → Known t.context (t ∷ turns) t.after.phase t.after.retry
  known_outvoted b u v votes k promise e came quiet_move becomes retry =
      let was = at (ProposingOwn b u v votes) e in
      to_ (ProposingOwn b u v (voted_down votes k)) becomes (record {
        promises = heard_on before t (IsPromise b) v.promised turns on was.promises;
        acceptances = each_later (IsAcceptance b) votes.accepted t turns was.acceptances;
        refusals = each_push (IsRefusal b) votes.refused k t turns was.refusals (promise, came);
        dead = λ moment armed. armed_is_dead (is_dead (voted_down votes k)) t.context moment (sym retry ∙ armed);
        others = others_later b votes.targets t turns (by_idle t quiet_move) was.others;
      })

  known_chosen : (b : ℕ) (u : Update) (v : Verdict) (votes : Votes) (k : ℕ) → before.after.phase ≡ ProposingOwn b u v votes → t.what ≡ Heard k (message.Accepted b)
      → is_enough t.context t.context.majority (votes.accepted ++ k ∷ []) ≡ true → is_applied v.reply ≡ true → t.after.phase ≡ CommittingOwn b v [] → t.after.retry ≡ None
      → Known t.context (t ∷ turns) t.after.phase t.after.retry
  known_chosen b u v votes k e came enough applied becomes retry =
      let was = at (ProposingOwn b u v votes) e in
      to_ (CommittingOwn b v []) becomes (record {
        promises = heard_on before t (IsPromise b) v.promised turns on was.promises;
        accepted = votes.accepted ++ k ∷ [];
        acceptances = record { enough = enough_is t.context t.context.majority (votes.accepted ++ k ∷ []) enough; each = each_push (IsAcceptance b) votes.accepted k t turns was.acceptances came };
        applied = applied;
        acks = none_each (IsAck b) (t ∷ turns);
        never = retry;
      })

  known_acked : (b : ℕ) (v : Verdict) (heard : List ℕ) (k : ℕ) → before.after.phase ≡ CommittingOwn b v heard → t.what ≡ Heard k (message.CommitAck b)
      → t.after.phase ≡ CommittingOwn b v (heard ++ k ∷ []) → t.after.retry ≡ None → Known t.context (t ∷ turns) t.after.phase t.after.retry
  known_acked b v heard k e came becomes retry =
      let was = at (CommittingOwn b v heard) e in
      to_ (CommittingOwn b v (heard ++ k ∷ [])) becomes (record {
        promises = heard_on before t (IsPromise b) v.promised turns on was.promises;
        accepted = was.accepted;
        acceptances = heard_on before t (IsAcceptance b) was.accepted turns on was.acceptances;
        applied = was.applied;
        acks = each_push (IsAck b) heard k t turns was.acks came;
        never = retry;
      })

  ended_not : (m : PaxosMove) → t.move ≡ m → m.ended ≡ true → t.move.ended ≡ false → Known t.context (t ∷ turns) t.after.phase t.after.retry
  ended_not m e ends goes = absurd (false≢true (sym goes ∙ ap (λ (x : PaxosMove). x.ended) e ∙ ends))

  known_kind : (id : ReqId) → t.move.ended ≡ false → Kind id t.context t.what before.after t.move t.after → Known t.context (t ∷ turns) t.after.phase t.after.retry
  known_kind id goes (same e phase retry) = known_same e phase retry
  known_kind id goes (promised b w p e came quiet_move becomes) = known_promised b w p e came quiet_move becomes
  known_kind id goes (refused b w k e quiet_move becomes) = known_refused b w k e quiet_move becomes
  known_kind id goes (anew reason moves becomes) = known_anew reason (new_ballot t.context) t.context.alive becomes
  known_kind id goes (aside n a none silent) = known_beside n a
  known_kind id goes (own b w p u v e came enough who moves becomes retry) = known_own b w p u v e came enough who moves becomes retry
  known_kind id goes (accepted b u v votes k e came quiet_move becomes retry) = known_accepted b u v votes k e came quiet_move becomes retry
  known_kind id goes (chosen b u v votes k e came enough applied moves becomes retry) = known_chosen b u v votes k e came enough applied becomes retry
  known_kind id goes (told_empty b u v votes k e came enough applied moves) = ended_not _ moves refl goes
  known_kind id goes (acked b v heard k e came quiet_move becomes retry) = known_acked b v heard k e came becomes retry
  known_kind id goes (told_applied b v heard k e came enough moves) = ended_not _ moves refl goes
  known_kind id goes (outvoted b u v votes k promise e came quiet_move becomes retry) = known_outvoted b u v votes k promise e came quiet_move becomes retry
  known_kind id goes (timed_out moves) = ended_not _ moves refl goes

-- ---- stories

begins_known : (id : ReqId) (t : Turn) (what : Happening) → BeginsBy id t.context what t.move t.after → Known t.context (t ∷ []) t.after.phase t.after.retry
begins_known id t (Asked level op) h =
    subst (λ (o : Operation). Known t.context (t ∷ []) o.phase o.retry) (sym h.1) (
      none_each (IsPromise (new_ballot t.context)) (t ∷ []),
      λ b k e. elim e [
        | inl this ↦ absurd (subst (λ (o : Operation). IsOwn b o.phase) h.1 this.0)
        | inr none ↦ absurd none
      ],
    )
begins_known id t (Heard k m) h = absurd h
begins_known id t Time h = absurd h

pub known : (id : ReqId) (t : Turn) (turns : List Turn) → IsStory id (t ∷ turns) → t.move.ended ≡ false → Known t.context (t ∷ turns) t.after.phase t.after.retry
known id t [] story goes = begins_known id t t.what story.1
known id t (before ∷ earlier) story goes =
    known_kind before t (before ∷ earlier) story.1.0 (known id before earlier story.0 story.1.0.open_still) id goes
    (kind_of id t.context before.after t.move t.after t.what story.1.1)
