-- The chronicle enters what the clients of a served run were told.
use Rattle.std.proofs.Common.{◌≡◌, ◌⊎◌, ℕ, inl, inr, Bool, true, false, Option, Some, None, Result, Ok, Err, List, [], ◌++◌, Contains, length, refl, sym, ap, subst, ◌∙◌}
use Rattle.std.specs.Prelude.{if◌then◌else◌, slice_get, Vec}
use Rattle.std.specs.declared.alloc.Global.{Global}
use Rattle.std.proofs.lemmas.List.Elements.{Contains-append_left, Contains-append_right}
use Rattle.cs_base.specs.declared.ids.ReqId.{ReqId}
use Rattle.cs_base.proofs.Members.{contains_flat, contains_here, contains_nil}
use Rattle.peer_messages.specs.declared.chronicle.Entry.{Entry}
use Rattle.peer_messages.specs.declared.chronicle.Entry.TheVariants as entry
use Rattle.peer_messages.specs.declared.event.Ask.{Ask}
use Rattle.peer_messages.specs.declared.event.What.TheVariants.{Client, Collect}
use Rattle.peer_messages.specs.declared.outcome.Outputs.{Outputs}
use Rattle.peer_messages.specs.declared.setting.Setting.{Setting}
use Rattle.client_desk.specs.Asks.{Asked}
use Rattle.client_desk.specs.declared.answer.Answer.{Answer}
use Rattle.client_desk.specs.declared.answer.Answer.TheVariants as answer
use Rattle.node_calls.specs.Calls.{call_of, optional_call_of}
use Rattle.node_calls.specs.declared.call.NodeCall.{NodeCall}
use Rattle.node_calls.specs.declared.reply.NodeReply.{NodeReply}
use Rattle.node_steps.specs.Stops.{asked_by}
use Rattle.node_core.specs.declared.node.Node.{Node}
use Rattle.node_core.specs.declared.outcome.StepError.{StepError}
use Rattle.node_lock.specs.declared.answers.LockRefused.{LockRefused}
use Rattle.node_lock.specs.declared.answers.LockRefused.TheVariants as lock
use Rattle.node_lock.specs.declared.answers.Receipt.{Receipt}
use Rattle.node_workers.specs.Calls.{Called, Outcome, answer_by, answer_because, called, event_at, name_by, name_in}
use Rattle.node_workers.specs.Told.{AsksAreTold, GoesOnAs, IsCollected, IsTold}
use Rattle.cluster_runs.specs.World.{World}
use Rattle.lawful_orders.specs.Histories.{Taken}
use Rattle.lawful_orders.specs.Merged.{IsMerged}
use Rattle.lawful_orders.specs.Orders.{IsOrderOf, Placed, RunsThrough}
use Rattle.wired_node.specs.Answers.{collected_by}
use Rattle.wired_node.specs.Laws.{HasGone}
use Rattle.wired_node.specs.Making.{MakesIn, RefusesIn, call_in, reply_in}
use Rattle.wired_node.specs.States.{Wiring}
use Rattle.wired_node.specs.declared.entry.NodeEntry.{NodeEntry}
use Rattle.wired_histories.specs.Told.{taken_by, taken_in, told_as}
use Rattle.served_nodes.specs.declared.node.NodeLeft.{NodeLeft}
use Rattle.served_stores.specs.Shown.{Shown}
use Rattle.served_run.specs.declared.desk.Desk.{Desk}
use Rattle.served_run.specs.declared.host.Host.{Host}
use Rattle.served_cluster.specs.declared.ending.ServedRun.{ServedRun}
use Rattle.served_cluster.specs.Kinds.{ReplicaKind, DoorKind, StreamKind}
use Rattle.served_cluster.specs.Served.{EndsWell, HaveServed}
use Rattle.served_theorem.specs.Left.{histories_of}
use Rattle.served_theorem.specs.Visits.{IsDeclined, IsEntered, IsTrueTo, IsTurned, TellsAll, visits_served}
use Rattle.served_theorem.proofs.Chronicles.{IsAdded, all_added, is_in_order}
use Rattle.served_theorem.proofs.Entries.{all_of}
use Rattle.served_theorem.proofs.Lists.{all_at, get_map}
use Rattle.served_theorem.proofs.Places.{placed}
use Rattle.served_theorem.proofs.Told.{Tells, history_begins, history_goes, history_tells}
use Rattle.served_theorem.proofs.Visiting.{made_at}

-- ---- names and answers of calls

-- a call of which a name came made a step that told it
record Names (outcome : Outcome) (id : ReqId) : Type 0 where
  pub receipt : Receipt NodeReply
  pub is : outcome ≡ Ok receipt
  pub started : receipt.reply.started ≡ Some id

error_not : (a : Answer) (id : ReqId) → (let r : Result ReqId Answer = Err a in r) ≡ Ok id → ⊥
error_not a id e = cc

name_is : (started : Option ReqId) (id : ReqId) → name_in started ≡ Ok id → started ≡ Some id
name_is None id e = absurd (error_not answer.NoMemory id e)
name_is (Some other) id e = ap (λ (x : ReqId). Some x) (same other id e)
  where
    same : (x y : ReqId) → (let r : Result ReqId Answer = Ok x in r) ≡ Ok y → x ≡ y
    same x y e' = cc

name_if : (failed : Bool) (started : Option ReqId) (a : Answer) (id : ReqId) → (if failed then Err a else name_in started) ≡ Ok id → started ≡ Some id
name_if true started a id e = absurd (error_not a id e)
name_if false started a id e = name_is started id e

named_by : (outcome : Outcome) (id : ReqId) → name_by outcome ≡ Ok id → Names outcome id
named_by (Ok receipt) id e = record { receipt = receipt; is = refl; started = name_if receipt.reply.failed receipt.reply.started _ id e }
named_by (Err (lock.Full call)) id e = absurd (error_not _ id e)
named_by (Err (lock.Refused call)) id e = absurd (error_not (answer_because call.cause) id e)

none_some : {X : Type 0} (x : X) → None ≡ Some x → ⊥
none_some x e = cc

some_same : {X : Type 0} (x y : X) → Some x ≡ Some y → x ≡ y
some_same x y e = cc

-- where a request has a name, a step told it, and its answer was collected under it
goes_on : (calls : List Called) (q : Asked) (outcome : Outcome) (name : Result ReqId Answer) → name_by outcome ≡ name → GoesOnAs calls q name → (id : ReqId) → q.request ≡ Some id → Names outcome id × IsCollected calls id q.answer
goes_on calls q outcome (Ok other) is goes id e =
    let same : other ≡ id = some_same other id (sym goes.0 ∙ e) in
    (subst (λ (x : ReqId). Names outcome x) same (named_by outcome other is), subst (λ (x : ReqId). IsCollected calls x q.answer) same goes.1)
goes_on calls q outcome (Err a) is goes id e = absurd (none_some id (sym goes.0 ∙ e))

answer_if : (failed : Bool) (found : Option Answer) (a b : Answer) → failed ≡ false → (if failed then Some a else found) ≡ Some b → found ≡ Some b
answer_if true found a b never e = cc
answer_if false found a b is e = e

-- a request without a name is answered by what came of the call
refused_answer : (calls : List Called) (q : Asked) (refused : LockRefused NodeCall) → GoesOnAs calls q (name_by (Err refused)) → (a : Answer) × (q.answer ≡ Some a) × (name_by (Err refused) ≡ Err a)
refused_answer calls q (lock.Full call) goes = (_, goes.1, refl)
refused_answer calls q (lock.Refused call) goes = (_, goes.1, refl)

name_of : (failed : Bool) (started : Option ReqId) (a : Answer) (id : ReqId) → failed ≡ false → started ≡ Some id → (if failed then Err a else name_in started) ≡ Ok id
name_of true started a id never e = cc
name_of false started a id well e = ap name_in e

named_so : (e : NodeEntry) (receipt : Receipt NodeReply) (o : Outputs) (p : Placed) (id : ReqId) → e.reply.value ≡ receipt.reply → e.reply.value.started ≡ o.started → p.taken ≡ record { event = e.call.event; outputs = o } → p.taken.outputs.started ≡ Some id
    → receipt.reply.started ≡ Some id
named_so e receipt o p id reply started same is = sym (ap (λ (y : NodeReply). y.started) reply) ∙ started ∙ ap (λ (y : Taken). y.outputs.started) (sym same) ∙ is

went_so : (e : NodeEntry) (receipt : Receipt NodeReply) → e.reply.value ≡ receipt.reply → e.reply.value.failed ≡ false → receipt.reply.failed ≡ false
went_so e receipt reply gone = ap (λ (y : NodeReply). y.failed) (sym reply) ∙ gone

-- ---- the visit of a client

module _ {R K D L W G C S T : Type 0} (r : ReplicaKind R) (d : DoorKind D L) (gives : C → ℕ → Type 0) (s : StreamKind S T) (host : Host W C G) (desk : Desk S T) (counted : Type 0)
    (nodes : List (Node R K)) (doors : List (Vec D Global)) (out new : Shown) (result : ServedRun S T) (full : Option ℕ)
    (asks_told : AsksAreTold gives)
    (h : HaveServed r d gives s host desk counted nodes doors out new result full) (many : length doors ≡ length nodes)
    (begun last : World) (order : List Placed) (is : IsOrderOf (histories_of h.left) order ⊎ IsMerged (histories_of h.left) order) (new_ones : IsAdded order begun last) where
  -- the chronicle has what a step of a node's history entered
  step_entered : (k : ℕ) (left : NodeLeft (Wiring R) D NodeEntry) → slice_get h.left k ≡ Some left → (x : ℕ × NodeEntry) → Contains left.history x → (o : Outputs) → x.1.told.value ≡ Ok o
      → (e : Entry) → Contains (asked_by o.started ++ o.entries) e → Contains new_ones.added e
  step_entered k left at x there o told e own =
      let t : Taken = record { event = x.1.call.event; outputs = o } in
      let one : Contains (taken_by x) t = subst (λ (res : Result Outputs StepError). Contains (told_as x.1.call.event res) t) (sym told) (contains_here t []) in
      let mine : Contains (taken_in left.history) t = contains_flat taken_by left.history x t there one in
      let stands = is_in_order (histories_of h.left) order is k (taken_in left.history) (get_map (λ (z : NodeLeft (Wiring R) D NodeEntry). taken_in z.history) h.left k left at) t mine in
      new_ones.each stands.placed stands.there e (stands.enters e own)

  module _ (k : ℕ) (left : NodeLeft (Wiring R) D NodeEntry) (at : slice_get h.left k ≡ Some left) (calls : List Called)
      (tells : (call : NodeCall) (receipt : Receipt NodeReply) → Contains calls (called call (Ok receipt)) → Tells call_in reply_in call receipt.reply left.history) where
    named_entered : (call : NodeCall) (outcome : Outcome) (id : ReqId) → Contains calls (called call outcome) → Names outcome id → Contains new_ones.added (entry.Asked (Some id))
    named_entered call outcome id there n =
        let p = placed r d gives s host desk counted nodes doors out new result full h many k left at in
        let told = tells call n.receipt (subst (λ (o : Outcome). Contains calls (called call o)) n.is there) in
        let begins = history_begins r.is_honest r.stands_for r.durable r.log_end r.since_flush r.disk r.faults p.part.state left.state left.history p.replays told.entry told.there id
        (ap (λ (y : NodeReply). y.started) told.reply_is ∙ n.started) in
        step_entered k left at told.entry told.there begins.0 begins.1 (entry.Asked (Some id))
        (Contains-append_left (asked_by begins.0.started) begins.0.entries (entry.Asked (Some id))
        (subst (λ (started : Option ReqId). Contains (asked_by started) (entry.Asked (Some id))) (sym begins.2) (contains_here (entry.Asked (Some id)) [])))

    answer_entered : (clock : ℕ) (outcome : Outcome) (id : ReqId) (a : Answer) → Contains calls (called (optional_call_of (event_at clock (Collect id))) outcome) → answer_by outcome ≡ Some a → IsEntered new_ones.added id a ⊎ IsDeclined calls id a
    answer_entered clock (Err refused) id a there e = inr (record { clock = clock; refused = refused; made = there; tells = e })
    answer_entered clock (Ok receipt) id a there e =
        let p = placed r d gives s host desk counted nodes doors out new result full h many k left at in
        let told = tells (optional_call_of (event_at clock (Collect id))) receipt there in
        let gone = all_of HasGone left.history told.entry (all_at EndsWell h.left k left h.well at).gone told.there in
        let went : receipt.reply.failed ≡ false = went_so told.entry.1 receipt told.reply_is gone in
        let given : receipt.reply.answer ≡ Some a = answer_if receipt.reply.failed receipt.reply.answer _ a went e in
        let nothing : p.part.state.answers ≡ [] = ap (λ (w : Wiring R). w.answers) p.state in
        let found = history_tells r.is_honest r.stands_for r.durable r.log_end r.since_flush r.disk r.faults (λ (x : Entry). Contains new_ones.added x) p.part.state left.state left.history p.replays
        (λ x kept. absurd (contains_nil x (subst (λ (es : List Entry). Contains es x) nothing kept)))
        (λ x x_at o made x' own. step_entered k left at x x_at o made x' (Contains-append_right (asked_by o.started) o.entries x' own))
        told.entry told.there id a (ap (λ (y : NodeCall). collected_by y.event.what) told.call_is) (ap (λ (y : NodeReply). y.answer) told.reply_is ∙ given) in
        inl (record { entry = found.0; entered = found.1; is_to = found.2; tells = found.3 })

    collected_entered : (id : ReqId) (found : Option Answer) (a : Answer) → IsCollected calls id found → found ≡ Some a → IsEntered new_ones.added id a ⊎ IsDeclined calls id a
    collected_entered id None a got e = absurd (none_some a e)
    collected_entered id (Some b) a (clock, outcome, there, is_b) e = answer_entered clock outcome id a there (is_b ∙ e)

    -- a step that took a request named it
    step_named : (clock : ℕ) (ask : Ask) (receipt : Receipt NodeReply) → Contains calls (called (call_of (event_at clock (Client ask))) (Ok receipt)) → (id : ReqId) × (name_by (Ok receipt) ≡ Ok id)
    step_named clock ask receipt there =
        let p = placed r d gives s host desk counted nodes doors out new result full h many k left at in
        let told = tells (call_of (event_at clock (Client ask))) receipt there in
        let gone = all_of HasGone left.history told.entry (all_at EndsWell h.left k left h.well at).gone told.there in
        let went : receipt.reply.failed ≡ false = went_so told.entry.1 receipt told.reply_is gone in
        let goes = history_goes r.is_honest r.stands_for r.durable r.log_end r.since_flush r.disk r.faults p.part.state left.state left.history p.replays told.entry told.there gone in
        let t : Taken = record { event = told.entry.1.call.event; outputs = goes.0 } in
        let one : Contains (taken_by told.entry) t = subst (λ (res : Result Outputs StepError). Contains (told_as told.entry.1.call.event res) t) (sym goes.1) (contains_here t []) in
        let mine : Contains (taken_in left.history) t = contains_flat taken_by left.history told.entry t told.there one in
        let stands = is_in_order (histories_of h.left) order is k (taken_in left.history) (get_map (λ (z : NodeLeft (Wiring R) D NodeEntry). taken_in z.history) h.left k left at) t mine in
        let asks : t.event.what ≡ Client ask = ap (λ (y : NodeCall). y.event.what) told.call_is in
        let same = stands.same ask asks in
        let named = new_ones.names stands.placed stands.there ask (ap (λ (y : Taken). y.event.what) same ∙ asks) in
        let started : receipt.reply.started ≡ Some named.0 = named_so told.entry.1 receipt goes.0 stands.placed named.0 told.reply_is goes.2 same named.1 in
        (named.0, name_of receipt.reply.failed receipt.reply.started _ named.0 went started)

    unnamed_turned : (q : Asked) (clock : ℕ) (outcome : Outcome) → Contains calls (called (call_of (event_at clock (Client q.ask))) outcome) → GoesOnAs calls q (name_by outcome) → q.request ≡ None
        → (answer : Answer) × (q.answer ≡ Some answer) × IsTurned calls q.ask answer
    unnamed_turned q clock (Err refused) there goes none = let told = refused_answer calls q refused goes in (told.0, told.1, record { clock = clock; refused = refused; made = there; tells = told.2 })
    unnamed_turned q clock (Ok receipt) there goes none =
        let named = step_named clock q.ask receipt there in
        let has = subst (λ (name : Result ReqId Answer). GoesOnAs calls q name) named.1 goes in
        absurd (none_some named.0 (sym none ∙ has.0))

    asked_true : (q : Asked) → IsTold calls q → IsTrueTo new_ones.added calls q
    asked_true q t = record {
      begun = λ id e. named_entered _ t.outcome id t.submitted (goes_on calls q t.outcome (name_by t.outcome) refl t.goes_on id e).0;
      answered = λ id a e is_a. collected_entered id q.answer a (goes_on calls q t.outcome (name_by t.outcome) refl t.goes_on id e).1 is_a;
      turned = λ none. unnamed_turned q t.clock t.outcome t.submitted t.goes_on none;
    }

  pub all_true : TellsAll begun last (visits_served r d gives s host desk counted h)
  all_true = record {
    added = new_ones.added;
    chronicle = new_ones.is;
    each = λ x there.
        let at =
        made_at (MakesIn r.is_honest r.stands_for r.durable r.log_end r.since_flush r.disk r.faults) call_in reply_in (RefusesIn r.is_honest r.stands_for r.durable r.log_end r.since_flush r.disk r.faults) gives
        d.remaining d.written d.link_faults d.given d.returned d.faults host counted s.remaining s.source_faults s.contents s.sink_faults h.parts h.have_run.done.console.nodes.items h.left h.have_run.nodes_ran x there in
        λ i q below. asked_true at.number at.left at.left_at x.calls at.tells _ (asks_told host.clock.now x.calls at.desk i q below);
  }

pub tells_all : {R K D L W G C S T : Type 0} (r : ReplicaKind R) (d : DoorKind D L) (gives : C → ℕ → Type 0) (s : StreamKind S T) (host : Host W C G) (desk : Desk S T) (counted : Type 0)
    (nodes : List (Node R K)) (doors : List (Vec D Global)) (out new : Shown) (result : ServedRun S T) (full : Option ℕ)
    → AsksAreTold gives
    → (h : HaveServed r d gives s host desk counted nodes doors out new result full) → length doors ≡ length nodes
    → (c : Setting) (begun last : World) (order : List Placed) → IsOrderOf (histories_of h.left) order ⊎ IsMerged (histories_of h.left) order → RunsThrough c begun order last
    → TellsAll begun last (visits_served r d gives s host desk counted h)
tells_all r d gives s host desk counted nodes doors out new result full asks_told h many c begun last order is through =
    all_true r d gives s host desk counted nodes doors out new result full asks_told h many begun last order is (all_added c order begun last through)
