-- Each message that a node of a served run took was sent by a step of another one.
use Rattle.std.proofs.Common.{◌≡◌, ◌≢◌, ℕ, ◌<◌, Option, Some, Result, Ok, Err, List, Contains, length, map, sym, ap, subst, ◌∙◌, arith}
use Rattle.std.specs.Prelude.{slice_get, Vec}
use Rattle.std.specs.declared.alloc.Global.{Global}
use Rattle.std.proofs.lemmas.List.Elements.{Contains-append_left}
use Rattle.cs_base.proofs.Members.{contains_from_flat, contains_nil, contains_one}
use Rattle.peer_messages.specs.declared.event.Event.{Event}
use Rattle.peer_messages.specs.declared.message.Message.{Message}
use Rattle.peer_messages.specs.declared.outcome.Outputs.{Outputs}
use Rattle.node_core.specs.declared.node.Node.{Node}
use Rattle.node_core.specs.declared.outcome.StepError.{StepError}
use Rattle.node_links.specs.Ends.{put_by, taken_by}
use Rattle.node_links.specs.declared.ends.Receiver.{Receiver}
use Rattle.lawful_orders.specs.Histories.{DeliverTheirOwn, IsOfHistories, Taken}
use Rattle.lawful_orders.proofs.Places.{get_below, get_from_map, get_within}
use Rattle.wired_histories.specs.Laws.{FreshLinksTakeWhatIsSent, LinksTakeWhatIsSent}
use Rattle.wired_histories.specs.Told.{taken_by as steps_by, taken_in, told_as}
use Rattle.wired_node.specs.States.{Wiring}
use Rattle.wired_node.specs.declared.entry.NodeEntry.{NodeEntry}
use Rattle.wired_node.specs.declared.senders.NodeSender.{NodeSender}
use Rattle.served_links.specs.Ends.{place_of}
use Rattle.served_links.specs.Nodes.{AreSettled, ends_of, upto_of}
use Rattle.served_nodes.specs.declared.node.NodeLeft.{NodeLeft}
use Rattle.served_assembly.specs.Parting.{ends_left, receivers_in}
use Rattle.served_stores.specs.Shown.{Shown}
use Rattle.served_run.specs.declared.desk.Desk.{Desk}
use Rattle.served_run.specs.declared.host.Host.{Host}
use Rattle.served_cluster.specs.declared.ending.ServedRun.{ServedRun}
use Rattle.served_cluster.specs.Kinds.{ReplicaKind, DoorKind, StreamKind}
use Rattle.served_cluster.specs.Served.{HaveServed}
use Rattle.served_theorem.specs.Left.{histories_of}
use Rattle.served_theorem.proofs.Lists.{get_map}
use Rattle.served_theorem.proofs.Others.{node_at, others_at}
use Rattle.served_theorem.proofs.Places.{IsPlaced, as_many_left, placed}

told_event : (event : Event) (told : Result Outputs StepError) (t : Taken) → Contains (told_as event told) t → t.event ≡ event
told_event event (Ok o) t h = sym (ap (λ (x : Taken). x.event) (contains_one (record { event = event; outputs = o }) t h))
told_event event (Err error) t h = absurd (contains_nil t h)

taken_was_put : (s : NodeSender) (r : Receiver Message) → AreSettled s r → (m : Message) → Contains (taken_by r) m → Contains (put_by s.sender) m
taken_was_put s r ((left, put), known) m h = subst (λ (ms : List Message). Contains ms m) (sym put) (Contains-append_left (taken_by r) left m h)

module _ {R K D L W G C S T : Type 0} (r : ReplicaKind R) (d : DoorKind D L) (gives : C → ℕ → Type 0) (s : StreamKind S T) (host : Host W C G) (desk : Desk S T) (counted : Type 0)
    (nodes : List (Node R K)) (doors : List (Vec D Global)) (out new : Shown) (result : ServedRun S T) (full : Option ℕ)
    (take_all : LinksTakeWhatIsSent r.is_honest r.stands_for r.durable r.log_end r.since_flush r.disk r.faults)
    (take_fresh : FreshLinksTakeWhatIsSent r.is_honest r.stands_for r.durable r.log_end r.since_flush r.disk r.faults)
    (h : HaveServed r d gives s host desk counted nodes doors out new result full) (many : length doors ≡ length nodes) where
  -- what was taken from a link was sent by a step of the node from which it leads
  taken_was_sent : (from k : ℕ) (x y : NodeLeft (Wiring R) D NodeEntry) → from ≢ k → k < length nodes → slice_get h.left from ≡ Some x → slice_get h.left k ≡ Some y
      → IsPlaced r d gives s host desk counted nodes doors out new result full h from x → (p : IsPlaced r d gives s host desk counted nodes doors out new result full h k y)
      → (place : ℕ) → place_of from k ≡ place → place < length p.links.receivers → (receiver : Receiver Message) → slice_get (receivers_in y.jobs.items) place ≡ Some receiver
      → (m : Message) → Contains (taken_by receiver) m → IsOfHistories (histories_of h.left) k m
  taken_was_sent from k x y apart below x_at y_at q p place place_is within receiver receiver_at m taken =
      let lead = (h.wired.lead.1 from (ends_of q.links) (get_map ends_of h.wired.links from q.links q.links_at)).0 in
      let upto : slice_get (map upto_of q.links.senders.items) (place_of k from) ≡ Some k =
      subst (λ (ns : List ℕ). slice_get ns (place_of k from) ≡ Some k) (sym lead) (others_at from (length nodes) k below apart) in
      let sender = get_from_map upto_of q.links.senders.items (place_of k from) k upto in
      let there : q.part.state.senders ≡ q.links.senders.items = ap (λ (w : Wiring R). w.senders) q.state in
      let began : slice_get q.part.state.senders (place_of k from) ≡ Some sender.0 = subst (λ (ss : List NodeSender). slice_get ss (place_of k from) ≡ Some sender.0) (sym there) sender.1 in
      let first = get_below p.links.receivers place within in
      let none = (h.wired.fresh from k (ends_of q.links) (ends_of p.links) sender.0 first.0 apart (get_map ends_of h.wired.links from q.links q.links_at) (get_map ends_of h.wired.links k p.links p.links_at) sender.1
      (subst (λ (i : ℕ). slice_get p.links.receivers i ≡ Some first.0) (sym place_is) first.1)).1 in
      let as_many = (take_all q.part.state x.state x.history q.replays).as_many in
      let last = get_below x.state.senders (place_of k from) (subst (λ (n : ℕ). place_of k from < n) (sym as_many) (get_within q.part.state.senders (place_of k from) sender.0 began)) in
      let settled = h.settled from k (ends_left x) (ends_left y) last.0 receiver apart (get_map ends_left h.left from x x_at) (get_map ends_left h.left k y y_at) last.1
      (subst (λ (i : ℕ). slice_get (receivers_in y.jobs.items) i ≡ Some receiver) (sym place_is) receiver_at) in
      let put : Contains (put_by last.0.sender) m = taken_was_put last.0 receiver settled m taken in
      let sent = take_fresh q.part.state x.state x.history (place_of k from) sender.0 last.0 q.replays began last.1 none m put in
      record {
        upto = sent.0 ∙ sender.2;
        sender = from;
        history = taken_in x.history;
        at = get_map (λ (z : NodeLeft (Wiring R) D NodeEntry). taken_in z.history) h.left from x x_at;
        sent = sent.1;
      }

  pub all_were_sent : DeliverTheirOwn (histories_of h.left)
  all_were_sent k history at t contains m delivers =
      let from_left = get_from_map (λ (z : NodeLeft (Wiring R) D NodeEntry). taken_in z.history) h.left k history at in
      let y = from_left.0 in
      let entry = contains_from_flat steps_by y.history t (subst (λ (ts : List Taken). Contains ts t) (sym from_left.2) contains) in
      let event : t.event ≡ entry.0.1.call.event = told_event entry.0.1.call.event entry.0.1.told.value t entry.2 in
      let p = placed r d gives s host desk counted nodes doors out new result full h many k y from_left.1 in
      let took = p.takes entry.0 entry.1 m (ap (λ (e : Event). e.what) (sym event) ∙ delivers) in
      let below : k < length nodes = get_within nodes k p.node p.node_at in
      let rows = (h.wired.lead.1 k (ends_of p.links) (get_map ends_of h.wired.links k p.links p.links_at)).1 in
      let within = took.within in
      let other = node_at k (length nodes) took.place (omega (arith, rows, within)) below in
      let left_there = get_below h.left other.other (subst (λ (n : ℕ). other.other < n) (sym (as_many_left r d gives s host desk counted nodes doors out new result full h many)) other.within) in
      taken_was_sent other.other k left_there.0 y other.apart below left_there.1 from_left.1
      (placed r d gives s host desk counted nodes doors out new result full h many other.other left_there.0 left_there.1) p took.place other.is took.within took.receiver took.at m took.taken
