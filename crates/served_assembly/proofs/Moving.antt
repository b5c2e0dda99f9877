-- What runs leave of the links and the doors of their nodes.
use Rattle.std.proofs.Common.{◌≡◌, ◌⊎◌, ℕ, suc, Bool, List, [], ◌∷◌, length, map, inl, inr, refl, sym, ap, subst, ◌∙◌}
use Rattle.std.specs.Prelude.{Option, Vec}
use Rattle.std.specs.List.{AllZip}
use Rattle.std.specs.declared.alloc.Global.{Global}
use Rattle.cs_store.specs.Disk.{Disk}
use Rattle.durable_state.specs.State.{Durable}
use Rattle.peer_messages.specs.declared.message.Message.{Message}
use Rattle.schema_book.specs.Books.{Book}
use Rattle.node_calls.specs.declared.call.NodeCall.{NodeCall}
use Rattle.node_calls.specs.declared.reply.NodeReply.{NodeReply}
use Rattle.node_core.specs.declared.node.Node.{Node}
use Rattle.node_links.specs.Ends.{IsSameReceiver}
use Rattle.node_links.specs.declared.ends.Receiver.{Receiver}
use Rattle.node_lock.specs.Views.{PassView}
use Rattle.node_workers.specs.Deliveries.{taken_in}
use Rattle.node_workers.specs.Taking.{Take, TakeFrom}
use Rattle.served_jobs.specs.declared.duty.Duty.{Duty}
use Rattle.served_jobs.specs.declared.duty.Duty.TheVariants as duty
use Rattle.served_links.specs.Ends.{HasSameEnds}
use Rattle.served_links.specs.Nodes.{ends_of, IsSameLead, SameEndsStayLinked}
use Rattle.served_links.specs.declared.ends.NodeLinks.{NodeLinks}
use Rattle.served_seats.specs.Seats.{fresh}
use Rattle.served_nodes.specs.Jobs.{DidIfStarted}
use Rattle.served_nodes.specs.Nodes.{JobsRan, NodeRan}
use Rattle.served_nodes.specs.declared.node.JobLeft.{JobLeft}
use Rattle.served_nodes.specs.declared.node.NodeLeft.{NodeLeft}
use Rattle.served_nodes.specs.declared.node.NodeParts.{NodeParts}
use Rattle.wired_node.specs.Laws.{MessagesArePut, sent_in}
use Rattle.wired_node.specs.Making.{MakesIn, RefusesIn, call_in, reply_in}
use Rattle.wired_node.specs.Sending.{ArePut}
use Rattle.wired_node.specs.States.{Wiring}
use Rattle.wired_node.specs.declared.entry.NodeEntry.{NodeEntry}
use Rattle.wired_node.specs.declared.senders.NodeSender.{NodeSender}
use Rattle.served_assembly.specs.Assembling.{IsAssembled, duties_of}
use Rattle.served_assembly.specs.Linking.{HasMoved, LinksStayWhole}
use Rattle.served_assembly.specs.Parting.{IsLedByLinks, IsLinks, doors_in, ends_left, receivers_in, receivers_in_duty, with_door}

-- ---- ends that stay the same

same_receivers : (rs : List (Receiver Message)) → AllZip IsSameReceiver rs rs
same_receivers [] = tt
same_receivers (r ∷ rs) = (((refl, refl, refl, refl), refl), same_receivers rs)

taken_same : (place : ℕ) (rs : List (Receiver Message)) (taken : List (ℕ × Message)) (rs' : List (Receiver Message)) → TakeFrom place rs taken rs' → AllZip IsSameReceiver rs rs'
taken_same place [] taken [] take = tt
taken_same place [] taken (r' ∷ rs') take = absurd take
taken_same place (r ∷ rs) taken [] take = absurd take
taken_same place (r ∷ rs) taken (r' ∷ rs') take = (take.0, taken_same (suc place) rs taken rs' take.2)

put_same : (sent : List (Message × Bool)) (ss ss' : List NodeSender) → ArePut sent ss ss' → AllZip IsSameLead ss ss'
put_same sent [] [] put = tt
put_same sent [] (s' ∷ ss') put = absurd put
put_same sent (s ∷ ss) [] put = absurd put
put_same sent (s ∷ ss) (s' ∷ ss') put = ((put.0.upto, put.0.same), put_same sent ss ss' put.1)

module _ {R : Type 0} (D : Type 0) (honest : Type 0) (stands_for : (ℕ → List ℕ) → Durable → Type 0) (durable : R → Durable) (log_end : R → ℕ) (since_flush : R → Option ℕ) (disk : R → Disk) (faults : R → ℕ)
    (are_put : MessagesArePut honest stands_for durable log_end since_flush disk faults) where
  moved_same : (links : NodeLinks) (left : NodeLeft (Wiring R) D NodeEntry) → HasMoved D honest stands_for durable log_end since_flush disk faults links left
      → HasSameEnds IsSameLead IsSameReceiver (ends_of links) (ends_left left)
  moved_same links left moved = (
    subst (λ (ss : List NodeSender). AllZip IsSameLead ss left.state.senders) moved.senders
        (put_same (sent_in left.history) moved.start.senders left.state.senders (are_put moved.start left.state left.history moved.replays)),
    elim moved.receivers [
      | inl same ↦ subst (λ (rs : List (Receiver Message)). AllZip IsSameReceiver links.receivers rs) (sym same) (same_receivers links.receivers)
      | inr taken ↦ taken_same 0 links.receivers taken.0 (receivers_in left.jobs.items) taken.1
    ],
  )

  all_same : (links : List NodeLinks) (left : List (NodeLeft (Wiring R) D NodeEntry)) → AllZip (HasMoved D honest stands_for durable log_end since_flush disk faults) links left
      → AllZip (HasSameEnds IsSameLead IsSameReceiver) (map ends_of links) (map ends_left left)
  all_same [] [] moved = tt
  all_same [] (l ∷ left) moved = absurd moved
  all_same (a ∷ links) [] moved = absurd moved
  all_same (a ∷ links) (l ∷ left) moved = (moved_same a l moved.0, all_same links left moved.1)

  pub stay_whole : SameEndsStayLinked → LinksStayWhole D honest stands_for durable log_end since_flush disk faults
  stay_whole stay nodes links left lead fresh moved = stay nodes (map ends_of links) (map ends_left left) lead fresh (all_same links left moved)

-- ---- jobs that keep their kind

module _ {D : Type 0} where
  -- what is left of a duty is of the same kind
  abbrev KeepsKind : Duty D → Duty D → Type 0
  KeepsKind (duty.Links receivers) d = (receivers' : List (Receiver Message)) × (d ≡ duty.Links receivers')
  KeepsKind duty.Ticks d = d ≡ duty.Ticks
  KeepsKind duty.Merges d = d ≡ duty.Merges
  KeepsKind (duty.Connections door) d = (door' : D) × (d ≡ duty.Connections door')

  abbrev doors_among : List (Duty D) → List D
  doors_among [] = []
  doors_among (d ∷ ds) = with_door d (doors_among ds)

  among_doors : (doors : List D) → doors_among (map duty.Connections doors) ≡ doors
  among_doors [] = refl
  among_doors (door ∷ doors) = ap (λ (l : List D). door ∷ l) (among_doors doors)

  one_more : (a b : Duty D) (xs ys : List D) → KeepsKind a b → length ys ≡ length xs → length (with_door b ys) ≡ length (with_door a xs)
  one_more (duty.Links receivers) b xs ys keeps same = ap (λ (d : Duty D). length (with_door d ys)) keeps.1 ∙ same
  one_more duty.Ticks b xs ys keeps same = ap (λ (d : Duty D). length (with_door d ys)) keeps ∙ same
  one_more duty.Merges b xs ys keeps same = ap (λ (d : Duty D). length (with_door d ys)) keeps ∙ same
  one_more (duty.Connections door) b xs ys keeps same = ap (λ (d : Duty D). length (with_door d ys)) keeps.1 ∙ ap suc same

module _ {N D Entry L : Type 0} (steps : N → Entry → N → Type 0) (event_of : Entry → NodeCall) (reply_of : Entry → NodeReply) (refuses : N → NodeCall → NodeCall → Type 0)
    (gives : ℕ → Type 0) (schema : Book) (remaining written : L → Option (List ℕ)) (link_faults : L → ℕ) (given : D → Option ℕ) (returned : D → Option (List L)) (faults : D → ℕ) (counted : Type 0) (start : N) where
  kind_kept : (d : Duty D) (l : JobLeft D) (v w : PassView Entry)
      → DidIfStarted steps event_of reply_of refuses start gives schema remaining written link_faults given returned faults counted d l v w → KeepsKind d l.duty
  kind_kept (duty.Links receivers) l v w (inl did) = (did.1.0, did.1.1)
  kind_kept (duty.Links receivers) l v w (inr idle) = (receivers, idle.2)
  kind_kept duty.Ticks l v w (inl did) = did.1.0
  kind_kept duty.Ticks l v w (inr idle) = idle.2
  kind_kept duty.Merges l v w (inl did) = did.1.0
  kind_kept duty.Merges l v w (inr idle) = idle.2
  kind_kept (duty.Connections door) l v w (inl did) = (did.1.0, did.1.1)
  kind_kept (duty.Connections door) l v w (inr idle) = (door, idle.2)

  doors_kept : (number : ℕ) (ds : List (Duty D)) (ls : List (JobLeft D)) (ws : List (PassView Entry))
      → JobsRan steps event_of reply_of refuses gives schema remaining written link_faults given returned faults counted start number ds ls ws → length (doors_in ls) ≡ length (doors_among ds)
  doors_kept number [] [] ws ran = refl
  doors_kept number [] (l ∷ ls) ws ran = absurd ran
  doors_kept number (d ∷ ds) [] ws ran = absurd ran
  doors_kept number (d ∷ ds) (l ∷ ls) [] ran = absurd ran
  doors_kept number (d ∷ ds) (l ∷ ls) (w ∷ ws) ran =
      one_more d l.duty (doors_among ds) (doors_in ls) (kind_kept d l (fresh number) w ran.0.did) (doors_kept (suc number) ds ls ws ran.1)

  -- the receivers that a job of links left are those that it had, or took messages
  abbrev HaveTaken : List (Receiver Message) → List (Receiver Message) → Type 0
  HaveTaken rs rs' = (rs' ≡ rs) ⊎ ((taken : List (ℕ × Message)) × Take rs taken rs')

  links_taken : (receivers : List (Receiver Message)) (l : JobLeft D) (v w : PassView Entry)
      → DidIfStarted steps event_of reply_of refuses start gives schema remaining written link_faults given returned faults counted (duty.Links receivers) l v w
      → IsLinks l.duty × HaveTaken receivers (receivers_in_duty l.duty)
  links_taken receivers l v w (inl did) =
      let delivers = did.1.3 in (
        subst IsLinks (sym did.1.1) tt,
        inr (map taken_in delivers.deliveries, subst (λ (rs : List (Receiver Message)). Take receivers (map taken_in delivers.deliveries) rs) (sym (ap receivers_in_duty did.1.1)) delivers.links),
      )
  links_taken receivers l v w (inr idle) = (subst IsLinks (sym idle.2) tt, inl (ap receivers_in_duty idle.2))

  led_by_links : (number : ℕ) (receivers : List (Receiver Message)) (ds : List (Duty D)) (ls : List (JobLeft D)) (ws : List (PassView Entry))
      → JobsRan steps event_of reply_of refuses gives schema remaining written link_faults given returned faults counted start number (duty.Links receivers ∷ ds) ls ws
      → IsLedByLinks ls × HaveTaken receivers (receivers_in ls)
  led_by_links number receivers ds [] ws ran = absurd ran
  led_by_links number receivers ds (l ∷ ls) [] ran = absurd ran
  led_by_links number receivers ds (l ∷ ls) (w ∷ ws) ran = links_taken receivers l (fresh number) w ran.0.did

-- A node that was put together with links and doors has run. Nothing is asked of the clock, and nothing of what was counted.
module _ {R K D L : Type 0} (honest : Type 0) (stands_for : (ℕ → List ℕ) → Durable → Type 0) (durable : R → Durable) (log_end : R → ℕ) (since_flush : R → Option ℕ) (disk : R → Disk) (faults : R → ℕ)
    (gives : ℕ → Type 0) (schema : Book) (remaining written : L → Option (List ℕ)) (link_faults : L → ℕ) (given : D → Option ℕ) (returned : D → Option (List L)) (door_faults : D → ℕ) (counted : Type 0) where
  pub run_moves : (node : Node R K) (links : NodeLinks) (doors : Vec D Global) (part : NodeParts (Wiring R) D) (console : PassView NodeEntry) (left : NodeLeft (Wiring R) D NodeEntry)
      → IsAssembled node links doors part
      → NodeRan (MakesIn honest stands_for durable log_end since_flush disk faults) call_in reply_in (RefusesIn honest stands_for durable log_end since_flush disk faults)
      gives schema remaining written link_faults given returned door_faults counted part console left
      → HasMoved D honest stands_for durable log_end since_flush disk faults links left × IsLedByLinks left.jobs.items × (length (doors_in left.jobs.items) ≡ length doors.items)
  run_moves node links doors part console left assembled ran =
      let steps = MakesIn honest stands_for durable log_end since_flush disk faults in
      let refuses = RefusesIn honest stands_for durable log_end since_flush disk faults in
      let jobs = subst (λ (ds : List (Duty D)). JobsRan steps call_in reply_in refuses gives schema remaining written link_faults given returned door_faults counted part.state 1 ds left.jobs.items ran.ends) assembled.duties ran.jobs in
      let led = led_by_links steps call_in reply_in refuses gives schema remaining written link_faults given returned door_faults counted part.state 1 links.receivers
      (duty.Ticks ∷ duty.Merges ∷ map duty.Connections doors.items) left.jobs.items ran.ends jobs in (
        record { start = part.state; senders = ap (λ (w : Wiring R). w.senders) assembled.state; replays = ran.replays; receivers = led.1 },
        led.0,
        doors_kept steps call_in reply_in refuses gives schema remaining written link_faults given returned door_faults counted part.state 1 (duties_of links.receivers doors.items) left.jobs.items ran.ends jobs
            ∙ ap length (among_doors doors.items),
      )
