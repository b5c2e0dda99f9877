-- What the jobs of a node did, as their passes and what they left tell.
use Rattle.std.specs.Prelude.{◌≡◌, ◌⊎◌, ℕ, true, false, Option, List}
use Rattle.peer_messages.specs.declared.event.What.TheVariants.{Flush, Tick}
use Rattle.peer_messages.specs.declared.message.Message.{Message}
use Rattle.schema_book.specs.Books.{Book}
use Rattle.node_calls.specs.declared.call.NodeCall.{NodeCall}
use Rattle.node_calls.specs.declared.reply.NodeReply.{NodeReply}
use Rattle.node_links.specs.declared.ends.Receiver.{Receiver}
use Rattle.node_lock.specs.Stepped.{IsSamePass}
use Rattle.node_lock.specs.Views.{PassView}
use Rattle.node_workers.specs.Deliveries.{Delivers}
use Rattle.node_workers.specs.Endings.{well}
use Rattle.node_workers.specs.Repeating.{Repeats}
use Rattle.served_seats.specs.Seats.{IsOwn}
use Rattle.served_jobs.specs.Doorways.{ServesUntil}
use Rattle.served_jobs.specs.Visits.{IsVisit}
use Rattle.served_jobs.specs.declared.duty.Duty.{Duty}
use Rattle.served_jobs.specs.declared.duty.Duty.TheVariants as duty
use Rattle.served_nodes.specs.declared.node.JobLeft.{JobLeft}

module _ {N D Entry L : Type 0} (steps : N → Entry → N → Type 0) (event_of : Entry → NodeCall) (reply_of : Entry → NodeReply) (refuses : N → NodeCall → NodeCall → Type 0) (start : N)
    (gives : ℕ → Type 0) (schema : Book) (remaining written : L → Option (List ℕ)) (link_faults : L → ℕ) (given : D → Option ℕ) (returned : D → Option (List L)) (faults : D → ℕ) where
  -- A job's calls, as its kind makes them, were made by its pass. What it was given is left, and it ended so.
  abbrev pub Did : Duty D → JobLeft D → PassView Entry → PassView Entry → Type 0
  Did (duty.Links receivers) left v w =
      (receivers' : List (Receiver Message)) × (left.duty ≡ duty.Links receivers') × (left.door_failed ≡ false)
      × Delivers steps event_of reply_of refuses start gives receivers v receivers' w left.ended
  Did duty.Ticks left v w = (left.duty ≡ duty.Ticks) × (left.door_failed ≡ false) × Repeats steps event_of reply_of refuses start gives Tick v w left.ended
  Did duty.Merges left v w = (left.duty ≡ duty.Merges) × (left.door_failed ≡ false) × Repeats steps event_of reply_of refuses start gives Flush v w left.ended
  Did (duty.Connections door) left v w =
      (door' : D) × (left.duty ≡ duty.Connections door') × (left.ended ≡ well)
      × ServesUntil (IsVisit steps event_of reply_of refuses start gives schema remaining written link_faults) given returned faults door v door' w left.door_failed

  -- The job did its work; or no thread was started for it, which was counted, and all is as it was.
  abbrev pub DidIfStarted : (counted : Type 0) → Duty D → JobLeft D → PassView Entry → PassView Entry → Type 0
  DidIfStarted counted duty left v w =
      ((left.unstarted ≡ false) × Did duty left v w)
      ⊎ ((left.unstarted ≡ true) × counted × (left.duty ≡ duty) × (left.ended ≡ well) × (left.door_failed ≡ false) × (w ≡ v))

  -- a job that began with this pass, and its pass when it ended
  pub record JobRan (counted : Type 0) (duty : Duty D) (v : PassView Entry) (left : JobLeft D) (w : PassView Entry) : Type 0 where
    pub pass : IsSamePass v w
    pub own : IsOwn w
    pub did : DidIfStarted counted duty left v w
