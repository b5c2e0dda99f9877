-- What jobs do, by kind.
use Rattle.std.specs.Prelude.{◌≡◌, ℕ, false, Option, List}
use Rattle.peer_messages.specs.declared.event.What.TheVariants.{Flush, Tick}
use Rattle.peer_messages.specs.declared.message.Message.{Message}
use Rattle.node_calls.specs.declared.call.NodeCall.{NodeCall}
use Rattle.node_calls.specs.declared.reply.NodeReply.{NodeReply}
use Rattle.node_links.specs.declared.ends.Receiver.{Receiver}
use Rattle.node_lock.specs.Passes.{view_of, start_of}
use Rattle.node_lock.specs.declared.pass.Pass.{Pass}
use Rattle.node_workers.specs.Deliveries.{Delivers}
use Rattle.node_workers.specs.Endings.{well}
use Rattle.node_workers.specs.Repeating.{Repeats}
use Rattle.served_jobs.specs.Doorways.{ServesUntil}
use Rattle.served_jobs.specs.Visits.{IsVisit}
use Rattle.served_jobs.specs.declared.done.JobDone.{JobDone}
use Rattle.served_jobs.specs.declared.duty.Duty.{Duty}
use Rattle.served_jobs.specs.declared.duty.Duty.TheVariants as duty
use Rattle.served_jobs.specs.declared.site.NodeSite.{NodeSite}

module _ {W N C G D Entry L : Type 0} (steps : N → Entry → N → Type 0) (event_of : Entry → NodeCall) (reply_of : Entry → NodeReply) (refuses : N → NodeCall → NodeCall → Type 0)
    (gives : C → ℕ → Type 0) (remaining written : L → Option (List ℕ)) (link_faults : L → ℕ) (given : D → Option ℕ) (returned : D → Option (List L)) (faults : D → ℕ) where
  -- A worker's calls, as its kind makes them, were made by the pass. What it was given is given back, and it ended so.
  abbrev pub Works : NodeSite W N C G Entry → Duty D → Pass N NodeCall NodeReply Entry → JobDone N D Entry → Type 0
  Works site (duty.Links receivers) pass done =
      (receivers' : List (Receiver Message)) × (done.duty ≡ duty.Links receivers') × (done.door_failed ≡ false)
      × Delivers steps event_of reply_of refuses (start_of site.lock.now) (gives site.clock.now) receivers (view_of pass) receivers' (view_of done.pass) done.ended
  Works site duty.Ticks pass done =
      (done.duty ≡ duty.Ticks) × (done.door_failed ≡ false)
      × Repeats steps event_of reply_of refuses (start_of site.lock.now) (gives site.clock.now) Tick (view_of pass) (view_of done.pass) done.ended
  Works site duty.Merges pass done =
      (done.duty ≡ duty.Merges) × (done.door_failed ≡ false)
      × Repeats steps event_of reply_of refuses (start_of site.lock.now) (gives site.clock.now) Flush (view_of pass) (view_of done.pass) done.ended
  Works site (duty.Connections door) pass done =
      (door' : D) × (done.duty ≡ duty.Connections door') × (done.ended ≡ well)
      × ServesUntil (IsVisit steps event_of reply_of refuses (start_of site.lock.now) (gives site.clock.now) site.schema.now remaining written link_faults)
      given returned faults door (view_of pass) door' (view_of done.pass) done.door_failed
