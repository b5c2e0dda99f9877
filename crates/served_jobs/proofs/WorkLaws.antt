-- What the work of a job leaves under its pass's number.
use Rattle.std.proofs.Common.{ℕ, Option, List}
use Rattle.node_calls.specs.declared.call.NodeCall.{NodeCall}
use Rattle.node_calls.specs.declared.reply.NodeReply.{NodeReply}
use Rattle.node_lock.specs.Passes.{view_of, start_of}
use Rattle.node_lock.specs.Views.{PassView}
use Rattle.node_lock.specs.declared.pass.Pass.{Pass}
use Rattle.served_seats.specs.Seats.{IsOwn}
use Rattle.served_jobs.specs.Visits.{Visit, IsVisit}
use Rattle.served_jobs.specs.Works.{Works}
use Rattle.served_jobs.specs.declared.done.JobDone.{JobDone}
use Rattle.served_jobs.specs.declared.duty.Duty.{Duty}
use Rattle.served_jobs.specs.declared.duty.Duty.TheVariants as duty
use Rattle.served_jobs.specs.declared.site.NodeSite.{NodeSite}
use Rattle.served_jobs.proofs.OwnEntries.{makes_own, visits_own}

module _ {W N C G D Entry L : Type 0} (steps : N → Entry → N → Type 0) (event_of : Entry → NodeCall) (reply_of : Entry → NodeReply) (refuses : N → NodeCall → NodeCall → Type 0)
    (gives : C → ℕ → Type 0) (remaining written : L → Option (List ℕ)) (link_faults : L → ℕ) (given : D → Option ℕ) (returned : D → Option (List L)) (faults : D → ℕ) where
  pub works_own : (site : NodeSite W N C G Entry) (task : Duty D) (pass : Pass N NodeCall NodeReply Entry) (done : JobDone N D Entry)
      → Works steps event_of reply_of refuses gives remaining written link_faults given returned faults site task pass done → IsOwn (view_of pass) → IsOwn (view_of done.pass)
  works_own site (duty.Links receivers) pass done h own = makes_own steps event_of reply_of refuses (start_of site.lock.now) (view_of pass) (view_of done.pass) _ h.3.made own
  works_own site duty.Ticks pass done h own = makes_own steps event_of reply_of refuses (start_of site.lock.now) (view_of pass) (view_of done.pass) h.2.1.calls h.2.1.made own
  works_own site duty.Merges pass done h own = makes_own steps event_of reply_of refuses (start_of site.lock.now) (view_of pass) (view_of done.pass) h.2.1.calls h.2.1.made own
  works_own site (duty.Connections door) pass done h own =
      visits_own
      (IsVisit steps event_of reply_of refuses (start_of site.lock.now) (gives site.clock.now) site.schema.now remaining written link_faults)
      (λ (v : PassView Entry) (x : Visit L) (w : PassView Entry) is. makes_own steps event_of reply_of refuses (start_of site.lock.now) v w x.calls is.made)
      (view_of pass) (view_of done.pass) h.3.serves.visits h.3.serves.are_visits own
