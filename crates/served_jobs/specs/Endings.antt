-- How the jobs of a node end.
use Rattle.std.specs.Prelude.{◌≡◌, ℕ, true, false, Option, List}
use Rattle.node_calls.specs.declared.call.NodeCall.{NodeCall}
use Rattle.node_calls.specs.declared.reply.NodeReply.{NodeReply}
use Rattle.node_lock.specs.Passes.{IsPassOf, view_of}
use Rattle.node_lock.specs.Stepped.{IsSamePass}
use Rattle.node_workers.specs.Endings.{well}
use Rattle.served_seats.specs.Seats.{IsOwn}
use Rattle.served_jobs.specs.Works.{Works}
use Rattle.served_jobs.specs.declared.done.JobDone.{JobDone}
use Rattle.served_jobs.specs.declared.job.NodeJob.{NodeJob}

module _ {W N C G D Entry : Type 0} where
  -- The pass is given back: the same one, of the same lock. If all that it had made stood under its number, so does all that it
  -- has made then.
  pub record GivesPass (job : NodeJob W N C G D Entry) (done : JobDone N D Entry) : Type 0 where
    pub lock : IsPassOf job.site.now.lock.now done.pass
    pub pass : IsSamePass (view_of job.pass) (view_of done.pass)
    pub own : IsOwn (view_of job.pass) → IsOwn (view_of done.pass)

  -- Where no thread was started, no call was made, and all is given back as it was.
  pub record IsUnstarted (job : NodeJob W N C G D Entry) (done : JobDone N D Entry) : Type 0 where
    pub unstarted : done.unstarted ≡ true
    pub pass : done.pass ≡ job.pass
    pub duty : done.duty ≡ job.duty
    pub ended : done.ended ≡ well
    pub door : done.door_failed ≡ false

  module _ {L : Type 0} (steps : N → Entry → N → Type 0) (event_of : Entry → NodeCall) (reply_of : Entry → NodeReply) (refuses : N → NodeCall → NodeCall → Type 0)
      (gives : C → ℕ → Type 0) (remaining written : L → Option (List ℕ)) (link_faults : L → ℕ) (given : D → Option ℕ) (returned : D → Option (List L)) (faults : D → ℕ) where
    -- what is done by the work
    pub record IsWorked (job : NodeJob W N C G D Entry) (done : JobDone N D Entry) : Type 0 where
      pub started : done.unstarted ≡ false
      pub works : Works steps event_of reply_of refuses gives remaining written link_faults given returned faults job.site.now job.duty job.pass done
