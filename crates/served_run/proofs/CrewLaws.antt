-- What crews did, from what is known of each job.
use Rattle.std.proofs.Common.{◌≡◌, ◌⊎◌, inl, inr, ℕ, Option, List, sym, ◌∙◌, ap, subst, Vec, Global}
use Rattle.std.specs.List.{AllZip}
use Rattle.schema_book.specs.Books.{Book}
use Rattle.cs_runtime.specs.Jobs.{Ends}
use Rattle.node_calls.specs.declared.call.NodeCall.{NodeCall}
use Rattle.node_calls.specs.declared.reply.NodeReply.{NodeReply}
use Rattle.node_lock.specs.Passes.{IsPassOf, view_of, start_of}
use Rattle.node_lock.specs.Stepped.{IsSamePass}
use Rattle.node_lock.specs.declared.lock.NodeLock.{NodeLock}
use Rattle.node_lock.specs.declared.pass.Pass.{Pass}
use Rattle.served_seats.specs.Seats.{IsOwn}
use Rattle.served_jobs.specs.Endings.{GivesPass, IsWorked, IsUnstarted}
use Rattle.served_jobs.specs.Works.{Works}
use Rattle.served_jobs.specs.declared.done.JobDone.{JobDone}
use Rattle.served_jobs.specs.declared.duty.Duty.{Duty}
use Rattle.served_jobs.specs.declared.duty.Duty.TheVariants as duty
use Rattle.served_jobs.specs.declared.job.NodeJob.{NodeJob}
use Rattle.served_jobs.specs.declared.site.NodeSite.{NodeSite}
use Rattle.item_groups.specs.Zips.{AllZip3}
use Rattle.item_groups.proofs.ZipLaws.{zip3-onto, zip3-through}
use Rattle.served_nodes.specs.Jobs.{Did, DidIfStarted}
use Rattle.served_run.specs.Crews.{IsSiteOf, IsJobAt, HasTask, left_of}
use Rattle.served_run.specs.Works.{HasWorked, CrewWorked}
use Rattle.served_run.specs.declared.closing.NodeBack.{NodeBack}
use Rattle.served_run.specs.declared.host.Host.{Host}
use Rattle.served_run.specs.declared.opened.Crew.{Crew}

module _ {W N C G D Entry L : Type 0} (steps : N → Entry → N → Type 0) (event_of : Entry → NodeCall) (reply_of : Entry → NodeReply) (refuses : N → NodeCall → NodeCall → Type 0)
    (gives : C → ℕ → Type 0) (remaining written : L → Option (List ℕ)) (link_faults : L → ℕ) (given : D → Option ℕ) (returned : D → Option (List L)) (faults : D → ℕ) (host : Host W C G) (counted : Type 0) where
  works_did : (site : NodeSite W N C G Entry) (d : Duty D) (pass : Pass N NodeCall NodeReply Entry) (done : JobDone N D Entry)
      → Works steps event_of reply_of refuses gives remaining written link_faults given returned faults site d pass done
      → Did steps event_of reply_of refuses (start_of site.lock.now) (gives site.clock.now) site.schema.now remaining written link_faults given returned faults d (left_of done) (view_of pass) (view_of done.pass)
  works_did site (duty.Links receivers) pass done w = w
  works_did site duty.Ticks pass done w = w
  works_did site duty.Merges pass done w = w
  works_did site (duty.Connections door) pass done w = w

  abbrev JobEnds : NodeJob W N C G D Entry → JobDone N D Entry → Type 0
  JobEnds job done = Ends GivesPass (IsWorked steps event_of reply_of refuses gives remaining written link_faults given returned faults) IsUnstarted counted job done

  job_did : (job : NodeJob W N C G D Entry) (done : JobDone N D Entry) → IsWorked steps event_of reply_of refuses gives remaining written link_faults given returned faults job done ⊎ (IsUnstarted job done × counted)
      → DidIfStarted steps event_of reply_of refuses (start_of job.site.now.lock.now) (gives job.site.now.clock.now) job.site.now.schema.now remaining written link_faults given returned faults counted job.duty (left_of done) (view_of job.pass) (view_of done.pass)
  job_did job done (inl w) = inl (w.started, works_did job.site.now job.duty job.pass done w.works)
  job_did job done (inr u) = inr (u.0.unstarted, u.1, u.0.duty, u.0.ended, u.0.door, ap view_of u.0.pass)

  has_worked : (lock : NodeLock N NodeCall NodeReply Entry) (site : NodeSite W N C G Entry) (pass : Pass N NodeCall NodeReply Entry) (d : Duty D) (job : NodeJob W N C G D Entry) (done : JobDone N D Entry)
      → IsSiteOf host lock site → IsJobAt site pass d job → JobEnds job done
      → HasWorked steps event_of reply_of refuses gives remaining written link_faults given returned faults host counted lock pass d done
  has_worked lock site pass d job done s j e =
      let at : job.site.now.lock.now ≡ lock = ap (λ (x : NodeSite W N C G Entry). x.lock.now) j.site_is ∙ s.lock_is in
      let clock : job.site.now.clock.now ≡ host.clock.now = ap (λ (x : NodeSite W N C G Entry). x.clock.now) j.site_is ∙ s.clock_is in
      let schema : job.site.now.schema.now ≡ host.schema.now = ap (λ (x : NodeSite W N C G Entry). x.schema.now) j.site_is ∙ s.schema_is in
      let did = job_did job done e.1 in
      let did1 = subst (λ (x : NodeLock N NodeCall NodeReply Entry). DidIfStarted steps event_of reply_of refuses (start_of x) (gives job.site.now.clock.now) job.site.now.schema.now remaining written link_faults given returned faults counted job.duty (left_of done) (view_of job.pass) (view_of done.pass)) at did in
      let did2 = subst (λ (x : C). DidIfStarted steps event_of reply_of refuses (start_of lock) (gives x) job.site.now.schema.now remaining written link_faults given returned faults counted job.duty (left_of done) (view_of job.pass) (view_of done.pass)) clock did1 in
      let did3 = subst (λ (x : Book). DidIfStarted steps event_of reply_of refuses (start_of lock) (gives host.clock.now) x remaining written link_faults given returned faults counted job.duty (left_of done) (view_of job.pass) (view_of done.pass)) schema did2 in
      let did4 = subst (λ (x : Duty D). DidIfStarted steps event_of reply_of refuses (start_of lock) (gives host.clock.now) host.schema.now remaining written link_faults given returned faults counted x (left_of done) (view_of job.pass) (view_of done.pass)) j.duty_is did3 in
      record {
        lock_is = subst (λ (x : NodeLock N NodeCall NodeReply Entry). IsPassOf x done.pass) at e.0.lock;
        same = subst (λ (x : Pass N NodeCall NodeReply Entry). IsSamePass (view_of x) (view_of done.pass)) j.pass_is e.0.pass;
        own = subst (λ (x : Pass N NodeCall NodeReply Entry). IsOwn (view_of x) → IsOwn (view_of done.pass)) j.pass_is e.0.own;
        did = subst (λ (x : Pass N NodeCall NodeReply Entry). DidIfStarted steps event_of reply_of refuses (start_of lock) (gives host.clock.now) host.schema.now remaining written link_faults given returned faults counted d (left_of done) (view_of x) (view_of done.pass)) j.pass_is did4;
      }

  abbrev TaskAt : NodeLock N NodeCall NodeReply Entry → Crew N D Entry → Vec (NodeJob W N C G D Entry) Global → Type 0
  TaskAt lock crew jobs = (site : NodeSite W N C G Entry) × IsSiteOf host lock site × HasTask site crew jobs

  abbrev GroupWorked : NodeLock N NodeCall NodeReply Entry → Crew N D Entry → Vec (JobDone N D Entry) Global → Type 0
  GroupWorked lock crew dones = AllZip3 (HasWorked steps event_of reply_of refuses gives remaining written link_faults given returned faults host counted lock) crew.others.items crew.duties.items dones.items

  group_worked : (lock : NodeLock N NodeCall NodeReply Entry) (crew : Crew N D Entry) (jobs : Vec (NodeJob W N C G D Entry) Global) (dones : Vec (JobDone N D Entry) Global)
      → TaskAt lock crew jobs → AllZip JobEnds jobs.items dones.items → GroupWorked lock crew dones
  group_worked lock crew jobs dones t e =
      zip3-onto (IsJobAt t.0) JobEnds (HasWorked steps event_of reply_of refuses gives remaining written link_faults given returned faults host counted lock)
      (λ pass d job done j h. has_worked lock t.0 pass d job done t.1 j h) crew.others.items crew.duties.items jobs.items dones.items t.2 e

  -- the crews of locks did what each of their jobs did
  pub crews_worked : (locks : List (NodeLock N NodeCall NodeReply Entry)) (sites : List (NodeSite W N C G Entry)) (crews : List (Crew N D Entry)) (jobs : List (Vec (NodeJob W N C G D Entry) Global)) (dones : List (Vec (JobDone N D Entry) Global)) (backs : List (NodeBack N D Entry))
      → AllZip (IsSiteOf host) locks sites → AllZip3 HasTask sites crews jobs
      → AllZip (λ (js : Vec (NodeJob W N C G D Entry) Global) (ds : Vec (JobDone N D Entry) Global). AllZip JobEnds js.items ds.items) jobs dones
      → AllZip (λ (ds : Vec (JobDone N D Entry) Global) (back : NodeBack N D Entry). back.dones ≡ ds) dones backs
      → AllZip3 (CrewWorked steps event_of reply_of refuses gives remaining written link_faults given returned faults host counted) locks crews backs
  crews_worked locks sites crews jobs dones backs at tasks ended back =
      zip3-onto GroupWorked (λ (ds : Vec (JobDone N D Entry) Global) (back : NodeBack N D Entry). back.dones ≡ ds) (CrewWorked steps event_of reply_of refuses gives remaining written link_faults given returned faults host counted)
      (λ lock crew ds b h is. subst (λ (x : Vec (JobDone N D Entry) Global). GroupWorked lock crew x) (sym is) h)
      locks crews dones backs
      (zip3-onto TaskAt (λ (js : Vec (NodeJob W N C G D Entry) Global) (ds : Vec (JobDone N D Entry) Global). AllZip JobEnds js.items ds.items) GroupWorked group_worked locks crews jobs dones
      (zip3-through (IsSiteOf host) HasTask TaskAt (λ lock site crew js s t. (site, s, t)) locks sites crews jobs at tasks) ended)
      back
