-- Who steps the nodes, and what is left of them.
use Rattle.std.specs.Prelude.{◌≡◌, ◌≢◌, ◌≤◌, ◌+◌, ℕ, List, [], ◌∷◌, ◌++◌, length, map, Vec, vec_len}
use Rattle.std.specs.declared.alloc.Global.{Global}
use Rattle.std.specs.List.{All, AllByRecursion, AllZip}
use Rattle.node_calls.specs.declared.call.NodeCall.{NodeCall}
use Rattle.node_calls.specs.declared.reply.NodeReply.{NodeReply}
use Rattle.node_lock.specs.Histories.{Replays, StartsWith, entries_by}
use Rattle.node_lock.specs.Passes.{IsPassOf, view_of, start_of, seats_of}
use Rattle.node_lock.specs.Stepped.{IsSamePass}
use Rattle.node_lock.specs.Views.{PassView}
use Rattle.node_lock.specs.declared.lock.NodeLock.{NodeLock}
use Rattle.node_lock.specs.declared.pass.Pass.{Pass}
use Rattle.served_jobs.specs.declared.done.JobDone.{JobDone}
use Rattle.served_jobs.specs.declared.duty.Duty.{Duty}
use Rattle.served_jobs.specs.declared.job.NodeJob.{NodeJob}
use Rattle.served_jobs.specs.declared.site.NodeSite.{NodeSite}
use Rattle.served_seats.specs.Seats.{fresh, fresh_from, made_by, IsOwn}
use Rattle.served_console.specs.declared.node.OperatedNode.{OperatedNode}
use Rattle.item_groups.specs.Groups.{flat}
use Rattle.item_groups.specs.Zips.{AllZip3}
use Rattle.served_nodes.specs.declared.node.JobLeft.{JobLeft}
use Rattle.served_nodes.specs.declared.node.NodeLeft.{NodeLeft}
use Rattle.served_nodes.specs.declared.node.NodeParts.{NodeParts}
use Rattle.served_run.specs.declared.closing.NodeBack.{NodeBack}
use Rattle.served_run.specs.declared.host.Host.{Host}
use Rattle.served_run.specs.declared.opened.Crew.{Crew}
use Rattle.served_run.specs.declared.opened.Opened.{Opened}

-- the crew of a lock: fresh passes, and as many duties as jobs
pub record IsCrewOf {N D Entry : Type 0} (jobs : ℕ) (lock : NodeLock N NodeCall NodeReply Entry) (crew : Crew N D Entry) : Type 0 where
  pub seats : seats_of lock ≡ jobs + 1
  pub first_of : IsPassOf lock crew.first
  pub first : view_of crew.first ≡ fresh 0
  pub others_of : All (IsPassOf lock) crew.others.items
  pub others : map view_of crew.others.items ≡ fresh_from 1 jobs
  pub count : length crew.duties.items ≡ jobs

-- a node under its lock, with its crew
pub record IsOpened {N D Entry : Type 0} (jobs : ℕ) (node : NodeParts N D) (lock : NodeLock N NodeCall NodeReply Entry) (crew : Crew N D Entry) : Type 0 where
  pub start : start_of lock ≡ node.state
  pub duties : crew.duties ≡ node.duties
  pub crew_of : IsCrewOf jobs lock crew

-- from one to seven locks, each with its crew
pub record AreManned {N D Entry : Type 0} (jobs : ℕ) (opened : Opened N D Entry) : Type 0 where
  pub some : 1 ≤ vec_len opened.locks
  pub few : vec_len opened.locks ≤ 7
  pub crews : AllZip (IsCrewOf jobs) opened.locks.items opened.crews.items

-- where the jobs of a lock's node work
pub record IsSiteOf {W N C G Entry : Type 0} (host : Host W C G) (lock : NodeLock N NodeCall NodeReply Entry) (site : NodeSite W N C G Entry) : Type 0 where
  pub lock_is : site.lock.now ≡ lock
  pub clock_is : site.clock.now ≡ host.clock.now
  pub schema_is : site.schema.now ≡ host.schema.now

-- the crew of a site's lock
pub record IsManned {W N C G D Entry : Type 0} (site : NodeSite W N C G Entry) (crew : Crew N D Entry) : Type 0 where
  pub first_of : IsPassOf site.lock.now crew.first
  pub others_of : All (IsPassOf site.lock.now) crew.others.items
  pub count : length crew.duties.items ≡ length crew.others.items

-- the console's part of the node of a site
pub record IsOperated {W N C G Entry : Type 0} (site : NodeSite W N C G Entry) (pass : Pass N NodeCall NodeReply Entry) (o : OperatedNode W N C Entry) : Type 0 where
  pub lock_is : o.site.lock.now ≡ site.lock.now
  pub clock_is : o.site.clock.now ≡ site.clock.now
  pub pass_is : o.pass ≡ pass

-- the console's part of a site's node, with the first pass of its crew
abbrev pub IsDeskOf : {W N C G D Entry : Type 0} → NodeSite W N C G Entry → Crew N D Entry → OperatedNode W N C Entry → Type 0
IsDeskOf site crew o = IsOperated site crew.first o

-- one more such item stands behind the others
pub record AddsOne {A : Type 0} (IsNext : A → Type 0) (before after : List A) : Type 0 where
  pub item : A
  pub all : after ≡ before ++ item ∷ []
  pub is_next : IsNext item

-- such a group of items stands behind the others
pub record AddsGroup {A : Type 0} (IsNext : Vec A Global → Type 0) (before after : List A) : Type 0 where
  pub group : Vec A Global
  pub all : after ≡ before ++ group.items
  pub is_next : IsNext group

-- what a job leaves without its pass
abbrev pub left_of : {N D Entry : Type 0} → JobDone N D Entry → JobLeft D
left_of done = record { duty = done.duty; ended = done.ended; door_failed = done.door_failed; unstarted = done.unstarted }

abbrev pub end_of : {N D Entry : Type 0} → JobDone N D Entry → PassView Entry
end_of done = view_of done.pass

-- a job at this site with this pass and this duty
pub record IsJobAt {W N C G D Entry : Type 0} (site : NodeSite W N C G Entry) (pass : Pass N NodeCall NodeReply Entry) (duty : Duty D) (job : NodeJob W N C G D Entry) : Type 0 where
  pub site_is : job.site.now ≡ site
  pub pass_is : job.pass ≡ pass
  pub duty_is : job.duty ≡ duty

-- each of a crew has its job
abbrev pub HasTask : {W N C G D Entry : Type 0} → NodeSite W N C G Entry → Crew N D Entry → Vec (NodeJob W N C G D Entry) Global → Type 0
HasTask site crew jobs = AllZip3 (IsJobAt site) crew.others.items crew.duties.items jobs.items

-- The crews of sites have their jobs, one crew behind another.
pub record HaveTasks {W N C G D Entry : Type 0} (sites : List (NodeSite W N C G Entry)) (crews : List (Crew N D Entry)) (jobs : List (NodeJob W N C G D Entry)) : Type 0 where
  pub groups : List (Vec (NodeJob W N C G D Entry) Global)
  pub all : jobs ≡ flat groups
  pub each : AllZip3 HasTask sites crews groups

abbrev pub pass_of : {N D Entry : Type 0} → JobDone N D Entry → Pass N NodeCall NodeReply Entry
pass_of done = done.pass

-- the passes of a node as they came back, that of the console first
abbrev pub ends_in : {N D Entry : Type 0} → NodeBack N D Entry → List (PassView Entry)
ends_in back = view_of back.first ∷ map end_of back.dones.items

-- The passes of a lock are back: they are those of its crew, and each has made entries under its number alone.
pub record IsBack {N D Entry : Type 0} (lock : NodeLock N NodeCall NodeReply Entry) (back : NodeBack N D Entry) : Type 0 where
  pub jobs : ℕ
  pub seats : seats_of lock ≡ jobs + 1
  pub first_of : IsPassOf lock back.first
  pub others_of : All (IsPassOf lock) (map pass_of back.dones.items)
  pub same : AllZip IsSamePass (fresh 0 ∷ fresh_from 1 jobs) (ends_in back)
  pub own : AllByRecursion IsOwn (ends_in back)

-- The lock is closed: its history replays from the state that it was made with, and tells just what its passes made.
pub record IsClosed {N D Entry : Type 0} (steps : N → Entry → N → Type 0) (lock : NodeLock N NodeCall NodeReply Entry) (back : NodeBack N D Entry) (left : NodeLeft N D Entry) : Type 0 where
  pub replays : Replays steps (start_of lock) left.history left.state
  pub most : length left.history ≤ 400000
  pub each : AllByRecursion (λ (v : PassView Entry). entries_by v.number left.history ≡ made_by v) (ends_in back)
  pub none_else : (n : ℕ) → AllByRecursion (λ (v : PassView Entry). v.number ≢ n) (ends_in back) → entries_by n left.history ≡ []
  pub seen : AllByRecursion (λ (v : PassView Entry). StartsWith left.history v.seen) (ends_in back)
  pub jobs : left.jobs.items ≡ map left_of back.dones.items
