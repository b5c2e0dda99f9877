-- What came of the threads, before the locks are closed and behind it.
use Rattle.std.specs.Prelude.{◌≡◌, ◌⊎◌, ℕ, List, Option, Vec}
use Rattle.std.specs.declared.alloc.Global.{Global}
use Rattle.std.specs.List.{AllByRecursion, AllZip}
use Rattle.node_calls.specs.declared.call.NodeCall.{NodeCall}
use Rattle.node_calls.specs.declared.reply.NodeReply.{NodeReply}
use Rattle.node_lock.specs.Passes.{IsPassOf, view_of, start_of}
use Rattle.node_lock.specs.Stepped.{IsSamePass}
use Rattle.node_lock.specs.declared.lock.NodeLock.{NodeLock}
use Rattle.node_lock.specs.declared.pass.Pass.{Pass}
use Rattle.item_groups.specs.Groups.{flat, HasSize}
use Rattle.item_groups.specs.Zips.{AllZip3}
use Rattle.served_jobs.specs.declared.done.JobDone.{JobDone}
use Rattle.served_jobs.specs.declared.duty.Duty.{Duty}
use Rattle.served_seats.specs.Seats.{IsOwn}
use Rattle.served_console.specs.Jobs.{GivesBack, KeepPasses, IsWorked}
use Rattle.served_console.specs.declared.end.ConsoleEnd.TheVariants as end
use Rattle.served_console.specs.declared.job.ConsoleDone.{ConsoleDone}
use Rattle.served_console.specs.declared.job.ConsoleJob.{ConsoleJob}
use Rattle.served_console.specs.declared.node.OperatedNode.{OperatedNode}
use Rattle.served_nodes.specs.Jobs.{DidIfStarted}
use Rattle.served_nodes.specs.declared.node.NodeLeft.{NodeLeft}
use Rattle.served_run.specs.Crews.{IsClosed, left_of}
use Rattle.served_run.specs.Runs.{ConsoleRan}
use Rattle.served_run.specs.declared.closing.NodeBack.{NodeBack}
use Rattle.served_run.specs.declared.desk.Desk.{Desk}
use Rattle.served_run.specs.declared.desk.Ran.{Ran}
use Rattle.served_run.specs.declared.host.Host.{Host}
use Rattle.served_run.specs.declared.opened.Crew.{Crew}
use Rattle.served_run.specs.declared.working.Worked.{Worked}

-- the console's part of a lock's node, with the first pass of its crew
pub record BeginsWith {W N C D Entry : Type 0} (clock : C) (lock : NodeLock N NodeCall NodeReply Entry) (crew : Crew N D Entry) (o : OperatedNode W N C Entry) : Type 0 where
  pub lock_is : o.site.lock.now ≡ lock
  pub clock_is : o.site.clock.now ≡ clock
  pub pass_is : o.pass ≡ crew.first

-- the console's pass of a node is back
abbrev pub IsFirstOf : {W N C D Entry : Type 0} → OperatedNode W N C Entry → NodeBack N D Entry → Type 0
IsFirstOf o back = back.first ≡ o.pass

-- a node's pass and its jobs are back together
pub record IsBackOf {W N C D Entry : Type 0} (o : OperatedNode W N C Entry) (dones : Vec (JobDone N D Entry) Global) (back : NodeBack N D Entry) : Type 0 where
  pub first_is : IsFirstOf o back
  pub dones_are : back.dones ≡ dones

-- of all jobs so many belong to each node, in order
pub record AreBacks {W N C D Entry : Type 0} (jobs : ℕ) (nodes : List (OperatedNode W N C Entry)) (dones : List (JobDone N D Entry)) (backs : List (NodeBack N D Entry)) : Type 0 where
  pub groups : List (Vec (JobDone N D Entry) Global)
  pub all : flat groups ≡ dones
  pub sizes : AllByRecursion (HasSize jobs) groups
  pub each : AllZip3 IsBackOf nodes groups backs

-- what was with the console is back, and it ended so
pub record IsReturned {W N C D S T Entry : Type 0} (done : ConsoleDone W N C S T Entry) (worked : Worked N D S T Entry) : Type 0 where
  pub source_is : worked.source ≡ done.console.source
  pub sink_is : worked.sink ≡ done.console.sink
  pub end_is : worked.end ≡ done.end

-- a console gave its passes back and did its work
abbrev pub ConsoleDid : {W N C S T Entry : Type 0} → (N → Entry → N → Type 0) → (Entry → NodeCall) → (Entry → NodeReply) → (N → NodeCall → NodeCall → Type 0) → (C → ℕ → Type 0) → (S → Option (List ℕ)) → (S → ℕ) → (T → Option (List ℕ)) → (T → ℕ)
    → ConsoleJob W N C S T Entry → ConsoleDone W N C S T Entry → Type 0
ConsoleDid steps event_of reply_of refuses gives source_left source_faults contents sink_faults job done =
    GivesBack job done × IsWorked steps event_of reply_of refuses gives source_left source_faults contents sink_faults job done

module _ {W N C G D Entry S T : Type 0} (steps : N → Entry → N → Type 0) (event_of : Entry → NodeCall) (reply_of : Entry → NodeReply) (refuses : N → NodeCall → NodeCall → Type 0)
    (gives : C → ℕ → Type 0) (host : Host W C G) (source_left : S → Option (List ℕ)) (source_faults : S → ℕ) (contents : T → Option (List ℕ)) (sink_faults : T → ℕ) where
  -- the console did its work with what stood on the desk, and what it had came back
  pub record ConsoleWorked (desk : Desk S T) (worked : Worked N D S T Entry) (job : ConsoleJob W N C S T Entry) (done : ConsoleDone W N C S T Entry) : Type 0 where
    pub source_was : job.console.source ≡ desk.source
    pub sink_was : job.console.sink ≡ desk.sink
    pub lines_were : job.console.lines ≡ desk.lines
    pub opening_is : job.opening ≡ desk.opening
    pub works : IsWorked steps event_of reply_of refuses gives source_left source_faults contents sink_faults job done
    pub returned : IsReturned done worked

  -- nothing was begun and all is as it was on the desk, or the console did its work
  abbrev pub IsWorkLost : Desk S T → Worked N D S T Entry → Type 0
  IsWorkLost desk worked =
      ((worked.source ≡ desk.source) × (worked.sink ≡ desk.sink) × (worked.end ≡ end.Ended))
      ⊎ ((job : ConsoleJob W N C S T Entry) × (done : ConsoleDone W N C S T Entry) × ConsoleWorked desk worked job done)

module _ {W N C G D Entry L : Type 0} (steps : N → Entry → N → Type 0) (event_of : Entry → NodeCall) (reply_of : Entry → NodeReply) (refuses : N → NodeCall → NodeCall → Type 0)
    (gives : C → ℕ → Type 0) (remaining written : L → Option (List ℕ)) (link_faults : L → ℕ) (given : D → Option ℕ) (returned : D → Option (List L)) (faults : D → ℕ) (host : Host W C G) (counted : Type 0) where
  -- a job of a node began with this pass and this duty, and came back so
  pub record HasWorked (lock : NodeLock N NodeCall NodeReply Entry) (pass : Pass N NodeCall NodeReply Entry) (duty : Duty D) (done : JobDone N D Entry) : Type 0 where
    pub lock_is : IsPassOf lock done.pass
    pub same : IsSamePass (view_of pass) (view_of done.pass)
    pub own : IsOwn (view_of pass) → IsOwn (view_of done.pass)
    pub did : DidIfStarted steps event_of reply_of refuses (start_of lock) (gives host.clock.now) host.schema.now remaining written link_faults given returned faults counted duty (left_of done) (view_of pass) (view_of done.pass)

  abbrev pub CrewWorked : NodeLock N NodeCall NodeReply Entry → Crew N D Entry → NodeBack N D Entry → Type 0
  CrewWorked lock crew back = AllZip3 (HasWorked lock) crew.others.items crew.duties.items back.dones.items

  module _ {S T : Type 0} (source_left : S → Option (List ℕ)) (source_faults : S → ℕ) (contents : T → Option (List ℕ)) (sink_faults : T → ℕ) where
    -- All threads have ended: the console and the jobs of each crew did their work.
    pub record HaveWorked (locks : List (NodeLock N NodeCall NodeReply Entry)) (crews : List (Crew N D Entry)) (desk : Desk S T) (backs : List (NodeBack N D Entry)) (worked : Worked N D S T Entry) : Type 0 where
      pub job : ConsoleJob W N C S T Entry
      pub done : ConsoleDone W N C S T Entry
      pub console : ConsoleWorked steps event_of reply_of refuses gives host source_left source_faults contents sink_faults desk worked job done
      pub began : AllZip3 (BeginsWith host.clock.now) locks crews job.console.nodes.items
      pub kept : KeepPasses job.console.nodes.items done.console.nodes.items
      pub firsts : AllZip IsFirstOf done.console.nodes.items backs
      pub crews_worked : AllZip3 CrewWorked locks crews backs

    -- The same, and the locks are closed.
    pub record HaveClosed (locks : List (NodeLock N NodeCall NodeReply Entry)) (crews : List (Crew N D Entry)) (desk : Desk S T) (left : List (NodeLeft N D Entry)) (ran : Ran N D S T Entry) : Type 0 where
      pub job : ConsoleJob W N C S T Entry
      pub done : ConsoleDone W N C S T Entry
      pub console : ConsoleRan steps event_of reply_of refuses gives host source_left source_faults contents sink_faults desk ran job done
      pub began : AllZip3 (BeginsWith host.clock.now) locks crews job.console.nodes.items
      pub backs : List (NodeBack N D Entry)
      pub firsts : AllZip IsFirstOf done.console.nodes.items backs
      pub crews_worked : AllZip3 CrewWorked locks crews backs
      pub closed : AllZip3 (IsClosed steps) locks backs left
