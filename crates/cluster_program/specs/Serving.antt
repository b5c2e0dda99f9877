-- What the command `serve` does.
use Rattle.std.specs.Prelude.{◌≡◌, ◌⊎◌, ◌≤◌, ℕ, List, Option, None, Some, Err, IfSome, length}
use Rattle.cs_base.specs.Faults.{HasRisen}
use Rattle.fault_script.specs.Script.{IsRead}
use Rattle.fault_script.specs.declared.script.Script.{Script}
use Rattle.fault_script.specs.declared.script.ScriptError.{ScriptError}
use Rattle.source_lines.specs.Heads.{head_of}
use Rattle.peer_messages.specs.declared.setting.Setting.{Setting}
use Rattle.cluster_runs.specs.World.{World, start}
use Rattle.cluster_runs.specs.Run.{Run}
use Rattle.lawful_orders.specs.Merged.{IsMerged}
use Rattle.lawful_orders.specs.Orders.{Placed, IsOrderOf, RunsThrough}
use Rattle.served_stores.specs.Shown.{Shown}
use Rattle.served_run.specs.declared.desk.Desk.{Desk}
use Rattle.served_run.specs.declared.host.Host.{Host}
use Rattle.served_cluster.specs.Kinds.{ReplicaKind, DoorKind, StreamKind}
use Rattle.served_cluster.specs.Served.{IsServed, StreamsAreBack}
use Rattle.served_cluster.specs.declared.ending.ServedEnd.{ServedEnd}
use Rattle.served_cluster.specs.declared.ending.ServedEnd.TheVariants as served
use Rattle.served_cluster.specs.declared.ending.ServedRun.{ServedRun}
use Rattle.served_theorem.specs.Left.{AreFormatted, HoldWhatIsLeft, histories_of, states_of}
use Rattle.served_theorem.specs.Runs.{IsServedRun}
use Rattle.served_theorem.specs.Visits.{TellsAll, visits_served}
use Rattle.script_program.specs.Endings.{LeavesLine, error_line}
use Rattle.script_program.specs.Requests.{setting_of}
use Rattle.script_program.specs.Streams.{WritesAll, WritesFront}
use Rattle.script_program.specs.declared.program.Status.{Status}
use Rattle.script_program.specs.declared.program.Status.TheVariants as status
use Rattle.cluster_program.specs.Endings.{closed_line, read_fault_line, no_memory_line, door_fault_line, no_thread_line, store_fault_line, history_full_line, damaged_line}
use Rattle.cluster_program.specs.Heads.{IsHead, listening_lines}

-- What is served: the kind of its replicas, what breaks the format of their files, its doors, the clock, and the streams of its console
pub record Kinds (R D L C S T : Type 0) : Type 1 where
  pub replica : ReplicaKind R
  pub is_damaged : (ℕ → List ℕ) → ℕ → ℕ → Type 0
  pub door : DoorKind D L
  pub gives : C → ℕ → Type 0
  pub streams : StreamKind S T

abbrev pub kinds : {R D L C S T : Type 0} → ReplicaKind R → ((ℕ → List ℕ) → ℕ → ℕ → Type 0) → DoorKind D L → (C → ℕ → Type 0) → StreamKind S T → Kinds R D L C S T
kinds replica is_damaged door gives streams = record { replica = replica; is_damaged = is_damaged; door = door; gives = gives; streams = streams }

module _ (W G K : Type 0) {R D L C S T : Type 0} (k : Kinds R D L C S T) where
  -- What the nodes of a served run did is a run of the cluster, where disks are honest: behind each run that left what their stores held,
  -- and from the first on where these were just formatted. Along each order in which their steps may have come, the chronicle enters what
  -- the clients were told.
  pub record GoesOnARun (host : Host W C G) (desk : Desk S T) (counted : Type 0) (setting : Setting) (old new : Shown) (run : ServedRun S T) (full : Option ℕ)
      (h : IsServed K k.replica k.door k.gives k.streams host desk counted setting old new run full) : Type 0 where
    pub goes_on : k.replica.is_honest → (earlier : World) → Run setting earlier → HoldWhatIsLeft k.replica.stands_for earlier.standing old.holds
        → IsServedRun k.replica.stands_for setting earlier old.holds (histories_of h.served.served.left) (states_of k.replica.durable h.served.served.left) new.holds
    pub begins : k.replica.is_honest → AreFormatted (length setting.ring) old.holds
        → IsServedRun k.replica.stands_for setting (start setting) old.holds (histories_of h.served.served.left) (states_of k.replica.durable h.served.served.left) new.holds
    pub tells : (begun last : World) (order : List Placed)
        → IsOrderOf (histories_of h.served.served.left) order ⊎ IsMerged (histories_of h.served.served.left) order → RunsThrough setting begun order last
        → TellsAll begun last (visits_served k.replica k.door k.gives k.streams host desk counted h.served.served)

  -- Served runs whose nodes listen from this port on, whose streams were these, and whose source is then this.
  -- The head of what the source had left is a script. Behind the head the run began, with the script's schema and by the clock: its console
  -- wrote to the sink, first of all where each node listens.
  pub record Session (clock : C) (port : ℕ) (source : S) (sink : T) (source' : S) : Type 0 where
    pub script : Script
    pub host : Host W C G
    pub desk : Desk S T
    pub run : ServedRun S T
    pub head : IfSome (k.streams.remaining source) (λ left. IsHead left script desk.lines (k.streams.remaining desk.source))
    pub later : k.streams.source_faults source ≤ k.streams.source_faults desk.source
    pub sink_was : desk.sink ≡ sink
    pub opening : desk.opening.items ≡ listening_lines port (length script.ring)
    pub schema : host.schema.now ≡ script.schema
    pub clock_is : host.clock.now ≡ clock
    pub streams_are_back : StreamsAreBack D k.replica k.gives k.streams host desk run
    pub source_is : source' ≡ run.source

  module _ (clock : C) (port : ℕ) (counted : Type 0) (old new : Shown) (source : S) (sink : T) (source' : S) (sink' : T) where
    -- the line is all that was written, or a front of it where the sink failed
    abbrev pub TellsAlone : List ℕ → Type 0
    TellsAlone line = LeavesLine (k.streams.contents sink) (k.streams.contents sink') (k.streams.sink_faults sink) (k.streams.sink_faults sink') line

    -- the line, or a front of it where the sink failed, was written behind all that the console of a session wrote
    abbrev pub TellsIn : Session clock port source sink source' → List ℕ → Type 0
    TellsIn x line = LeavesLine (k.streams.contents x.run.sink) (k.streams.contents sink') (k.streams.sink_faults x.run.sink) (k.streams.sink_faults sink') line

    -- so it was in a session that ended so
    abbrev pub TellsBehind : ServedEnd → List ℕ → Type 0
    TellsBehind end line = (x : Session clock port source sink source') × (x.run.end ≡ end) × TellsIn x line

    -- the nodes of a session's script were served, and this is the first one whose history is full
    abbrev pub HasServed : Session clock port source sink source' → Option ℕ → Type 0
    HasServed x full = IsServed K k.replica k.door k.gives k.streams x.host x.desk counted (setting_of x.script) old new x.run full

    abbrev pub IsARun : (x : Session clock port source sink source') (full : Option ℕ) → HasServed x full → Type 0
    IsARun x full h = GoesOnARun x.host x.desk counted (setting_of x.script) old new x.run full h

    -- all went well, and `closed` is written last
    abbrev pub IsClosed : Type 0
    IsClosed =
        (x : Session clock port source sink source') × (h : HasServed x None) × IsARun x None h
        × WritesAll (k.streams.contents x.run.sink) (k.streams.contents sink') closed_line

    -- the head is no script, which is told
    pub record RefusesHead : Type 0 where
      pub error : ScriptError
      pub refused : IfSome (k.streams.remaining source) (λ left. IsRead (head_of left) (Err error))
      pub told : TellsAlone (error_line error)

    -- the console could not write; or the nodes were served, and `closed` was not written whole
    abbrev pub BreaksOff : Type 0
    BreaksOff =
        (x : Session clock port source sink source')
        × (((x.run.end ≡ served.WriteFault) × (k.streams.contents sink' ≡ k.streams.contents x.run.sink))
        ⊎ (HasServed x None × WritesFront (k.streams.contents x.run.sink) (k.streams.contents sink') closed_line))

    abbrev pub HasStoreFault : Type 0
    HasStoreFault = (n : ℕ) × HasRisen (old.faults n) (new.faults n) × TellsBehind (served.StoreFault n) (store_fault_line n)

    abbrev pub IsFull : Type 0
    IsFull = (n : ℕ) × (x : Session clock port source sink source') × (h : HasServed x (Some n)) × IsARun x (Some n) h × TellsIn x (history_full_line n)

    -- the file of the node broke its format at that place, where the disk is honest
    abbrev pub IsDamaged : Type 0
    IsDamaged = (n : ℕ) × (f : ℕ) × (p : ℕ) × (k.replica.is_honest → k.is_damaged (old.holds n) f p) × TellsBehind (served.Damaged n f p) (damaged_line n f p)

    -- there was no memory before a session, in it, or for its last line
    abbrev pub WantsMemory : Type 0
    WantsMemory = TellsAlone no_memory_line ⊎ ((x : Session clock port source sink source') × TellsIn x no_memory_line)

    -- How the command ends, by its status. A read may fail before a session and in it.
    abbrev pub ServeEnds : Status → Type 0
    ServeEnds status.Ok = IsClosed
    ServeEnds status.Usage = ⊥
    ServeEnds status.BadScript = RefusesHead
    ServeEnds status.ReadFault = TellsAlone read_fault_line ⊎ TellsBehind served.ReadFault read_fault_line
    ServeEnds status.WriteFault = BreaksOff
    ServeEnds status.StoreFault = HasStoreFault
    ServeEnds status.NoMemory = WantsMemory
    ServeEnds status.DoorFault = TellsBehind served.DoorFault door_fault_line
    ServeEnds status.NoThread = TellsBehind served.NoThread no_thread_line
    ServeEnds status.HistoryFull = IsFull
    ServeEnds status.Damaged = IsDamaged
