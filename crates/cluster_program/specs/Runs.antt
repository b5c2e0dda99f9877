-- A run that was served from a desk, and a head that was refused, each as it was told.
use Rattle.std.specs.Prelude.{◌≡◌, ◌≤◌, ℕ, List, Option, None, Some}
use Rattle.cs_base.specs.Faults.{HasRisen}
use Rattle.peer_messages.specs.declared.setting.Setting.{Setting}
use Rattle.schema_book.specs.Books.{Book}
use Rattle.served_stores.specs.Shown.{Shown}
use Rattle.served_run.specs.declared.desk.Desk.{Desk}
use Rattle.served_run.specs.declared.host.Host.{Host}
use Rattle.served_cluster.specs.Served.{IsServed, StreamsAreBack}
use Rattle.served_cluster.specs.declared.ending.ServedEnd.TheVariants as served
use Rattle.served_cluster.specs.declared.ending.ServedRun.{ServedRun}
use Rattle.script_program.specs.Endings.{LeavesLine, RefusesScript, IsRefusalStatus}
use Rattle.script_program.specs.declared.program.Refusal.{Refusal}
use Rattle.script_program.specs.declared.program.Refusal.TheVariants as refused
use Rattle.script_program.specs.declared.program.Status.{Status}
use Rattle.script_program.specs.declared.program.Status.TheVariants as told
use Rattle.cluster_program.specs.Endings.{read_fault_line, no_memory_line, TellsEnd}
use Rattle.cluster_program.specs.Serving.{Kinds, GoesOnARun}

module _ (W G K : Type 0) {R D L C S T : Type 0} (k : Kinds R D L C S T) where
  -- The run was served from the desk by the clock, ended for its cause, and was told with this status.
  pub record Serves (clock : C) (schema : Book) (setting : Setting) (desk : Desk S T) (doors_rose counted : Type 0) (old new : Shown) (source' : S) (sink' : T) (status : Status) : Type 0 where
    pub host : Host W C G
    pub run : ServedRun S T
    pub schema_is : host.schema.now ≡ schema
    pub clock_is : host.clock.now ≡ clock
    pub streams_are_back : StreamsAreBack D k.replica k.gives k.streams host desk run
    pub read_fault : run.end ≡ served.ReadFault → HasRisen (k.streams.source_faults desk.source) (k.streams.source_faults run.source)
    pub write_fault : run.end ≡ served.WriteFault → HasRisen (k.streams.sink_faults desk.sink) (k.streams.sink_faults run.sink)
    pub store_fault : (n : ℕ) → run.end ≡ served.StoreFault n → HasRisen (old.faults n) (new.faults n)
    pub door_fault : run.end ≡ served.DoorFault → doors_rose
    pub no_thread : run.end ≡ served.NoThread → counted
    pub damaged : (n f p : ℕ) → run.end ≡ served.Damaged n f p → k.replica.is_honest → k.is_damaged (old.holds n) f p
    pub closed : run.end ≡ served.Closed → IsServed K k.replica k.door k.gives k.streams host desk counted setting old new run None
    pub full : (n : ℕ) → run.end ≡ served.HistoryFull n → IsServed K k.replica k.door k.gives k.streams host desk counted setting old new run (Some n)
    pub goes_on : (at : Option ℕ) (h : IsServed K k.replica k.door k.gives k.streams host desk counted setting old new run at) → GoesOnARun W G K k host desk counted setting old new run at h
    pub source_is : source' ≡ run.source
    pub told : TellsEnd run.end (k.streams.contents run.sink) (k.streams.contents sink') (k.streams.sink_faults run.sink) (k.streams.sink_faults sink') status
    pub later : k.streams.sink_faults run.sink ≤ k.streams.sink_faults sink'

-- the refusal is told with this status, and nothing else is written
pub record RefusesSo (refusal : Refusal) (held held' : Option (List ℕ)) (faults faults' : ℕ) (status : Status) : Type 0 where
  pub script : status ≡ told.BadScript → RefusesScript refusal (LeavesLine held held' faults faults')
  pub read_fault : status ≡ told.ReadFault → (refusal ≡ refused.ReadFault) × LeavesLine held held' faults faults' read_fault_line
  pub memory : status ≡ told.NoMemory → LeavesLine held held' faults faults' no_memory_line
  pub others : IsRefusalStatus status
