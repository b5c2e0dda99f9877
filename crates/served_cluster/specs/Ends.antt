-- The ends of served runs.
use Rattle.std.specs.Prelude.{◌≡◌, ℕ, Bool, true, false, Option, Some, None}
use Rattle.served_console.specs.declared.end.ConsoleEnd.{ConsoleEnd}
use Rattle.served_console.specs.declared.end.ConsoleEnd.TheVariants as console
use Rattle.served_doors.specs.declared.fault.DoorFault.{DoorFault}
use Rattle.served_doors.specs.declared.fault.DoorFault.TheVariants as doors
use Rattle.served_stores.specs.declared.fault.LoadFault.{LoadFault}
use Rattle.served_stores.specs.declared.fault.LoadFault.TheVariants as load
use Rattle.served_cluster.specs.declared.ending.ServedEnd.{ServedEnd}
use Rattle.served_cluster.specs.declared.ending.ServedEnd.TheVariants as served

-- At this end nothing that was taken is lost. Where there is no memory to take the nodes apart, it may be, and a fault of the console
-- is told even then
abbrev pub GivesAllBack : ServedEnd → Type 0
GivesAllBack served.Closed = Unit {0}
GivesAllBack served.ReadFault = ⊥
GivesAllBack served.WriteFault = ⊥
GivesAllBack (served.StoreFault n) = Unit {0}
GivesAllBack served.NoMemory = ⊥
GivesAllBack served.DoorFault = Unit {0}
GivesAllBack served.NoThread = Unit {0}
GivesAllBack (served.HistoryFull n) = Unit {0}
GivesAllBack (served.Damaged n f p) = Unit {0}

-- the end is no fault of a console
abbrev pub IsOfNoConsole : ServedEnd → Type 0
IsOfNoConsole told = (told ≡ served.ReadFault → ⊥) × (told ≡ served.WriteFault → ⊥)

-- A fault of the console is told, before all others, and where it had none, none of a console is
abbrev pub IsToldFirst : ConsoleEnd → ServedEnd → Type 0
IsToldFirst console.Ended told = IsOfNoConsole told
IsToldFirst console.ReadFault told = told ≡ served.ReadFault
IsToldFirst console.WriteFault told = told ≡ served.WriteFault

-- ---- which end is told

-- the fault of a load
abbrev pub told_of_load : LoadFault → ServedEnd
told_of_load (load.Failed n) = served.StoreFault n
told_of_load (load.Damaged n f p) = served.Damaged n f p
told_of_load load.NoMemory = served.NoMemory

-- the fault of doors
abbrev pub told_of_doors : DoorFault → ServedEnd
told_of_doors doors.Failed = served.DoorFault
told_of_doors doors.NoMemory = served.NoMemory

-- the end where there is no memory to take the nodes apart
abbrev pub told_without : ConsoleEnd → ServedEnd
told_without console.Ended = served.NoMemory
told_without console.ReadFault = served.ReadFault
told_without console.WriteFault = served.WriteFault

-- the end where the console ended well: of the first node that failed, whether a door failed, whether a job got no thread, and the first
-- node whose history is full
abbrev pub told_by : Option ℕ → Bool → Bool → Option ℕ → ServedEnd
told_by (Some n) door_failed unstarted full = served.StoreFault n
told_by None true unstarted full = served.DoorFault
told_by None false true full = served.NoThread
told_by None false false (Some n) = served.HistoryFull n
told_by None false false None = served.Closed

abbrev pub told_of : ConsoleEnd → Option ℕ → Bool → Bool → Option ℕ → ServedEnd
told_of console.Ended failed door_failed unstarted full = told_by failed door_failed unstarted full
told_of console.ReadFault failed door_failed unstarted full = served.ReadFault
told_of console.WriteFault failed door_failed unstarted full = served.WriteFault
