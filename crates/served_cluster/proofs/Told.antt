-- What the end of a run tells.
use Rattle.std.proofs.Common.{◌≡◌, ℕ, Bool, true, false, Some, None, refl}
use Rattle.std.specs.Prelude.{Option}
use Rattle.served_console.specs.declared.end.ConsoleEnd.{ConsoleEnd}
use Rattle.served_console.specs.declared.end.ConsoleEnd.TheVariants as console
use Rattle.served_doors.specs.declared.fault.DoorFault.{DoorFault}
use Rattle.served_doors.specs.declared.fault.DoorFault.TheVariants as door
use Rattle.served_stores.specs.declared.fault.LoadFault.{LoadFault}
use Rattle.served_stores.specs.declared.fault.LoadFault.TheVariants as load
use Rattle.served_cluster.specs.declared.ending.ServedEnd.{ServedEnd}
use Rattle.served_cluster.specs.declared.ending.ServedEnd.TheVariants as served
use Rattle.served_cluster.specs.Ends.{GivesAllBack, IsOfNoConsole, IsToldFirst, told_by, told_of, told_of_doors, told_of_load, told_without}

-- what was found where this end is told, of the first node that failed, the doors, the threads, and the first full history
abbrev pub Found : ServedEnd → Option ℕ → Bool → Bool → Option ℕ → Type 0
Found served.Closed failed door_failed unstarted full = (failed ≡ None) × (door_failed ≡ false) × (unstarted ≡ false) × (full ≡ None)
Found served.ReadFault failed door_failed unstarted full = ⊥
Found served.WriteFault failed door_failed unstarted full = ⊥
Found (served.StoreFault n) failed door_failed unstarted full = failed ≡ Some n
Found served.NoMemory failed door_failed unstarted full = ⊥
Found served.DoorFault failed door_failed unstarted full = door_failed ≡ true
Found served.NoThread failed door_failed unstarted full = unstarted ≡ true
Found (served.HistoryFull n) failed door_failed unstarted full = (failed ≡ None) × (door_failed ≡ false) × (unstarted ≡ false) × (full ≡ Some n)
Found (served.Damaged n f p) failed door_failed unstarted full = ⊥

found_by : (failed : Option ℕ) (door_failed unstarted : Bool) (full : Option ℕ) → Found (told_by failed door_failed unstarted full) failed door_failed unstarted full
found_by (Some n) door_failed unstarted full = refl
found_by None true unstarted full = refl
found_by None false true full = refl
found_by None false false (Some n) = (refl, refl, refl, refl)
found_by None false false None = (refl, refl, refl, refl)

-- an end that is no fault of the console tells what was found behind a console that ended well
abbrev pub FoundBehind : ConsoleEnd → ServedEnd → Option ℕ → Bool → Bool → Option ℕ → Type 0
FoundBehind console.Ended told failed door_failed unstarted full = Found told failed door_failed unstarted full
FoundBehind console.ReadFault told failed door_failed unstarted full = told ≡ served.ReadFault
FoundBehind console.WriteFault told failed door_failed unstarted full = told ≡ served.WriteFault

pub found_of : (ended : ConsoleEnd) (failed : Option ℕ) (door_failed unstarted : Bool) (full : Option ℕ) → FoundBehind ended (told_of ended failed door_failed unstarted full) failed door_failed unstarted full
found_of console.Ended failed door_failed unstarted full = found_by failed door_failed unstarted full
found_of console.ReadFault failed door_failed unstarted full = refl
found_of console.WriteFault failed door_failed unstarted full = refl

first_by : (failed : Option ℕ) (door_failed unstarted : Bool) (full : Option ℕ) → IsToldFirst console.Ended (told_by failed door_failed unstarted full)
first_by (Some n) door_failed unstarted full = (λ e. cc, λ e. cc)
first_by None true unstarted full = (λ e. cc, λ e. cc)
first_by None false true full = (λ e. cc, λ e. cc)
first_by None false false (Some n) = (λ e. cc, λ e. cc)
first_by None false false None = (λ e. cc, λ e. cc)

pub first_of_all : (ended : ConsoleEnd) (failed : Option ℕ) (door_failed unstarted : Bool) (full : Option ℕ) → IsToldFirst ended (told_of ended failed door_failed unstarted full)
first_of_all console.Ended failed door_failed unstarted full = first_by failed door_failed unstarted full
first_of_all console.ReadFault failed door_failed unstarted full = refl
first_of_all console.WriteFault failed door_failed unstarted full = refl

pub first_without : (ended : ConsoleEnd) → IsToldFirst ended (told_without ended)
first_without console.Ended = (λ e. cc, λ e. cc)
first_without console.ReadFault = refl
first_without console.WriteFault = refl

-- where no fault of the console is told it ended well
pub behind : (ended : ConsoleEnd) (told : ServedEnd) (failed : Option ℕ) (door_failed unstarted : Bool) (full : Option ℕ) → FoundBehind ended told failed door_failed unstarted full → IsOfNoConsole told
    → (ended ≡ console.Ended) × Found told failed door_failed unstarted full
behind console.Ended told failed door_failed unstarted full found apart = (refl, found)
behind console.ReadFault told failed door_failed unstarted full found apart = absurd (apart.0 found)
behind console.WriteFault told failed door_failed unstarted full found apart = absurd (apart.1 found)

-- ---- ends that tell nothing of nodes

abbrev pub IsSilent : ServedEnd → Type 0
IsSilent served.Closed = ⊥
IsSilent served.ReadFault = Unit {0}
IsSilent served.WriteFault = Unit {0}
IsSilent (served.StoreFault n) = ⊥
IsSilent served.NoMemory = Unit {0}
IsSilent served.DoorFault = ⊥
IsSilent served.NoThread = ⊥
IsSilent (served.HistoryFull n) = ⊥
IsSilent (served.Damaged n f p) = ⊥

pub silent_without : (ended : ConsoleEnd) → IsSilent (told_without ended)
silent_without console.Ended = tt
silent_without console.ReadFault = tt
silent_without console.WriteFault = tt

pub silent_keeps : (told : ServedEnd) → IsSilent told → GivesAllBack told → ⊥
silent_keeps served.Closed silent all = silent
silent_keeps served.ReadFault silent all = all
silent_keeps served.WriteFault silent all = all
silent_keeps (served.StoreFault n) silent all = silent
silent_keeps served.NoMemory silent all = all
silent_keeps served.DoorFault silent all = silent
silent_keeps served.NoThread silent all = silent
silent_keeps (served.HistoryFull n) silent all = silent
silent_keeps (served.Damaged n f p) silent all = silent

-- each end is a console's or none of a console, as it gives all back
pub back_apart : (told : ServedEnd) → GivesAllBack told → IsOfNoConsole told
back_apart served.Closed all = (λ e. cc, λ e. cc)
back_apart served.ReadFault all = absurd all
back_apart served.WriteFault all = absurd all
back_apart (served.StoreFault n) all = (λ e. cc, λ e. cc)
back_apart served.NoMemory all = absurd all
back_apart served.DoorFault all = (λ e. cc, λ e. cc)
back_apart served.NoThread all = (λ e. cc, λ e. cc)
back_apart (served.HistoryFull n) all = (λ e. cc, λ e. cc)
back_apart (served.Damaged n f p) all = (λ e. cc, λ e. cc)

-- ---- faults of the console

pub read_first : (ended : ConsoleEnd) (told : ServedEnd) → IsToldFirst ended told → told ≡ served.ReadFault → ended ≡ console.ReadFault
read_first console.Ended told first is = absurd (first.0 is)
read_first console.ReadFault told first is = refl
read_first console.WriteFault told first is = absurd (let wrong : served.WriteFault ≡ served.ReadFault = cc in cc)

pub write_first : (ended : ConsoleEnd) (told : ServedEnd) → IsToldFirst ended told → told ≡ served.WriteFault → ended ≡ console.WriteFault
write_first console.Ended told first is = absurd (first.1 is)
write_first console.ReadFault told first is = absurd (let wrong : served.ReadFault ≡ served.WriteFault = cc in cc)
write_first console.WriteFault told first is = refl

-- ---- what was not had before nodes ran

pub doors_apart : (why : DoorFault) → IsOfNoConsole (told_of_doors why)
doors_apart door.Failed = (λ e. cc, λ e. cc)
doors_apart door.NoMemory = (λ e. cc, λ e. cc)

pub load_apart : (why : LoadFault) → IsOfNoConsole (told_of_load why)
load_apart (load.Failed n) = (λ e. cc, λ e. cc)
load_apart (load.Damaged n f p) = (λ e. cc, λ e. cc)
load_apart load.NoMemory = (λ e. cc, λ e. cc)

-- this end tells of this fault of a load
abbrev pub TellsOf : ServedEnd → LoadFault → Type 0
TellsOf served.Closed why = ⊥
TellsOf served.ReadFault why = ⊥
TellsOf served.WriteFault why = ⊥
TellsOf (served.StoreFault n) why = why ≡ load.Failed n
TellsOf served.NoMemory why = why ≡ load.NoMemory
TellsOf served.DoorFault why = ⊥
TellsOf served.NoThread why = ⊥
TellsOf (served.HistoryFull n) why = ⊥
TellsOf (served.Damaged n f p) why = why ≡ load.Damaged n f p

pub tells_of : (why : LoadFault) → TellsOf (told_of_load why) why
tells_of (load.Failed n) = refl
tells_of (load.Damaged n f p) = refl
tells_of load.NoMemory = refl
