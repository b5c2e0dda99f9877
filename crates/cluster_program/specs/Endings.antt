-- How the end of a served run is told.
use Rattle.std.specs.Prelude.{◌≡◌, ◌⊎◌, ℕ, List, [], ◌∷◌, ◌++◌, Option, codes}
use Rattle.std.specs.Fmt.{decimal}
use Rattle.served_cluster.specs.declared.ending.ServedEnd.{ServedEnd}
use Rattle.served_cluster.specs.declared.ending.ServedEnd.TheVariants as served
use Rattle.script_program.specs.Endings.{IsTold, LeavesLine}
use Rattle.script_program.specs.declared.program.Status.{Status}
use Rattle.script_program.specs.declared.program.Status.TheVariants as status

-- ---- lines

abbrev pub closed_line : List ℕ
closed_line = codes "closed\n"

abbrev pub read_fault_line : List ℕ
read_fault_line = codes "read fault\n"

abbrev pub no_memory_line : List ℕ
no_memory_line = codes "no memory\n"

abbrev pub door_fault_line : List ℕ
door_fault_line = codes "door fault\n"

abbrev pub no_thread_line : List ℕ
no_thread_line = codes "no thread\n"

abbrev pub store_fault_line : ℕ → List ℕ
store_fault_line node = codes "store fault " ++ decimal node ++ 10 ∷ []

abbrev pub history_full_line : ℕ → List ℕ
history_full_line node = codes "history full " ++ decimal node ++ 10 ∷ []

abbrev pub damaged_line : ℕ → ℕ → ℕ → List ℕ
damaged_line node file at = codes "damaged " ++ decimal node ++ 32 ∷ decimal file ++ 32 ∷ decimal at ++ 10 ∷ []

-- ---- ends

-- the line is left with this status, or there is no memory to make it
abbrev pub TellsLine : Status → List ℕ → Option (List ℕ) → Option (List ℕ) → ℕ → ℕ → Status → Type 0
TellsLine told line held held' faults faults' s =
    ((s ≡ told) × LeavesLine held held' faults faults' line) ⊎ ((s ≡ status.NoMemory) × LeavesLine held held' faults faults' no_memory_line)

-- what is written behind all that a served run wrote, and the status that goes with it. Where the console could not write, nothing is
abbrev pub TellsEnd : ServedEnd → Option (List ℕ) → Option (List ℕ) → ℕ → ℕ → Status → Type 0
TellsEnd served.Closed held held' faults faults' s = IsTold held held' faults faults' closed_line s
TellsEnd served.ReadFault held held' faults faults' s = (s ≡ status.ReadFault) × LeavesLine held held' faults faults' read_fault_line
TellsEnd served.WriteFault held held' faults faults' s = (s ≡ status.WriteFault) × (held' ≡ held) × (faults' ≡ faults)
TellsEnd (served.StoreFault n) held held' faults faults' s = TellsLine status.StoreFault (store_fault_line n) held held' faults faults' s
TellsEnd served.NoMemory held held' faults faults' s = (s ≡ status.NoMemory) × LeavesLine held held' faults faults' no_memory_line
TellsEnd served.DoorFault held held' faults faults' s = (s ≡ status.DoorFault) × LeavesLine held held' faults faults' door_fault_line
TellsEnd served.NoThread held held' faults faults' s = (s ≡ status.NoThread) × LeavesLine held held' faults faults' no_thread_line
TellsEnd (served.HistoryFull n) held held' faults faults' s = TellsLine status.HistoryFull (history_full_line n) held held' faults faults' s
TellsEnd (served.Damaged n f p) held held' faults faults' s = TellsLine status.Damaged (damaged_line n f p) held held' faults faults' s
