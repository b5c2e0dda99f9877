-- How the program ends.
use Rattle.std.specs.Prelude.{◌≡◌, ◌⊎◌, ℕ, List, [], ◌∷◌, ◌++◌, Option, codes, Ok, Err}
use Rattle.std.specs.Fmt.{decimal}
use Rattle.cs_base.specs.Faults.{HasRisen}
use Rattle.fault_script.specs.declared.script.Script.{Script}
use Rattle.fault_script.specs.declared.script.ScriptError.{ScriptError}
use Rattle.fault_script.specs.declared.script.ScriptError.TheVariants as refused
use Rattle.fault_script.specs.declared.error.ParseError.{ParseError}
use Rattle.fault_script.specs.declared.error.ParseError.TheVariants as parse
use Rattle.fault_script.specs.Script.{IsRead}
use Rattle.script_program.specs.declared.program.Refusal.{Refusal}
use Rattle.script_program.specs.declared.program.Refusal.TheVariants as refusal
use Rattle.script_program.specs.declared.program.Status.{Status}
use Rattle.script_program.specs.declared.program.Status.TheVariants as status
use Rattle.script_program.specs.declared.streams.ReadError.{ReadError}
use Rattle.script_program.specs.declared.streams.ReadError.TheVariants as read
use Rattle.script_program.specs.Runs.{IsRunInPrint}
use Rattle.script_program.specs.Streams.{WritesAll, WritesFront}

-- the bytes are a script, and the text is the printed chronicle of a run of it
abbrev pub IsRunOf : List ℕ → List ℕ → Type 0
IsRunOf bytes text = (script : Script) × IsRead bytes (Ok script) × IsRunInPrint script text

abbrev pub error_line : ScriptError → List ℕ
error_line (refused.Head n) = decimal n ++ codes ": head expected" ++ 10 ∷ []
error_line (refused.Line n) = decimal n ++ codes ": line not understood" ++ 10 ∷ []
error_line (refused.Number n) = decimal n ++ codes ": number out of range" ++ 10 ∷ []
error_line (refused.Cql n at) = decimal n ++ codes ": cql refused at " ++ decimal at ++ 10 ∷ []
error_line refused.TooLong = codes "script too long" ++ 10 ∷ []
error_line refused.TooMany = codes "too many lines" ++ 10 ∷ []

-- what a refusal says of the bytes that were left
abbrev pub IsRefused : List ℕ → Refusal → Type 0
IsRefused left (refusal.Script e) = IsRead left (Err e)
IsRefused left refusal.ReadFault = Unit {0}
IsRefused left refusal.NoMemory = Unit {0}

abbrev pub of_read : ReadError → Refusal
of_read read.Failed = refusal.ReadFault
of_read read.NoMemory = refusal.NoMemory

abbrev pub of_parse : ParseError → Refusal
of_parse (parse.Script e) = refusal.Script e
of_parse parse.NoMemory = refusal.NoMemory

-- the number that the process ends with
abbrev pub code_of : Status → ℕ
code_of status.Ok = 0
code_of status.Usage = 2
code_of status.BadScript = 3
code_of status.ReadFault = 4
code_of status.WriteFault = 5
code_of status.StoreFault = 6
code_of status.NoMemory = 7
code_of status.DoorFault = 8
code_of status.NoThread = 9
code_of status.HistoryFull = 10
code_of status.Damaged = 11

-- a status for which there is no run in print
abbrev pub IsRefusalStatus : Status → Type 0
IsRefusalStatus status.Ok = ⊥
IsRefusalStatus status.Usage = ⊥
IsRefusalStatus status.BadScript = Unit {0}
IsRefusalStatus status.ReadFault = Unit {0}
IsRefusalStatus status.WriteFault = ⊥
IsRefusalStatus status.StoreFault = ⊥
IsRefusalStatus status.NoMemory = Unit {0}
IsRefusalStatus status.DoorFault = ⊥
IsRefusalStatus status.NoThread = ⊥
IsRefusalStatus status.HistoryFull = ⊥
IsRefusalStatus status.Damaged = ⊥

-- What a text that is no script ends with, by the source's count of faults, and what a script ends with, by the sink's too
abbrev pub IsRefusedWith : ℕ → ℕ → Status → Type 0
IsRefusedWith reads reads' s = (s ≡ status.BadScript) ⊎ (s ≡ status.NoMemory) ⊎ ((s ≡ status.ReadFault) × HasRisen reads reads')

abbrev pub IsServedWith : ℕ → ℕ → ℕ → ℕ → Status → Type 0
IsServedWith reads reads' writes writes' s =
    (s ≡ status.Ok) ⊎ (s ≡ status.NoMemory) ⊎ ((s ≡ status.ReadFault) × HasRisen reads reads') ⊎ ((s ≡ status.WriteFault) × HasRisen writes writes')

-- the script is refused, and its line is told
abbrev pub RefusesScript : Refusal → (List ℕ → Type 0) → Type 0
RefusesScript (refusal.Script e) Told = Told (error_line e)
RefusesScript refusal.ReadFault Told = ⊥
RefusesScript refusal.NoMemory Told = ⊥

-- the line is written last: whole, or a front of it where the sink fails
abbrev pub LeavesLine : Option (List ℕ) → Option (List ℕ) → ℕ → ℕ → List ℕ → Type 0
LeavesLine held held' faults faults' line = WritesAll held held' line ⊎ (WritesFront held held' line × HasRisen faults faults')

-- the text is written whole, or a front of it where the sink fails, and the status says which
abbrev pub IsTold : Option (List ℕ) → Option (List ℕ) → ℕ → ℕ → List ℕ → Status → Type 0
IsTold held held' faults faults' text s =
    ((s ≡ status.Ok) × WritesAll held held' text) ⊎ ((s ≡ status.WriteFault) × WritesFront held held' text × HasRisen faults faults')
