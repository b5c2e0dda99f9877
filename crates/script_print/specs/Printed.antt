-- A script in print: a line for each thing that it says, in the order in which the reader wants them.
use Rattle.std.specs.Prelude.{ℕ, Bool, true, false, ◌==◌, if◌then◌else◌, ℤ, List, [], ◌∷◌, ◌++◌, flat_map, map, codes}
use Rattle.std.specs.Fmt.{decimal, signed_decimal}
use Rattle.cs_base.specs.declared.level.Level.{Level}
use Rattle.cs_base.specs.declared.level.Level.TheVariants as level
use Rattle.cs_store.specs.declared.mem_file.Outcome.{Outcome}
use Rattle.cs_store.specs.declared.mem_file.Outcome.TheVariants.{Kept, Lost, Torn}
use Rattle.fault_script.specs.declared.script.Script.{Script}
use Rattle.fault_script.specs.declared.script.ScriptEvent.{ScriptEvent}
use Rattle.fault_script.specs.declared.script.ScriptEvent.TheVariants as event
use Rattle.fault_script.specs.declared.script.PutRequest.{PutRequest}
use Rattle.fault_script.specs.declared.script.GetRequest.{GetRequest}
use Rattle.fault_script.specs.declared.script.CqlRequest.{CqlRequest}
use Rattle.fault_script.specs.declared.script.MessagePlace.{MessagePlace}

-- Cassandra's name of a level
abbrev pub level_name : Level → List ℕ
level_name level.One = codes "ONE"
level_name level.Two = codes "TWO"
level_name level.Three = codes "THREE"
level_name level.Quorum = codes "QUORUM"
level_name level.All = codes "ALL"
level_name level.LocalQuorum = codes "LOCAL_QUORUM"
level_name level.Serial = codes "SERIAL"
level_name level.LocalSerial = codes "LOCAL_SERIAL"
level_name level.LocalOne = codes "LOCAL_ONE"

-- the name of what a crash makes of the writes that were not synced
abbrev pub outcome_name : Outcome → List ℕ
outcome_name Kept = codes "kept"
outcome_name Lost = codes "lost"
outcome_name Torn = codes "torn"

-- what a mark says of the peer
abbrev pub up_name : Bool → List ℕ
up_name true = codes "up"
up_name false = codes "down"

-- a word behind a space
abbrev pub spaced : List ℕ → List ℕ
spaced word = 32 ∷ word

-- a word, and others behind it with a space between any two
abbrev pub line_of_words : List ℕ → List (List ℕ) → List ℕ
line_of_words word words = word ++ flat_map spaced words

-- ---- the head

abbrev pub number_line : List ℕ → ℕ → List ℕ
number_line word number = line_of_words word (decimal number ∷ [])

-- a line that is wanted only where the number is not the one that holds without it
abbrev pub lines_unless : ℕ → List ℕ → ℕ → List (List ℕ)
lines_unless usual word number = if number == usual then [] else number_line word number ∷ []

abbrev pub ring_line : List ℤ → List ℕ
ring_line ring = line_of_words (codes "ring") (map signed_decimal ring)

abbrev pub settings_lines : Script → List (List ℕ)
settings_lines script = lines_unless 864000 (codes "grace") script.grace ++ lines_unless 10800 (codes "expiry") script.expiry

abbrev pub schema_line : List ℕ → List ℕ
schema_line text = codes "schema " ++ text

-- ---- events

abbrev pub put_line : PutRequest → List ℕ
put_line put =
    line_of_words (codes "put") (decimal put.node ∷ level_name put.level ∷ put.key ∷ put.row ∷ signed_decimal put.timestamp ∷ put.value ∷ [])

abbrev pub get_line : GetRequest → List ℕ
get_line get = line_of_words (codes "get") (decimal get.node ∷ level_name get.level ∷ get.key ∷ [])

abbrev pub cql_line : CqlRequest → List ℕ
cql_line request = codes "cql " ++ (decimal request.node ++ 32 ∷ (level_name request.level ++ 32 ∷ request.text))

abbrev pub message_line : List ℕ → MessagePlace → List ℕ
message_line word place = line_of_words word (decimal place.from ∷ decimal place.upto ∷ decimal place.number ∷ [])

-- a node and a number
abbrev pub pair_line : List ℕ → ℕ → ℕ → List ℕ
pair_line word node number = line_of_words word (decimal node ∷ decimal number ∷ [])

abbrev pub mark_line : ℕ → ℕ → Bool → List ℕ
mark_line node peer up = line_of_words (codes "mark") (decimal node ∷ decimal peer ∷ up_name up ∷ [])

abbrev pub crash_line : ℕ → Outcome → List ℕ
crash_line node outcome = line_of_words (codes "crash") (decimal node ∷ outcome_name outcome ∷ [])

abbrev pub stop_line : ℕ → ℕ → Outcome → List ℕ
stop_line node call outcome = line_of_words (codes "stopat") (decimal node ∷ decimal call ∷ outcome_name outcome ∷ [])

abbrev pub event_line : ScriptEvent → List ℕ
event_line (event.Put put) = put_line put
event_line (event.Get get) = get_line get
event_line (event.Cql request) = cql_line request
event_line (event.Deliver place) = message_line (codes "deliver") place
event_line (event.Drop place) = message_line (codes "drop") place
event_line (event.Settle count) = number_line (codes "settle") count
event_line (event.Clock node micros) = pair_line (codes "clock") node micros
event_line (event.Mark node peer up) = mark_line node peer up
event_line (event.Crash node outcome) = crash_line node outcome
event_line (event.StopAt node call outcome) = stop_line node call outcome
event_line (event.FailAt node call) = pair_line (codes "failat") node call
event_line (event.Restart node) = number_line (codes "restart") node
event_line (event.Flush node) = number_line (codes "flush") node
event_line (event.Merge node) = number_line (codes "merge") node

-- ---- the script

abbrev pub head_lines : Script → List (List ℕ)
head_lines script = codes "cassandra-script 1" ∷ ring_line script.ring ∷ number_line (codes "rf") script.factor ∷ settings_lines script

abbrev pub script_lines : Script → List (List ℕ)
script_lines script = head_lines script ++ (map schema_line script.statements ++ codes "run" ∷ map event_line script.events)

-- a line and its line feed
abbrev pub ended : List ℕ → List ℕ
ended line = line ++ 10 ∷ []

abbrev pub printed_lines : List (List ℕ) → List ℕ
printed_lines lines = flat_map ended lines

abbrev pub printed : Script → List ℕ
printed script = printed_lines (script_lines script)
