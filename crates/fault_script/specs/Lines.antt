-- The lines of a fault script: those of the head, and then what happens to the nodes.
use Rattle.std.specs.Prelude.{ℕ, ◌^◌, ◌-◌, Bool, true, false, not, ◌&&◌, ◌==◌, nat_lt, nat_le, if◌then◌else◌, Option, Some, None, Result, Ok, Err, List, [], ◌∷◌, length, filter, map, ℤ, pos, negsuc, codes, slice_index, take, drop}
use Rattle.std.specs.List.{slice_split, list_all, list_any, position_or_len, before_first, after_first}
use Rattle.std.specs.Option.{option_map}
use Rattle.std.specs.Ordering.{int_eq}
use Rattle.std.specs.Str.{bytes_eq}
use Rattle.std.specs.Char.{is_ascii_digit}
use Rattle.std.specs.Str.Lossy.{utf8_valid_len}
use Rattle.std.specs.Str.Parse.{digits_value, signed_digits_value}
use Rattle.cs_base.specs.declared.level.Level.{Level}
use Rattle.cs_base.specs.declared.level.Level.TheVariants as level
use Rattle.cs_store.specs.declared.mem_file.Outcome.{Outcome}
use Rattle.cs_store.specs.declared.mem_file.Outcome.TheVariants.{Kept, Lost, Torn}
use Rattle.fault_script.specs.declared.script.ScriptEvent.{ScriptEvent}
use Rattle.fault_script.specs.declared.script.ScriptEvent.TheVariants as event
use Rattle.fault_script.specs.declared.script.EventLine.{EventLine}
use Rattle.fault_script.specs.declared.script.EventLine.TheVariants as says
use Rattle.fault_script.specs.declared.script.MessagePlace.{MessagePlace}
use Rattle.fault_script.specs.declared.script.Fault.{Fault}
use Rattle.fault_script.specs.declared.script.Fault.TheVariants as fault
use Rattle.fault_script.specs.declared.script.Settings.{Settings}
use Rattle.fault_script.specs.declared.script.HeadStage.{HeadStage}
use Rattle.fault_script.specs.declared.script.HeadStage.TheVariants as stage
use Rattle.fault_script.specs.declared.script.HeadLine.{HeadLine}
use Rattle.fault_script.specs.declared.script.HeadLine.TheVariants as head
use Rattle.script_words.specs.Words.{words_of, first_word, behind, is_number, is_signed_number, signed_value, within, number_within, is_long_word, long_of, node_of, level_of, outcome_of, up_of}

-- ---- what words give

-- what words give that are understood, or refused by this fault: a value, where their numbers and their level are in range
abbrev pub understood : {T : Type 0} → Fault → Bool → Option T → Result T Fault
understood f false value = Err f
understood f true None = Err fault.Number
understood f true (Some value) = Ok value

abbrev pub result_map : {T U : Type 0} → (T → U) → Result T Fault → Result U Fault
result_map f (Ok value) = Ok (f value)
result_map f (Err e) = Err e

-- ---- the head

abbrev pub version_line : List (List ℕ) → Result HeadStage Fault
version_line (word ∷ version ∷ []) = understood fault.Head (bytes_eq word (codes "cassandra-script") && bytes_eq version (codes "1")) (Some stage.Ring)
version_line words = Err fault.Head

-- the tokens, where each is within 64 bits
abbrev pub tokens_of : List (List ℕ) → Option (List ℤ)
tokens_of words = if list_all is_long_word words then Some (map signed_value words) else None

-- whether no token stands twice
abbrev pub are_apart : List ℤ → Bool
are_apart [] = true
are_apart (token ∷ tokens) = not (list_any (int_eq token) tokens) && are_apart tokens

-- one to seven signed numbers
abbrev pub are_tokens : List (List ℕ) → Bool
are_tokens words = nat_le 1 (length words) && nat_le (length words) 7 && list_all is_signed_number words

abbrev pub ring_of : Result (List ℤ) Fault → Result HeadStage Fault
ring_of (Ok tokens) = if are_apart tokens then Ok (stage.Factor tokens) else Err fault.Head
ring_of (Err f) = Err f

abbrev pub ring_line : List (List ℕ) → Result HeadStage Fault
ring_line [] = Err fault.Head
ring_line (word ∷ tokens) = ring_of (understood fault.Head (bytes_eq word (codes "ring") && are_tokens tokens) (tokens_of tokens))

-- what holds without a line `grace` or `expiry`: ten days, and three hours
abbrev pub first_settings : List ℤ → ℕ → Settings
first_settings ring factor = record { ring = ring; factor = factor; grace = 864000; expiry = 10800 }

abbrev pub with_factor : List ℤ → ℕ → HeadStage
with_factor ring factor = stage.Grace (first_settings ring factor)

abbrev pub factor_line : List ℤ → List (List ℕ) → Result HeadStage Fault
factor_line ring (word ∷ factor ∷ []) = understood fault.Head (bytes_eq word (codes "rf") && is_number factor) (option_map (with_factor ring) (number_within 1 (length ring) factor))
factor_line ring words = Err fault.Head

-- whether the first word is this
abbrev pub is_first : List ℕ → List (List ℕ) → Bool
is_first first [] = false
is_first first (word ∷ words) = bytes_eq word first

abbrev pub with_grace : Settings → ℕ → HeadStage
with_grace settings grace = stage.Expiry (record settings { grace = grace })

abbrev pub grace_line : Settings → List (List ℕ) → Result HeadStage Fault
grace_line settings (word ∷ seconds ∷ []) = understood fault.Head (is_number seconds) (option_map (with_grace settings) (number_within 0 100000000 seconds))
grace_line settings words = Err fault.Head

abbrev pub with_expiry : Settings → ℕ → HeadStage
with_expiry settings expiry = stage.Schema (record settings { expiry = expiry })

abbrev pub expiry_line : Settings → List (List ℕ) → Result HeadStage Fault
expiry_line settings (word ∷ seconds ∷ []) = understood fault.Head (is_number seconds) (option_map (with_expiry settings) (number_within 1000 100000 seconds))
expiry_line settings words = Err fault.Head

abbrev pub run_line : Settings → List (List ℕ) → Result HeadLine Fault
run_line settings (word ∷ []) = understood fault.Head (bytes_eq word (codes "run")) (Some (head.Run settings))
run_line settings words = Err fault.Head

-- behind `grace`
abbrev pub later_line : Settings → List (List ℕ) → Result HeadLine Fault
later_line settings words =
    if is_first (codes "expiry") words then result_map head.Next (expiry_line settings words) else run_line settings words

-- behind `rf`
abbrev pub option_line : Settings → List (List ℕ) → Result HeadLine Fault
option_line settings words =
    if is_first (codes "grace") words then result_map head.Next (grace_line settings words) else later_line settings words

-- what words say where they have to be this
abbrev pub head_words : HeadStage → List (List ℕ) → Result HeadLine Fault
head_words stage.Version words = result_map head.Next (version_line words)
head_words stage.Ring words = result_map head.Next (ring_line words)
head_words (stage.Factor ring) words = result_map head.Next (factor_line ring words)
head_words (stage.Grace settings) words = option_line settings words
head_words (stage.Expiry settings) words = later_line settings words
head_words (stage.Schema settings) words = run_line settings words

abbrev pub head_of_words : HeadStage → Option (List (List ℕ)) → Result HeadLine Fault
head_of_words s None = Err fault.Head
head_of_words s (Some words) = head_words s words

-- a statement of the schema stands behind `rf`, `grace` and `expiry`
abbrev pub statement_at : HeadStage → List ℕ → Result HeadLine Fault
statement_at stage.Version text = Err fault.Head
statement_at stage.Ring text = Err fault.Head
statement_at (stage.Factor ring) text = Err fault.Head
statement_at (stage.Grace settings) text = Ok (head.Schema settings text)
statement_at (stage.Expiry settings) text = Ok (head.Schema settings text)
statement_at (stage.Schema settings) text = Ok (head.Schema settings text)

abbrev pub head_of : HeadStage → List ℕ → Option (List ℕ) → Result HeadLine Fault
head_of s line (Some text) = statement_at s text
head_of s line None = head_of_words s (words_of line)

-- what a line of the head says where it has to be this
abbrev pub head_line : HeadStage → List ℕ → Result HeadLine Fault
head_line s line = head_of s line (behind (codes "schema ") line)

-- ---- events, at so many nodes

abbrev pub put_of : Option ℕ → Option Level → List ℕ → List ℕ → Option ℤ → List ℕ → Option ScriptEvent
put_of (Some node) (Some level) key row (Some timestamp) value =
    Some (event.Put (record { node = node; level = level; key = key; row = row; timestamp = timestamp; value = value }))
put_of _ _ key row _ value = None

abbrev pub put_line : ℕ → List (List ℕ) → Result ScriptEvent Fault
put_line nodes (node ∷ level ∷ key ∷ row ∷ timestamp ∷ value ∷ []) =
    understood fault.Line (is_number node && is_signed_number timestamp) (put_of (node_of nodes node) (level_of level) key row (long_of timestamp) value)
put_line nodes words = Err fault.Line

abbrev pub get_of : Option ℕ → Option Level → List ℕ → Option ScriptEvent
get_of (Some node) (Some level) key = Some (event.Get (record { node = node; level = level; key = key }))
get_of _ _ key = None

abbrev pub get_line : ℕ → List (List ℕ) → Result ScriptEvent Fault
get_line nodes (node ∷ level ∷ key ∷ []) = understood fault.Line (is_number node) (get_of (node_of nodes node) (level_of level) key)
get_line nodes words = Err fault.Line

abbrev pub place_of : Option ℕ → Option ℕ → Option ℕ → Option MessagePlace
place_of (Some from) (Some upto) (Some number) = Some (record { from = from; upto = upto; number = number })
place_of _ _ _ = None

abbrev pub message_line : ℕ → List (List ℕ) → Result MessagePlace Fault
message_line nodes (from ∷ upto ∷ number ∷ []) =
    understood fault.Line (is_number from && is_number upto && is_number number) (place_of (node_of nodes from) (node_of nodes upto) (number_within 0 (2 ^ 64 - 1) number))
message_line nodes words = Err fault.Line

abbrev pub settle_line : List (List ℕ) → Result ScriptEvent Fault
settle_line (count ∷ []) = understood fault.Line (is_number count) (option_map event.Settle (number_within 1 100000 count))
settle_line words = Err fault.Line

-- ---- what happens to a node

abbrev pub named_node : ℕ → List ℕ → Result ℕ Fault
named_node nodes word = understood fault.Line (is_number word) (node_of nodes word)

abbrev pub pair_of : Option ℕ → Option ℕ → Option (ℕ × ℕ)
pair_of (Some node) (Some number) = Some (node, number)
pair_of _ _ = None

-- a node, and a number from `least` to `most`
abbrev pub named_pair : ℕ → ℕ → ℕ → List ℕ → List ℕ → Result (ℕ × ℕ) Fault
named_pair nodes least most node number =
    understood fault.Line (is_number node && is_number number) (pair_of (node_of nodes node) (number_within least most number))

abbrev pub node_line : ℕ → List (List ℕ) → Result ℕ Fault
node_line nodes (node ∷ []) = named_node nodes node
node_line nodes words = Err fault.Line

abbrev pub pair_line : ℕ → ℕ → ℕ → List (List ℕ) → Result (ℕ × ℕ) Fault
pair_line nodes least most (node ∷ number ∷ []) = named_pair nodes least most node number
pair_line nodes least most words = Err fault.Line

abbrev pub clock_at : ℕ × ℕ → ScriptEvent
clock_at pair = event.Clock pair.0 pair.1

abbrev pub clock_line : ℕ → List (List ℕ) → Result ScriptEvent Fault
clock_line nodes words = result_map clock_at (pair_line nodes 0 (2 ^ 64 - 1) words)

-- the node, and another one
abbrev pub peers_of : Option ℕ → Option ℕ → Option (ℕ × ℕ)
peers_of (Some node) (Some peer) = if node == peer then None else Some (node, peer)
peers_of _ _ = None

abbrev pub named_peers : ℕ → List ℕ → List ℕ → Result (ℕ × ℕ) Fault
named_peers nodes node peer = understood fault.Line (is_number node && is_number peer) (peers_of (node_of nodes node) (node_of nodes peer))

-- what is neither `up` nor `down` is a wrong word
abbrev pub mark_of : Option Bool → Result (ℕ × ℕ) Fault → Result ScriptEvent Fault
mark_of None peers = Err fault.Line
mark_of (Some up) peers = result_map (λ (p : ℕ × ℕ). event.Mark p.0 p.1 up) peers

abbrev pub mark_line : ℕ → List (List ℕ) → Result ScriptEvent Fault
mark_line nodes (node ∷ peer ∷ state ∷ []) = mark_of (up_of state) (named_peers nodes node peer)
mark_line nodes words = Err fault.Line

-- an outcome that is none is a wrong word
abbrev pub crash_of : Option Outcome → Result ℕ Fault → Result ScriptEvent Fault
crash_of None node = Err fault.Line
crash_of (Some outcome) node = result_map (λ n. event.Crash n outcome) node

abbrev pub crash_line : ℕ → List (List ℕ) → Result ScriptEvent Fault
crash_line nodes (node ∷ outcome ∷ []) = crash_of (outcome_of outcome) (named_node nodes node)
crash_line nodes words = Err fault.Line

abbrev pub stop_of : Option Outcome → Result (ℕ × ℕ) Fault → Result ScriptEvent Fault
stop_of None pair = Err fault.Line
stop_of (Some outcome) pair = result_map (λ (p : ℕ × ℕ). event.StopAt p.0 p.1 outcome) pair

-- calls of a store are counted from 1 on
abbrev pub stop_line : ℕ → List (List ℕ) → Result ScriptEvent Fault
stop_line nodes (node ∷ call ∷ outcome ∷ []) = stop_of (outcome_of outcome) (named_pair nodes 1 4294967295 node call)
stop_line nodes words = Err fault.Line

abbrev pub fail_at : ℕ × ℕ → ScriptEvent
fail_at pair = event.FailAt pair.0 pair.1

abbrev pub fail_line : ℕ → List (List ℕ) → Result ScriptEvent Fault
fail_line nodes words = result_map fail_at (pair_line nodes 1 4294967295 words)

abbrev pub node_event : ℕ → List ℕ → List (List ℕ) → Result ScriptEvent Fault
node_event nodes word words =
    if bytes_eq word (codes "clock") then clock_line nodes words
    else (if bytes_eq word (codes "mark") then mark_line nodes words
    else (if bytes_eq word (codes "crash") then crash_line nodes words
    else (if bytes_eq word (codes "stopat") then stop_line nodes words
    else (if bytes_eq word (codes "failat") then fail_line nodes words
    else (if bytes_eq word (codes "restart") then result_map event.Restart (node_line nodes words)
    else (if bytes_eq word (codes "flush") then result_map event.Flush (node_line nodes words)
    else (if bytes_eq word (codes "merge") then result_map event.Merge (node_line nodes words)
    else Err fault.Line)))))))

abbrev pub word_line : ℕ → List ℕ → List (List ℕ) → Result ScriptEvent Fault
word_line nodes word words =
    if bytes_eq word (codes "put") then put_line nodes words
    else (if bytes_eq word (codes "get") then get_line nodes words
    else (if bytes_eq word (codes "deliver") then result_map event.Deliver (message_line nodes words)
    else (if bytes_eq word (codes "drop") then result_map event.Drop (message_line nodes words)
    else (if bytes_eq word (codes "settle") then settle_line words
    else node_event nodes word words))))

abbrev pub event_line : ℕ → List (List ℕ) → Result ScriptEvent Fault
event_line nodes [] = Err fault.Line
event_line nodes (word ∷ words) = word_line nodes word words

-- ---- lines with a statement

abbrev pub cql_of : Option ℕ → Option Level → List ℕ → Option EventLine
cql_of (Some node) (Some level) text = Some (says.Cql node level text)
cql_of _ _ text = None

-- what stands behind the node is the level and the statement
abbrev pub cql_behind : ℕ → List ℕ → Option (List ℕ × List ℕ) → Result EventLine Fault
cql_behind nodes node None = Err fault.Line
cql_behind nodes node (Some rest) = understood fault.Line (is_number node) (cql_of (node_of nodes node) (level_of rest.0) rest.1)

abbrev pub cql_from : ℕ → Option (List ℕ × List ℕ) → Result EventLine Fault
cql_from nodes None = Err fault.Line
cql_from nodes (Some rest) = cql_behind nodes rest.0 (first_word rest.1)

-- `<node> <level> <statement>`
abbrev pub cql_line : ℕ → List ℕ → Result EventLine Fault
cql_line nodes text = cql_from nodes (first_word text)

abbrev pub event_of_words : ℕ → Option (List (List ℕ)) → Result ScriptEvent Fault
event_of_words nodes None = Err fault.Line
event_of_words nodes (Some words) = event_line nodes words

abbrev pub event_of : ℕ → List ℕ → Option (List ℕ) → Result EventLine Fault
event_of nodes line (Some text) = cql_line nodes text
event_of nodes line None = result_map says.Event (event_of_words nodes (words_of line))

-- what a line behind `run` says
abbrev pub event_at : ℕ → List ℕ → Result EventLine Fault
event_at nodes line = event_of nodes line (behind (codes "cql ") line)
