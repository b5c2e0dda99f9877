-- What holds of the event that a line says: all that its printed line wants, to be read as the event.
use Rattle.std.proofs.Common.{◌≡◌, ℕ, ◌+◌, ◌-◌, ◌^◌, ◌<◌, ◌≤◌, Bool, true, false, cond, eqb, refl, List, [], ◌∷◌, Option, Some, None, Result, length, take, drop, get_or, ◌∙◌, ap, arith, IsUtf8, take-append-drop}
use Rattle.std.specs.Prelude.{ℤ, ◌&&◌, codes, nat_lt, IfOk, IfSome}
use Rattle.std.specs.Option.{option_map}
use Rattle.std.specs.Str.{bytes_eq}
use Rattle.std.specs.List.{position_or_len, before_first, after_first}
use Rattle.std.proofs.lemmas.Bool.{and_parts, ltb-true, eqb-true}
use Rattle.std.proofs.lemmas.List.Sums.{passes_at_first}
use Rattle.std.proofs.lemmas.Str.{IsUtf8-drop, IsCharBoundary-after_ascii}
use Rattle.cs_base.specs.declared.level.Level.{Level}
use Rattle.fault_script.specs.declared.script.ScriptEvent.{ScriptEvent}
use Rattle.fault_script.specs.declared.script.ScriptEvent.TheVariants as event
use Rattle.fault_script.specs.declared.script.EventLine.{EventLine}
use Rattle.fault_script.specs.declared.script.EventLine.TheVariants as asks
use Rattle.fault_script.specs.declared.script.PutRequest.{PutRequest}
use Rattle.fault_script.specs.declared.script.GetRequest.{GetRequest}
use Rattle.fault_script.specs.declared.script.CqlRequest.{CqlRequest}
use Rattle.fault_script.specs.declared.script.MessagePlace.{MessagePlace}
use Rattle.cs_store.specs.declared.mem_file.Outcome.{Outcome}
use Rattle.fault_script.specs.declared.script.Fault.{Fault}
use Rattle.fault_script.specs.declared.script.Fault.TheVariants as fault
use Rattle.script_words.specs.Words.{up_of, outcome_of, words_of, behind, first_word, node_of, level_of, long_of, number_within, is_number, is_signed_number, is_long, is_long_word, signed_value, is_text, is_space, without_spaces}
use Rattle.fault_script.specs.Lines.{put_line, put_of, get_line, get_of, message_line, place_of, settle_line, named_node, pair_of, named_pair, node_line, pair_line, clock_at, peers_of, named_peers, mark_of, mark_line, crash_of, crash_line, stop_of, stop_line, fail_at, node_event, event_line, cql_of, cql_behind, cql_from, event_of_words, event_of, event_at}
use Rattle.script_print.proofs.Holding.{some_from, either_holds, some_where, understood_where, option_map_holds, result_map_holds}
use Rattle.script_print.proofs.Bytes.{lacks, lacks_parts, lacks_without_spaces, text_is_utf8, utf8_without_spaces, without_spaces_again}
use Rattle.script_print.proofs.LineWords.{IsWord, AreWords, words_are_words}
use Rattle.script_print.proofs.NumberWords.{IsWithin, within_found}

-- ---- what holds

-- the rest of a line: a text with no line feed and no space in front
pub record IsRest (bytes : List ℕ) : Type 0 where
  pub text : IsUtf8 bytes
  pub inline : lacks 10 bytes ≡ true
  pub trimmed : without_spaces bytes ≡ bytes

-- one of so many nodes
abbrev pub IsNode : ℕ → ℕ → Type 0
IsNode nodes n = IsWithin 0 (nodes - 1) n × (n ≤ nodes - 1)

pub record IsFitPut (nodes : ℕ) (put : PutRequest) : Type 0 where
  pub node : IsNode nodes put.node
  pub key : IsWord put.key
  pub row : IsWord put.row
  pub timestamp : is_long put.timestamp ≡ true
  pub value : IsWord put.value

pub record IsFitGet (nodes : ℕ) (get : GetRequest) : Type 0 where
  pub node : IsNode nodes get.node
  pub key : IsWord get.key

pub record IsFitCql (nodes : ℕ) (request : CqlRequest) : Type 0 where
  pub node : IsNode nodes request.node
  pub text : IsRest request.text

pub record IsFitPlace (nodes : ℕ) (place : MessagePlace) : Type 0 where
  pub from : IsNode nodes place.from
  pub upto : IsNode nodes place.upto
  pub number : IsWithin 0 (2 ^ 64 - 1) place.number × (place.number ≤ 2 ^ 64 - 1)

-- a node, and a number within these bounds
pub record IsFitPair (nodes least most node number : ℕ) : Type 0 where
  pub at : IsNode nodes node
  pub bounds : IsWithin least most number × (number ≤ most)

-- a node, and another one
pub record IsFitMark (nodes node peer : ℕ) : Type 0 where
  pub at : IsNode nodes node
  pub other : IsNode nodes peer
  pub apart : eqb node peer ≡ false

abbrev pub IsFitEvent : ℕ → ScriptEvent → Type 0
IsFitEvent nodes (event.Put put) = IsFitPut nodes put
IsFitEvent nodes (event.Get get) = IsFitGet nodes get
IsFitEvent nodes (event.Cql request) = IsFitCql nodes request
IsFitEvent nodes (event.Deliver place) = IsFitPlace nodes place
IsFitEvent nodes (event.Drop place) = IsFitPlace nodes place
IsFitEvent nodes (event.Settle count) = IsWithin 1 100000 count × (count ≤ 100000)
IsFitEvent nodes (event.Clock node micros) = IsFitPair nodes 0 (2 ^ 64 - 1) node micros
IsFitEvent nodes (event.Mark node peer up) = IsFitMark nodes node peer
IsFitEvent nodes (event.Crash node outcome) = IsNode nodes node
IsFitEvent nodes (event.StopAt node call outcome) = IsFitPair nodes 1 4294967295 node call
IsFitEvent nodes (event.FailAt node call) = IsFitPair nodes 1 4294967295 node call
IsFitEvent nodes (event.Restart node) = IsNode nodes node
IsFitEvent nodes (event.Flush node) = IsNode nodes node
IsFitEvent nodes (event.Merge node) = IsNode nodes node

-- what a line says, before its statement is read
abbrev pub FitLine : ℕ → EventLine → Type 0
FitLine nodes (asks.Event e) = IsFitEvent nodes e
FitLine nodes (asks.Cql node level text) = IsNode nodes node × IsRest text

-- ---- words

pub number_fits : (least most : ℕ) (word : List ℕ) → IfSome (number_within least most word) (λ n. IsWithin least most n × (n ≤ most))
number_fits least most word = some_from (λ (n : ℕ). IsWithin least most n × (n ≤ most)) (number_within least most word) (λ n found. within_found least most word n found)

node_fits : (nodes : ℕ) (word : List ℕ) → IfSome (node_of nodes word) (IsNode nodes)
node_fits nodes word = number_fits 0 (nodes - 1) word

long_fits : (word : List ℕ) → IfSome (long_of word) (λ z. is_long z ≡ true)
long_fits word = some_where (λ (z : ℤ). is_long z ≡ true) (is_long_word word) (signed_value word) (λ long. long)

put_of_fits : (nodes : ℕ) (node : Option ℕ) (level : Option Level) (key row : List ℕ) (timestamp : Option ℤ) (value : List ℕ) → IfSome node (IsNode nodes) → IsWord key → IsWord row → IfSome timestamp (λ z. is_long z ≡ true) → IsWord value → IfSome (put_of node level key row timestamp value) (IsFitEvent nodes)
put_of_fits nodes None level key row timestamp value is k r t v = tt
put_of_fits nodes (Some node) None key row timestamp value is k r t v = tt
put_of_fits nodes (Some node) (Some level) key row None value is k r t v = tt
put_of_fits nodes (Some node) (Some level) key row (Some timestamp) value is k r t v = record { node = is; key = k; row = r; timestamp = t; value = v }

put_line_fits : (nodes : ℕ) (words : List (List ℕ)) → AreWords words → IfOk (put_line nodes words) (IsFitEvent nodes)
put_line_fits nodes [] are = tt
put_line_fits nodes (a ∷ []) are = tt
put_line_fits nodes (a ∷ b ∷ []) are = tt
put_line_fits nodes (a ∷ b ∷ c ∷ []) are = tt
put_line_fits nodes (a ∷ b ∷ c ∷ d ∷ []) are = tt
put_line_fits nodes (a ∷ b ∷ c ∷ d ∷ e ∷ []) are = tt
put_line_fits nodes (a ∷ b ∷ c ∷ d ∷ e ∷ f ∷ []) are =
    understood_where (IsFitEvent nodes) fault.Line (is_number a && is_signed_number e) (put_of (node_of nodes a) (level_of b) c d (long_of e) f)
    (λ _. put_of_fits nodes (node_of nodes a) (level_of b) c d (long_of e) f (node_fits nodes a) are.1.1.0 are.1.1.1.0 (long_fits e) are.1.1.1.1.1.0)
put_line_fits nodes (a ∷ b ∷ c ∷ d ∷ e ∷ f ∷ g ∷ words) are = tt

get_of_fits : (nodes : ℕ) (node : Option ℕ) (level : Option Level) (key : List ℕ) → IfSome node (IsNode nodes) → IsWord key → IfSome (get_of node level key) (IsFitEvent nodes)
get_of_fits nodes None level key is k = tt
get_of_fits nodes (Some node) None key is k = tt
get_of_fits nodes (Some node) (Some level) key is k = record { node = is; key = k }

get_line_fits : (nodes : ℕ) (words : List (List ℕ)) → AreWords words → IfOk (get_line nodes words) (IsFitEvent nodes)
get_line_fits nodes [] are = tt
get_line_fits nodes (a ∷ []) are = tt
get_line_fits nodes (a ∷ b ∷ []) are = tt
get_line_fits nodes (a ∷ b ∷ c ∷ []) are =
    understood_where (IsFitEvent nodes) fault.Line (is_number a) (get_of (node_of nodes a) (level_of b) c) (λ _. get_of_fits nodes (node_of nodes a) (level_of b) c (node_fits nodes a) are.1.1.0)
get_line_fits nodes (a ∷ b ∷ c ∷ d ∷ words) are = tt

place_of_fits : (nodes : ℕ) (from upto number : Option ℕ) → IfSome from (IsNode nodes) → IfSome upto (IsNode nodes) → IfSome number (λ n. IsWithin 0 (2 ^ 64 - 1) n × (n ≤ 2 ^ 64 - 1)) → IfSome (place_of from upto number) (IsFitPlace nodes)
place_of_fits nodes None upto number f u n = tt
place_of_fits nodes (Some from) None number f u n = tt
place_of_fits nodes (Some from) (Some upto) None f u n = tt
place_of_fits nodes (Some from) (Some upto) (Some number) f u n = record { from = f; upto = u; number = n }

message_line_fits : (nodes : ℕ) (words : List (List ℕ)) → IfOk (message_line nodes words) (IsFitPlace nodes)
message_line_fits nodes [] = tt
message_line_fits nodes (a ∷ []) = tt
message_line_fits nodes (a ∷ b ∷ []) = tt
message_line_fits nodes (a ∷ b ∷ c ∷ []) =
    let number = number_within 0 (2 ^ 64 - 1) c in
    understood_where (IsFitPlace nodes) fault.Line (is_number a && is_number b && is_number c) (place_of (node_of nodes a) (node_of nodes b) number)
    (λ _. place_of_fits nodes (node_of nodes a) (node_of nodes b) number (node_fits nodes a) (node_fits nodes b) (number_fits 0 (2 ^ 64 - 1) c))
message_line_fits nodes (a ∷ b ∷ c ∷ d ∷ words) = tt

settle_line_fits : (nodes : ℕ) (words : List (List ℕ)) → IfOk (settle_line words) (IsFitEvent nodes)
settle_line_fits nodes [] = tt
settle_line_fits nodes (a ∷ []) =
    understood_where (IsFitEvent nodes) fault.Line (is_number a) (option_map event.Settle (number_within 1 100000 a))
    (λ _. option_map_holds (IsFitEvent nodes) event.Settle (number_within 1 100000 a) (number_fits 1 100000 a))
settle_line_fits nodes (a ∷ b ∷ words) = tt

-- ---- what happens to a node

pair_of_fits : (nodes least most : ℕ) (node number : Option ℕ) → IfSome node (IsNode nodes) → IfSome number (λ n. IsWithin least most n × (n ≤ most)) → IfSome (pair_of node number) (λ p. IsFitPair nodes least most p.0 p.1)
pair_of_fits nodes least most None number n m = tt
pair_of_fits nodes least most (Some node) None n m = tt
pair_of_fits nodes least most (Some node) (Some number) n m = record { at = n; bounds = m }

named_node_fits : (nodes : ℕ) (word : List ℕ) → IfOk (named_node nodes word) (IsNode nodes)
named_node_fits nodes word = understood_where (IsNode nodes) fault.Line (is_number word) (node_of nodes word) (λ _. node_fits nodes word)

named_pair_fits : (nodes least most : ℕ) (node number : List ℕ) → IfOk (named_pair nodes least most node number) (λ p. IsFitPair nodes least most p.0 p.1)
named_pair_fits nodes least most node number =
    understood_where (λ (p : ℕ × ℕ). IsFitPair nodes least most p.0 p.1) fault.Line (is_number node && is_number number) (pair_of (node_of nodes node) (number_within least most number))
    (λ _. pair_of_fits nodes least most (node_of nodes node) (number_within least most number) (node_fits nodes node) (number_fits least most number))

node_line_fits : (nodes : ℕ) (words : List (List ℕ)) → IfOk (node_line nodes words) (IsNode nodes)
node_line_fits nodes [] = tt
node_line_fits nodes (a ∷ []) = named_node_fits nodes a
node_line_fits nodes (a ∷ b ∷ words) = tt

pair_line_fits : (nodes least most : ℕ) (words : List (List ℕ)) → IfOk (pair_line nodes least most words) (λ p. IsFitPair nodes least most p.0 p.1)
pair_line_fits nodes least most [] = tt
pair_line_fits nodes least most (a ∷ []) = tt
pair_line_fits nodes least most (a ∷ b ∷ []) = named_pair_fits nodes least most a b
pair_line_fits nodes least most (a ∷ b ∷ c ∷ words) = tt

other_fits : (nodes node peer : ℕ) (t : Bool) → eqb node peer ≡ t → IsNode nodes node → IsNode nodes peer → IfSome {T = ℕ × ℕ} (cond t None (Some (node, peer))) (λ p. IsFitMark nodes p.0 p.1)
other_fits nodes node peer true same n p = tt
other_fits nodes node peer false apart n p = record { at = n; other = p; apart = apart }

peers_of_fits : (nodes : ℕ) (node peer : Option ℕ) → IfSome node (IsNode nodes) → IfSome peer (IsNode nodes) → IfSome (peers_of node peer) (λ p. IsFitMark nodes p.0 p.1)
peers_of_fits nodes None peer n p = tt
peers_of_fits nodes (Some node) None n p = tt
peers_of_fits nodes (Some node) (Some peer) n p = other_fits nodes node peer (eqb node peer) refl n p

named_peers_fit : (nodes : ℕ) (node peer : List ℕ) → IfOk (named_peers nodes node peer) (λ p. IsFitMark nodes p.0 p.1)
named_peers_fit nodes node peer =
    understood_where (λ (p : ℕ × ℕ). IsFitMark nodes p.0 p.1) fault.Line (is_number node && is_number peer) (peers_of (node_of nodes node) (node_of nodes peer))
    (λ _. peers_of_fits nodes (node_of nodes node) (node_of nodes peer) (node_fits nodes node) (node_fits nodes peer))

mark_of_fits : (nodes : ℕ) (up : Option Bool) (peers : Result (ℕ × ℕ) Fault) → IfOk peers (λ p. IsFitMark nodes p.0 p.1) → IfOk (mark_of up peers) (IsFitEvent nodes)
mark_of_fits nodes None peers is = tt
mark_of_fits nodes (Some up) peers is = result_map_holds (IsFitEvent nodes) (λ (p : ℕ × ℕ). event.Mark p.0 p.1 up) peers is

mark_line_fits : (nodes : ℕ) (words : List (List ℕ)) → IfOk (mark_line nodes words) (IsFitEvent nodes)
mark_line_fits nodes [] = tt
mark_line_fits nodes (a ∷ []) = tt
mark_line_fits nodes (a ∷ b ∷ []) = tt
mark_line_fits nodes (a ∷ b ∷ c ∷ []) = mark_of_fits nodes (up_of c) (named_peers nodes a b) (named_peers_fit nodes a b)
mark_line_fits nodes (a ∷ b ∷ c ∷ d ∷ words) = tt

crash_of_fits : (nodes : ℕ) (outcome : Option Outcome) (node : Result ℕ Fault) → IfOk node (IsNode nodes) → IfOk (crash_of outcome node) (IsFitEvent nodes)
crash_of_fits nodes None node is = tt
crash_of_fits nodes (Some outcome) node is = result_map_holds (IsFitEvent nodes) (λ n. event.Crash n outcome) node is

crash_line_fits : (nodes : ℕ) (words : List (List ℕ)) → IfOk (crash_line nodes words) (IsFitEvent nodes)
crash_line_fits nodes [] = tt
crash_line_fits nodes (a ∷ []) = tt
crash_line_fits nodes (a ∷ b ∷ []) = crash_of_fits nodes (outcome_of b) (named_node nodes a) (named_node_fits nodes a)
crash_line_fits nodes (a ∷ b ∷ c ∷ words) = tt

stop_of_fits : (nodes : ℕ) (outcome : Option Outcome) (pair : Result (ℕ × ℕ) Fault) → IfOk pair (λ p. IsFitPair nodes 1 4294967295 p.0 p.1) → IfOk (stop_of outcome pair) (IsFitEvent nodes)
stop_of_fits nodes None pair is = tt
stop_of_fits nodes (Some outcome) pair is = result_map_holds (IsFitEvent nodes) (λ (p : ℕ × ℕ). event.StopAt p.0 p.1 outcome) pair is

stop_line_fits : (nodes : ℕ) (words : List (List ℕ)) → IfOk (stop_line nodes words) (IsFitEvent nodes)
stop_line_fits nodes [] = tt
stop_line_fits nodes (a ∷ []) = tt
stop_line_fits nodes (a ∷ b ∷ []) = tt
stop_line_fits nodes (a ∷ b ∷ c ∷ []) = stop_of_fits nodes (outcome_of c) (named_pair nodes 1 4294967295 a b) (named_pair_fits nodes 1 4294967295 a b)
stop_line_fits nodes (a ∷ b ∷ c ∷ d ∷ words) = tt

node_event_fits : (nodes : ℕ) (word : List ℕ) (words : List (List ℕ)) → IfOk (node_event nodes word words) (IsFitEvent nodes)
node_event_fits nodes word words =
    let fits = IsFitEvent nodes in
    let node = node_line nodes words in
    let is_node = node_line_fits nodes words in
    either_holds fits (bytes_eq word (codes "clock")) _ _ (result_map_holds fits clock_at (pair_line nodes 0 (2 ^ 64 - 1) words) (pair_line_fits nodes 0 (2 ^ 64 - 1) words))
    (either_holds fits (bytes_eq word (codes "mark")) _ _ (mark_line_fits nodes words)
    (either_holds fits (bytes_eq word (codes "crash")) _ _ (crash_line_fits nodes words)
    (either_holds fits (bytes_eq word (codes "stopat")) _ _ (stop_line_fits nodes words)
    (either_holds fits (bytes_eq word (codes "failat")) _ _ (result_map_holds fits fail_at (pair_line nodes 1 4294967295 words) (pair_line_fits nodes 1 4294967295 words))
    (either_holds fits (bytes_eq word (codes "restart")) _ _ (result_map_holds fits event.Restart node is_node)
    (either_holds fits (bytes_eq word (codes "flush")) _ _ (result_map_holds fits event.Flush node is_node)
    (either_holds fits (bytes_eq word (codes "merge")) _ _ (result_map_holds fits event.Merge node is_node) tt)))))))

event_line_fits : (nodes : ℕ) (words : List (List ℕ)) → AreWords words → IfOk (event_line nodes words) (IsFitEvent nodes)
event_line_fits nodes [] are = tt
event_line_fits nodes (word ∷ words) are =
    let fits = IsFitEvent nodes in
    either_holds fits (bytes_eq word (codes "put")) _ _ (put_line_fits nodes words are.1)
    (either_holds fits (bytes_eq word (codes "get")) _ _ (get_line_fits nodes words are.1)
    (either_holds fits (bytes_eq word (codes "deliver")) _ _ (result_map_holds fits event.Deliver (message_line nodes words) (message_line_fits nodes words))
    (either_holds fits (bytes_eq word (codes "drop")) _ _ (result_map_holds fits event.Drop (message_line nodes words) (message_line_fits nodes words))
    (either_holds fits (bytes_eq word (codes "settle")) _ _ (settle_line_fits nodes words) (node_event_fits nodes word words)))))

-- ---- lines with a statement

lacks_drop : (c n : ℕ) (bytes : List ℕ) → lacks c bytes ≡ true → lacks c (drop n bytes) ≡ true
lacks_drop c n bytes h = (lacks_parts c (take n bytes) (drop n bytes) (ap (lacks c) (take-append-drop n bytes) ∙ h)).1

rest_of : (text : List ℕ) → IsUtf8 text → lacks 10 text ≡ true → IsRest (without_spaces text)
rest_of text is inline = record { text = utf8_without_spaces text is; inline = lacks_without_spaces 10 text inline; trimmed = without_spaces_again text }

pub behind_fits : (beginning line : List ℕ) → lacks 10 line ≡ true → IfSome (behind beginning line) IsRest
behind_fits beginning line inline =
    let tail = drop (length beginning) line in
    some_where IsRest (bytes_eq (take (length beginning) line) beginning && is_text tail) (without_spaces tail)
    (λ both. rest_of tail (text_is_utf8 tail (and_parts (bytes_eq (take (length beginning) line) beginning) (is_text tail) both).1) (lacks_drop 10 (length beginning) line inline))

first_word_fits : (text : List ℕ) → IsRest text → IfSome (first_word text) (λ rest. IsRest rest.1)
first_word_fits text is =
    let place = position_or_len is_space text in
    some_where (λ (rest : List ℕ × List ℕ). IsRest rest.1) (nat_lt place (length text)) (before_first is_space text, without_spaces (after_first is_space text))
    (λ below.
    let inside : place < length text = ltb-true place (length text) below in
    let space : get_or text place 0 ≡ 32 = eqb-true (get_or text place 0) 32 (passes_at_first is_space text 0 inside) in
    rest_of (after_first is_space text) (IsUtf8-drop text (place + 1) is.text (IsCharBoundary-after_ascii text place is.text inside (omega (arith, space)))) (lacks_drop 10 (place + 1) text is.inline))

cql_of_fits : (nodes : ℕ) (node : Option ℕ) (level : Option Level) (text : List ℕ) → IfSome node (IsNode nodes) → IsRest text → IfSome (cql_of node level text) (FitLine nodes)
cql_of_fits nodes None level text is rest = tt
cql_of_fits nodes (Some node) None text is rest = tt
cql_of_fits nodes (Some node) (Some level) text is rest = (is, rest)

cql_behind_fits : (nodes : ℕ) (node : List ℕ) (rest : Option (List ℕ × List ℕ)) → IfSome rest (λ r. IsRest r.1) → IfOk (cql_behind nodes node rest) (FitLine nodes)
cql_behind_fits nodes node None is = tt
cql_behind_fits nodes node (Some rest) is =
    understood_where (FitLine nodes) fault.Line (is_number node) (cql_of (node_of nodes node) (level_of rest.0) rest.1) (λ _. cql_of_fits nodes (node_of nodes node) (level_of rest.0) rest.1 (node_fits nodes node) is)

cql_from_fits : (nodes : ℕ) (rest : Option (List ℕ × List ℕ)) → IfSome rest (λ r. IsRest r.1) → IfOk (cql_from nodes rest) (FitLine nodes)
cql_from_fits nodes None is = tt
cql_from_fits nodes (Some rest) is = cql_behind_fits nodes rest.0 (first_word rest.1) (first_word_fits rest.1 is)

event_words_fit : (nodes : ℕ) (words : Option (List (List ℕ))) → IfSome words AreWords → IfOk (event_of_words nodes words) (IsFitEvent nodes)
event_words_fit nodes None are = tt
event_words_fit nodes (Some words) are = event_line_fits nodes words are

pub line_words_fit : (line : List ℕ) → lacks 10 line ≡ true → IfSome (words_of line) AreWords
line_words_fit line inline = some_from AreWords (words_of line) (λ words found. words_are_words line words inline found)

event_of_fits : (nodes : ℕ) (line : List ℕ) (text : Option (List ℕ)) → lacks 10 line ≡ true → IfSome text IsRest → IfOk (event_of nodes line text) (FitLine nodes)
event_of_fits nodes line (Some text) inline is = cql_from_fits nodes (first_word text) (first_word_fits text is)
event_of_fits nodes line None inline is =
    result_map_holds (FitLine nodes) asks.Event (event_of_words nodes (words_of line)) (event_words_fit nodes (words_of line) (line_words_fit line inline))

pub event_at_fits : (nodes : ℕ) (line : List ℕ) → lacks 10 line ≡ true → IfOk (event_at nodes line) (FitLine nodes)
event_at_fits nodes line inline = event_of_fits nodes line (behind (codes "cql ") line) inline (behind_fits (codes "cql ") line inline)
