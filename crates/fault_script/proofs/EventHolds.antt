-- What a line after `run` gives is at nodes of the ring.
use Rattle.std.proofs.Common.{◌≡◌, ℕ, ◌^◌, ◌-◌, ◌<◌, Bool, true, false, cond, eqb, List, [], ◌∷◌, Option, Some, None, Result, Ok, Err, refl, arith, leb, ℤ}
use Rattle.std.specs.Prelude.{◌&&◌, codes, IfOk, IfSome}
use Rattle.std.specs.Str.{bytes_eq}
use Rattle.std.specs.Option.{option_map}
use Rattle.std.proofs.lemmas.Bool.{and_parts, eqb-false, leb-true}
use Rattle.cs_base.specs.declared.level.Level.{Level}
use Rattle.fault_script.specs.declared.script.ScriptEvent.{ScriptEvent}
use Rattle.fault_script.specs.declared.script.ScriptEvent.TheVariants as event
use Rattle.fault_script.specs.declared.script.EventLine.{EventLine}
use Rattle.fault_script.specs.declared.script.EventLine.TheVariants as says
use Rattle.cs_store.specs.declared.mem_file.Outcome.{Outcome}
use Rattle.fault_script.specs.declared.script.Fault.{Fault}
use Rattle.fault_script.specs.declared.script.Fault.TheVariants as fault
use Rattle.script_words.specs.Words.{up_of, outcome_of, words_of, behind, first_word, node_of, level_of, long_of, number_within, number_value, is_number, is_signed_number}
use Rattle.fault_script.specs.Lines.{result_map, put_line, put_of, get_line, get_of, message_line, place_of, settle_line, named_node, pair_of, named_pair, node_line, pair_line, clock_at, peers_of, named_peers, mark_of, mark_line, crash_of, crash_line, stop_of, stop_line, fail_at, node_event, word_line, event_line, cql_of, cql_behind, cql_from, event_of_words, event_of, event_at}
use Rattle.fault_script.specs.Script.{IsSaid}
use Rattle.fault_script.specs.Laws.{IsAtNodes, IsBetweenNodes, ArePeers}
use Rattle.fault_script.proofs.Holding.{either_holds, some_where, understood_where, result_map_holds}

-- an event of words alone, which says nothing in CQL
abbrev IsPlain : ℕ → ScriptEvent → Type 0
IsPlain nodes e = IsAtNodes nodes e × IsSaid e

abbrev pub SaysAtNodes : ℕ → EventLine → Type 0
SaysAtNodes nodes (says.Event e) = IsPlain nodes e
SaysAtNodes nodes (says.Cql node level text) = node < nodes

said_map : {T : Type 0} (nodes : ℕ) (f : T → ScriptEvent) (r : Result T Fault) → ((v : T) → IsSaid (f v)) → IfOk r (λ v. IsAtNodes nodes (f v)) → IfOk (result_map f r) (IsPlain nodes)
said_map nodes f (Ok v) said h = (h, said v)
said_map nodes f (Err e) said h = tt

node_holds : (nodes : ℕ) (word : List ℕ) → 0 < nodes → IfSome (node_of nodes word) (λ n. n < nodes)
node_holds nodes word some =
    let n = number_value word in
    some_where (λ (m : ℕ). m < nodes) (leb 0 n && leb n (nodes - 1)) n (λ within.
    let low = leb-true n (nodes - 1) (and_parts (leb 0 n) (leb n (nodes - 1)) within).1 in omega (arith, low, some))

put_of_holds : (nodes : ℕ) (node : Option ℕ) (level : Option Level) (key row : List ℕ) (timestamp : Option ℤ) (value : List ℕ) → IfSome node (λ n. n < nodes) → IfSome (put_of node level key row timestamp value) (IsPlain nodes)
put_of_holds nodes None level key row timestamp value h = tt
put_of_holds nodes (Some node) None key row timestamp value h = tt
put_of_holds nodes (Some node) (Some level) key row None value h = tt
put_of_holds nodes (Some node) (Some level) key row (Some timestamp) value h = (h, tt)

put_line_holds : (nodes : ℕ) (words : List (List ℕ)) → 0 < nodes → IfOk (put_line nodes words) (IsPlain nodes)
put_line_holds nodes [] some = tt
put_line_holds nodes (a ∷ []) some = tt
put_line_holds nodes (a ∷ b ∷ []) some = tt
put_line_holds nodes (a ∷ b ∷ c ∷ []) some = tt
put_line_holds nodes (a ∷ b ∷ c ∷ d ∷ []) some = tt
put_line_holds nodes (a ∷ b ∷ c ∷ d ∷ e ∷ []) some = tt
put_line_holds nodes (a ∷ b ∷ c ∷ d ∷ e ∷ f ∷ []) some =
    understood_where (IsPlain nodes) fault.Line (is_number a && is_signed_number e) (put_of (node_of nodes a) (level_of b) c d (long_of e) f) (λ _. put_of_holds nodes (node_of nodes a) (level_of b) c d (long_of e) f (node_holds nodes a some))
put_line_holds nodes (a ∷ b ∷ c ∷ d ∷ e ∷ f ∷ g ∷ words) some = tt

get_of_holds : (nodes : ℕ) (node : Option ℕ) (level : Option Level) (key : List ℕ) → IfSome node (λ n. n < nodes) → IfSome (get_of node level key) (IsPlain nodes)
get_of_holds nodes None level key h = tt
get_of_holds nodes (Some node) None key h = tt
get_of_holds nodes (Some node) (Some level) key h = (h, tt)

get_line_holds : (nodes : ℕ) (words : List (List ℕ)) → 0 < nodes → IfOk (get_line nodes words) (IsPlain nodes)
get_line_holds nodes [] some = tt
get_line_holds nodes (a ∷ []) some = tt
get_line_holds nodes (a ∷ b ∷ []) some = tt
get_line_holds nodes (a ∷ b ∷ c ∷ []) some =
    understood_where (IsPlain nodes) fault.Line (is_number a) (get_of (node_of nodes a) (level_of b) c) (λ _. get_of_holds nodes (node_of nodes a) (level_of b) c (node_holds nodes a some))
get_line_holds nodes (a ∷ b ∷ c ∷ d ∷ words) some = tt

place_of_holds : (nodes : ℕ) (from upto number : Option ℕ) → IfSome from (λ n. n < nodes) → IfSome upto (λ n. n < nodes) → IfSome (place_of from upto number) (IsBetweenNodes nodes)
place_of_holds nodes None upto number h k = tt
place_of_holds nodes (Some from) None number h k = tt
place_of_holds nodes (Some from) (Some upto) None h k = tt
place_of_holds nodes (Some from) (Some upto) (Some number) h k = (h, k)

message_line_holds : (nodes : ℕ) (words : List (List ℕ)) → 0 < nodes → IfOk (message_line nodes words) (IsBetweenNodes nodes)
message_line_holds nodes [] some = tt
message_line_holds nodes (a ∷ []) some = tt
message_line_holds nodes (a ∷ b ∷ []) some = tt
message_line_holds nodes (a ∷ b ∷ c ∷ []) some =
    let number = number_within 0 (2 ^ 64 - 1) c in
    understood_where (IsBetweenNodes nodes) fault.Line (is_number a && is_number b && is_number c) (place_of (node_of nodes a) (node_of nodes b) number)
    (λ _. place_of_holds nodes (node_of nodes a) (node_of nodes b) number (node_holds nodes a some) (node_holds nodes b some))
message_line_holds nodes (a ∷ b ∷ c ∷ d ∷ words) some = tt

count_holds : (nodes : ℕ) (count : Option ℕ) → IfSome (option_map event.Settle count) (IsPlain nodes)
count_holds nodes None = tt
count_holds nodes (Some count) = (tt, tt)

settle_line_holds : (nodes : ℕ) (words : List (List ℕ)) → IfOk (settle_line words) (IsPlain nodes)
settle_line_holds nodes [] = tt
settle_line_holds nodes (a ∷ []) = understood_where (IsPlain nodes) fault.Line (is_number a) (option_map event.Settle (number_within 1 100000 a)) (λ _. count_holds nodes (number_within 1 100000 a))
settle_line_holds nodes (a ∷ b ∷ words) = tt

-- ---- what happens to a node

pair_of_holds : (nodes : ℕ) (node number : Option ℕ) → IfSome node (λ n. n < nodes) → IfSome (pair_of node number) (λ p. p.0 < nodes)
pair_of_holds nodes None number h = tt
pair_of_holds nodes (Some node) None h = tt
pair_of_holds nodes (Some node) (Some number) h = h

named_node_holds : (nodes : ℕ) (word : List ℕ) → 0 < nodes → IfOk (named_node nodes word) (λ n. n < nodes)
named_node_holds nodes word some = understood_where (λ (n : ℕ). n < nodes) fault.Line (is_number word) (node_of nodes word) (λ _. node_holds nodes word some)

named_pair_holds : (nodes least most : ℕ) (node number : List ℕ) → 0 < nodes → IfOk (named_pair nodes least most node number) (λ p. p.0 < nodes)
named_pair_holds nodes least most node number some =
    understood_where (λ (p : ℕ × ℕ). p.0 < nodes) fault.Line (is_number node && is_number number) (pair_of (node_of nodes node) (number_within least most number))
    (λ _. pair_of_holds nodes (node_of nodes node) (number_within least most number) (node_holds nodes node some))

node_line_holds : (nodes : ℕ) (words : List (List ℕ)) → 0 < nodes → IfOk (node_line nodes words) (λ n. n < nodes)
node_line_holds nodes [] some = tt
node_line_holds nodes (a ∷ []) some = named_node_holds nodes a some
node_line_holds nodes (a ∷ b ∷ words) some = tt

pair_line_holds : (nodes least most : ℕ) (words : List (List ℕ)) → 0 < nodes → IfOk (pair_line nodes least most words) (λ p. p.0 < nodes)
pair_line_holds nodes least most [] some = tt
pair_line_holds nodes least most (a ∷ []) some = tt
pair_line_holds nodes least most (a ∷ b ∷ []) some = named_pair_holds nodes least most a b some
pair_line_holds nodes least most (a ∷ b ∷ c ∷ words) some = tt

other_holds : (nodes node peer : ℕ) (t : Bool) → eqb node peer ≡ t → node < nodes → peer < nodes → IfSome {T = ℕ × ℕ} (cond t None (Some (node, peer))) (λ p. ArePeers nodes p.0 p.1)
other_holds nodes node peer true same n p = tt
other_holds nodes node peer false apart n p = (n, p, eqb-false node peer apart)

peers_of_holds : (nodes : ℕ) (node peer : Option ℕ) → IfSome node (λ n. n < nodes) → IfSome peer (λ n. n < nodes) → IfSome (peers_of node peer) (λ p. ArePeers nodes p.0 p.1)
peers_of_holds nodes None peer n p = tt
peers_of_holds nodes (Some node) None n p = tt
peers_of_holds nodes (Some node) (Some peer) n p = other_holds nodes node peer (eqb node peer) refl n p

named_peers_hold : (nodes : ℕ) (node peer : List ℕ) → 0 < nodes → IfOk (named_peers nodes node peer) (λ p. ArePeers nodes p.0 p.1)
named_peers_hold nodes node peer some =
    understood_where (λ (p : ℕ × ℕ). ArePeers nodes p.0 p.1) fault.Line (is_number node && is_number peer) (peers_of (node_of nodes node) (node_of nodes peer))
    (λ _. peers_of_holds nodes (node_of nodes node) (node_of nodes peer) (node_holds nodes node some) (node_holds nodes peer some))

mark_of_holds : (nodes : ℕ) (up : Option Bool) (peers : Result (ℕ × ℕ) Fault) → IfOk peers (λ p. ArePeers nodes p.0 p.1) → IfOk (mark_of up peers) (IsPlain nodes)
mark_of_holds nodes None peers h = tt
mark_of_holds nodes (Some up) peers h = said_map nodes (λ (p : ℕ × ℕ). event.Mark p.0 p.1 up) peers (λ v. tt) h

mark_line_holds : (nodes : ℕ) (words : List (List ℕ)) → 0 < nodes → IfOk (mark_line nodes words) (IsPlain nodes)
mark_line_holds nodes [] some = tt
mark_line_holds nodes (a ∷ []) some = tt
mark_line_holds nodes (a ∷ b ∷ []) some = tt
mark_line_holds nodes (a ∷ b ∷ c ∷ []) some = mark_of_holds nodes (up_of c) (named_peers nodes a b) (named_peers_hold nodes a b some)
mark_line_holds nodes (a ∷ b ∷ c ∷ d ∷ words) some = tt

crash_of_holds : (nodes : ℕ) (outcome : Option Outcome) (node : Result ℕ Fault) → IfOk node (λ n. n < nodes) → IfOk (crash_of outcome node) (IsPlain nodes)
crash_of_holds nodes None node h = tt
crash_of_holds nodes (Some outcome) node h = said_map nodes (λ n. event.Crash n outcome) node (λ v. tt) h

crash_line_holds : (nodes : ℕ) (words : List (List ℕ)) → 0 < nodes → IfOk (crash_line nodes words) (IsPlain nodes)
crash_line_holds nodes [] some = tt
crash_line_holds nodes (a ∷ []) some = tt
crash_line_holds nodes (a ∷ b ∷ []) some = crash_of_holds nodes (outcome_of b) (named_node nodes a) (named_node_holds nodes a some)
crash_line_holds nodes (a ∷ b ∷ c ∷ words) some = tt

stop_of_holds : (nodes : ℕ) (outcome : Option Outcome) (pair : Result (ℕ × ℕ) Fault) → IfOk pair (λ p. p.0 < nodes) → IfOk (stop_of outcome pair) (IsPlain nodes)
stop_of_holds nodes None pair h = tt
stop_of_holds nodes (Some outcome) pair h = said_map nodes (λ (p : ℕ × ℕ). event.StopAt p.0 p.1 outcome) pair (λ v. tt) h

stop_line_holds : (nodes : ℕ) (words : List (List ℕ)) → 0 < nodes → IfOk (stop_line nodes words) (IsPlain nodes)
stop_line_holds nodes [] some = tt
stop_line_holds nodes (a ∷ []) some = tt
stop_line_holds nodes (a ∷ b ∷ []) some = tt
stop_line_holds nodes (a ∷ b ∷ c ∷ []) some = stop_of_holds nodes (outcome_of c) (named_pair nodes 1 4294967295 a b) (named_pair_holds nodes 1 4294967295 a b some)
stop_line_holds nodes (a ∷ b ∷ c ∷ d ∷ words) some = tt

node_event_holds : (nodes : ℕ) (word : List ℕ) (words : List (List ℕ)) → 0 < nodes → IfOk (node_event nodes word words) (IsPlain nodes)
node_event_holds nodes word words some =
    let node = node_line nodes words in
    let is_node = node_line_holds nodes words some in
    either_holds (IsPlain nodes) (bytes_eq word (codes "clock")) _ _ (said_map nodes clock_at (pair_line nodes 0 (2 ^ 64 - 1) words) (λ v. tt) (pair_line_holds nodes 0 (2 ^ 64 - 1) words some))
    (either_holds (IsPlain nodes) (bytes_eq word (codes "mark")) _ _ (mark_line_holds nodes words some)
    (either_holds (IsPlain nodes) (bytes_eq word (codes "crash")) _ _ (crash_line_holds nodes words some)
    (either_holds (IsPlain nodes) (bytes_eq word (codes "stopat")) _ _ (stop_line_holds nodes words some)
    (either_holds (IsPlain nodes) (bytes_eq word (codes "failat")) _ _ (said_map nodes fail_at (pair_line nodes 1 4294967295 words) (λ v. tt) (pair_line_holds nodes 1 4294967295 words some))
    (either_holds (IsPlain nodes) (bytes_eq word (codes "restart")) _ _ (said_map nodes event.Restart node (λ v. tt) is_node)
    (either_holds (IsPlain nodes) (bytes_eq word (codes "flush")) _ _ (said_map nodes event.Flush node (λ v. tt) is_node)
    (either_holds (IsPlain nodes) (bytes_eq word (codes "merge")) _ _ (said_map nodes event.Merge node (λ v. tt) is_node) tt)))))))

word_line_holds : (nodes : ℕ) (word : List ℕ) (words : List (List ℕ)) → 0 < nodes → IfOk (word_line nodes word words) (IsPlain nodes)
word_line_holds nodes word words some =
    either_holds (IsPlain nodes) (bytes_eq word (codes "put")) _ _ (put_line_holds nodes words some)
    (either_holds (IsPlain nodes) (bytes_eq word (codes "get")) _ _ (get_line_holds nodes words some)
    (either_holds (IsPlain nodes) (bytes_eq word (codes "deliver")) _ _ (said_map nodes event.Deliver (message_line nodes words) (λ v. tt) (message_line_holds nodes words some))
    (either_holds (IsPlain nodes) (bytes_eq word (codes "drop")) _ _ (said_map nodes event.Drop (message_line nodes words) (λ v. tt) (message_line_holds nodes words some))
    (either_holds (IsPlain nodes) (bytes_eq word (codes "settle")) _ _ (settle_line_holds nodes words) (node_event_holds nodes word words some)))))

event_line_holds : (nodes : ℕ) (words : List (List ℕ)) → 0 < nodes → IfOk (event_line nodes words) (IsPlain nodes)
event_line_holds nodes [] some = tt
event_line_holds nodes (word ∷ words) some = word_line_holds nodes word words some

-- ---- lines with a statement

cql_of_holds : (nodes : ℕ) (node : Option ℕ) (level : Option Level) (text : List ℕ) → IfSome node (λ n. n < nodes) → IfSome (cql_of node level text) (SaysAtNodes nodes)
cql_of_holds nodes None level text h = tt
cql_of_holds nodes (Some node) None text h = tt
cql_of_holds nodes (Some node) (Some level) text h = h

cql_behind_holds : (nodes : ℕ) (node : List ℕ) (rest : Option (List ℕ × List ℕ)) → 0 < nodes → IfOk (cql_behind nodes node rest) (SaysAtNodes nodes)
cql_behind_holds nodes node None some = tt
cql_behind_holds nodes node (Some rest) some =
    understood_where (SaysAtNodes nodes) fault.Line (is_number node) (cql_of (node_of nodes node) (level_of rest.0) rest.1) (λ _. cql_of_holds nodes (node_of nodes node) (level_of rest.0) rest.1 (node_holds nodes node some))

cql_from_holds : (nodes : ℕ) (rest : Option (List ℕ × List ℕ)) → 0 < nodes → IfOk (cql_from nodes rest) (SaysAtNodes nodes)
cql_from_holds nodes None some = tt
cql_from_holds nodes (Some rest) some = cql_behind_holds nodes rest.0 (first_word rest.1) some

event_words_hold : (nodes : ℕ) (words : Option (List (List ℕ))) → 0 < nodes → IfOk (event_of_words nodes words) (IsPlain nodes)
event_words_hold nodes None some = tt
event_words_hold nodes (Some words) some = event_line_holds nodes words some

event_of_holds : (nodes : ℕ) (line : List ℕ) (text : Option (List ℕ)) → 0 < nodes → IfOk (event_of nodes line text) (SaysAtNodes nodes)
event_of_holds nodes line (Some text) some = cql_from_holds nodes (first_word text) some
event_of_holds nodes line None some =
    result_map_holds (SaysAtNodes nodes) says.Event (event_of_words nodes (words_of line)) (event_words_hold nodes (words_of line) some)

pub event_at_holds : (nodes : ℕ) (line : List ℕ) → 0 < nodes → IfOk (event_at nodes line) (SaysAtNodes nodes)
event_at_holds nodes line some = event_of_holds nodes line (behind (codes "cql ") line) some
