-- The line of an event is read as the event.
use Rattle.std.proofs.Common.{◌≡◌, ℕ, ◌+◌, ◌-◌, ◌^◌, ◌<◌, ◌≤◌, Bool, true, false, not, cond, List, [], ◌∷◌, ◌++◌, Option, Some, None, Ok, length, take, drop, refl, ◌∙◌, ap, arith, eqb, IsUtf8, length-append}
use Rattle.std.specs.Prelude.{ℤ, ◌&&◌, codes, nat_lt}
use Rattle.std.specs.Option.{option_map}
use Rattle.std.specs.List.{position_or_len, before_first, after_first}
use Rattle.std.specs.Fmt.{decimal, signed_decimal}
use Rattle.std.proofs.lemmas.Bool.{and_from, and_parts, cond-true, cond-false, lt-ltb, not-true}
use Rattle.std.proofs.lemmas.Str.{IsUtf8-append}
use Rattle.std.proofs.Math.Seq.{take-append_seam, drop-append-add}
use Rattle.cs_base.specs.declared.level.Level.{Level}
use Rattle.cs_store.specs.declared.mem_file.Outcome.{Outcome}
use Rattle.cs_store.specs.declared.mem_file.Outcome.TheVariants.{Kept, Lost, Torn}
use Rattle.fault_script.specs.declared.script.ScriptEvent.{ScriptEvent}
use Rattle.fault_script.specs.declared.script.ScriptEvent.TheVariants as event
use Rattle.fault_script.specs.declared.script.EventLine.{EventLine}
use Rattle.fault_script.specs.declared.script.EventLine.TheVariants as asks
use Rattle.fault_script.specs.declared.script.PutRequest.{PutRequest}
use Rattle.fault_script.specs.declared.script.GetRequest.{GetRequest}
use Rattle.fault_script.specs.declared.script.CqlRequest.{CqlRequest}
use Rattle.fault_script.specs.declared.script.MessagePlace.{MessagePlace}
use Rattle.fault_script.specs.declared.script.Fault.TheVariants as fault
use Rattle.fault_script.specs.Lines as lines
use Rattle.script_words.specs.Words.{up_of, outcome_of, words_of, behind, first_word, node_of, level_of, long_of, number_within, is_number, is_signed_number, is_long, is_long_word, signed_value, is_text, is_space, is_skipped, without_spaces}
use Rattle.fault_script.specs.Lines.{understood, result_map, event_of_words, event_at, event_line, put_of, get_of, place_of, named_node, pair_of, named_pair, clock_at, peers_of, named_peers, mark_of, crash_of, stop_of, fail_at, cql_of, cql_from, cql_behind}
use Rattle.script_print.specs.Printed.{level_name, outcome_name, up_name, line_of_words, put_line, get_line, cql_line, message_line, number_line, pair_line, mark_line, crash_line, stop_line}
use Rattle.script_print.specs.Printed as printed
use Rattle.script_print.proofs.Bytes.{lacks, lacks_both, ascii_is_utf8, utf8_is_text}
use Rattle.script_print.proofs.LineWords.{IsWord, AreWords, words_back, line_is_inline}
use Rattle.script_print.proofs.NumberWords.{IsWithin, decimal_is_word, decimal_is_number, within_back, signed_is_word, signed_is_number, signed_back, level_is_word, level_back, plain_word}
use Rattle.script_print.proofs.EventFacts.{IsNode, IsFitPut, IsFitGet, IsFitCql, IsFitPlace, IsFitPair, IsFitMark, IsFitEvent}

-- ---- words

node_is_small : (nodes n : ℕ) → nodes ≤ 7 → IsNode nodes n → n < 2 ^ 64
node_is_small nodes n few is = let low = is.1 in omega (arith, few, low)

pub node_is_word : (nodes n : ℕ) → nodes ≤ 7 → IsNode nodes n → IsWord (decimal n)
node_is_word nodes n few is = decimal_is_word n (node_is_small nodes n few is)

node_is_number : (nodes n : ℕ) → nodes ≤ 7 → IsNode nodes n → is_number (decimal n) ≡ true
node_is_number nodes n few is = decimal_is_number n (node_is_small nodes n few is)

node_back : (nodes n : ℕ) → nodes ≤ 7 → IsNode nodes n → node_of nodes (decimal n) ≡ Some n
node_back nodes n few is = within_back 0 (nodes - 1) n (node_is_small nodes n few is) is.0

long_back : (z : ℤ) → is_long z ≡ true → long_of (signed_decimal z) ≡ Some z
long_back z long =
    cond-true (is_long_word (signed_decimal z)) (Some (signed_value (signed_decimal z))) None (ap is_long (signed_back z long) ∙ long) ∙ ap (λ (y : ℤ). Some y) (signed_back z long)

-- what the line of an event says
abbrev pub line_of : ScriptEvent → EventLine
line_of (event.Put put) = asks.Event (event.Put put)
line_of (event.Get get) = asks.Event (event.Get get)
line_of (event.Cql request) = asks.Cql request.node request.level request.text
line_of (event.Deliver place) = asks.Event (event.Deliver place)
line_of (event.Drop place) = asks.Event (event.Drop place)
line_of (event.Settle count) = asks.Event (event.Settle count)
line_of (event.Clock node micros) = asks.Event (event.Clock node micros)
line_of (event.Mark node peer up) = asks.Event (event.Mark node peer up)
line_of (event.Crash node outcome) = asks.Event (event.Crash node outcome)
line_of (event.StopAt node call outcome) = asks.Event (event.StopAt node call outcome)
line_of (event.FailAt node call) = asks.Event (event.FailAt node call)
line_of (event.Restart node) = asks.Event (event.Restart node)
line_of (event.Flush node) = asks.Event (event.Flush node)
line_of (event.Merge node) = asks.Event (event.Merge node)

-- the line of an event: it is read as the event, has no line feed and is not passed over
pub record IsLineOf (nodes : ℕ) (line : List ℕ) (said : ScriptEvent) : Type 0 where
  pub says : event_at nodes line ≡ Ok (line_of said)
  pub inline : lacks 10 line ≡ true
  pub read : is_skipped line ≡ false

-- ---- lines of words

put_back : (nodes : ℕ) (put : PutRequest) → nodes ≤ 7 → IsFitPut nodes put → IsLineOf nodes (put_line put) (event.Put put)
put_back nodes put few is =
    let node = decimal put.node in
    let level = level_name put.level in
    let timestamp = signed_decimal put.timestamp in
    let words : List (List ℕ) = node ∷ level ∷ put.key ∷ put.row ∷ timestamp ∷ put.value ∷ [] in
    let word : IsWord (codes "put") = plain_word (codes "put") refl in
    let are : AreWords words = (node_is_word nodes put.node few is.node, (level_is_word put.level, (is.key, (is.row, (signed_is_word put.timestamp is.timestamp, (is.value, tt)))))) in
    record {
      says = ap (result_map asks.Event) (ap (event_of_words nodes) (words_back (codes "put") words word are)
          ∙ ap (λ (t : Bool). understood fault.Line t (put_of (node_of nodes node) (level_of level) put.key put.row (long_of timestamp) put.value)) (and_from (is_number node) (is_signed_number timestamp) (node_is_number nodes put.node few is.node) (signed_is_number put.timestamp is.timestamp))
          ∙ ap (λ (n : Option ℕ). understood fault.Line true (put_of n (level_of level) put.key put.row (long_of timestamp) put.value)) (node_back nodes put.node few is.node)
          ∙ ap (λ (l : Option Level). understood fault.Line true (put_of (Some put.node) l put.key put.row (long_of timestamp) put.value)) (level_back put.level)
          ∙ ap (λ (z : Option ℤ). understood fault.Line true (put_of (Some put.node) (Some put.level) put.key put.row z put.value)) (long_back put.timestamp is.timestamp));
      inline = line_is_inline (codes "put") words word are;
      read = refl;
    }

get_back : (nodes : ℕ) (get : GetRequest) → nodes ≤ 7 → IsFitGet nodes get → IsLineOf nodes (get_line get) (event.Get get)
get_back nodes get few is =
    let node = decimal get.node in
    let level = level_name get.level in
    let words : List (List ℕ) = node ∷ level ∷ get.key ∷ [] in
    let word : IsWord (codes "get") = plain_word (codes "get") refl in
    let are : AreWords words = (node_is_word nodes get.node few is.node, (level_is_word get.level, (is.key, tt))) in
    record {
      says = ap (result_map asks.Event) (ap (event_of_words nodes) (words_back (codes "get") words word are)
          ∙ ap (λ (t : Bool). understood fault.Line t (get_of (node_of nodes node) (level_of level) get.key)) (node_is_number nodes get.node few is.node)
          ∙ ap (λ (n : Option ℕ). understood fault.Line true (get_of n (level_of level) get.key)) (node_back nodes get.node few is.node)
          ∙ ap (λ (l : Option Level). understood fault.Line true (get_of (Some get.node) l get.key)) (level_back get.level));
      inline = line_is_inline (codes "get") words word are;
      read = refl;
    }

-- ---- messages

number_is_small : (place : MessagePlace) → place.number ≤ 2 ^ 64 - 1 → place.number < 2 ^ 64
number_is_small place low = omega (arith, low)

message_are_words : (nodes : ℕ) (place : MessagePlace) → nodes ≤ 7 → IsFitPlace nodes place → AreWords (decimal place.from ∷ decimal place.upto ∷ decimal place.number ∷ [])
message_are_words nodes place few is =
    (node_is_word nodes place.from few is.from, (node_is_word nodes place.upto few is.upto, (decimal_is_word place.number (number_is_small place is.number.1), tt)))

message_back : (nodes : ℕ) (place : MessagePlace) → nodes ≤ 7 → IsFitPlace nodes place → lines.message_line nodes (decimal place.from ∷ decimal place.upto ∷ decimal place.number ∷ []) ≡ Ok place
message_back nodes place few is =
    let from = decimal place.from in
    let upto = decimal place.upto in
    let number = decimal place.number in
    let small = number_is_small place is.number.1 in
    ap (λ (t : Bool). understood fault.Line t (place_of (node_of nodes from) (node_of nodes upto) (number_within 0 (2 ^ 64 - 1) number)))
    (and_from (is_number from && is_number upto) (is_number number) (and_from (is_number from) (is_number upto) (node_is_number nodes place.from few is.from) (node_is_number nodes place.upto few is.upto)) (decimal_is_number place.number small))
    ∙ ap (λ (n : Option ℕ). understood fault.Line true (place_of n (node_of nodes upto) (number_within 0 (2 ^ 64 - 1) number))) (node_back nodes place.from few is.from)
    ∙ ap (λ (n : Option ℕ). understood fault.Line true (place_of (Some place.from) n (number_within 0 (2 ^ 64 - 1) number))) (node_back nodes place.upto few is.upto)
    ∙ ap (λ (n : Option ℕ). understood fault.Line true (place_of (Some place.from) (Some place.upto) n)) (within_back 0 (2 ^ 64 - 1) place.number small is.number.0)

deliver_back : (nodes : ℕ) (place : MessagePlace) → nodes ≤ 7 → IsFitPlace nodes place → IsLineOf nodes (message_line (codes "deliver") place) (event.Deliver place)
deliver_back nodes place few is =
    let words : List (List ℕ) = decimal place.from ∷ decimal place.upto ∷ decimal place.number ∷ [] in
    let word : IsWord (codes "deliver") = plain_word (codes "deliver") refl in
    let are = message_are_words nodes place few is in
    record {
      says = ap (result_map asks.Event) (ap (event_of_words nodes) (words_back (codes "deliver") words word are) ∙ ap (result_map event.Deliver) (message_back nodes place few is));
      inline = line_is_inline (codes "deliver") words word are;
      read = refl;
    }

drop_back : (nodes : ℕ) (place : MessagePlace) → nodes ≤ 7 → IsFitPlace nodes place → IsLineOf nodes (message_line (codes "drop") place) (event.Drop place)
drop_back nodes place few is =
    let words : List (List ℕ) = decimal place.from ∷ decimal place.upto ∷ decimal place.number ∷ [] in
    let word : IsWord (codes "drop") = plain_word (codes "drop") refl in
    let are = message_are_words nodes place few is in
    record {
      says = ap (result_map asks.Event) (ap (event_of_words nodes) (words_back (codes "drop") words word are) ∙ ap (result_map event.Drop) (message_back nodes place few is));
      inline = line_is_inline (codes "drop") words word are;
      read = refl;
    }

settle_back : (nodes count : ℕ) → IsWithin 1 100000 count → count ≤ 100000 → IsLineOf nodes (number_line (codes "settle") count) (event.Settle count)
settle_back nodes count is most =
    let words : List (List ℕ) = decimal count ∷ [] in
    let small : count < 2 ^ 64 = omega (arith, most) in
    let word : IsWord (codes "settle") = plain_word (codes "settle") refl in
    let are : AreWords words = (decimal_is_word count small, tt) in
    record {
      says = ap (result_map asks.Event) (ap (event_of_words nodes) (words_back (codes "settle") words word are)
          ∙ ap (λ (t : Bool). understood fault.Line t (option_map event.Settle (number_within 1 100000 (decimal count)))) (decimal_is_number count small)
          ∙ ap (λ (n : Option ℕ). understood fault.Line true (option_map event.Settle n)) (within_back 1 100000 count small is));
      inline = line_is_inline (codes "settle") words word are;
      read = refl;
    }

-- ---- what happens to a node

named_node_back : (nodes n : ℕ) → nodes ≤ 7 → IsNode nodes n → named_node nodes (decimal n) ≡ Ok n
named_node_back nodes n few is =
    ap (λ (t : Bool). understood fault.Line t (node_of nodes (decimal n))) (node_is_number nodes n few is) ∙ ap (understood fault.Line true) (node_back nodes n few is)

pair_is_small : (most number : ℕ) → most < 2 ^ 64 → number ≤ most → number < 2 ^ 64
pair_is_small most number small low = omega (arith, small, low)

named_pair_back : (nodes least most node number : ℕ) → nodes ≤ 7 → most < 2 ^ 64 → IsFitPair nodes least most node number → named_pair nodes least most (decimal node) (decimal number) ≡ Ok (node, number)
named_pair_back nodes least most node number few small is =
    let low = pair_is_small most number small is.bounds.1 in
    ap (λ (t : Bool). understood fault.Line t (pair_of (node_of nodes (decimal node)) (number_within least most (decimal number))))
    (and_from (is_number (decimal node)) (is_number (decimal number)) (node_is_number nodes node few is.at) (decimal_is_number number low))
    ∙ ap (λ (n : Option ℕ). understood fault.Line true (pair_of n (number_within least most (decimal number)))) (node_back nodes node few is.at)
    ∙ ap (λ (n : Option ℕ). understood fault.Line true (pair_of (Some node) n)) (within_back least most number low is.bounds.0)

pair_are_words : (nodes least most node number : ℕ) → nodes ≤ 7 → most < 2 ^ 64 → IsFitPair nodes least most node number → AreWords (decimal node ∷ decimal number ∷ [])
pair_are_words nodes least most node number few small is =
    (node_is_word nodes node few is.at, (decimal_is_word number (pair_is_small most number small is.bounds.1), tt))

outcome_back : (o : Outcome) → outcome_of (outcome_name o) ≡ Some o
outcome_back Kept = refl
outcome_back Lost = refl
outcome_back Torn = refl

outcome_is_word : (o : Outcome) → IsWord (outcome_name o)
outcome_is_word Kept = plain_word (codes "kept") refl
outcome_is_word Lost = plain_word (codes "lost") refl
outcome_is_word Torn = plain_word (codes "torn") refl

clock_back : (nodes node micros : ℕ) → nodes ≤ 7 → IsFitPair nodes 0 (2 ^ 64 - 1) node micros → IsLineOf nodes (pair_line (codes "clock") node micros) (event.Clock node micros)
clock_back nodes node micros few is =
    let words : List (List ℕ) = decimal node ∷ decimal micros ∷ [] in
    let small : 2 ^ 64 - 1 < 2 ^ 64 = omega arith in
    let word : IsWord (codes "clock") = plain_word (codes "clock") refl in
    let are = pair_are_words nodes 0 (2 ^ 64 - 1) node micros few small is in
    record {
      says = ap (result_map asks.Event) (ap (event_of_words nodes) (words_back (codes "clock") words word are) ∙ ap (result_map clock_at) (named_pair_back nodes 0 (2 ^ 64 - 1) node micros few small is));
      inline = line_is_inline (codes "clock") words word are;
      read = refl;
    }

fail_back : (nodes node call : ℕ) → nodes ≤ 7 → IsFitPair nodes 1 4294967295 node call → IsLineOf nodes (pair_line (codes "failat") node call) (event.FailAt node call)
fail_back nodes node call few is =
    let words : List (List ℕ) = decimal node ∷ decimal call ∷ [] in
    let small : 4294967295 < 2 ^ 64 = omega arith in
    let word : IsWord (codes "failat") = plain_word (codes "failat") refl in
    let are = pair_are_words nodes 1 4294967295 node call few small is in
    record {
      says = ap (result_map asks.Event) (ap (event_of_words nodes) (words_back (codes "failat") words word are) ∙ ap (result_map fail_at) (named_pair_back nodes 1 4294967295 node call few small is));
      inline = line_is_inline (codes "failat") words word are;
      read = refl;
    }

up_back : (up : Bool) → up_of (up_name up) ≡ Some up
up_back true = refl
up_back false = refl

up_is_word : (up : Bool) → IsWord (up_name up)
up_is_word true = plain_word (codes "up") refl
up_is_word false = plain_word (codes "down") refl

named_peers_back : (nodes node peer : ℕ) → nodes ≤ 7 → IsFitMark nodes node peer → named_peers nodes (decimal node) (decimal peer) ≡ Ok (node, peer)
named_peers_back nodes node peer few is =
    ap (λ (t : Bool). understood fault.Line t (peers_of (node_of nodes (decimal node)) (node_of nodes (decimal peer))))
    (and_from (is_number (decimal node)) (is_number (decimal peer)) (node_is_number nodes node few is.at) (node_is_number nodes peer few is.other))
    ∙ ap (λ (n : Option ℕ). understood fault.Line true (peers_of n (node_of nodes (decimal peer)))) (node_back nodes node few is.at)
    ∙ ap (λ (n : Option ℕ). understood fault.Line true (peers_of (Some node) n)) (node_back nodes peer few is.other)
    ∙ ap (λ (t : Bool). understood {T = ℕ × ℕ} fault.Line true (cond t None (Some (node, peer)))) is.apart

mark_back : (nodes node peer : ℕ) (up : Bool) → nodes ≤ 7 → IsFitMark nodes node peer → IsLineOf nodes (mark_line node peer up) (event.Mark node peer up)
mark_back nodes node peer up few is =
    let words : List (List ℕ) = decimal node ∷ decimal peer ∷ up_name up ∷ [] in
    let word : IsWord (codes "mark") = plain_word (codes "mark") refl in
    let are : AreWords words = (node_is_word nodes node few is.at, (node_is_word nodes peer few is.other, (up_is_word up, tt))) in
    record {
      says = ap (result_map asks.Event) (ap (event_of_words nodes) (words_back (codes "mark") words word are)
          ∙ ap (λ (o : Option Bool). mark_of o (named_peers nodes (decimal node) (decimal peer))) (up_back up)
          ∙ ap (mark_of (Some up)) (named_peers_back nodes node peer few is));
      inline = line_is_inline (codes "mark") words word are;
      read = refl;
    }

crash_back : (nodes node : ℕ) (outcome : Outcome) → nodes ≤ 7 → IsNode nodes node → IsLineOf nodes (crash_line node outcome) (event.Crash node outcome)
crash_back nodes node outcome few is =
    let words : List (List ℕ) = decimal node ∷ outcome_name outcome ∷ [] in
    let word : IsWord (codes "crash") = plain_word (codes "crash") refl in
    let are : AreWords words = (node_is_word nodes node few is, (outcome_is_word outcome, tt)) in
    record {
      says = ap (result_map asks.Event) (ap (event_of_words nodes) (words_back (codes "crash") words word are)
          ∙ ap (λ (o : Option Outcome). crash_of o (named_node nodes (decimal node))) (outcome_back outcome)
          ∙ ap (crash_of (Some outcome)) (named_node_back nodes node few is));
      inline = line_is_inline (codes "crash") words word are;
      read = refl;
    }

stop_back : (nodes node call : ℕ) (outcome : Outcome) → nodes ≤ 7 → IsFitPair nodes 1 4294967295 node call → IsLineOf nodes (stop_line node call outcome) (event.StopAt node call outcome)
stop_back nodes node call outcome few is =
    let words : List (List ℕ) = decimal node ∷ decimal call ∷ outcome_name outcome ∷ [] in
    let small : 4294967295 < 2 ^ 64 = omega arith in
    let word : IsWord (codes "stopat") = plain_word (codes "stopat") refl in
    let are : AreWords words = (node_is_word nodes node few is.at, (decimal_is_word call (pair_is_small 4294967295 call small is.bounds.1), (outcome_is_word outcome, tt))) in
    record {
      says = ap (result_map asks.Event) (ap (event_of_words nodes) (words_back (codes "stopat") words word are)
          ∙ ap (λ (o : Option Outcome). stop_of o (named_pair nodes 1 4294967295 (decimal node) (decimal call))) (outcome_back outcome)
          ∙ ap (stop_of (Some outcome)) (named_pair_back nodes 1 4294967295 node call few small is));
      inline = line_is_inline (codes "stopat") words word are;
      read = refl;
    }

node_words : (nodes node : ℕ) → nodes ≤ 7 → IsNode nodes node → AreWords (decimal node ∷ [])
node_words nodes node few is = (node_is_word nodes node few is, tt)

restart_back : (nodes node : ℕ) → nodes ≤ 7 → IsNode nodes node → IsLineOf nodes (number_line (codes "restart") node) (event.Restart node)
restart_back nodes node few is =
    let word : IsWord (codes "restart") = plain_word (codes "restart") refl in
    let are = node_words nodes node few is in
    record {
      says = ap (result_map asks.Event) (ap (event_of_words nodes) (words_back (codes "restart") (decimal node ∷ []) word are) ∙ ap (result_map event.Restart) (named_node_back nodes node few is));
      inline = line_is_inline (codes "restart") (decimal node ∷ []) word are;
      read = refl;
    }

flush_back : (nodes node : ℕ) → nodes ≤ 7 → IsNode nodes node → IsLineOf nodes (number_line (codes "flush") node) (event.Flush node)
flush_back nodes node few is =
    let word : IsWord (codes "flush") = plain_word (codes "flush") refl in
    let are = node_words nodes node few is in
    record {
      says = ap (result_map asks.Event) (ap (event_of_words nodes) (words_back (codes "flush") (decimal node ∷ []) word are) ∙ ap (result_map event.Flush) (named_node_back nodes node few is));
      inline = line_is_inline (codes "flush") (decimal node ∷ []) word are;
      read = refl;
    }

merge_back : (nodes node : ℕ) → nodes ≤ 7 → IsNode nodes node → IsLineOf nodes (number_line (codes "merge") node) (event.Merge node)
merge_back nodes node few is =
    let word : IsWord (codes "merge") = plain_word (codes "merge") refl in
    let are = node_words nodes node few is in
    record {
      says = ap (result_map asks.Event) (ap (event_of_words nodes) (words_back (codes "merge") (decimal node ∷ []) word are) ∙ ap (result_map event.Merge) (named_node_back nodes node few is));
      inline = line_is_inline (codes "merge") (decimal node ∷ []) word are;
      read = refl;
    }

-- ---- a statement

place_behind : (word rest : List ℕ) → lacks 32 word ≡ true → position_or_len is_space (word ++ 32 ∷ rest) ≡ length word
place_behind [] rest whole = refl
place_behind (b ∷ word) rest whole =
    let parts = and_parts (not (eqb b 32)) (lacks 32 word) whole in
    let behind = place_behind word rest parts.1 in
    cond-true (not (eqb b 32)) (1 + position_or_len is_space (word ++ 32 ∷ rest)) 0 parts.0 ∙ omega (arith, behind)

first_word_back : (word rest : List ℕ) → lacks 32 word ≡ true → first_word (word ++ 32 ∷ rest) ≡ Some (word, without_spaces rest)
first_word_back word rest whole =
    let text : List ℕ = word ++ 32 ∷ rest in
    let place = place_behind word rest whole in
    let sum : length (word ++ 32 ∷ rest) ≡ length word + length (32 ∷ rest) = length-append word (32 ∷ rest) in
    let before : before_first is_space text ≡ word = ap (λ (n : ℕ). take n text) place ∙ take-append_seam word (32 ∷ rest) in
    let after : after_first is_space text ≡ rest = ap (λ (n : ℕ). drop (n + 1) text) place ∙ drop-append-add word (32 ∷ rest) 1 in
    cond-true (nat_lt (position_or_len is_space text) (length text)) (Some (before_first is_space text, without_spaces (after_first is_space text))) None (lt-ltb (position_or_len is_space text) (length text) (omega (arith, place, sum)))
    ∙ ap (λ (w : List ℕ). Some (w, without_spaces (after_first is_space text))) before
    ∙ ap (λ (r : List ℕ). Some (word, without_spaces r)) after

-- nothing is taken away where a word stands in front
pub word_in_front : (word rest : List ℕ) → IsWord word → without_spaces (word ++ rest) ≡ word ++ rest
word_in_front [] rest is = absurd (let some = is.some in omega (arith, some))
word_in_front (b ∷ word) rest is =
    cond-false (is_space b) (without_spaces (word ++ rest)) (b ∷ word ++ rest) (not-true (eqb b 32) (and_parts (not (eqb b 32)) (lacks 32 word) is.whole).0)

cql_back : (nodes : ℕ) (request : CqlRequest) → nodes ≤ 7 → IsFitCql nodes request → IsLineOf nodes (cql_line request) (event.Cql request)
cql_back nodes request few is =
    let node = decimal request.node in
    let level = level_name request.level in
    let text = request.text in
    let rest : List ℕ = level ++ 32 ∷ text in
    let tail : List ℕ = node ++ 32 ∷ rest in
    let node_word = node_is_word nodes request.node few is.node in
    let level_word = level_is_word request.level in
    let space : IsUtf8 (32 ∷ []) = ascii_is_utf8 (32 ∷ []) refl in
    let rest_is_text : IsUtf8 rest = IsUtf8-append level (32 ∷ text) level_word.text (IsUtf8-append (32 ∷ []) text space is.text.text) in
    let tail_is_text : IsUtf8 tail = IsUtf8-append node (32 ∷ rest) node_word.text (IsUtf8-append (32 ∷ []) rest space rest_is_text) in
    let found : behind (codes "cql ") (codes "cql " ++ tail) ≡ Some tail =
    cond-true (is_text tail) (Some (without_spaces tail)) None (utf8_is_text tail tail_is_text) ∙ ap (λ (t : List ℕ). Some t) (word_in_front node (32 ∷ rest) node_word) in
    let first : first_word tail ≡ Some (node, rest) = first_word_back node rest node_word.whole ∙ ap (λ (r : List ℕ). Some (node, r)) (word_in_front level (32 ∷ text) level_word) in
    let second : first_word rest ≡ Some (level, text) = first_word_back level text level_word.whole ∙ ap (λ (t : List ℕ). Some (level, t)) is.text.trimmed in
    record {
      says = ap (lines.event_of nodes (codes "cql " ++ tail)) found
          ∙ ap (cql_from nodes) first
          ∙ ap (cql_behind nodes node) second
          ∙ ap (λ (t : Bool). understood fault.Line t (cql_of (node_of nodes node) (level_of level) text)) (node_is_number nodes request.node few is.node)
          ∙ ap (λ (n : Option ℕ). understood fault.Line true (cql_of n (level_of level) text)) (node_back nodes request.node few is.node)
          ∙ ap (λ (l : Option Level). understood fault.Line true (cql_of (Some request.node) l text)) (level_back request.level);
      inline = lacks_both 10 node (32 ∷ rest) node_word.inline (lacks_both 10 level (32 ∷ text) level_word.inline is.text.inline);
      read = refl;
    }

pub event_back : (nodes : ℕ) (said : ScriptEvent) → nodes ≤ 7 → IsFitEvent nodes said → IsLineOf nodes (printed.event_line said) said
event_back nodes (event.Put put) few is = put_back nodes put few is
event_back nodes (event.Get get) few is = get_back nodes get few is
event_back nodes (event.Cql request) few is = cql_back nodes request few is
event_back nodes (event.Deliver place) few is = deliver_back nodes place few is
event_back nodes (event.Drop place) few is = drop_back nodes place few is
event_back nodes (event.Settle count) few is = settle_back nodes count is.0 is.1
event_back nodes (event.Clock node micros) few is = clock_back nodes node micros few is
event_back nodes (event.Mark node peer up) few is = mark_back nodes node peer up few is
event_back nodes (event.Crash node outcome) few is = crash_back nodes node outcome few is
event_back nodes (event.StopAt node call outcome) few is = stop_back nodes node call outcome few is
event_back nodes (event.FailAt node call) few is = fail_back nodes node call few is
event_back nodes (event.Restart node) few is = restart_back nodes node few is
event_back nodes (event.Flush node) few is = flush_back nodes node few is
event_back nodes (event.Merge node) few is = merge_back nodes node few is
