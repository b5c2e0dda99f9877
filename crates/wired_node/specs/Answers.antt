-- The answers that a node keeps until they are collected.
use Rattle.std.specs.Prelude.{Bool, true, false, if◌then◌else◌, Option, Some, None, List, [], ◌∷◌, find, option_and_then}
use Rattle.std.specs.List.{flat_map}
use Rattle.cs_base.specs.declared.ids.ReqId.{ReqId}
use Rattle.cs_base.specs.Requests.{is_request}
use Rattle.peer_messages.specs.declared.chronicle.Entry.{Entry}
use Rattle.peer_messages.specs.declared.chronicle.Entry.TheVariants.{Asked, Submitted, Acked, Refused, Used, Began, Rows, Marks, Time, Turned, Tables, Stopped}
use Rattle.peer_messages.specs.declared.event.What.{What}
use Rattle.peer_messages.specs.declared.event.What.TheVariants.{Client, Deliver, Alive, Collect, Flush, Tick}
use Rattle.client_desk.specs.declared.answer.Answer.{Answer}
use Rattle.client_desk.specs.declared.answer.Answer.TheVariants as answer

-- lists, one behind another
abbrev pub joined : List (List Entry) → List Entry
joined pieces = flat_map (λ (piece : List Entry). piece) pieces

abbrev pub has_some : List Entry → Bool
has_some [] = false
has_some (x ∷ xs) = true

-- the answer that an entry gives. That a keyspace is used is told as an acknowledgement
abbrev pub answer_of : Entry → Option Answer
answer_of (Acked r l heard) = Some answer.Acknowledged
answer_of (Used r keyspace) = Some answer.Acknowledged
answer_of (Rows r rows more grounds) = Some (answer.Rows rows more)
answer_of (Refused r refusal) = Some (answer.Refused refusal)
answer_of (Asked r) = None
answer_of (Submitted r m) = None
answer_of (Began r q l columns) = None
answer_of (Marks k alive) = None
answer_of (Time k t) = None
answer_of (Turned k refusal) = None
answer_of (Tables k n) = None
answer_of (Stopped k) = None

abbrev pub is_answer : Entry → Bool
is_answer (Acked r l heard) = true
is_answer (Used r keyspace) = true
is_answer (Rows r rows more grounds) = true
is_answer (Refused r refusal) = true
is_answer (Asked r) = false
is_answer (Submitted r m) = false
is_answer (Began r q l columns) = false
is_answer (Marks k alive) = false
is_answer (Time k t) = false
is_answer (Turned k refusal) = false
is_answer (Tables k n) = false
is_answer (Stopped k) = false

-- it answers this request
abbrev pub is_answer_to : ReqId → Entry → Bool
is_answer_to id (Acked r l heard) = is_request r id
is_answer_to id (Used r keyspace) = is_request r id
is_answer_to id (Rows r rows more grounds) = is_request r id
is_answer_to id (Refused r refusal) = is_request r id
is_answer_to id (Asked r) = false
is_answer_to id (Submitted r m) = false
is_answer_to id (Began r q l columns) = false
is_answer_to id (Marks k alive) = false
is_answer_to id (Time k t) = false
is_answer_to id (Turned k refusal) = false
is_answer_to id (Tables k n) = false
is_answer_to id (Stopped k) = false

-- all but the first that passes
abbrev pub without_first : {A : Type 0} → (A → Bool) → List A → List A
without_first p [] = []
without_first p (x ∷ xs) = if p x then xs else x ∷ without_first p xs

-- ---- an answer is collected

abbrev pub collected_by : What → Option ReqId
collected_by (Collect id) = Some id
collected_by (Client ask) = None
collected_by (Deliver m) = None
collected_by (Alive peer up) = None
collected_by Flush = None
collected_by Tick = None

-- the first answer to the request
abbrev pub answer_for : Option ReqId → List Entry → Option Answer
answer_for None told = None
answer_for (Some id) told = option_and_then answer_of (find (is_answer_to id) told)

-- the answers that stay
abbrev pub left_behind : Option ReqId → List Entry → List Entry
left_behind None told = told
left_behind (Some id) told = without_first (is_answer_to id) told
