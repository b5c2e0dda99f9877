-- What a chronicle, newest first, tells of a request since it was asked.
use Rattle.std.specs.Prelude.{◌≡◌, ◌||◌, Bool, true, false, Option, Some, None, Result, Ok, Err, List, find, option_and_then}
use Rattle.std.specs.declared.alloc.AllocError.{AllocError}
use Rattle.cs_base.specs.declared.ids.ReqId.{ReqId}
use Rattle.cs_base.specs.Requests.{is_request}
use Rattle.changes.specs.declared.ShownRow.{ShownRow}
use Rattle.peer_messages.specs.declared.chronicle.Entry.{Entry}
use Rattle.peer_messages.specs.declared.chronicle.Entry.TheVariants.{Asked, Submitted, Acked, Refused, Used, Began, Rows, Marks, Time, Turned, Tables, Stopped}
use Rattle.peer_messages.specs.declared.chronicle.Refusal.TheVariants.{Down}
use Rattle.answer_causes.specs.Story.{answers}
use Rattle.client_desk.specs.declared.answer.Answer.{Answer}
use Rattle.client_desk.specs.declared.answer.Answer.TheVariants as answer
use Rattle.step_desk.specs.declared.search.News.{News}
use Rattle.step_desk.specs.declared.search.News.TheVariants as telling

abbrev pub is_named : Option ReqId → ReqId → Bool
is_named None id = false
is_named (Some r) id = is_request r id

-- the request was asked
abbrev pub asks_of : Entry → ReqId → Bool
asks_of (Asked r) id = is_named r id
asks_of (Submitted r m) id = false
asks_of (Acked r l heard) id = false
asks_of (Refused r refusal) id = false
asks_of (Used r keyspace) id = false
asks_of (Began r q l columns) id = false
asks_of (Rows r rows more grounds) id = false
asks_of (Marks k alive) id = false
asks_of (Time k t) id = false
asks_of (Turned k refusal) id = false
asks_of (Tables k n) id = false
asks_of (Stopped k) id = false

-- the answer that an entry gives. That a keyspace is used is told as an acknowledgement
abbrev pub answer_by : Entry → Option Answer
answer_by (Acked r l heard) = Some answer.Acknowledged
answer_by (Used r keyspace) = Some answer.Acknowledged
answer_by (Rows r rows more grounds) = Some (answer.Rows rows more)
answer_by (Refused r refusal) = Some (answer.Refused refusal)
answer_by (Asked r) = None
answer_by (Submitted r m) = None
answer_by (Began r q l columns) = None
answer_by (Marks k alive) = None
answer_by (Time k t) = None
answer_by (Turned k refusal) = None
answer_by (Tables k n) = None
answer_by (Stopped k) = None

-- it was asked, or an entry answers it
abbrev pub is_about : ReqId → Entry → Bool
is_about id e = answers e id || asks_of e id

-- the answer that its newest entry gives, which is none where it was only asked
abbrev pub told : List Entry → ReqId → Option Answer
told chronicle id = option_and_then answer_by (find (is_about id) chronicle)

-- ---- a search

abbrev pub told_by : Option Answer → News
told_by None = telling.Asked
told_by (Some a) = telling.Answered a

abbrev pub told_as : Option Entry → News
told_as None = telling.Nothing
told_as (Some e) = told_by (answer_by e)

abbrev pub answer_in : News → Option Answer
answer_in telling.Nothing = None
answer_in telling.Asked = None
answer_in (telling.Answered a) = Some a

-- an answer has rows
abbrev pub HasRows : Option Answer → Type 0
HasRows a = (rows : List ShownRow) × (more : Bool) × (a ≡ Some (answer.Rows rows more))

-- what is told; memory may be wanted for rows alone
abbrev pub Tells : Result (Option Answer) AllocError → Option Answer → Type 0
Tells (Ok a) t = a ≡ t
Tells (Err e) t = HasRows t

abbrev pub TellsAs : Result News AllocError → Option Entry → Type 0
TellsAs (Ok t) found = t ≡ told_as found
TellsAs (Err e) found = HasRows (option_and_then answer_by found)

-- what a desk gives: what is told, unless the node does not run and so has forgotten what it kept
abbrev pub given_by : Result (Option Answer) AllocError → Bool → Option Answer
given_by t false = Some (answer.Refused Down)
given_by (Ok a) true = a
given_by (Err e) true = Some answer.NoMemory
