-- What a chronicle, newest first, tells of the request that was asked last.
use Rattle.std.specs.Prelude.{Bool, true, false, Option, Some, None, Result, Ok, Err, List, find, option_and_then}
use Rattle.cs_base.specs.declared.ids.ReqId.{ReqId}
use Rattle.peer_messages.specs.declared.chronicle.Entry.{Entry}
use Rattle.peer_messages.specs.declared.chronicle.Entry.TheVariants.{Asked, Submitted, Acked, Refused, Used, Began, Rows, Marks, Time, Turned, Tables, Stopped}
use Rattle.peer_messages.specs.declared.chronicle.Refusal.{Refusal}
use Rattle.peer_messages.specs.declared.chronicle.Refusal.TheVariants.{Down}
use Rattle.client_desk.specs.declared.answer.Answer.{Answer}
use Rattle.client_desk.specs.declared.answer.Answer.TheVariants as answer

-- its name, where its node began it
abbrev pub begun_as : Option ReqId → Option (Result ReqId Refusal)
begun_as None = None
begun_as (Some r) = Some (Ok r)

-- a request was begun, or turned away
abbrev pub outcome_by : Entry → Option (Result ReqId Refusal)
outcome_by (Asked r) = begun_as r
outcome_by (Turned k refusal) = Some (Err refusal)
outcome_by (Submitted r m) = None
outcome_by (Acked r l heard) = None
outcome_by (Refused r refusal) = None
outcome_by (Used r keyspace) = None
outcome_by (Began r q l columns) = None
outcome_by (Rows r rows more grounds) = None
outcome_by (Marks k alive) = None
outcome_by (Time k t) = None
outcome_by (Tables k n) = None
outcome_by (Stopped k) = None

abbrev pub is_there : Option (Result ReqId Refusal) → Bool
is_there None = false
is_there (Some o) = true

abbrev pub is_outcome : Entry → Bool
is_outcome e = is_there (outcome_by e)

abbrev pub outcome : List Entry → Option (Result ReqId Refusal)
outcome chronicle = option_and_then outcome_by (find is_outcome chronicle)

-- how a request is named, or why it was turned away; by a node that did not run it was
abbrev pub named_by : Bool → Option (Result ReqId Refusal) → Result ReqId Answer
named_by false o = Err (answer.Refused Down)
named_by true None = Err (answer.Refused Down)
named_by true (Some (Ok r)) = Ok r
named_by true (Some (Err refusal)) = Err (answer.Refused refusal)
