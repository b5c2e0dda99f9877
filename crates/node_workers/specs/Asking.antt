-- What was submitted at a desk, by its calls.
use Rattle.std.specs.Prelude.{ℕ, Option, Some, None, Result, Ok, Err, List, [], ◌∷◌, ◌++◌}
use Rattle.cs_base.specs.declared.ids.ReqId.{ReqId}
use Rattle.peer_messages.specs.declared.event.Ask.{Ask}
use Rattle.peer_messages.specs.declared.event.What.{What}
use Rattle.peer_messages.specs.declared.event.What.TheVariants.{Client, Deliver, Alive, Collect, Flush, Tick}
use Rattle.client_desk.specs.Asks.{Asked, named, answered_at_once, with_answer, IsAwaited}
use Rattle.client_desk.specs.declared.answer.Answer.{Answer}
use Rattle.node_calls.specs.Calls.{call_of, optional_call_of}
use Rattle.node_workers.specs.Calls.{Outcome, Called, called, event_at, name_by, answer_by}

-- the last request has this answer
abbrev pub last_answered : List Asked → Answer → List Asked
last_answered [] a = []
last_answered (x ∷ []) a = with_answer x a ∷ []
last_answered (x ∷ y ∷ rest) a = x ∷ last_answered (y ∷ rest) a

abbrev pub with_found : List Asked → Option Answer → List Asked
with_found asks None = asks
with_found asks (Some a) = last_answered asks a

abbrev pub submitted : Ask → Result ReqId Answer → Asked
submitted ask (Ok request) = named ask request
submitted ask (Err a) = answered_at_once ask a

-- a call more
abbrev pub with_call : List Asked → What → Outcome → List Asked
with_call asks (Client ask) outcome = asks ++ submitted ask (name_by outcome) ∷ []
with_call asks (Collect request) outcome = with_found asks (answer_by outcome)
with_call asks (Deliver message) outcome = asks
with_call asks (Alive node alive) outcome = asks
with_call asks Flush outcome = asks
with_call asks Tick outcome = asks

abbrev pub asks_behind : List Asked → List Called → List Asked
asks_behind asks [] = asks
asks_behind asks (c ∷ cs) = asks_behind (with_call asks c.call.event.what c.outcome) cs

-- what was submitted, with its answers
abbrev pub asks_of : List Called → List Asked
asks_of calls = asks_behind [] calls

module _ (gives : ℕ → Type 0) where
  -- The calls of a desk: each submits a request, or would collect the answer of the last one, which has none yet. Their
  -- times are such as the clock gives.
  pub data AreOfDesk : List Called → Type 0 where
    opened : AreOfDesk []
    submits : (calls : List Called) (clock : ℕ) (ask : Ask) (outcome : Outcome)
        → AreOfDesk calls → gives clock → AreOfDesk (calls ++ called (call_of (event_at clock (Client ask))) outcome ∷ [])
    collects : (calls : List Called) (clock : ℕ) (request : ReqId) (outcome : Outcome)
        → AreOfDesk calls → gives clock → IsAwaited (asks_of calls) request
        → AreOfDesk (calls ++ called (optional_call_of (event_at clock (Collect request))) outcome ∷ [])
