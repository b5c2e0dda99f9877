-- What was submitted at a desk, and what it answered.
use Rattle.std.specs.Prelude.{◌≡◌, List, [], ◌∷◌, ◌++◌, Option, Some, None, Result, Ok, Err}
use Rattle.cs_base.specs.declared.ids.ReqId.{ReqId}
use Rattle.peer_messages.specs.declared.event.Ask.{Ask}
use Rattle.client_desk.specs.declared.answer.Answer.{Answer}

-- a request, what it is called if it is, and its answer once there is one
pub record Asked : Type 0 where
  pub ask : Ask
  pub request : Option ReqId
  pub answer : Option Answer

abbrev pub named : Ask → ReqId → Asked
named ask request = record { ask = ask; request = Some request; answer = None }

abbrev pub answered_at_once : Ask → Answer → Asked
answered_at_once ask answer = record { ask = ask; request = None; answer = Some answer }

-- a request is submitted, and is named or answered
abbrev pub Submits : List Asked → Ask → Result ReqId Answer → List Asked → Type 0
Submits asks ask (Ok request) asks' = asks' ≡ asks ++ named ask request ∷ []
Submits asks ask (Err answer) asks' = asks' ≡ asks ++ answered_at_once ask answer ∷ []

-- a request of this name has no answer
pub record Waits (x : Asked) (request : ReqId) : Type 0 where
  pub name : x.request ≡ Some request
  pub unanswered : x.answer ≡ None

-- requests go one after another, so that the last one alone may wait
abbrev pub IsAwaited : List Asked → ReqId → Type 0
IsAwaited asks request = (front : List Asked) × (x : Asked) × Waits x request × (asks ≡ front ++ x ∷ [])

abbrev pub with_answer : Asked → Answer → Asked
with_answer x answer = record x { answer = Some answer }

-- the last request, which had this name and no answer, has this one
abbrev pub Answers : List Asked → ReqId → Answer → List Asked → Type 0
Answers asks request answer asks' =
    (front : List Asked) × (x : Asked) × Waits x request × (asks ≡ front ++ x ∷ []) × (asks' ≡ front ++ with_answer x answer ∷ [])

abbrev pub Collects : List Asked → ReqId → Option Answer → List Asked → Type 0
Collects asks request None asks' = asks' ≡ asks
Collects asks request (Some answer) asks' = Answers asks request answer asks'
