-- A desk as its contracts see it.
use Rattle.std.specs.Prelude.{◌≡◌, Option, Some, None, Result, Ok, Err, List, [], ◌∷◌, ◌++◌}
use Rattle.cs_base.specs.declared.ids.ReqId.{ReqId}
use Rattle.peer_messages.specs.declared.event.Ask.{Ask}
use Rattle.client_desk.specs.declared.answer.Answer.{Answer}
use Rattle.client_desk.specs.Asks.{Asked, with_answer}
use Rattle.cluster_model.specs.State.{ClusterState}
use Rattle.step_desk.specs.declared.call.Call.{Call}

-- its cluster, and what was submitted
pub record DeskState : Type 0 where
  pub cluster : ClusterState
  pub asks : List Asked

-- the last request has this answer
abbrev pub last_answered : List Asked → Answer → List Asked
last_answered [] a = []
last_answered (x ∷ []) a = with_answer x a ∷ []
last_answered (x ∷ y ∷ rest) a = x ∷ last_answered (y ∷ rest) a

abbrev pub answer_in : List (Answer × Unit {0}) → Option Answer
answer_in [] = None
answer_in (x ∷ xs) = Some x.0

abbrev pub with_answers : List Asked → List (Answer × Unit {0}) → List Asked
with_answers asks [] = asks
with_answers asks (x ∷ xs) = last_answered asks x.0

abbrev pub with_call : List Asked → List (Ask × Unit {0}) → Option ReqId → List (Answer × Unit {0}) → List Asked
with_call asks [] request answers = with_answers asks answers
with_call asks (x ∷ xs) request answers = asks ++ record { ask = x.0; request = request; answer = answer_in answers } ∷ []

-- what was submitted behind a list of calls, the last of which is given first
abbrev pub asks_before : List Asked → List (Call × Unit {0}) → List Asked
asks_before asks [] = asks
asks_before asks (c ∷ cs) = asks_before (with_call asks c.0.ask.items c.0.request c.0.answer.items) cs

abbrev pub asks_after : List (Call × Unit {0}) → List Asked
asks_after calls = asks_before [] calls

-- ---- one call

abbrev pub IsNamedSo : Option ReqId → List (Answer × Unit {0}) → Result ReqId Answer → Type 0
IsNamedSo request answers (Ok id) = (request ≡ Some id) × (answers ≡ [])
IsNamedSo request answers (Err a) = (request ≡ None) × (answers ≡ (a, tt) ∷ [])
