-- Where the name and the answer of each request come from.
use Rattle.std.specs.Prelude.{◌≡◌, ℕ, Option, Some, None, Result, Ok, Err, List, All, Contains}
use Rattle.cs_base.specs.declared.ids.ReqId.{ReqId}
use Rattle.peer_messages.specs.declared.event.What.TheVariants.{Client, Collect}
use Rattle.client_desk.specs.Asks.{Asked}
use Rattle.client_desk.specs.declared.answer.Answer.{Answer}
use Rattle.node_calls.specs.Calls.{call_of, optional_call_of}
use Rattle.node_workers.specs.Asking.{asks_of, AreOfDesk}
use Rattle.node_workers.specs.Calls.{Outcome, Called, called, event_at, name_by, answer_by}

-- an answer, where there is one, was collected by one of the calls
abbrev pub IsCollected : List Called → ReqId → Option Answer → Type 0
IsCollected calls request None = Unit {0}
IsCollected calls request (Some a) =
    (clock : ℕ) × (outcome : Outcome) × Contains calls (called (optional_call_of (event_at clock (Collect request))) outcome) × (answer_by outcome ≡ Some a)

-- a request is called so and its answer was collected later, or it is not called anything and was answered at once
abbrev pub GoesOnAs : List Called → Asked → Result ReqId Answer → Type 0
GoesOnAs calls x (Ok request) = (x.request ≡ Some request) × IsCollected calls request x.answer
GoesOnAs calls x (Err a) = (x.request ≡ None) × (x.answer ≡ Some a)

-- one of the calls submitted the request, and what came of it tells its name or its answer
pub record IsTold (calls : List Called) (x : Asked) : Type 0 where
  pub clock : ℕ
  pub outcome : Outcome
  pub submitted : Contains calls (called (call_of (event_at clock (Client x.ask))) outcome)
  pub goes_on : GoesOnAs calls x (name_by outcome)

module _ {C : Type 0} (gives : C → ℕ → Type 0) where
  -- so each answer that a desk gave is told by an entry, or by a refusal
  abbrev pub AsksAreTold : Type 0
  AsksAreTold = (clock : C) (calls : List Called) → AreOfDesk (gives clock) calls → All (IsTold calls) (asks_of calls)
