-- What is so of each desk.
use Rattle.std.specs.Prelude.{◌≡◌, List, [], ◌∷◌, Option, Some, None, Result}
use Rattle.cs_base.specs.declared.ids.ReqId.{ReqId}
use Rattle.peer_messages.specs.declared.event.Ask.{Ask}
use Rattle.client_desk.specs.declared.answer.Answer.{Answer}
use Rattle.client_desk.specs.Asks.{Asked, Submits, Collects}

-- the same answer, where there was one
abbrev pub Keeps : Option Answer → Option Answer → Type 0
Keeps None later = Unit {0}
Keeps (Some answer) later = later ≡ Some answer

-- the same request, later
pub record IsLater (x y : Asked) : Type 0 where
  pub ask : y.ask ≡ x.ask
  pub request : y.request ≡ x.request
  pub answer : Keeps x.answer y.answer

-- the requests of the first list stand at the front of the second, each with the answer that it had
abbrev pub GoesOn : List Asked → List Asked → Type 0
GoesOn [] ys = Unit {0}
GoesOn (x ∷ xs) [] = ⊥
GoesOn (x ∷ xs) (y ∷ ys) = IsLater x y × GoesOn xs ys

pub record CallsGoOn : Type 0 where
  pub submitted : (asks asks' : List Asked) (ask : Ask) (answer : Result ReqId Answer) → Submits asks ask answer asks' → GoesOn asks asks'
  pub collected : (asks asks' : List Asked) (request : ReqId) (answer : Option Answer) → Collects asks request answer asks' → GoesOn asks asks'

abbrev pub AnswersStay : Type 0
AnswersStay = (a b c : List Asked) → GoesOn a b → GoesOn b c → GoesOn a c
