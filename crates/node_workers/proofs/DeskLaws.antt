-- A desk's calls, and what was submitted by them.
use Rattle.std.proofs.Common.{◌≡◌, ℕ, Option, Some, None, Result, Ok, Err, List, [], ◌∷◌, ◌++◌, refl, sym, ap, subst, ◌∙◌}
use Rattle.cs_base.specs.declared.ids.ReqId.{ReqId}
use Rattle.peer_messages.specs.declared.event.Ask.{Ask}
use Rattle.peer_messages.specs.declared.event.What.TheVariants.{Client, Collect}
use Rattle.client_desk.specs.declared.answer.Answer.{Answer}
use Rattle.client_desk.specs.Asks.{Asked, Submits, IsAwaited, Collects, with_answer}
use Rattle.node_calls.specs.Calls.{call_of, optional_call_of}
use Rattle.node_workers.specs.Asking.{last_answered, with_found, submitted, with_call, asks_behind, asks_of}
use Rattle.node_workers.specs.Calls.{Outcome, Called, called, event_at, name_by, answer_by}

pub one_more : (asks : List Asked) (cs : List Called) (c : Called) → asks_behind asks (cs ++ c ∷ []) ≡ with_call (asks_behind asks cs) c.call.event.what c.outcome
one_more asks [] c = refl
one_more asks (x ∷ xs) c = one_more (with_call asks x.call.event.what x.outcome) xs c

submits : (asks : List Asked) (ask : Ask) (named : Result ReqId Answer) → Submits asks ask named (asks ++ submitted ask named ∷ [])
submits asks ask (Ok request) = refl
submits asks ask (Err answer) = refl

pub last_is : (front : List Asked) (x : Asked) (a : Answer) → last_answered (front ++ x ∷ []) a ≡ front ++ with_answer x a ∷ []
last_is [] x a = refl
last_is (f ∷ []) x a = refl
last_is (f ∷ g ∷ rest) x a = ap (λ (zs : List Asked). f ∷ zs) (last_is (g ∷ rest) x a)

collects : (asks : List Asked) (request : ReqId) (found : Option Answer) → IsAwaited asks request → Collects asks request found (with_found asks found)
collects asks request None awaited = refl
collects asks request (Some a) (front, x, waits, is) = (front, x, waits, is, ap (λ (zs : List Asked). last_answered zs a) is ∙ last_is front x a)

-- ---- behind a call more

pub submitted_by : (calls calls' : List Called) (clock : ℕ) (ask : Ask) (outcome : Outcome) (result : Result ReqId Answer)
    → calls' ≡ calls ++ called (call_of (event_at clock (Client ask))) outcome ∷ [] → result ≡ name_by outcome → Submits (asks_of calls) ask result (asks_of calls')
submitted_by calls calls' clock ask outcome result is told =
    subst (λ (r : Result ReqId Answer). Submits (asks_of calls) ask r (asks_of calls')) (sym told)
    (subst (λ (asks : List Asked). Submits (asks_of calls) ask (name_by outcome) asks)
    (sym (ap asks_of is ∙ one_more [] calls (called (call_of (event_at clock (Client ask))) outcome)))
    (submits (asks_of calls) ask (name_by outcome)))

pub collected_by : (calls calls' : List Called) (clock : ℕ) (request : ReqId) (outcome : Outcome) (result : Option Answer)
    → calls' ≡ calls ++ called (optional_call_of (event_at clock (Collect request))) outcome ∷ [] → result ≡ answer_by outcome → IsAwaited (asks_of calls) request
    → Collects (asks_of calls) request result (asks_of calls')
collected_by calls calls' clock request outcome result is told awaited =
    subst (λ (r : Option Answer). Collects (asks_of calls) request r (asks_of calls')) (sym told)
    (subst (λ (asks : List Asked). Collects (asks_of calls) request (answer_by outcome) asks)
    (sym (ap asks_of is ∙ one_more [] calls (called (optional_call_of (event_at clock (Collect request))) outcome)))
    (collects (asks_of calls) request (answer_by outcome) awaited))
