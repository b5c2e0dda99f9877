-- What was asked of a desk, and answered.
use Rattle.std.proofs.Common.{◌≡◌, inl, inr, Bool, IsTrue, List, [], ◌∷◌, ◌++◌, Option, Some, None, Result, Ok, Err, refl, sym, ◌∙◌, ap, subst}
use Rattle.std.specs.declared.alloc.AllocError.{AllocError}
use Rattle.std.proofs.lemmas.List.{same_from_push}
use Rattle.cs_base.specs.declared.ids.ReqId.{ReqId}
use Rattle.client_desk.specs.Asks.{Asked, named, answered_at_once, Submits, Waits, IsAwaited, Answers, Collects, with_answer}
use Rattle.client_desk.specs.declared.answer.Answer.{Answer}
use Rattle.frame_v4.specs.declared.frame.Frame.{Frame}
use Rattle.peer_messages.specs.declared.event.Ask.{Ask}
use Rattle.response_bodies.specs.declared.response.Response.{Response}
use Rattle.session_v4.specs.Sessions.{State, IsDue}
use Rattle.session_v4.specs.declared.act.Act.TheVariants as acts
use Rattle.serve_loop.specs.Steps.{AsksOnce, AsksAndTells, Tells, TellsIfAny, Finds, IsFound, at_answer}

-- a request that has just been named waits
pub awaited : (before mid : List Asked) (ask : Ask) (request : ReqId) → Submits before ask (Ok request) mid → IsAwaited mid request
awaited before mid ask request submitted = (before, named ask request, record { name = refl; unanswered = refl }, submitted)

-- what was asked for it is the request, with the answer that was collected if there was one
pub answered_later : (before mid after : List Asked) (ask : Ask) (request : ReqId) (answer : Option Answer) → Submits before ask (Ok request) mid → Collects mid request answer after → AsksOnce before after ask answer
answered_later before mid after ask request None submitted same = record { asked = named ask request; is_ask = refl; is_answer = refl; is_after = same ∙ submitted }
answered_later before mid after ask request (Some answer) submitted (front, x, waits, is, is') =
    let same = same_from_push front before x (named ask request) (sym is ∙ submitted) in
    record {
      asked = with_answer x answer;
      is_ask = ap (λ (y : Asked). y.ask) same.1;
      is_answer = refl;
      is_after = is' ∙ ap (λ (zs : List Asked). zs ++ with_answer x answer ∷ []) same.0;
    }

pub answered_now : (before after : List Asked) (ask : Ask) (answer : Answer) → Submits before ask (Err answer) after → AsksOnce before after ask (Some answer)
answered_now before after ask answer submitted = record { asked = answered_at_once ask answer; is_ask = refl; is_answer = refl; is_after = submitted }

-- ---- what was found by a desk

due_as : (s : State) (f : Frame) (a b : Ask) (waiting : State) → b ≡ a → IsDue s f (acts.Submit a) waiting → IsDue s f (acts.Submit b) waiting
due_as s f a b waiting e due = let P : Ask → Type 0 = λ x. IsDue s f (acts.Submit x) waiting in subst P (sym e) due

found_as : (s : State) (f : Frame) (ask : Ask) (raised : Bool) (waiting s' : State) (x : Asked) (answer : Answer) (told : Result (Option Response) AllocError)
    → IsDue s f (acts.Submit ask) waiting → x.ask ≡ ask → x.answer ≡ Some answer → Tells waiting answer told s' → IsFound s f raised told (x ∷ []) s'
found_as s f ask raised waiting s' x answer (Ok (Some r)) due is answered tells =
    inr (record { waiting = waiting; ask = x; answer = answer; due = due_as s f ask x.ask waiting is due; is_asked = refl; answered = answered; runs = tells.0; told = tells.1 })
found_as s f ask raised waiting s' x answer (Ok None) due is answered tells =
    inl (record { waiting = waiting; ask = x; due = due_as s f ask x.ask waiting is due; is_asked = refl; answered = answered ∙ ap (λ (a : Answer). Some a) tells })
found_as s f ask raised waiting s' x answer (Err e) due is answered tells = at_answer waiting x (due_as s f ask x.ask waiting is due) refl

-- there was no answer when the sign was raised
found_none : (s : State) (f : Frame) (ask : Ask) (raised : Bool) (waiting s' : State) (x : Asked) (told : Result (Option Response) AllocError)
    → IsDue s f (acts.Submit ask) waiting → x.ask ≡ ask → x.answer ≡ None → (told ≡ Ok None) × IsTrue raised → IsFound s f raised told (x ∷ []) s'
found_none s f ask raised waiting s' x told due is unanswered tells =
    let P : Result (Option Response) AllocError → Type 0 = λ t. IsFound s f raised t (x ∷ []) s' in
    subst P (sym tells.0) (inr (record { waiting = waiting; ask = x; due = due_as s f ask x.ask waiting is due; is_asked = refl; answered = unanswered }, tells.1))

found_if_any : (s : State) (f : Frame) (ask : Ask) (raised : Bool) (waiting s' : State) (x : Asked) (answer : Option Answer) (told : Result (Option Response) AllocError)
    → IsDue s f (acts.Submit ask) waiting → x.ask ≡ ask → x.answer ≡ answer → TellsIfAny waiting raised answer told s' → IsFound s f raised told (x ∷ []) s'
found_if_any s f ask raised waiting s' x None told due is answered tells = found_none s f ask raised waiting s' x told due is answered tells
found_if_any s f ask raised waiting s' x (Some answer) told due is answered tells = found_as s f ask raised waiting s' x answer told due is answered tells

pub found_by_desk : (before after : List Asked) (s : State) (f : Frame) (ask : Ask) (raised : Bool) (waiting s' : State) (told : Result (Option Response) AllocError)
    → IsDue s f (acts.Submit ask) waiting → AsksAndTells before after ask waiting raised told s' → Finds before after s f raised told s'
found_by_desk before after s f ask raised waiting s' told due h = record {
  asked = h.asks.asked ∷ [];
  is_after = h.asks.is_after;
  is_found = found_if_any s f ask raised waiting s' h.asks.asked h.answer told due h.asks.is_ask h.asks.is_answer h.tells;
}

-- the answer of the last request
pub answers_last : (asks asks' rest : List Asked) (x : Asked) (request : ReqId) (answer : Answer) → IsAwaited asks request → asks ≡ rest ++ x ∷ [] → asks' ≡ rest ++ with_answer x answer ∷ [] → Answers asks request answer asks'
answers_last asks asks' rest x request answer (front, y, waits, e) is is' =
    let same = same_from_push front rest y x (sym e ∙ is) in
    let P : Asked → Type 0 = λ z. Waits z request in (rest, x, subst P same.1 waits, is, is')
