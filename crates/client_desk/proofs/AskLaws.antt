-- Lists of what was submitted, one call after another.
use Rattle.std.proofs.Common.{◌≡◌, List, [], ◌∷◌, ◌++◌, Option, Some, None, Result, Ok, Err, refl, subst, sym, ◌∙◌}
use Rattle.cs_base.specs.declared.ids.ReqId.{ReqId}
use Rattle.peer_messages.specs.declared.event.Ask.{Ask}
use Rattle.client_desk.specs.declared.answer.Answer.{Answer}
use Rattle.client_desk.specs.Asks.{Asked, Submits, Collects, with_answer}
use Rattle.client_desk.specs.Laws.{Keeps, IsLater, GoesOn, CallsGoOn, AnswersStay}

keeps-same : (answer : Option Answer) → Keeps answer answer
keeps-same None = tt
keeps-same (Some a) = refl

later-same : (x : Asked) → IsLater x x
later-same x = record { ask = refl; request = refl; answer = keeps-same x.answer }

goes_on-append : (xs ys : List Asked) → GoesOn xs (xs ++ ys)
goes_on-append [] ys = tt
goes_on-append (x ∷ xs) ys = (later-same x, goes_on-append xs ys)

goes_on-same : (xs : List Asked) → GoesOn xs xs
goes_on-same [] = tt
goes_on-same (x ∷ xs) = (later-same x, goes_on-same xs)

keeps-none : (before later : Option Answer) → before ≡ None → Keeps before later
keeps-none None later e = tt
keeps-none (Some a) later e = cc

later-answered : (x : Asked) (answer : Answer) → x.answer ≡ None → IsLater x (with_answer x answer)
later-answered x answer e = record { ask = refl; request = refl; answer = keeps-none x.answer (Some answer) e }

goes_on-middle : (front : List Asked) (x y : Asked) (back : List Asked) → IsLater x y → GoesOn (front ++ x ∷ back) (front ++ y ∷ back)
goes_on-middle [] x y back h = (h, goes_on-same back)
goes_on-middle (f ∷ front) x y back h = (later-same f, goes_on-middle front x y back h)

goes_on-submits : (asks asks' : List Asked) (ask : Ask) (answer : Result ReqId Answer) → Submits asks ask answer asks' → GoesOn asks asks'
goes_on-submits asks asks' ask (Ok request) e = let P : List Asked → Type 0 = λ zs. GoesOn asks zs in subst P (sym e) (goes_on-append asks _)
goes_on-submits asks asks' ask (Err answer) e = let P : List Asked → Type 0 = λ zs. GoesOn asks zs in subst P (sym e) (goes_on-append asks _)

goes_on-answer : (asks asks' front : List Asked) (x : Asked) (answer : Answer) → x.answer ≡ None
    → asks ≡ front ++ x ∷ [] → asks' ≡ front ++ with_answer x answer ∷ [] → GoesOn asks asks'
goes_on-answer asks asks' front x answer unanswered e e' =
    let P : List Asked → Type 0 = λ zs. GoesOn zs asks' in
    let Q : List Asked → Type 0 = λ zs. GoesOn (front ++ x ∷ []) zs in
    subst P (sym e) (subst Q (sym e') (goes_on-middle front x (with_answer x answer) [] (later-answered x answer unanswered)))

goes_on-collects : (asks asks' : List Asked) (request : ReqId) (answer : Option Answer) → Collects asks request answer asks' → GoesOn asks asks'
goes_on-collects asks asks' request None e = let P : List Asked → Type 0 = λ zs. GoesOn asks zs in subst P (sym e) (goes_on-same asks)
goes_on-collects asks asks' request (Some answer) (front, x, w, e, e') = goes_on-answer asks asks' front x answer w.unanswered e e'

pub calls_go_on : CallsGoOn
calls_go_on = record { submitted = goes_on-submits; collected = goes_on-collects }

keeps-trans : (a b c : Option Answer) → Keeps a b → Keeps b c → Keeps a c
keeps-trans None b c h k = tt
keeps-trans (Some x) None c h k = cc
keeps-trans (Some x) (Some y) c h k = k ∙ h

later-trans : (x y z : Asked) → IsLater x y → IsLater y z → IsLater x z
later-trans x y z h k =
    record { ask = k.ask ∙ h.ask; request = k.request ∙ h.request; answer = keeps-trans x.answer y.answer z.answer h.answer k.answer }

pub answers_stay : AnswersStay
answers_stay [] b c h k = tt
answers_stay (x ∷ xs) [] c h k = absurd h
answers_stay (x ∷ xs) (y ∷ ys) [] h k = absurd k
answers_stay (x ∷ xs) (y ∷ ys) (z ∷ zs) h k = (later-trans x y z h.0 k.0, answers_stay xs ys zs h.1 k.1)
