-- What was submitted behind one call more.
use Rattle.std.proofs.Common.{◌≡◌, Option, Some, None, Result, Ok, Err, List, [], ◌∷◌, ◌++◌, refl, sym, ap, subst, ◌∙◌}
use Rattle.cs_base.specs.declared.ids.ReqId.{ReqId}
use Rattle.peer_messages.specs.declared.event.Ask.{Ask}
use Rattle.client_desk.specs.declared.answer.Answer.{Answer}
use Rattle.client_desk.specs.Asks.{Asked, Submits, IsAwaited, Collects, Answers, with_answer}
use Rattle.step_desk.specs.declared.call.Call.{Call}
use Rattle.step_desk.specs.Desks.{last_answered, with_call, asks_before, asks_after, IsNamedSo}

one_more : (asks : List Asked) (cs : List (Call × Unit {0})) (c : Call × Unit {0}) → asks_before asks (cs ++ c ∷ []) ≡ with_call (asks_before asks cs) c.0.ask.items c.0.request c.0.answer.items
one_more asks [] c = refl
one_more asks (x ∷ xs) c = one_more (with_call asks x.0.ask.items x.0.request x.0.answer.items) xs c

same_call : (asks : List Asked) (xs ys : List (Ask × Unit {0})) (r q : Option ReqId) (us vs : List (Answer × Unit {0})) → xs ≡ ys → r ≡ q → us ≡ vs → with_call asks xs r us ≡ with_call asks ys q vs
same_call asks xs ys r q us vs e f h =
    ap (λ (z : List (Ask × Unit {0})). with_call asks z r us) e
    ∙ ap (λ (z : Option ReqId). with_call asks ys z us) f
    ∙ ap (λ (z : List (Answer × Unit {0})). with_call asks ys q z) h

submits : (calls : List (Call × Unit {0})) (c : Call) (ask : Ask) (named : Result ReqId Answer) → c.ask.items ≡ (ask, tt) ∷ [] → IsNamedSo c.request c.answer.items named → Submits (asks_after calls) ask named (asks_after (calls ++ (c, tt) ∷ []))
submits calls c ask (Ok id) e h = one_more [] calls (c, tt) ∙ same_call (asks_after calls) c.ask.items ((ask, tt) ∷ []) c.request (Some id) c.answer.items [] e h.0 h.1
submits calls c ask (Err a) e h = one_more [] calls (c, tt) ∙ same_call (asks_after calls) c.ask.items ((ask, tt) ∷ []) c.request None c.answer.items ((a, tt) ∷ []) e h.0 h.1

last_is : (front : List Asked) (x : Asked) (a : Answer) → last_answered (front ++ x ∷ []) a ≡ front ++ with_answer x a ∷ []
last_is [] x a = refl
last_is (f ∷ []) x a = refl
last_is (f ∷ g ∷ rest) x a = ap (λ (zs : List Asked). f ∷ zs) (last_is (g ∷ rest) x a)

answers : (calls : List (Call × Unit {0})) (c : Call) (id : ReqId) (a : Answer) → c.ask.items ≡ [] → c.answer.items ≡ (a, tt) ∷ [] → IsAwaited (asks_after calls) id → Answers (asks_after calls) id a (asks_after (calls ++ (c, tt) ∷ []))
answers calls c id a e h (front, x, waits, is) = (
  front,
  x,
  waits,
  is,
  one_more [] calls (c, tt)
      ∙ same_call (asks_after calls) c.ask.items [] c.request c.request c.answer.items ((a, tt) ∷ []) e refl h
      ∙ ap (λ (zs : List Asked). last_answered zs a) is
      ∙ last_is front x a,
)

-- ---- behind a call of a desk that had these

pub submitted : (asks : List Asked) (calls items : List (Call × Unit {0})) (c : Call) (ask : Ask) (asked : List (Ask × Unit {0})) (named : Result ReqId Answer)
    → asks_after calls ≡ asks → items ≡ calls ++ (c, tt) ∷ [] → c.ask.items ≡ asked → asked ≡ (ask, tt) ∷ [] → IsNamedSo c.request c.answer.items named → Submits asks ask named (asks_after items)
submitted asks calls items c ask asked named had more kept is h =
    subst (λ (zs : List (Call × Unit {0})). Submits asks ask named (asks_after zs)) (sym more)
    (subst (λ (xs : List Asked). Submits xs ask named (asks_after (calls ++ (c, tt) ∷ []))) had (submits calls c ask named (kept ∙ is) h))

pub collected : (asks : List Asked) (calls items : List (Call × Unit {0})) (c : Call) (id : ReqId) (a : Answer) (result : Option Answer)
    → asks_after calls ≡ asks → result ≡ Some a → items ≡ calls ++ (c, tt) ∷ [] → c.ask.items ≡ [] → c.answer.items ≡ (a, tt) ∷ [] → IsAwaited asks id → Collects asks id result (asks_after items)
collected asks calls items c id a result had is more none given awaited =
    subst (λ (r : Option Answer). Collects asks id r (asks_after items)) (sym is)
    (subst (λ (zs : List (Call × Unit {0})). Answers asks id a (asks_after zs)) (sym more)
    (subst (λ (xs : List Asked). IsAwaited xs id → Answers xs id a (asks_after (calls ++ (c, tt) ∷ []))) had (answers calls c id a none given) awaited))
