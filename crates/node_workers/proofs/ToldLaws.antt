-- Each request is told by the calls of its desk.
use Rattle.std.proofs.Common.{◌≡◌, ℕ, Option, Some, None, Result, Ok, Err, List, [], ◌∷◌, ◌++◌, All, refl, sym, ap, subst, ◌∙◌}
use Rattle.std.specs.Prelude.{Contains}
use Rattle.std.proofs.lemmas.List.Elements.{All-nil, All-push, All-pop, All-same, All-weaker, Contains-append_left, Contains-push}
use Rattle.cs_base.specs.declared.ids.ReqId.{ReqId}
use Rattle.peer_messages.specs.declared.event.Ask.{Ask}
use Rattle.peer_messages.specs.declared.event.What.TheVariants.{Client, Collect}
use Rattle.client_desk.specs.Asks.{Asked, Waits, IsAwaited, with_answer}
use Rattle.client_desk.specs.declared.answer.Answer.{Answer}
use Rattle.node_calls.specs.Calls.{call_of, optional_call_of}
use Rattle.node_workers.specs.Asking.{last_answered, with_found, submitted, asks_of, AreOfDesk, opened, submits, collects}
use Rattle.node_workers.specs.Calls.{Outcome, Called, called, event_at, name_by, answer_by}
use Rattle.node_workers.specs.Told.{IsCollected, GoesOnAs, IsTold}
use Rattle.node_workers.proofs.DeskLaws.{one_more, last_is}

-- ---- a call more changes nothing of what is told

still_collected : (calls : List Called) (c : Called) (request : ReqId) (a : Option Answer) → IsCollected calls request a → IsCollected (calls ++ c ∷ []) request a
still_collected calls c request None h = tt
still_collected calls c request (Some a) (clock, outcome, in_calls, is) = (clock, outcome, Contains-append_left calls (c ∷ []) _ in_calls, is)

still_so : (calls : List Called) (c : Called) (x : Asked) (named : Result ReqId Answer) → GoesOnAs calls x named → GoesOnAs (calls ++ c ∷ []) x named
still_so calls c x (Ok request) h = (h.0, still_collected calls c request x.answer h.1)
still_so calls c x (Err a) h = h

still_told : (calls : List Called) (c : Called) (x : Asked) → IsTold calls x → IsTold (calls ++ c ∷ []) x
still_told calls c x h = record {
  clock = h.clock;
  outcome = h.outcome;
  submitted = Contains-append_left calls (c ∷ []) (called (call_of (event_at h.clock (Client x.ask))) h.outcome) h.submitted;
  goes_on = still_so calls c x (name_by h.outcome) h.goes_on;
}

-- ---- a submission

told_now : (calls : List Called) (clock : ℕ) (ask : Ask) (outcome : Outcome) (named : Result ReqId Answer) → name_by outcome ≡ named
    → IsTold (calls ++ called (call_of (event_at clock (Client ask))) outcome ∷ []) (submitted ask named)
told_now calls clock ask outcome (Ok request) is =
    let all : List Called = calls ++ called (call_of (event_at clock (Client ask))) outcome ∷ [] in
    record {
      clock = clock;
      outcome = outcome;
      submitted = Contains-push calls (called (call_of (event_at clock (Client ask))) outcome);
      goes_on = subst (λ (r : Result ReqId Answer). GoesOnAs all (submitted ask (Ok request)) r) (sym is) (refl, tt);
    }
told_now calls clock ask outcome (Err a) is =
    let all : List Called = calls ++ called (call_of (event_at clock (Client ask))) outcome ∷ [] in
    record {
      clock = clock;
      outcome = outcome;
      submitted = Contains-push calls (called (call_of (event_at clock (Client ask))) outcome);
      goes_on = subst (λ (r : Result ReqId Answer). GoesOnAs all (submitted ask (Err a)) r) (sym is) (refl, refl);
    }

-- ---- a collection

same_name : (a b : ReqId) → Some a ≡ Some b → a ≡ b
same_name a b h = cc

not_answered : (a : Answer) (o : Option Answer) → o ≡ Some a → o ≡ None → ⊥
not_answered a o h k = cc

answered_so : (calls : List Called) (clock : ℕ) (request : ReqId) (outcome : Outcome) (x : Asked) (a : Answer) (named : Result ReqId Answer) → Waits x request → answer_by outcome ≡ Some a → GoesOnAs calls x named
    → GoesOnAs (calls ++ called (optional_call_of (event_at clock (Collect request))) outcome ∷ []) (with_answer x a) named
answered_so calls clock request outcome x a (Ok other) waits is h = (
  h.0,
  (
    clock,
    outcome,
    subst (λ (r : ReqId). Contains (calls ++ called (optional_call_of (event_at clock (Collect request))) outcome ∷ []) (called (optional_call_of (event_at clock (Collect r))) outcome))
        (same_name request other (sym waits.name ∙ h.0)) (Contains-push calls (called (optional_call_of (event_at clock (Collect request))) outcome)),
    is,
  ),
)
answered_so calls clock request outcome x a (Err b) waits is h = absurd (not_answered b x.answer h.1 waits.unanswered)

answered_now : (calls : List Called) (clock : ℕ) (request : ReqId) (outcome : Outcome) (x : Asked) (a : Answer) → Waits x request → answer_by outcome ≡ Some a → IsTold calls x
    → IsTold (calls ++ called (optional_call_of (event_at clock (Collect request))) outcome ∷ []) (with_answer x a)
answered_now calls clock request outcome x a waits is h = record {
  clock = h.clock;
  outcome = h.outcome;
  submitted = Contains-append_left calls (called (optional_call_of (event_at clock (Collect request))) outcome ∷ []) (called (call_of (event_at h.clock (Client x.ask))) h.outcome) h.submitted;
  goes_on = answered_so calls clock request outcome x a (name_by h.outcome) waits is h.goes_on;
}

found : (calls : List Called) (clock : ℕ) (request : ReqId) (outcome : Outcome) (o : Option Answer) → answer_by outcome ≡ o → IsAwaited (asks_of calls) request → All (IsTold calls) (asks_of calls)
    → All (IsTold (calls ++ called (optional_call_of (event_at clock (Collect request))) outcome ∷ [])) (with_found (asks_of calls) o)
found calls clock request outcome None is awaited told =
    let c : Called = called (optional_call_of (event_at clock (Collect request))) outcome in
    All-weaker (IsTold calls) (IsTold (calls ++ c ∷ [])) (still_told calls c) (asks_of calls) told
found calls clock request outcome (Some a) is (front, x, waits, are) told =
    let c : Called = called (optional_call_of (event_at clock (Collect request))) outcome in
    let parts = All-pop (IsTold calls) (asks_of calls) front (Some x) are told in
    All-same (IsTold (calls ++ c ∷ [])) (last_answered (asks_of calls) a) (front ++ with_answer x a ∷ [])
    (ap (λ (zs : List Asked). last_answered zs a) are ∙ last_is front x a)
    (All-push (IsTold (calls ++ c ∷ [])) front (with_answer x a)
    (All-weaker (IsTold calls) (IsTold (calls ++ c ∷ [])) (still_told calls c) front parts.0)
    (answered_now calls clock request outcome x a waits is parts.1))

-- ---- all calls

pub asks_are_told : (gives : ℕ → Type 0) (calls : List Called) → AreOfDesk gives calls → All (IsTold calls) (asks_of calls)
asks_are_told gives _ opened = All-nil (IsTold [])
asks_are_told gives _ (submits calls clock ask outcome h given) =
    let c : Called = called (call_of (event_at clock (Client ask))) outcome in
    All-same (IsTold (calls ++ c ∷ [])) (asks_of (calls ++ c ∷ [])) (asks_of calls ++ submitted ask (name_by outcome) ∷ []) (one_more [] calls c)
    (All-push (IsTold (calls ++ c ∷ [])) (asks_of calls) (submitted ask (name_by outcome))
    (All-weaker (IsTold calls) (IsTold (calls ++ c ∷ [])) (still_told calls c) (asks_of calls) (asks_are_told gives calls h))
    (told_now calls clock ask outcome (name_by outcome) refl))
asks_are_told gives _ (collects calls clock request outcome h given awaited) =
    let c : Called = called (optional_call_of (event_at clock (Collect request))) outcome in
    All-same (IsTold (calls ++ c ∷ [])) (asks_of (calls ++ c ∷ [])) (with_found (asks_of calls) (answer_by outcome)) (one_more [] calls c)
    (found calls clock request outcome (answer_by outcome) refl awaited (asks_are_told gives calls h))
