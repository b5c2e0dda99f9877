-- What workers have done, and do next.
use Rattle.std.proofs.Common.{◌≡◌, ℕ, ◌<◌, Bool, Option, Some, List, [], ◌∷◌, ◌++◌, length, map, All, refl, sym, ap, subst, ◌∙◌}
use Rattle.std.proofs.lemmas.List.{map-append}
use Rattle.std.proofs.lemmas.List.Elements.{All-nil, All-cons, All-append}
use Rattle.peer_messages.specs.declared.event.What.{What}
use Rattle.peer_messages.specs.declared.message.Message.{Message}
use Rattle.node_calls.specs.Calls.{optional_call_of}
use Rattle.node_calls.specs.declared.call.NodeCall.{NodeCall}
use Rattle.node_calls.specs.declared.reply.NodeReply.{NodeReply}
use Rattle.node_links.specs.declared.ends.Receiver.{Receiver}
use Rattle.node_lock.specs.Views.{PassView}
use Rattle.node_workers.specs.Calls.{Called, called, event_at}
use Rattle.node_workers.specs.Chains.{Makes}
use Rattle.node_workers.specs.Chains as chain
use Rattle.node_workers.specs.Deliveries.{Delivery, delivery, taken_in, call_in, end_in, DeliversOne, Delivers}
use Rattle.node_workers.specs.Endings.{well, ended_by, AreWell}
use Rattle.node_workers.specs.Repeating.{clock_in, IsTimely, IsDue, AreDue, last_in, failed_as, end_of, CallsFor, RepeatsFrom}
use Rattle.node_workers.specs.Taking.{Take}
use Rattle.node_workers.specs.declared.ended.Ended.{Ended}
use Rattle.node_workers.proofs.CallChains.{makes_one, makes_then}
use Rattle.node_workers.proofs.LinkTakes.{takes_then, takes-length}

module _ {A : Type 0} (end_of : A → Ended) where
  ended_then : (xs ys : List A) → ended_by end_of xs ≡ well → ended_by end_of (xs ++ ys) ≡ ended_by end_of ys
  ended_then [] ys h = refl
  ended_then (x ∷ []) [] h = h
  ended_then (x ∷ []) (y ∷ ys) h = refl
  ended_then (x ∷ x' ∷ xs) ys h = ended_then (x' ∷ xs) ys h

  well_then : (xs ys : List A) → ended_by end_of xs ≡ well → AreWell end_of xs → AreWell end_of ys → AreWell end_of (xs ++ ys)
  well_then [] ys h a b = b
  well_then (x ∷ []) [] h a b = tt
  well_then (x ∷ []) (y ∷ ys) h a b = (h, b)
  well_then (x ∷ x' ∷ xs) ys h a b = (a.0, well_then (x' ∷ xs) ys h a.1 b)

module _ {S E : Type 0} (steps : S → E → S → Type 0) (event_of : E → NodeCall) (reply_of : E → NodeReply) (refuses : S → NodeCall → NodeCall → Type 0) (start : S) (gives : ℕ → Type 0) where
  pub delivers_none : (rs rs' : List (Receiver Message)) (v : PassView E) → Take rs [] rs' → Delivers steps event_of reply_of refuses start gives rs v rs' v well
  delivers_none rs rs' v takes = record { deliveries = []; links = takes; places = All-nil (λ (d : Delivery). d.place < length rs); times = All-nil (λ (d : Delivery). gives d.clock); made = chain.none; going = tt; ended_is = refl }

  pub delivers_one : (rs rs' : List (Receiver Message)) (v w : PassView E) (place : ℕ) (message : Message) (ended : Ended)
      → Take rs ((place, message) ∷ []) rs' → place < length rs → DeliversOne steps event_of reply_of refuses start gives message v w ended
      → Delivers steps event_of reply_of refuses start gives rs v rs' w ended
  delivers_one rs rs' v w place message ended takes within one = record {
    deliveries = delivery place message one.clock one.outcome ∷ [];
    links = takes;
    places = All-cons (λ (d : Delivery). d.place < length rs) (delivery place message one.clock one.outcome) [] within (All-nil (λ (d : Delivery). d.place < length rs));
    times = All-cons (λ (d : Delivery). gives d.clock) (delivery place message one.clock one.outcome) [] one.given (All-nil (λ (d : Delivery). gives d.clock));
    made = makes_one steps event_of reply_of refuses start v w _ one.outcome one.pass one.comes;
    going = tt;
    ended_is = one.ended_is;
  }

  pub delivers_then : (rs ss ts : List (Receiver Message)) (v w x : PassView E) (ended : Ended)
      → Delivers steps event_of reply_of refuses start gives rs v ss w well → Delivers steps event_of reply_of refuses start gives ss w ts x ended
      → Delivers steps event_of reply_of refuses start gives rs v ts x ended
  delivers_then rs ss ts v w x ended a b = record {
    deliveries = a.deliveries ++ b.deliveries;
    links =
        subst (λ (zs : List (ℕ × Message)). Take rs zs ts) (sym (map-append taken_in a.deliveries b.deliveries))
        (takes_then 0 rs ss ts (map taken_in a.deliveries) (map taken_in b.deliveries) a.links b.links);
    places =
        All-append (λ (d : Delivery). d.place < length rs) a.deliveries b.deliveries a.places
        (subst (λ (n : ℕ). All (λ (d : Delivery). d.place < n) b.deliveries) (takes-length 0 rs ss (map taken_in a.deliveries) a.links) b.places);
    times = All-append (λ (d : Delivery). gives d.clock) a.deliveries b.deliveries a.times b.times;
    made =
        subst (λ (cs : List Called). Makes steps event_of reply_of refuses start v cs x) (sym (map-append call_in a.deliveries b.deliveries))
        (makes_then steps event_of reply_of refuses start v w x (map call_in a.deliveries) (map call_in b.deliveries) a.made b.made);
    going = well_then end_in a.deliveries b.deliveries (sym a.ended_is) a.going b.going;
    ended_is = b.ended_is ∙ sym (ended_then end_in a.deliveries b.deliveries (sym a.ended_is));
  }

-- ---- calls again and again

due_then : (last : Option ℕ) (xs ys : List Called) → AreDue last xs → AreDue (last_in last xs) ys → AreDue last (xs ++ ys)
due_then last [] ys a b = b
due_then last (x ∷ xs) ys a b = (a.0, due_then (Some (clock_in x)) xs ys a.1 b)

last_then : (last : Option ℕ) (xs ys : List Called) → last_in last (xs ++ ys) ≡ last_in (last_in last xs) ys
last_then last [] ys = refl
last_then last (x ∷ xs) ys = last_then (Some (clock_in x)) xs ys

module _ {S E : Type 0} (steps : S → E → S → Type 0) (event_of : E → NodeCall) (reply_of : E → NodeReply) (refuses : S → NodeCall → NodeCall → Type 0) (start : S) (gives : ℕ → Type 0) (what : What) where
  pub repeats_none : (last : Option ℕ) (v : PassView E) → RepeatsFrom steps event_of reply_of refuses start gives what last v last v well
  repeats_none last v = record { calls = []; each = All-nil (IsTimely gives what); due = tt; last_is = refl; made = chain.none; going = tt; ended_is = refl }

  pub repeats_one : (last last' : Option ℕ) (v w : PassView E) (clock : ℕ) (failed : Bool) → gives clock → IsDue last clock → last' ≡ Some clock
      → CallsFor steps event_of reply_of refuses start what clock v w failed → RepeatsFrom steps event_of reply_of refuses start gives what last v last' w (failed_as failed)
  repeats_one last last' v w clock failed given due is one = record {
    calls = called (optional_call_of (event_at clock what)) one.outcome ∷ [];
    each = All-cons (IsTimely gives what) (called (optional_call_of (event_at clock what)) one.outcome) [] (given, refl) (All-nil (IsTimely gives what));
    due = (due, tt);
    last_is = is;
    made = makes_one steps event_of reply_of refuses start v w _ one.outcome one.pass one.comes;
    going = tt;
    ended_is = ap failed_as one.failed_is;
  }

  pub repeats_then : (a b d : Option ℕ) (v w x : PassView E) (ended : Ended)
      → RepeatsFrom steps event_of reply_of refuses start gives what a v b w well → RepeatsFrom steps event_of reply_of refuses start gives what b w d x ended
      → RepeatsFrom steps event_of reply_of refuses start gives what a v d x ended
  repeats_then a b d v w x ended h k = record {
    calls = h.calls ++ k.calls;
    each = All-append (IsTimely gives what) h.calls k.calls h.each k.each;
    due = due_then a h.calls k.calls h.due (subst (λ (t : Option ℕ). AreDue t k.calls) h.last_is k.due);
    last_is = k.last_is ∙ ap (λ (t : Option ℕ). last_in t k.calls) h.last_is ∙ sym (last_then a h.calls k.calls);
    made = makes_then steps event_of reply_of refuses start v w x h.calls k.calls h.made k.made;
    going = well_then end_of h.calls k.calls (sym h.ended_is) h.going k.going;
    ended_is = k.ended_is ∙ sym (ended_then end_of h.calls k.calls (sym h.ended_is));
  }
