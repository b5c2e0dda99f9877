-- How a call comes to be taken, or refused.
use Rattle.std.proofs.Common.{◌≡◌, ◌≤◌, ℕ, false, Result, Ok, Err, IfOk, IfErr, List, refl, sym, ap, subst, ◌∙◌}
use Rattle.std.specs.Prelude.{IsOkAnd}
use Rattle.cs_base.specs.Faults.{HasRisen}
use Rattle.durable_state.specs.State.{Durable}
use Rattle.peer_messages.specs.declared.event.Event.{Event}
use Rattle.peer_messages.specs.declared.outcome.Outputs.{Outputs}
use Rattle.node_calls.specs.declared.call.NodeCall.{NodeCall}
use Rattle.node_calls.specs.declared.reply.NodeReply.{NodeReply}
use Rattle.node_calls.specs.declared.call.Cause.TheVariants as cause
use Rattle.node_steps.specs.Stops.{remains}
use Rattle.node_core.specs.declared.outcome.Lost.{Lost}
use Rattle.node_core.specs.declared.outcome.StepError.{StepError}
use Rattle.node_core.specs.declared.outcome.StepError.TheVariants.{Failed, NoRoom, TooLarge, NoMemory}
use Rattle.node_core.specs.Nodes.{Halts, HasNoRoom, IsTooLarge}
use Rattle.wired_node.specs.declared.entry.NodeEntry.{NodeEntry}
use Rattle.wired_node.specs.Making.{AfterError, IsFailure, IsTaken, Makes, MakesBy, Refuses, cause_of}
use Rattle.wired_node.specs.States.{Parts}

abbrev pub Told : Type 0
Told = Result Outputs StepError

abbrev pub Answered : Type 0
Answered = Result (NodeEntry × NodeReply) NodeCall

-- ---- the node takes no step

ok_if_err : (r : Answered) (P : NodeEntry × NodeReply → Type 0) (S : NodeCall → Type 0) → IsOkAnd r P → IfErr r S
ok_if_err (Ok x) P S h = tt
ok_if_err (Err back) P S h = absurd h

ok_if_ok : (r : Answered) (P S : NodeEntry × NodeReply → Type 0) → ((x : NodeEntry × NodeReply) → P x → S x) → IsOkAnd r P → IfOk r S
ok_if_ok (Ok x) P S to h = to x h
ok_if_ok (Err back) P S to h = absurd h

-- the entry of a node that stopped
abbrev StopsBy : (honest : Type 0) → ((ℕ → List ℕ) → Durable → Type 0) → Parts → Parts → Lost → Event → Type 0
StopsBy honest stands_for p p' l event = honest → Halts p.core p.durable event (remains l.started l.entries) stands_for p'.disk

pub record IsStopped (honest : Type 0) (stands_for : (ℕ → List ℕ) → Durable → Type 0) (p p' : Parts) (copy : Event) (l : Lost) : Type 0 where
  pub core : p'.core ≡ record p.core { runs = false }
  pub counted : p.faults ≤ p'.faults
  pub cause : HasRisen p.faults p'.faults
  pub halts : honest → Halts p.core p.durable copy (remains l.started l.entries) stands_for p'.disk

stopped : (honest : Type 0) (stands_for : (ℕ → List ℕ) → Durable → Type 0) (p p' : Parts) (call : NodeCall) (copy : Event) (told : Told) (l : Lost) (x : NodeEntry × NodeReply)
    → copy ≡ call.event → told ≡ Err (Failed l) → IsTaken p call → IsStopped honest stands_for p p' copy l → p'.senders ≡ p.senders → p'.answers ≡ p.answers → IsFailure call told x → Makes honest stands_for p x.0 p'
stopped honest stands_for p p' call copy told l x copied is taken stop senders answers failure =
    subst (λ (t : Told). MakesBy honest stands_for p x.0 t p') (sym (failure.told_is ∙ is)) (record {
      taken = subst (λ (c : NodeCall). IsTaken p c) (sym failure.call_is) taken;
      core = stop.core;
      counted = stop.counted;
      cause = stop.cause;
      halts = subst (λ (v : Event). StopsBy honest stands_for p p' l v) (copied ∙ ap (λ (c : NodeCall). c.event) (sym failure.call_is)) stop.halts;
      sent = failure.sent;
      senders = senders;
      answers = answers;
      reply = failure.told_reply ∙ failure.reply;
    })

pub stop_made : (honest : Type 0) (stands_for : (ℕ → List ℕ) → Durable → Type 0) (p p' : Parts) (call : NodeCall) (copy : Event) (told seen : Told) (error : StepError) (r : Answered)
    → copy ≡ call.event → seen ≡ told → told ≡ Err error → IsTaken p call → ((l : Lost) → told ≡ Err (Failed l) → IsStopped honest stands_for p p' copy l) → p'.senders ≡ p.senders → p'.answers ≡ p.answers
    → AfterError call seen (cause_of error) r → IfOk r (λ x. Makes honest stands_for p x.0 p')
stop_made honest stands_for p p' call copy told seen (Failed l) r copied was is taken stop senders answers after =
    ok_if_ok r (IsFailure call seen) _ (λ x failure. stopped honest stands_for p p' call copy seen l x copied (was ∙ is) taken (stop l is) senders answers failure) after
stop_made honest stands_for p p' call copy told seen NoRoom r copied was is taken stop senders answers after = subst (λ (x : Answered). IfOk x (λ y. Makes honest stands_for p y.0 p')) (sym after) tt
stop_made honest stands_for p p' call copy told seen (TooLarge x) r copied was is taken stop senders answers after = subst (λ (x : Answered). IfOk x (λ y. Makes honest stands_for p y.0 p')) (sym after) tt
stop_made honest stands_for p p' call copy told seen NoMemory r copied was is taken stop senders answers after = subst (λ (x : Answered). IfOk x (λ y. Makes honest stands_for p y.0 p')) (sym after) tt

-- why a call comes back that the node did not take
pub refused : (honest : Type 0) (p : Parts) (call : NodeCall) (copy : Event) (told seen : Told) (error : StepError) (r : Answered)
    → copy ≡ call.event → told ≡ Err error → IsTaken p call → (told ≡ Err NoRoom → honest → HasNoRoom p.core p.durable p.log_end copy) → ((x : _) → told ≡ Err (TooLarge x) → honest → IsTooLarge p.core p.durable copy x)
    → AfterError call seen (cause_of error) r → IfErr r (λ back. Refuses honest p call back)
refused honest p call copy told seen (Failed l) r copied is taken no_room too_large after = ok_if_err r (IsFailure call seen) _ after
refused honest p call copy told seen NoRoom r copied is taken no_room too_large after =
    subst (λ (x : Answered). IfErr x (λ back. Refuses honest p call back)) (sym after)
    (cause.NoRoom, refl, (taken, λ h. subst (λ (v : Event). HasNoRoom p.core p.durable p.log_end v) copied (no_room is h)))
refused honest p call copy told seen (TooLarge x) r copied is taken no_room too_large after =
    subst (λ (x : Answered). IfErr x (λ back. Refuses honest p call back)) (sym after)
    (cause.TooLarge, refl, (taken, λ h. (x, subst (λ (v : Event). IsTooLarge p.core p.durable v x) copied (too_large x is h))))
refused honest p call copy told seen NoMemory r copied is taken no_room too_large after =
    subst (λ (x : Answered). IfErr x (λ back. Refuses honest p call back)) (sym after) (cause.NoMemory, refl, taken)
