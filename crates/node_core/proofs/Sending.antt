-- What is sent, one after another.
use Rattle.std.proofs.Common.{◌≡◌, ℕ, List, [], ◌++◌, refl, sym, ap, ◌∙◌, map, filter, append-nil}
use Rattle.std.specs.Prelude.{◌==◌, not}
use Rattle.std.proofs.lemmas.List.{map-append, append_assoc}
use Rattle.std.proofs.lemmas.List.Elements.{filter-append}
use Rattle.peer_messages.specs.declared.message.Message.{Message}
use Rattle.peer_messages.specs.declared.outcome.Outbound.{Outbound}
use Rattle.node_steps.specs.Steps.{message_of, messages_of}
use Rattle.node_core.specs.declared.work.Work.{Work}
use Rattle.node_core.specs.Working.{own_sent, IsSent}

pub messages_append : (me time : ℕ) (xs ys : List Outbound) → messages_of me time (xs ++ ys) ≡ messages_of me time xs ++ messages_of me time ys
messages_append me time xs ys = ap (map (message_of me time)) (filter-append (λ x. not (x.upto == me)) xs ys) ∙ map-append (message_of me time) (filter (λ x. not (x.upto == me)) xs) _

pub own_append : (me : ℕ) (xs ys : List Outbound) → own_sent me (xs ++ ys) ≡ own_sent me xs ++ own_sent me ys
own_append me xs ys = filter-append (λ x. x.upto == me) xs ys

pub sent_none : (me : ℕ) (w : Work) → IsSent me [] w w
sent_none me w = record { queue = sym (append-nil w.queue.items); messages = sym (append-nil w.messages); rest = refl }

pub sent_more : (me : ℕ) (xs ys : List Outbound) (w w1 w2 : Work) → IsSent me xs w w1 → IsSent me ys w1 w2 → IsSent me (xs ++ ys) w w2
sent_more me xs ys w w1 w2 first next = record {
  queue = next.queue ∙ ap (λ (q : List Outbound). q ++ own_sent me ys) first.queue ∙ append_assoc w.queue.items (own_sent me xs) (own_sent me ys) ∙ ap (λ (q : List Outbound). w.queue.items ++ q) (sym (own_append me xs ys));
  messages =
      next.messages
      ∙ ap (λ (t : ℕ). w1.messages ++ messages_of me t ys) (ap (λ (x : Work). x.time) first.rest)
      ∙ ap (λ (ms : List Message). ms ++ messages_of me w.time ys) first.messages
      ∙ append_assoc w.messages (messages_of me w.time xs) (messages_of me w.time ys)
      ∙ ap (λ (ms : List Message). w.messages ++ ms) (sym (messages_append me w.time xs ys));
  rest = next.rest ∙ ap (λ (x : Work). let y : Work = record x { queue = w2.queue; messages = w2.messages } in y) first.rest;
}
