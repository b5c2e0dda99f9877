-- What the steps of a history put into the links.
use Rattle.std.proofs.Common.{ℕ, Bool, Option, Result, Ok, Err, List, [], ◌∷◌, sym, subst}
use Rattle.cs_store.specs.Disk.{Disk}
use Rattle.durable_state.specs.State.{Durable}
use Rattle.peer_messages.specs.declared.message.Message.{Message}
use Rattle.peer_messages.specs.declared.outcome.Outputs.{Outputs}
use Rattle.node_core.specs.declared.outcome.StepError.{StepError}
use Rattle.node_core.specs.declared.outcome.StepError.TheVariants.{Failed, NoRoom, TooLarge, NoMemory}
use Rattle.wired_node.specs.declared.entry.NodeEntry.{NodeEntry}
use Rattle.wired_node.specs.declared.senders.NodeSender.{NodeSender}
use Rattle.wired_node.specs.Laws.{MessagesArePut, sent_in}
use Rattle.wired_node.specs.Making.{MakesBy}
use Rattle.wired_node.specs.Sending.{ArePut}
use Rattle.wired_node.specs.States.{Parts, Wiring}
use Rattle.wired_node.proofs.Puts.{are_none, are_on}

put_by_step : (honest : Type 0) (stands_for : (ℕ → List ℕ) → Durable → Type 0) (p : Parts) (e : NodeEntry) (told : Result Outputs StepError) (p' : Parts) → MakesBy honest stands_for p e told p' → ArePut e.sent.items p.senders p'.senders
put_by_step honest stands_for p e (Ok o) p' g = g.senders
put_by_step honest stands_for p e (Err (Failed l)) p' g =
    subst (λ (xs : List (Message × Bool)). ArePut xs p.senders p'.senders) (sym g.sent) (subst (λ (ss : List NodeSender). ArePut [] p.senders ss) (sym g.senders) (are_none p.senders))
put_by_step honest stands_for p e (Err NoRoom) p' g = absurd g
put_by_step honest stands_for p e (Err (TooLarge x)) p' g = absurd g
put_by_step honest stands_for p e (Err NoMemory) p' g = absurd g

module _ {R : Type 0} (honest : Type 0) (stands_for : (ℕ → List ℕ) → Durable → Type 0) (durable : R → Durable) (log_end : R → ℕ) (since_flush : R → Option ℕ) (disk : R → Disk) (faults : R → ℕ) where
  pub all_put : MessagesArePut honest stands_for durable log_end since_flush disk faults
  all_put start now [] same = subst (λ (w : Wiring R). ArePut [] start.senders w.senders) same (are_none start.senders)
  all_put start now (x ∷ xs) (next, step, rest) =
      are_on x.1.sent.items (sent_in xs) start.senders next.senders now.senders (put_by_step honest stands_for _ x.1 x.1.told.value _ step) (all_put next now xs rest)
