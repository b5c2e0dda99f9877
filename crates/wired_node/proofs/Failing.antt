-- What the faults of a node's store tell of a history.
use Rattle.std.proofs.Common.{◌≡◌, ◌≤◌, ℕ, inl, inr, Bool, true, false, Option, Result, Ok, Err, List, [], ◌∷◌, refl, sym, ap, subst, ◌∙◌, arith}
use Rattle.std.proofs.lemmas.Bool.{cases_lt, true≢false}
use Rattle.std.specs.List.{AllByRecursion}
use Rattle.cs_base.specs.Faults.{HasRisen}
use Rattle.cs_store.specs.Disk.{Disk}
use Rattle.durable_state.specs.State.{Durable}
use Rattle.peer_messages.specs.declared.outcome.Outputs.{Outputs}
use Rattle.node_core.specs.declared.outcome.StepError.{StepError}
use Rattle.node_core.specs.declared.outcome.StepError.TheVariants.{Failed, NoRoom, TooLarge, NoMemory}
use Rattle.node_lock.specs.Histories.{Replays}
use Rattle.wired_node.specs.declared.entry.NodeEntry.{NodeEntry}
use Rattle.wired_node.specs.Laws.{FailuresAreCounted, HasGone}
use Rattle.wired_node.specs.Making.{MakesBy, MakesIn, IsTaken}
use Rattle.wired_node.specs.States.{Parts, Wiring, parts_of}

no_fewer : (a b c : ℕ) → a ≤ b → b ≤ c → a ≤ c
no_fewer a b c p q = omega arith

risen_before : (a b c : ℕ) → a ≤ b → b ≤ c → HasRisen b c → HasRisen a c
risen_before a b c p q (inl h) = inl (omega arith)
risen_before a b c p q (inr h) = elim (cases_lt a c) [ inl less ↦ inl less | inr not_less ↦ inr (omega arith) ]

runs_not : (runs : Bool) → runs ≡ true → runs ≡ false → ⊥
runs_not runs on off = true≢false (sym on ∙ off)

-- what a step says of the node's going on
record Counts (p : Parts) (e : NodeEntry) (p' : Parts) : Type 0 where
  ran : p.core.runs ≡ true
  counted : p.faults ≤ p'.faults
  cause : p'.core.runs ≡ false → HasRisen p.faults p'.faults
  gone : p'.core.runs ≡ true → e.reply.value.failed ≡ false

counts : (honest : Type 0) (stands_for : (ℕ → List ℕ) → Durable → Type 0) (p : Parts) (e : NodeEntry) (told : Result Outputs StepError) (p' : Parts) → MakesBy honest stands_for p e told p' → Counts p e p'
counts honest stands_for p e (Ok o) p' g = record {
  ran = g.taken.runs;
  counted = g.counted;
  cause = λ stopped. absurd (runs_not p'.core.runs g.runs stopped);
  gone = λ runs. ap (λ r. r.failed) g.reply;
}
counts honest stands_for p e (Err (Failed l)) p' g = record {
  ran = g.taken.runs;
  counted = g.counted;
  cause = λ stopped. g.cause;
  gone = λ runs. absurd (runs_not p'.core.runs runs (ap (λ c. c.runs) g.core));
}
counts honest stands_for p e (Err NoRoom) p' g = absurd g
counts honest stands_for p e (Err (TooLarge x)) p' g = absurd g
counts honest stands_for p e (Err NoMemory) p' g = absurd g

module _ {R : Type 0} (honest : Type 0) (stands_for : (ℕ → List ℕ) → Durable → Type 0) (durable : R → Durable) (log_end : R → ℕ) (since_flush : R → Option ℕ) (disk : R → Disk) (faults : R → ℕ) where
  -- a node that does not run makes no step
  no_more : (start now : Wiring R) (history : List (ℕ × NodeEntry)) → Replays (MakesIn honest stands_for durable log_end since_flush disk faults) start history now → start.core.runs ≡ false
      → (history ≡ []) × (start ≡ now)
  no_more start now [] same stopped = (refl, same)
  no_more start now (x ∷ xs) (next, step, rest) stopped = absurd (runs_not start.core.runs (counts honest stands_for _ x.1 x.1.told.value _ step).ran stopped)

  -- what is so of a history
  abbrev AreCounted : Wiring R → Wiring R → List (ℕ × NodeEntry) → Type 0
  AreCounted start now history =
      (faults start.replica ≤ faults now.replica)
      × (now.core.runs ≡ false → HasRisen (faults start.replica) (faults now.replica))
      × (now.core.runs ≡ true → AllByRecursion HasGone history)

  abbrev parts : Wiring R → Parts
  parts w = parts_of durable log_end since_flush disk faults w

  one_more : (start next now : Wiring R) (x : ℕ × NodeEntry) (xs : List (ℕ × NodeEntry)) → Counts (parts start) x.1 (parts next)
      → Replays (MakesIn honest stands_for durable log_end since_flush disk faults) next xs now → (next.core.runs ≡ true → AreCounted next now xs)
      → (on : Bool) → next.core.runs ≡ on → AreCounted start now (x ∷ xs)
  one_more start next now x xs first rest more true is =
      let behind = more is in (
        no_fewer (faults start.replica) (faults next.replica) (faults now.replica) first.counted behind.0,
        (λ stopped. risen_before (faults start.replica) (faults next.replica) (faults now.replica) first.counted behind.0 (behind.1 stopped)),
        (λ on. (first.gone is, behind.2 on)),
      )
  one_more start next now x xs first rest more false is =
      let none = no_more next now xs rest is in (
        subst (λ (w : Wiring R). faults start.replica ≤ faults w.replica) none.1 first.counted,
        (λ stopped. subst (λ (w : Wiring R). HasRisen (faults start.replica) (faults w.replica)) none.1 (first.cause is)),
        (λ on. absurd (runs_not now.core.runs on (subst (λ (w : Wiring R). w.core.runs ≡ false) none.1 is))),
      )

  pub all_counted : FailuresAreCounted honest stands_for durable log_end since_flush disk faults
  all_counted start now [] same runs = (
    subst (λ (w : Wiring R). faults start.replica ≤ faults w.replica) same (omega arith),
    (λ stopped. absurd (runs_not now.core.runs (subst (λ (w : Wiring R). w.core.runs ≡ true) same runs) stopped)),
    (λ on. tt),
  )
  all_counted start now (x ∷ xs) (next, step, rest) runs =
      one_more start next now x xs (counts honest stands_for (parts start) x.1 x.1.told.value (parts next) step) rest (λ is. all_counted next now xs rest is) next.core.runs refl
