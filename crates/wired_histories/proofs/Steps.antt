-- A history in which nothing failed is one of steps.
use Rattle.std.proofs.Common.{◌≡◌, ℕ, suc, true, false, Option, Result, Ok, Err, List, [], ◌∷◌, ◌++◌, length, refl, sym, ap, subst, ◌∙◌}
use Rattle.cs_store.specs.Disk.{Disk}
use Rattle.durable_state.specs.State.{Durable}
use Rattle.peer_messages.specs.declared.outcome.Outputs.{Outputs}
use Rattle.peer_messages.specs.declared.setting.Setting.{Setting}
use Rattle.node_core.specs.Nodes.{Core, Steps}
use Rattle.node_core.specs.declared.outcome.StepError.{StepError}
use Rattle.node_core.specs.declared.outcome.StepError.TheVariants.{Failed, NoRoom, TooLarge, NoMemory}
use Rattle.node_calls.specs.declared.reply.NodeReply.{NodeReply}
use Rattle.lawful_orders.specs.Histories.{Taken, StepsThrough}
use Rattle.wired_node.specs.declared.entry.NodeEntry.{NodeEntry}
use Rattle.wired_node.specs.Laws.{FailuresAreCounted}
use Rattle.wired_node.specs.Making.{MakesBy}
use Rattle.wired_node.specs.States.{Parts, Wiring, parts_of}
use Rattle.wired_histories.specs.Told.{node_state, taken_in, told_as}
use Rattle.wired_histories.specs.Laws.{HistoriesAreSteps, IsThrough, RunningHistoriesAreSteps}

true_false : true ≡ false → ⊥
true_false e = cc

-- a step that was made
record IsStep (p : Parts) (e : NodeEntry) (told : Result Outputs StepError) (p' : Parts) : Type 0 where
  outputs : Outputs
  is : told ≡ Ok outputs
  steps : Steps p.core p.durable e.call.event outputs p'.core p'.durable
  runs : p'.core.runs ≡ p.core.runs

is_step : (honest : Type 0) (stands_for : (ℕ → List ℕ) → Durable → Type 0) (p : Parts) (e : NodeEntry) (told : Result Outputs StepError) (p' : Parts) → honest → MakesBy honest stands_for p e told p' → e.reply.value.failed ≡ false → IsStep p e told p'
is_step honest stands_for p e (Ok o) p' h g gone = record { outputs = o; is = refl; steps = g.steps h; runs = g.runs ∙ sym g.taken.runs }
is_step honest stands_for p e (Err (Failed l)) p' h g gone = absurd (true_false (sym (ap (λ (r : NodeReply). r.failed) g.reply) ∙ gone))
is_step honest stands_for p e (Err NoRoom) p' h g gone = absurd g
is_step honest stands_for p e (Err (TooLarge x)) p' h g gone = absurd g
is_step honest stands_for p e (Err NoMemory) p' h g gone = absurd g

module _ {R : Type 0} (honest : Type 0) (stands_for : (ℕ → List ℕ) → Durable → Type 0) (durable : R → Durable) (log_end : R → ℕ) (since_flush : R → Option ℕ) (disk : R → Disk) (faults : R → ℕ) where
  abbrev parts : Wiring R → Parts
  parts w = parts_of durable log_end since_flush disk faults w

  one_more : (start next now : Wiring R) (x : ℕ × NodeEntry) (xs : List (ℕ × NodeEntry)) → IsStep (parts start) x.1 x.1.told.value (parts next) → IsThrough durable next now xs → IsThrough durable start now (x ∷ xs)
  one_more start next now x xs step rest =
      let setting : next.core.setting ≡ start.core.setting = ap (λ (n : Core). n.setting) step.steps.stays in
      let me : next.core.me ≡ start.core.me = ap (λ (n : Core). n.me) step.steps.stays in
      let taken : taken_in (x ∷ xs) ≡ record { event = x.1.call.event; outputs = step.outputs } ∷ taken_in xs = ap (λ (told : Result Outputs StepError). told_as x.1.call.event told ++ taken_in xs) step.is in
      let more : StepsThrough start.core.setting start.core.me (node_state durable next) (taken_in xs) (node_state durable now) =
      subst (λ (k : ℕ). StepsThrough start.core.setting k (node_state durable next) (taken_in xs) (node_state durable now)) me
      (subst (λ (c : Setting). StepsThrough c next.core.me (node_state durable next) (taken_in xs) (node_state durable now)) setting rest.steps) in
      record {
        steps = subst (λ (ts : List Taken). StepsThrough start.core.setting start.core.me (node_state durable start) ts (node_state durable now)) (sym taken) (step.steps.deeds, node_state durable next, step.steps.step, more);
        whole = ap (λ (ts : List Taken). length ts) taken ∙ ap suc rest.whole;
        setting = rest.setting ∙ setting;
        me = rest.me ∙ me;
        runs = rest.runs ∙ step.runs;
      }

  pub all_steps : HistoriesAreSteps honest stands_for durable log_end since_flush disk faults
  all_steps start now [] same h gone = subst (λ (w : Wiring R). IsThrough durable start w []) same (record { steps = refl; whole = refl; setting = refl; me = refl; runs = refl })
  all_steps start now (x ∷ xs) (next, step, rest) h gone =
      one_more start next now x xs (is_step honest stands_for (parts start) x.1 x.1.told.value (parts next) h step gone.0) (all_steps next now xs rest h gone.1)

  pub running_steps : FailuresAreCounted honest stands_for durable log_end since_flush disk faults → RunningHistoriesAreSteps honest stands_for durable log_end since_flush disk faults
  running_steps counted start now history replays h ran runs = all_steps start now history replays h ((counted start now history replays ran).2 runs)
