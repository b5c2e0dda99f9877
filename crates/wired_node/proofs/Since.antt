-- What is so of a replica as it stands now is so of it as the last step left it.
use Rattle.std.proofs.Common.{◌≡◌, ◌≤◌, ℕ, inl, inr, true, Option, Result, Ok, Err, IfOk, List, refl, sym, subst, arith}
use Rattle.std.specs.Prelude.{is_ok}
use Rattle.std.proofs.lemmas.Bool.{cases_lt}
use Rattle.cs_base.specs.Faults.{HasRisen}
use Rattle.cs_store.specs.Disk.{Disk}
use Rattle.durable_state.specs.State.{Durable}
use Rattle.peer_messages.specs.declared.chronicle.Entry.{Entry}
use Rattle.peer_messages.specs.declared.event.Event.{Event}
use Rattle.peer_messages.specs.declared.outcome.Outputs.{Outputs}
use Rattle.node_calls.specs.declared.call.Cause.{Cause}
use Rattle.node_calls.specs.declared.call.Cause.TheVariants as cause
use Rattle.node_calls.specs.declared.call.NodeCall.{NodeCall}
use Rattle.node_calls.specs.declared.reply.NodeReply.{NodeReply}
use Rattle.node_steps.specs.Stops.{remains}
use Rattle.node_core.specs.declared.outcome.Lost.{Lost}
use Rattle.node_core.specs.declared.outcome.StepError.{StepError}
use Rattle.node_core.specs.declared.outcome.StepError.TheVariants.{Failed, NoRoom, TooLarge, NoMemory}
use Rattle.node_core.specs.Nodes.{Core, Halts, HasNoRoom, HasRoom, IsTooLarge, Steps, WouldKeep}
use Rattle.wired_node.specs.declared.entry.NodeEntry.{NodeEntry}
use Rattle.wired_node.specs.declared.senders.NodeSender.{NodeSender}
use Rattle.wired_node.specs.Making.{Goes, HasNothing, IsCause, IsNothing, IsTaken, Makes, MakesBy, MakesIn, Refuses, Stops, call_in, reply_in}
use Rattle.wired_node.specs.States.{IsSince, Parts, Wiring, parts_with}

-- the same node, whose replica shows this
abbrev pub showing : Parts → Durable → ℕ → Option ℕ → Disk → ℕ → Parts
showing q d log_end since_flush disk faults = record q { durable = d; log_end = log_end; since_flush = since_flush; disk = disk; faults = faults }

no_fewer : (before mid now : ℕ) → before ≤ mid → mid ≤ now → before ≤ now
no_fewer before mid now p r = omega arith

-- behind calls that were refused
pub record IsStill (honest : Type 0) (q : Parts) (d : Durable) (log_end : ℕ) (since_flush : Option ℕ) (count : ℕ) : Type 0 where
  pub durable : q.core.runs ≡ true → honest → d ≡ q.durable
  pub log : q.core.runs ≡ true → (log_end ≡ q.log_end) × (since_flush ≡ q.since_flush)
  pub faults : q.faults ≤ count

module _ (honest : Type 0) (q : Parts) (d : Durable) (log_end : ℕ) (since_flush : Option ℕ) (disk : Disk) (faults : ℕ) where
  taken_since : (call : NodeCall) → IsStill honest q d log_end since_flush faults → IsTaken (showing q d log_end since_flush disk faults) call → IsTaken q call
  taken_since call still t = record {
    runs = t.runs;
    matter = λ optional nothing. t.matter optional (nothing_now (still.log t.runs) nothing);
  }
    where
      nothing_now : (log_end ≡ q.log_end) × (since_flush ≡ q.since_flush) → IsNothing q call.event → IsNothing (showing q d log_end since_flush disk faults) call.event
      nothing_now same nothing =
          subst (λ (n : ℕ). HasNothing q.core n since_flush q.answers call.event.clock call.event.what) (sym same.0)
          (subst (λ (f : Option ℕ). HasNothing q.core q.log_end f q.answers call.event.clock call.event.what) (sym same.1) nothing)

  nothing_since : (event : Event) → q.core.runs ≡ true → IsStill honest q d log_end since_flush faults → IsNothing (showing q d log_end since_flush disk faults) event → IsNothing q event
  nothing_since event runs still nothing =
      let same = still.log runs in
      subst (λ (n : ℕ). HasNothing q.core n q.since_flush q.answers event.clock event.what) same.0
      (subst (λ (f : Option ℕ). HasNothing q.core log_end f q.answers event.clock event.what) same.1 nothing)

  goes_since : (e : NodeEntry) (o : Outputs) (p' : Parts) → IsStill honest q d log_end since_flush faults → Goes honest (showing q d log_end since_flush disk faults) e o p' → Goes honest q e o p'
  goes_since e o p' still g = record {
    taken = taken_since e.call still g.taken;
    runs = g.runs;
    counted = no_fewer q.faults faults p'.faults still.faults g.counted;
    steps = λ is. subst (λ (x : Durable). Steps q.core x e.call.event o p'.core p'.durable) (still.durable g.taken.runs is) (g.steps is);
    within = g.within;
    room = λ is. subst (λ (n : ℕ). WouldKeep q.core q.durable e.call.event (HasRoom n q.durable)) (still.log g.taken.runs).0
        (subst (λ (x : Durable). WouldKeep q.core x e.call.event (HasRoom log_end x)) (still.durable g.taken.runs is) (g.room is));
    sent = g.sent;
    senders = g.senders;
    unlinked = g.unlinked;
    answers = g.answers;
    reply = g.reply;
  }

  stops_since : (stands_for : (ℕ → List ℕ) → Durable → Type 0) (e : NodeEntry) (l : Lost) (p' : Parts) → IsStill honest q d log_end since_flush faults → faults ≤ p'.faults → Stops honest stands_for (showing q d log_end since_flush disk faults) e l p' → Stops honest stands_for q e l p'
  stops_since stands_for e l p' still on g = record {
    taken = taken_since e.call still g.taken;
    core = g.core;
    counted = no_fewer q.faults faults p'.faults still.faults g.counted;
    cause = risen_since q.faults faults p'.faults still.faults on g.cause;
    halts = λ is. subst (λ (x : Durable). Halts q.core x e.call.event (remains l.started l.entries) stands_for p'.disk) (still.durable g.taken.runs is) (g.halts is);
    sent = g.sent;
    senders = g.senders;
    answers = g.answers;
    reply = g.reply;
  }
    where
      risen_since : (before mid now : ℕ) → before ≤ mid → mid ≤ now → HasRisen mid now → HasRisen before now
      risen_since before mid now p r (inl h) = inl (omega arith)
      risen_since before mid now p r (inr h) = elim (cases_lt before now) [ inl less ↦ inl less | inr not_less ↦ inr (omega arith) ]

  makes_by_since : (stands_for : (ℕ → List ℕ) → Durable → Type 0) (e : NodeEntry) (told : Result Outputs StepError) (p' : Parts) → IsStill honest q d log_end since_flush faults → faults ≤ p'.faults
      → MakesBy honest stands_for (showing q d log_end since_flush disk faults) e told p' → MakesBy honest stands_for q e told p'
  makes_by_since stands_for e (Ok o) p' still on g = goes_since e o p' still g
  makes_by_since stands_for e (Err (Failed l)) p' still on g = stops_since stands_for e l p' still on g
  makes_by_since stands_for e (Err NoRoom) p' still on g = g
  makes_by_since stands_for e (Err (TooLarge x)) p' still on g = g
  makes_by_since stands_for e (Err NoMemory) p' still on g = g

  pub makes_since : (stands_for : (ℕ → List ℕ) → Durable → Type 0) (e : NodeEntry) (p' : Parts) → IsStill honest q d log_end since_flush faults → faults ≤ p'.faults
      → Makes honest stands_for (showing q d log_end since_flush disk faults) e p' → Makes honest stands_for q e p'
  makes_since stands_for e p' still on g = makes_by_since stands_for e e.told.value p' still on g

  cause_since : (call : NodeCall) (c : Cause) → IsStill honest q d log_end since_flush faults → IsCause honest (showing q d log_end since_flush disk faults) call c → IsCause honest q call c
  cause_since call cause.Stopped still h = h
  cause_since call cause.Nothing still h = (h.0, h.1, nothing_since call.event h.0 still h.2)
  cause_since call cause.NoRoom still h = (
    taken_since call still h.0,
    λ is. subst (λ (n : ℕ). HasNoRoom q.core q.durable n call.event) (still.log h.0.runs).0
        (subst (λ (x : Durable). HasNoRoom q.core x log_end call.event) (still.durable h.0.runs is) (h.1 is)),
  )
  cause_since call cause.TooLarge still h =
      (taken_since call still h.0, λ is. ((h.1 is).0, subst (λ (x : Durable). IsTooLarge q.core x call.event (h.1 is).0) (still.durable h.0.runs is) (h.1 is).1))
  cause_since call cause.NoMemory still h = taken_since call still h

  pub refuses_since : (call back : NodeCall) → IsStill honest q d log_end since_flush faults → Refuses honest (showing q d log_end since_flush disk faults) call back → Refuses honest q call back
  refuses_since call back still (c, is, h) = (c, is, cause_since call c still h)

-- ---- a node that is kept by a replica

module _ {R : Type 0} (is_whole : R → Type 0) (honest : Type 0) (stands_for : (ℕ → List ℕ) → Durable → Type 0) (durable : R → Durable) (log_end : R → ℕ) (since_flush : R → Option ℕ) (disk : R → Disk) (faults : R → ℕ) where
  still_since : (core : Core) (left now : R) (senders : List NodeSender) (answers : List Entry) → IsSince is_whole durable log_end since_flush faults honest core left now
      → IsStill honest (parts_with durable log_end since_flush disk faults core left senders answers) (durable now) (log_end now) (since_flush now) (faults now)
  still_since core left now senders answers since = record { durable = since.durable; log = since.log; faults = since.faults }

  -- a step is one of the node as the last step left it
  pub step_since : (core : Core) (left now : R) (senders : List NodeSender) (answers : List Entry) (w w' : Wiring R) (now' : R) (call : NodeCall) (r : Result (NodeEntry × NodeReply) NodeCall)
      → (let view : Wiring R = record { core = core; replica = left; senders = senders; answers = answers } in view ≡ w)
      → IsSince is_whole durable log_end since_flush faults honest core left now → faults now ≤ faults now' → (is_ok r ≡ true → w'.replica ≡ now')
      → IfOk r (λ x. Makes honest stands_for (parts_with durable log_end since_flush disk faults core now senders answers) x.0 (parts_with durable log_end since_flush disk faults w'.core now' w'.senders w'.answers))
      → IfOk r (λ x. (x.0.call ≡ call) × (x.0.reply.value ≡ x.1))
      → IfOk r (λ x. MakesIn honest stands_for durable log_end since_flush disk faults w x.0 w' × (call_in x.0 ≡ call) × (reply_in x.0 ≡ x.1))
  step_since core left now senders answers w w' now' call (Ok x) is since on kept makes entry =
      let from_left = makes_since honest (parts_with durable log_end since_flush disk faults core left senders answers) (durable now) (log_end now) (since_flush now) (disk now) (faults now) stands_for x.0
      (parts_with durable log_end since_flush disk faults w'.core now' w'.senders w'.answers) (still_since core left now senders answers since) on makes in
      let to_kept = subst (λ (k : R). Makes honest stands_for (parts_with durable log_end since_flush disk faults core left senders answers) x.0 (parts_with durable log_end since_flush disk faults w'.core k w'.senders w'.answers)) (sym (kept refl)) from_left in
      (subst (λ (v : Wiring R). MakesIn honest stands_for durable log_end since_flush disk faults v x.0 w') is to_kept, entry.0, entry.1)
  step_since core left now senders answers w w' now' call (Err back) is since on kept makes entry = tt
