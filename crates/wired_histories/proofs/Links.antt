-- What links take while a history replays.
use Rattle.std.proofs.Common.{◌≡◌, ℕ, zero, suc, Bool, true, false, Option, Some, Result, Ok, Err, List, [], ◌∷◌, ◌++◌, Contains, filter, length, map, refl, sym, ap, subst, ◌∙◌, append-nil, eqb-true}
use Rattle.std.specs.Prelude.{◌==◌, ◌&&◌, not, slice_get}
use Rattle.std.proofs.lemmas.Grind.{flat_map-append}
use Rattle.std.proofs.lemmas.List.{map-append}
use Rattle.cs_store.specs.Disk.{Disk}
use Rattle.durable_state.specs.State.{Durable}
use Rattle.peer_messages.specs.declared.message.Message.{Message}
use Rattle.peer_messages.specs.declared.outcome.Outputs.{Outputs}
use Rattle.node_core.specs.declared.outcome.StepError.{StepError}
use Rattle.node_core.specs.declared.outcome.StepError.TheVariants.{Failed, NoRoom, TooLarge, NoMemory}
use Rattle.node_lock.specs.Histories.{Replays}
use Rattle.cs_base.proofs.Members.{contains_from_filter, contains_from_map, contains_map}
use Rattle.cs_base.proofs.Slots.{some_one}
use Rattle.lawful_orders.specs.Histories.{sent_by as sent_by_step, sent_in as sent_by_steps}
use Rattle.wired_node.specs.declared.entry.NodeEntry.{NodeEntry}
use Rattle.wired_node.specs.declared.senders.NodeSender.{NodeSender}
use Rattle.wired_node.specs.Laws.{MessagesArePut, sent_by, sent_in}
use Rattle.wired_node.specs.Making.{MakesBy, MakesIn}
use Rattle.wired_node.specs.Sending.{ArePut, IsPut, goes_to, gone_to, message_in}
use Rattle.wired_node.specs.States.{Parts, Wiring, parts_of}
use Rattle.wired_histories.specs.Told.{taken_by, taken_in, told_as}
use Rattle.wired_histories.specs.Laws.{FreshLinksTakeWhatIsSent, LinksTakeWhatIsSent}

-- ---- the messages of a history

told_step : (honest : Type 0) (stands_for : (ℕ → List ℕ) → Durable → Type 0) (p : Parts) (e : NodeEntry) (told : Result Outputs StepError) (p' : Parts) → MakesBy honest stands_for p e told p' → map message_in e.sent.items ≡ sent_by_steps (told_as e.call.event told)
told_step honest stands_for p e (Ok o) p' g = g.sent ∙ sym (append-nil o.sends)
told_step honest stands_for p e (Err (Failed l)) p' g = ap (λ (xs : List (Message × Bool)). map message_in xs) g.sent
told_step honest stands_for p e (Err NoRoom) p' g = absurd g
told_step honest stands_for p e (Err (TooLarge x)) p' g = absurd g
told_step honest stands_for p e (Err NoMemory) p' g = absurd g

-- ---- each link

both : (a b : Bool) → a && b ≡ true → a ≡ true
both true b h = refl
both false b h = h

gone_is : (node : ℕ) (sent : List (Message × Bool)) (m : Message) → Contains (gone_to node sent) m → (m.upto ≡ node) × Contains (map message_in sent) m
gone_is node sent m h =
    let from = contains_from_map message_in (filter (goes_to node) sent) m h in
    let passed = contains_from_filter (goes_to node) sent from.0 from.1 in (
      subst (λ (x : Message). x.upto ≡ node) from.2 (eqb-true from.0.0.upto node (both (from.0.0.upto == node) (not from.0.1) passed.1)),
      subst (λ (x : Message). Contains (map message_in sent) x) from.2 (contains_map message_in sent from.0 passed.0),
    )

put_at : (sent : List (Message × Bool)) (ss ss' : List NodeSender) → ArePut sent ss ss' → (i : ℕ) (s s' : NodeSender) → slice_get ss i ≡ Some s → slice_get ss' i ≡ Some s' → IsPut sent s s'
put_at sent [] ss' put i s s' at at' = cc
put_at sent (a ∷ as_) [] put i s s' at at' = absurd put
put_at sent (a ∷ as_) (b ∷ bs) put zero s s' at at' = subst (λ (x : NodeSender). IsPut sent x s') (some_one at) (subst (λ (x : NodeSender). IsPut sent a x) (some_one at') put.0)
put_at sent (a ∷ as_) (b ∷ bs) put (suc i) s s' at at' = put_at sent as_ bs put.1 i s s' at at'

put_many : (sent : List (Message × Bool)) (ss ss' : List NodeSender) → ArePut sent ss ss' → length ss' ≡ length ss
put_many sent [] [] put = refl
put_many sent [] (b ∷ bs) put = absurd put
put_many sent (a ∷ as_) [] put = absurd put
put_many sent (a ∷ as_) (b ∷ bs) put = ap suc (put_many sent as_ bs put.1)

module _ {R : Type 0} (honest : Type 0) (stands_for : (ℕ → List ℕ) → Durable → Type 0) (durable : R → Durable) (log_end : R → ℕ) (since_flush : R → Option ℕ) (disk : R → Disk) (faults : R → ℕ) where
  told_all : (start now : Wiring R) (history : List (ℕ × NodeEntry)) → Replays (MakesIn honest stands_for durable log_end since_flush disk faults) start history now → map message_in (sent_in history) ≡ sent_by_steps (taken_in history)
  told_all start now [] same = refl
  told_all start now (x ∷ xs) (next, step, rest) =
      let first = told_step honest stands_for (parts_of durable log_end since_flush disk faults start) x.1 x.1.told.value (parts_of durable log_end since_flush disk faults next) step in
      map-append message_in (sent_by x) (sent_in xs)
      ∙ ap (λ (ms : List Message). ms ++ map message_in (sent_in xs)) first
      ∙ ap (λ (ms : List Message). sent_by_steps (taken_by x) ++ ms) (told_all next now xs rest)
      ∙ sym (flat_map-append sent_by_step (taken_by x) (taken_in xs))

  pub all_given : MessagesArePut honest stands_for durable log_end since_flush disk faults → LinksTakeWhatIsSent honest stands_for durable log_end since_flush disk faults
  all_given are_put start now history replays =
      let put = are_put start now history replays in
      let told = told_all start now history replays in
      record {
        told = told;
        as_many = put_many (sent_in history) start.senders now.senders put;
        links = λ i s s' at at'.
            let one = put_at (sent_in history) start.senders now.senders put i s s' at at' in
            record {
              upto = one.upto;
              put = one.put;
              each = λ m h. let is = gone_is s.upto (sent_in history) m h in (is.0, subst (λ (ms : List Message). Contains ms m) told is.1);
            };
      }

  pub fresh_given : MessagesArePut honest stands_for durable log_end since_flush disk faults → FreshLinksTakeWhatIsSent honest stands_for durable log_end since_flush disk faults
  fresh_given are_put start now history i s s' replays at at' none m h =
      let given = (all_given are_put start now history replays).links i s s' at at' in
      given.each m (subst (λ (ms : List Message). Contains ms m) (given.put ∙ ap (λ (ms : List Message). ms ++ gone_to s.upto (sent_in history)) none) h)
