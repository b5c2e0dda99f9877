-- What clients were told was told by steps.
use Rattle.std.proofs.Common.{◌≡◌, ℕ, inl, inr, Bool, true, false, cond, Option, Some, None, Result, Ok, Err, List, [], ◌∷◌, Contains, filter, find, refl, sym, ap, subst, ◌∙◌}
use Rattle.std.specs.Prelude.{◌==◌, if◌then◌else◌, option_and_then}
use Rattle.std.proofs.lemmas.List.Elements.{Contains-append_cases, Contains-append_left, Contains-push, Contains-push_cases}
use Rattle.cs_base.specs.declared.ids.ReqId.{ReqId}
use Rattle.cs_base.proofs.Members.{contains_cases, contains_from_filter, contains_here, contains_nil, contains_there}
use Rattle.cs_store.specs.Disk.{Disk}
use Rattle.durable_state.specs.State.{Durable}
use Rattle.peer_messages.specs.declared.chronicle.Entry.{Entry}
use Rattle.peer_messages.specs.declared.outcome.Outputs.{Outputs}
use Rattle.client_desk.specs.declared.answer.Answer.{Answer}
use Rattle.node_calls.specs.declared.call.NodeCall.{NodeCall}
use Rattle.node_calls.specs.declared.reply.NodeReply.{NodeReply}
use Rattle.node_core.specs.declared.outcome.StepError.{StepError}
use Rattle.node_core.specs.declared.outcome.StepError.TheVariants.{Failed, NoRoom, TooLarge, NoMemory}
use Rattle.node_lock.specs.Histories.{Replays, entries_by}
use Rattle.node_lock.specs.Views.{PassView}
use Rattle.node_lock.specs.declared.answers.Receipt.{Receipt}
use Rattle.node_workers.specs.Calls.{Outcome, Called, called}
use Rattle.node_workers.specs.Chains.{Comes, Makes}
use Rattle.node_workers.specs.Chains.Makes.{none, more}
use Rattle.wired_node.specs.Answers.{answer_for, answer_of, collected_by, is_answer, is_answer_to, left_behind, without_first}
use Rattle.wired_node.specs.Making.{MakesBy, MakesIn, told_with}
use Rattle.wired_node.specs.States.{Parts, Wiring, parts_of}
use Rattle.wired_node.specs.declared.entry.NodeEntry.{NodeEntry}

-- ---- the entry of each call

-- an entry tells of this call and of its reply
pub record Tells {E : Type 0} (event_of : E → NodeCall) (reply_of : E → NodeReply) (call : NodeCall) (reply : NodeReply) (mine : List (ℕ × E)) : Type 0 where
  pub entry : ℕ × E
  pub there : Contains mine entry
  pub call_is : event_of entry.1 ≡ call
  pub reply_is : reply_of entry.1 ≡ reply

outcomes : (call call' : NodeCall) (outcome outcome' : Outcome) → called call outcome ≡ called call' outcome' → outcome ≡ outcome'
outcomes call call' outcome outcome' e = ap (λ (c : Called). c.outcome) e

calls : (call call' : NodeCall) (outcome outcome' : Outcome) → called call outcome ≡ called call' outcome' → call ≡ call'
calls call call' outcome outcome' e = ap (λ (c : Called). c.call) e

receipts : (a b : Receipt NodeReply) (o o' : Outcome) → o ≡ Ok a → o' ≡ Ok b → o ≡ o' → a ≡ b
receipts a b o o' ea eb e = cc

refused_not : {A : Type 0} (x : A) (a : Receipt NodeReply) (o o' : Result (Receipt NodeReply) A) → o ≡ Err x → o' ≡ Ok a → o ≡ o' → ⊥
refused_not x a o o' ex ea e = cc

module _ {S E : Type 0} (steps : S → E → S → Type 0) (event_of : E → NodeCall) (reply_of : E → NodeReply) (refuses : S → NodeCall → NodeCall → Type 0) (start : S) where
  -- what the pass has made it keeps
  kept_one : (w x : PassView E) (call : NodeCall) (outcome : Outcome) → Comes steps event_of reply_of refuses start w call outcome x → (y : ℕ × E) → Contains w.mine y → Contains x.mine y
  kept_one w x call (Ok receipt) comes y h = subst (λ (zs : List (ℕ × E)). Contains zs y) (sym comes.mine) (Contains-append_left w.mine ((w.number, comes.entry) ∷ []) y h)
  kept_one w x call (Err refused) comes y h = subst (λ (zs : List (ℕ × E)). Contains zs y) (sym comes.0.mine) h

  pub kept : (v : PassView E) (cs : List Called) (w : PassView E) → Makes steps event_of reply_of refuses start v cs w → (y : ℕ × E) → Contains v.mine y → Contains w.mine y
  kept v _ _ none y h = h
  kept v _ _ (more cs call outcome w x made same comes) y h = kept_one w x call outcome comes y (kept v cs w made y h)

  told_one : (w x : PassView E) (call : NodeCall) (outcome : Outcome) → Comes steps event_of reply_of refuses start w call outcome x → (call' : NodeCall) (receipt : Receipt NodeReply) → called call outcome ≡ called call' (Ok receipt)
      → Tells event_of reply_of call' receipt.reply x.mine
  told_one w x call (Ok got) comes call' receipt e = record {
    entry = (w.number, comes.entry);
    there = subst (λ (zs : List (ℕ × E)). Contains zs (w.number, comes.entry)) (sym comes.mine) (Contains-push w.mine (w.number, comes.entry));
    call_is = comes.event_is ∙ calls call call' (Ok got) (Ok receipt) e;
    reply_is = comes.reply_is ∙ ap (λ (a : Receipt NodeReply). a.reply) (receipts got receipt (Ok got) (Ok receipt) refl refl (outcomes call call' (Ok got) (Ok receipt) e));
  }
  told_one w x call (Err refused) comes call' receipt e = absurd (refused_not refused receipt (Err refused) (Ok receipt) refl refl (outcomes call call' (Err refused) (Ok receipt) e))

  pub told_by_entry : (v : PassView E) (cs : List Called) (w : PassView E) → Makes steps event_of reply_of refuses start v cs w → (call : NodeCall) (receipt : Receipt NodeReply) → Contains cs (called call (Ok receipt))
      → Tells event_of reply_of call receipt.reply w.mine
  told_by_entry v _ _ none call receipt h = absurd (contains_nil (called call (Ok receipt)) h)
  told_by_entry v _ _ (more cs call' outcome w x made same comes) call receipt h = elim (Contains-push_cases cs (called call' outcome) (called call (Ok receipt)) h) [
    | inl old ↦
        let before = told_by_entry v cs w made call receipt old in
        record { entry = before.entry; there = kept_one w x call' outcome comes before.entry before.there; call_is = before.call_is; reply_is = before.reply_is }
    | inr now ↦ told_one w x call' outcome comes call receipt now
  ]

module _ {E : Type 0} where
  from_if : (n : ℕ) (x : ℕ × E) (history : List (ℕ × E)) (e : E) (b : Bool) → (Contains (entries_by n history) e → (y : ℕ × E) × Contains history y × (y.1 ≡ e)) → Contains (if b then x.1 ∷ entries_by n history else entries_by n history) e
      → (y : ℕ × E) × Contains (x ∷ history) y × (y.1 ≡ e)
  from_if n x history e true later h = elim (contains_cases x.1 (entries_by n history) e h) [
    | inl same ↦ (x, contains_here x history, same)
    | inr rest ↦ let found = later rest in (found.0, contains_there x history found.0 found.1, found.2)
  ]
  from_if n x history e false later h = let found = later h in (found.0, contains_there x history found.0 found.1, found.2)

  pub from_entries : (n : ℕ) (history : List (ℕ × E)) (e : E) → Contains (entries_by n history) e → (y : ℕ × E) × Contains history y × (y.1 ≡ e)
  from_entries n [] e h = absurd (contains_nil e h)
  from_entries n (x ∷ history) e h = from_if n x history e (x.0 == n) (λ k. from_entries n history e k) h

-- ---- what is collected was answered

-- an entry answers the request so
record Answers (told : List Entry) (id : ReqId) (answer : Answer) : Type 0 where
  pub entry : Entry
  pub there : Contains told entry
  pub is_to : is_answer_to id entry ≡ true
  pub tells : answer_of entry ≡ Some answer

found_if : (id : ReqId) (x : Entry) (told : List Entry) (answer : Answer) (b : Bool) → is_answer_to id x ≡ b → (option_and_then answer_of (find (is_answer_to id) told) ≡ Some answer → Answers told id answer)
    → option_and_then answer_of (cond b (Some x) (find (is_answer_to id) told)) ≡ Some answer → Answers (x ∷ told) id answer
found_if id x told answer true test later e = record { entry = x; there = contains_here x told; is_to = test; tells = e }
found_if id x told answer false test later e = let rest = later e in record { entry = rest.entry; there = contains_there x told rest.entry rest.there; is_to = rest.is_to; tells = rest.tells }

found_in : (id : ReqId) (told : List Entry) (answer : Answer) → option_and_then answer_of (find (is_answer_to id) told) ≡ Some answer → Answers told id answer
found_in id [] answer e = cc
found_in id (x ∷ told) answer e = found_if id x told answer (is_answer_to id x) refl (λ h. found_in id told answer h) e

stays_if : (p : Entry → Bool) (x : Entry) (xs : List Entry) (y : Entry) (b : Bool) → (Contains (without_first p xs) y → Contains xs y) → Contains (if b then xs else x ∷ without_first p xs) y → Contains (x ∷ xs) y
stays_if p x xs y true later h = contains_there x xs y h
stays_if p x xs y false later h = elim (contains_cases x (without_first p xs) y h) [
  | inl same ↦ subst (λ (z : Entry). Contains (x ∷ xs) z) same (contains_here x xs)
  | inr rest ↦ contains_there x xs y (later rest)
]

stays_in : (p : Entry → Bool) (xs : List Entry) (y : Entry) → Contains (without_first p xs) y → Contains xs y
stays_in p [] y h = h
stays_in p (x ∷ xs) y h = stays_if p x xs y (p x) (λ k. stays_in p xs y k) h

left_in : (collected : Option ReqId) (told : List Entry) (y : Entry) → Contains (left_behind collected told) y → Contains told y
left_in None told y h = h
left_in (Some id) told y h = stays_in (is_answer_to id) told y h

-- whatever holds of what a step enters and of what was kept holds of all that is told then
told_all : (Q : Entry → Type 0) (answers : List Entry) (o : Outputs) → ((e : Entry) → Contains answers e → Q e) → ((e : Entry) → Contains o.entries e → Q e) → (e : Entry) → Contains (told_with answers o) e → Q e
told_all Q answers o kept_are entered e h = elim (Contains-append_cases answers (filter is_answer o.entries) e h) [
  | inl old ↦ kept_are e old
  | inr now ↦ entered e (contains_from_filter is_answer o.entries e now).0
]

-- an answer that is collected is one of which this holds
abbrev pub IsAnsweredBy : (Entry → Type 0) → ReqId → Answer → Type 0
IsAnsweredBy Q id answer = (e : Entry) × Q e × (is_answer_to id e ≡ true) × (answer_of e ≡ Some answer)

collected_is : (Q : Entry → Type 0) (collected : Option ReqId) (told : List Entry) (id : ReqId) (answer : Answer) → ((e : Entry) → Contains told e → Q e) → collected ≡ Some id → answer_for collected told ≡ Some answer → IsAnsweredBy Q id answer
collected_is Q collected told id answer all is e =
    let found = found_in id told answer (subst (λ (c : Option ReqId). answer_for c told ≡ Some answer) is e) in
    (found.entry, all found.entry found.there, found.is_to, found.tells)

-- what the steps of a history entered
abbrev pub AreEntered : (Entry → Type 0) → List (ℕ × NodeEntry) → Type 0
AreEntered Q history = (x : ℕ × NodeEntry) → Contains history x → (o : Outputs) → x.1.told.value ≡ Ok o → (e : Entry) → Contains o.entries e → Q e

none_some : {X : Type 0} (x : X) → None ≡ Some x → ⊥
none_some x e = cc

true_false : true ≡ false → ⊥
true_false e = cc

module _ (honest : Type 0) (stands_for : (ℕ → List ℕ) → Durable → Type 0) where
  -- one step keeps what is told so, and what it gives to who collects it
  step_tells : (Q : Entry → Type 0) (p : Parts) (x : NodeEntry) (told : Result Outputs StepError) (p' : Parts) → MakesBy honest stands_for p x told p' → ((e : Entry) → Contains p.answers e → Q e)
      → ((o : Outputs) → told ≡ Ok o → (e : Entry) → Contains o.entries e → Q e)
      → ((e : Entry) → Contains p'.answers e → Q e)
      × ((id : ReqId) (answer : Answer) → collected_by x.call.event.what ≡ Some id → x.reply.value.answer ≡ Some answer → IsAnsweredBy Q id answer)
  step_tells Q p x (Ok o) p' goes kept_are entered =
      let all = told_all Q p.answers o kept_are (entered o refl) in (
        (λ e h. all e (left_in (collected_by x.call.event.what) (told_with p.answers o) e (subst (λ (es : List Entry). Contains es e) goes.answers h))),
        (λ id answer is e. collected_is Q (collected_by x.call.event.what) (told_with p.answers o) id answer all is (sym (ap (λ (y : NodeReply). y.answer) goes.reply) ∙ e)),
      )
  step_tells Q p x (Err (Failed l)) p' stops kept_are entered = (
    (λ e h. kept_are e (subst (λ (es : List Entry). Contains es e) stops.answers h)),
    (λ id answer is e. absurd (none_some answer (sym (ap (λ (y : NodeReply). y.answer) stops.reply) ∙ e))),
  )
  step_tells Q p x (Err NoRoom) p' never kept_are entered = absurd never
  step_tells Q p x (Err (TooLarge y)) p' never kept_are entered = absurd never
  step_tells Q p x (Err NoMemory) p' never kept_are entered = absurd never

  -- one that does not fail tells its outputs
  step_goes : (p : Parts) (x : NodeEntry) (told : Result Outputs StepError) (p' : Parts) → MakesBy honest stands_for p x told p' → x.reply.value.failed ≡ false → (o : Outputs) × (told ≡ Ok o) × (x.reply.value.started ≡ o.started)
  step_goes p x (Ok o) p' goes well = (o, refl, ap (λ (y : NodeReply). y.started) goes.reply)
  step_goes p x (Err (Failed l)) p' stops well = absurd (true_false (sym (ap (λ (y : NodeReply). y.failed) stops.reply) ∙ well))
  step_goes p x (Err NoRoom) p' never well = absurd never
  step_goes p x (Err (TooLarge y)) p' never well = absurd never
  step_goes p x (Err NoMemory) p' never well = absurd never

  -- one that names a request has begun it
  step_begins : (p : Parts) (x : NodeEntry) (told : Result Outputs StepError) (p' : Parts) → MakesBy honest stands_for p x told p' → (id : ReqId) → x.reply.value.started ≡ Some id → (o : Outputs) × (told ≡ Ok o) × (o.started ≡ Some id)
  step_begins p x (Ok o) p' goes id e = (o, refl, sym (ap (λ (y : NodeReply). y.started) goes.reply) ∙ e)
  step_begins p x (Err (Failed l)) p' stops id e = absurd (none_some id (sym (ap (λ (y : NodeReply). y.started) stops.reply) ∙ e))
  step_begins p x (Err NoRoom) p' never id e = absurd never
  step_begins p x (Err (TooLarge y)) p' never id e = absurd never
  step_begins p x (Err NoMemory) p' never id e = absurd never

module _ {R : Type 0} (honest : Type 0) (stands_for : (ℕ → List ℕ) → Durable → Type 0) (durable : R → Durable) (log_end : R → ℕ) (since_flush : R → Option ℕ) (disk : R → Disk) (faults : R → ℕ) where
  pub history_tells : (Q : Entry → Type 0) (start now : Wiring R) (history : List (ℕ × NodeEntry)) → Replays (MakesIn honest stands_for durable log_end since_flush disk faults) start history now
      → ((e : Entry) → Contains start.answers e → Q e) → AreEntered Q history
      → (x : ℕ × NodeEntry) → Contains history x → (id : ReqId) (answer : Answer) → collected_by x.1.call.event.what ≡ Some id → x.1.reply.value.answer ≡ Some answer → IsAnsweredBy Q id answer
  history_tells Q start now [] replays kept_are entered x h = absurd (contains_nil x h)
  history_tells Q start now (y ∷ ys) (next, makes, rest) kept_are entered x h =
      let one =
      step_tells honest stands_for Q (parts_of durable log_end since_flush disk faults start) y.1 y.1.told.value (parts_of durable log_end since_flush disk faults next) makes kept_are (entered y (contains_here y ys)) in
      elim (contains_cases y ys x h) [
        | inl same ↦ subst
            (λ (z : ℕ × NodeEntry). (id : ReqId) (answer : Answer) → collected_by z.1.call.event.what ≡ Some id → z.1.reply.value.answer ≡ Some answer → IsAnsweredBy Q id answer)
            same one.1
        | inr later ↦ history_tells Q next now ys rest one.0 (λ z k. entered z (contains_there y ys z k)) x later
      ]

  pub history_begins : (start now : Wiring R) (history : List (ℕ × NodeEntry)) → Replays (MakesIn honest stands_for durable log_end since_flush disk faults) start history now
      → (x : ℕ × NodeEntry) → Contains history x → (id : ReqId) → x.1.reply.value.started ≡ Some id → (o : Outputs) × (x.1.told.value ≡ Ok o) × (o.started ≡ Some id)
  history_begins start now [] replays x h = absurd (contains_nil x h)
  history_begins start now (y ∷ ys) (next, makes, rest) x h = elim (contains_cases y ys x h) [
    | inl same ↦ subst
        (λ (z : ℕ × NodeEntry). (id : ReqId) → z.1.reply.value.started ≡ Some id → (o : Outputs) × (z.1.told.value ≡ Ok o) × (o.started ≡ Some id))
        same (step_begins honest stands_for (parts_of durable log_end since_flush disk faults start) y.1 y.1.told.value (parts_of durable log_end since_flush disk faults next) makes)
    | inr later ↦ history_begins next now ys rest x later
  ]

  pub history_goes : (start now : Wiring R) (history : List (ℕ × NodeEntry)) → Replays (MakesIn honest stands_for durable log_end since_flush disk faults) start history now
      → (x : ℕ × NodeEntry) → Contains history x → x.1.reply.value.failed ≡ false → (o : Outputs) × (x.1.told.value ≡ Ok o) × (x.1.reply.value.started ≡ o.started)
  history_goes start now [] replays x h = absurd (contains_nil x h)
  history_goes start now (y ∷ ys) (next, makes, rest) x h = elim (contains_cases y ys x h) [
    | inl same ↦ subst
        (λ (z : ℕ × NodeEntry). z.1.reply.value.failed ≡ false → (o : Outputs) × (z.1.told.value ≡ Ok o) × (z.1.reply.value.started ≡ o.started))
        same (step_goes honest stands_for (parts_of durable log_end since_flush disk faults start) y.1 y.1.told.value (parts_of durable log_end since_flush disk faults next) makes)
    | inr later ↦ history_goes next now ys rest x later
  ]
