-- What the steps of a history answer, give and keep.
use Rattle.std.proofs.Common.{◌≡◌, ◌+◌, ◌++◌, ℕ, suc, ◌⊎◌, inl, inr, Bool, true, false, cond, Option, Some, None, Result, Ok, Err, List, [], ◌∷◌, length, filter, find, refl, sym, ap, subst, ◌∙◌, arith, length-append, append-nil}
use Rattle.std.specs.Prelude.{option_and_then}
use Rattle.std.proofs.lemmas.List.Elements.{filter-append}
use Rattle.cs_base.specs.declared.ids.ReqId.{ReqId}
use Rattle.cs_store.specs.Disk.{Disk}
use Rattle.durable_state.specs.State.{Durable}
use Rattle.client_desk.specs.declared.answer.Answer.{Answer}
use Rattle.peer_messages.specs.declared.chronicle.Entry.{Entry}
use Rattle.peer_messages.specs.declared.outcome.Outputs.{Outputs}
use Rattle.node_calls.specs.declared.reply.NodeReply.{NodeReply}
use Rattle.node_core.specs.declared.outcome.StepError.{StepError}
use Rattle.node_core.specs.declared.outcome.StepError.TheVariants.{Failed, NoRoom, TooLarge, NoMemory}
use Rattle.wired_node.specs.declared.entry.NodeEntry.{NodeEntry}
use Rattle.wired_node.specs.Answers.{answer_for, answer_of, collected_by, is_answer_to, left_behind, without_first}
use Rattle.wired_node.specs.Laws.{AnswersAreGivenOnce, IsGiven, answers_in, listed, told_by, told_in}
use Rattle.wired_node.specs.Making.{MakesBy}
use Rattle.wired_node.specs.States.{Parts, Wiring}

-- how many pass
abbrev count : (Entry → Bool) → List Entry → ℕ
count p xs = length (filter p xs)

count_append : (p : Entry → Bool) (xs ys : List Entry) → count p (xs ++ ys) ≡ count p xs + count p ys
count_append p xs ys = ap (λ (zs : List Entry). length zs) (filter-append p xs ys) ∙ length-append (filter p xs) (filter p ys)

swapped : (p : Entry → Bool) (t x : Entry) (ws : List Entry) → count p (t ∷ x ∷ ws) ≡ count p (x ∷ t ∷ ws)
swapped p t x ws = at (p t) (p x) (filter p ws)
  where
    at : (a b : Bool) (fs : List Entry) → length (cond a (t ∷ cond b (x ∷ fs) fs) (cond b (x ∷ fs) fs)) ≡ length (cond b (x ∷ cond a (t ∷ fs) fs) (cond a (t ∷ fs) fs))
    at true true fs = refl
    at true false fs = refl
    at false true fs = refl
    at false false fs = refl

behind : (p : Entry → Bool) (x : Entry) (ys zs : List Entry) → count p ys ≡ count p zs → count p (x ∷ ys) ≡ count p (x ∷ zs)
behind p x ys zs same = at (p x) (filter p ys) (filter p zs) same
  where
    at : (b : Bool) (fs gs : List Entry) → length fs ≡ length gs → length (cond b (x ∷ fs) fs) ≡ length (cond b (x ∷ gs) gs)
    at true fs gs e = ap suc e
    at false fs gs e = e

-- the first that passes is taken out, or there is none
abbrev IsTakenOut : (Entry → Bool) → List Entry → Option Entry → List Entry → Type 0
IsTakenOut p xs found left =
    ((t : Entry) × (found ≡ Some t) × (p t ≡ true) × ((q : Entry → Bool) → count q (t ∷ left) ≡ count q xs)) ⊎ ((found ≡ None) × (left ≡ xs))

taken_if : (p : Entry → Bool) (x : Entry) (xs : List Entry) (found : Option Entry) (left : List Entry) (b : Bool) → p x ≡ b → IsTakenOut p xs found left → IsTakenOut p (x ∷ xs) (cond b (Some x) found) (cond b xs (x ∷ left))
taken_if p x xs found left true is rest = inl (x, refl, is, λ q. refl)
taken_if p x xs found left false is (inl (t, at, passes, same)) = inl (t, at, passes, λ q. swapped q t x left ∙ behind q x (t ∷ left) xs (same q))
taken_if p x xs found left false is (inr (none, same)) = inr (none, ap (λ (zs : List Entry). x ∷ zs) same)

taken_out : (p : Entry → Bool) (xs : List Entry) → IsTakenOut p xs (find p xs) (without_first p xs)
taken_out p [] = inr (refl, refl)
taken_out p (x ∷ xs) = taken_if p x xs (find p xs) (without_first p xs) (p x) refl (taken_out p xs)

-- what is collected is given, and the rest stays
abbrev IsCollected : Option ReqId → List Entry → Option Answer → List Entry → Type 0
IsCollected collected xs answer left = (t : Option Entry) × IsGiven collected answer t × ((q : Entry → Bool) → count q (listed t ++ left) ≡ count q xs)

collected_at : (id : ReqId) (xs : List Entry) (found : Option Entry) (left : List Entry) → IsTakenOut (is_answer_to id) xs found left → IsCollected (Some id) xs (option_and_then answer_of found) left
collected_at id xs found left (inl (t, at, passes, same)) = (Some t, (passes, ap (λ (o : Option Entry). option_and_then answer_of o) at), same)
collected_at id xs found left (inr (none, same)) = (None, ap (λ (o : Option Entry). option_and_then answer_of o) none, λ q. ap (λ (zs : List Entry). count q zs) same)

collected : (c : Option ReqId) (xs : List Entry) → IsCollected c xs (answer_for c xs) (left_behind c xs)
collected None xs = (None, refl, λ q. refl)
collected (Some id) xs = collected_at id xs (find (is_answer_to id) xs) (without_first (is_answer_to id) xs) (taken_out (is_answer_to id) xs)

-- ---- a step

answered_by : (honest : Type 0) (stands_for : (ℕ → List ℕ) → Durable → Type 0) (p : Parts) (e : NodeEntry) (told : Result Outputs StepError) (p' : Parts) → MakesBy honest stands_for p e told p'
    → IsCollected (collected_by e.call.event.what) (p.answers ++ answers_in told) e.reply.value.answer p'.answers
answered_by honest stands_for p e (Ok o) p' g =
    subst (λ (a : Option Answer). IsCollected (collected_by e.call.event.what) (p.answers ++ answers_in (Ok o)) a p'.answers) (sym (ap (λ (r : NodeReply). r.answer) g.reply))
    (subst (λ (left : List Entry). IsCollected (collected_by e.call.event.what) (p.answers ++ answers_in (Ok o)) (answer_for (collected_by e.call.event.what) (p.answers ++ answers_in (Ok o))) left) (sym g.answers)
    (collected (collected_by e.call.event.what) (p.answers ++ answers_in (Ok o))))
answered_by honest stands_for p e (Err (Failed l)) p' g =
    (None, ap (λ (r : NodeReply). r.answer) g.reply, λ q. ap (λ (zs : List Entry). count q zs) (g.answers ∙ sym (append-nil p.answers)))
answered_by honest stands_for p e (Err NoRoom) p' g = absurd g
answered_by honest stands_for p e (Err (TooLarge x)) p' g = absurd g
answered_by honest stands_for p e (Err NoMemory) p' g = absurd g

-- ---- a history

-- what a first step and the rest give and keep
added : (q : Entry → Bool) (t given next now start told rest : List Entry) → count q (t ++ next) ≡ count q (start ++ told) → count q (given ++ now) ≡ count q (next ++ rest)
    → count q ((t ++ given) ++ now) ≡ count q (start ++ (told ++ rest))
added q t given next now start told rest first later =
    let a = count_append q t next in
    let b = count_append q start told in
    let c = count_append q given now in
    let d = count_append q next rest in
    let e = count_append q (t ++ given) now in
    let f = count_append q t given in
    let g = count_append q start (told ++ rest) in
    let h = count_append q told rest in
    omega arith

module _ {R : Type 0} (honest : Type 0) (stands_for : (ℕ → List ℕ) → Durable → Type 0) (durable : R → Durable) (log_end : R → ℕ) (since_flush : R → Option ℕ) (disk : R → Disk) (faults : R → ℕ) where
  pub given_once : AnswersAreGivenOnce honest stands_for durable log_end since_flush disk faults
  given_once start now [] same = ([], refl, λ q. ap (λ (w : Wiring R). count q w.answers) (sym same) ∙ ap (λ (zs : List Entry). count q zs) (sym (append-nil start.answers)))
  given_once start now (x ∷ xs) (next, step, rest) =
      let first = answered_by honest stands_for _ x.1 x.1.told.value _ step in
      let later = given_once next now xs rest in
      (listed first.0 ++ later.0, (first.0, later.0, first.1, refl, later.1), λ q. added q (listed first.0) later.0 next.answers now.answers start.answers (told_by x) (told_in xs) (first.2 q) (later.2 q))
