-- What a call answers, put together from its clauses.
use Rattle.std.proofs.Common.{◌≡◌, ◌≤◌, ℕ, inl, inr, Bool, true, false, Result, Ok, Err, IsErrOf, IsOk, IfOk, OnOk, OnErr, refl, sym, ap, subst, ◌∙◌, arith}
use Rattle.std.specs.Prelude.{not}
use Rattle.std.proofs.lemmas.Bool.{cases_lt}
use Rattle.cs_base.specs.Faults.{HasRisen}
use Rattle.changes.specs.declared.Partition.{Partition}
use Rattle.peer_messages.specs.declared.outcome.Outputs.{Outputs}
use Rattle.node_core.specs.declared.outcome.Lost.{Lost}
use Rattle.node_core.specs.declared.outcome.StepError.{StepError}
use Rattle.node_core.specs.declared.outcome.StepError.TheVariants.{Failed, NoRoom, TooLarge, NoMemory}
use Rattle.node_core.specs.Memory.{has_stopped}

abbrev pub Told : Type 0
Told = Result Outputs StepError

abbrev pub NotFailed : Told → Type 0
NotFailed r = (l : Lost) → IsErrOf r (Failed l) → ⊥

-- two clauses on Ok
pub ok_both : (r : Told) (P : Outputs → Type 0) (Q S : Type 0) (X : Outputs → Type 0) → ((o : Outputs) → P o → Q → S → X o) → IfOk r P → OnOk r Q → OnOk r S → IfOk r X
ok_both (Ok o) P Q S X to p q s = to o p q s
ok_both (Err e) P Q S X to p q s = tt

pub ok_more : (r : Told) (Q X : Type 0) → (Q → X) → OnOk r Q → OnOk r X
ok_more (Ok o) Q X to q = to q
ok_more (Err e) Q X to q = tt

pub ok_or : (r : Told) (P Q X : Type 0) → (P → X) → (Q → X) → OnOk r P → OnErr r Q → X
ok_or (Ok o) P Q X ok err p q = ok p
ok_or (Err e) P Q X ok err p q = err q

pub err_more : (r : Told) (P X : Type 0) → (P → X) → OnErr r P → OnErr r X
err_more (Ok o) P X to p = tt
err_more (Err e) P X to p = to p

-- a count that rose later rose
pub risen_later : (before mid now : ℕ) → before ≤ mid → mid ≤ now → HasRisen mid now → HasRisen before now
risen_later before mid now p q (inl r) = inl (omega arith)
risen_later before mid now p q (inr r) = elim (cases_lt before now) [ inl less ↦ inl less | inr not_less ↦ inr (omega arith) ]

pub one_lost : (k l : Lost) → (let r : Told = Err (Failed k) in IsErrOf r (Failed l)) → k ≡ l
one_lost k l h = cc

false_true : false ≡ true → ⊥
false_true e = cc

pub err_not_ok : {T E : Type 0} (r : Result T E) (e : E) → r ≡ Err e → IsOk r → ⊥
err_not_ok {T} {E} r e is ok = false_true (subst (λ (x : Result T E). IsOk x) is ok)

-- ---- whether a node goes on

ok_err : (o : Outputs) (e : StepError) → (let r : Told = Ok o in IsErrOf r e) → ⊥
ok_err o e h = cc

no_room_lost : (l : Lost) → (let r : Told = Err NoRoom in IsErrOf r (Failed l)) → ⊥
no_room_lost l h = cc

large_lost : (p : Partition) (l : Lost) → (let r : Told = Err (TooLarge p) in IsErrOf r (Failed l)) → ⊥
large_lost p l h = cc

memory_lost : (l : Lost) → (let r : Told = Err NoMemory in IsErrOf r (Failed l)) → ⊥
memory_lost l h = cc

pub goes_on : (r : Told) → not (has_stopped r) ≡ true → NotFailed r
goes_on (Ok o) h l is = ok_err o (Failed l) is
goes_on (Err (Failed k)) h l is = false_true h
goes_on (Err NoRoom) h l is = no_room_lost l is
goes_on (Err (TooLarge p)) h l is = large_lost p l is
goes_on (Err NoMemory) h l is = memory_lost l is

pub still_on : (r : Told) → NotFailed r → not (has_stopped r) ≡ true
still_on (Ok o) h = refl
still_on (Err (Failed k)) h = absurd (h k refl)
still_on (Err NoRoom) h = refl
still_on (Err (TooLarge p)) h = refl
still_on (Err NoMemory) h = refl

pub stopped_by : (r : Told) (l : Lost) → IsErrOf r (Failed l) → not (has_stopped r) ≡ false
stopped_by r l is = ap (λ (x : Told). not (has_stopped x)) is

-- ---- a clause where the answer is known

pub ok_here : {T E : Type 0} (r : Result T E) (o : T) (P : Type 0) → r ≡ Ok o → OnOk r P → P
ok_here {T} {E} r o P is h = subst (λ (x : Result T E). OnOk x P) is h

pub if_here : {T E : Type 0} (r : Result T E) (o : T) (P : T → Type 0) → r ≡ Ok o → IfOk r P → P o
if_here {T} {E} r o P is h = subst (λ (x : Result T E). IfOk x P) is h

pub err_here : {T E : Type 0} (r : Result T E) (e : E) (P : Type 0) → r ≡ Err e → OnErr r P → P
err_here {T} {E} r e P is h = subst (λ (x : Result T E). OnErr x P) is h

pub not_true : (b : Bool) → not b ≡ true → b ≡ false
not_true true h = sym h
not_true false h = refl

pub not_false : (b : Bool) → not b ≡ false → b ≡ true
not_false true h = refl
not_false false h = sym h

-- ---- the error that a `?` hands on

pub hands_on : {S T E : Type 0} {r : Result T E} {e x : E} → (y : E) × (r ≡ Err y) × (y ≡ e) → (let q : Result S E = Err e in q ≡ Err x) → r ≡ Err x
hands_on {S} {T} {E} {r} {e} {x} (y, is, same) h = is ∙ ap (λ (z : E). Err z) (same ∙ one_error h)
  where
    one_error : {a b : E} → (let q : Result S E = Err a in q ≡ Err b) → a ≡ b
    one_error {a} {b} k = cc

pub same_told : {T E : Type 0} {r : Result T E} {e x : E} → (y : E) × (r ≡ Err y) × (y ≡ e) → r ≡ Err x → e ≡ x
same_told {T} {E} {r} {e} {x} (y, is, same) h = sym same ∙ one_error (sym is ∙ h)
  where
    one_error : {a b : E} → (let q : Result T E = Err a in q ≡ Err b) → a ≡ b
    one_error {a} {b} k = cc

pub handed_on : {S T E : Type 0} {r : Result T E} {e x : E} → (y : E) × (r ≡ Err y) × (y ≡ e) → r ≡ Err x → (let q : Result S E = Err e in q ≡ Err x)
handed_on {S} {T} {E} {r} {e} {x} told h = ap (λ (z : E). let q : Result S E = Err z in q) (same_told told h)

pub ok_no_error : {T E : Type 0} {x : T} {e : E} → (let q : Result T E = Ok x in q ≡ Err e) → ⊥
ok_no_error {T} {E} {x} {e} h = cc

pub at_most : {a b c : ℕ} → a ≤ b → b ≤ c → a ≤ c
at_most {a} {b} {c} p q = omega (arith, p, q)
