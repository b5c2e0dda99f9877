-- Quorums meet; what ever happened stays; one list of events behind another.
use Rattle.std.proofs.Common.{◌≡◌, ℕ, ◌≢◌, ◌==◌, Bool, true, false, List, [], ◌∷◌, ◌⊎◌, inl, inr, refl, subst, arith, eqb-true}
use Rattle.std.specs.Prelude.{if◌then◌else◌}
use Rattle.cs_base.proofs.Quorums.{both_pass}
use Rattle.std.proofs.lemmas.Bool.{eqb-false}
use Rattle.paxos_history.specs.Protocol.{Later, here, more, Event, Proposed, ProposedAgain, Promised, Setup, Ever, IsQuorum, IsPromise, MayPromise, IsOwnProposal, IsProposalAgain, IsAcceptance, Chosen, Lawful, MayPropose, MayProposeAgain}
use Rattle.cs_base.specs.declared.ids.ReqId.{ReqId}
use Rattle.changes.specs.declared.Held.{Held}
use Rattle.paxos_history.specs.Protocol.{Result}

pub pick : {A : Type 0} (t : Bool) (x y : A) (P : A → Type 0) → P x → P y → P (if t then x else y)
pick true x y P p q = p
pick false x y P p q = q

pub same_or_not : (x y : ℕ) → (x ≡ y) ⊎ (x ≢ y)
same_or_not x y = go (x == y) refl
  where
    go : (t : Bool) → (x == y) ≡ t → (x ≡ y) ⊎ (x ≢ y)
    go true e = inl (eqb-true x y e)
    go false e = inr (eqb-false x y e)

pub quorums_meet : (w : Setup) (p q : ℕ → Bool) → IsQuorum w p → IsQuorum w q → (k : ℕ) × (p k ≡ true) × (q k ≡ true)
quorums_meet w p q hp hq = let r = both_pass w.replicas p q (omega arith) in (r.0, r.2, r.3)

pub ever_later : (P : Event → Type 0) {h k : List Event} → Later h k → Ever P h → Ever P k
ever_later P here p = p
ever_later P (more l) p = inr (ever_later P l p)

pub lawful_later : (w : Setup) {h k : List Event} → Later h k → Lawful w k → Lawful w h
lawful_later w here ok = ok
lawful_later w (more l) ok = lawful_later w l ok.0

pub chosen_later : (w : Setup) (b : ℕ) {h k : List Event} → Later h k → Chosen w b h → Chosen w b k
chosen_later w b l (q, big, all) = (q, big, λ n is. ever_later (IsAcceptance n b) l (all n is))

pub later_trans : {h k m : List Event} → Later h k → Later k m → Later h m
later_trans l here = l
later_trans l (more r) = more (later_trans l r)

pub later_once : {h : List Event} (e : Event) → Later h (e ∷ h)
later_once e = more here

-- what was on top, and the list when it came
pub back : (P : Event → Type 0) (h : List Event) → Ever P h → (e : Event) × (h' : List Event) × P e × Later (e ∷ h') h
back P [] was = elim was [ ]
back P (e ∷ h) (inl is) = (e, h, is, here)
back P (e ∷ h) (inr was) = let r = back P h was in (r.0, r.1, r.2, more r.3)

own_is : (b c : ℕ) (r : ReqId) (y : Result) (t : List ℕ) (e : Event) → IsOwnProposal b c r y t e → e ≡ Proposed b c r y t
own_is b c r y t (Proposed b' c' r' y' t') is = λ i. Proposed (is.0 i) (is.1 i) (is.2 i) (is.3 i) (is.4 i)
own_is b c r y t _ is = elim is [ ]

again_is : (b a : ℕ) (e : Event) → IsProposalAgain b a e → e ≡ ProposedAgain b a
again_is b a (ProposedAgain b' a') is = λ i. ProposedAgain (is.0 i) (is.1 i)
again_is b a _ is = elim is [ ]

pub own_back : (w : Setup) (b c : ℕ) (r : ReqId) (y : Result) (t : List ℕ) (h : List Event) → Lawful w h → Ever (IsOwnProposal b c r y t) h
    → (h' : List Event) × Later (Proposed b c r y t ∷ h') h × Lawful w h' × MayPropose w h' b c r y
own_back w b c r y t h ok was =
    let p = back (IsOwnProposal b c r y t) h was in
    let l = subst (λ e. Later (e ∷ p.1) h) (own_is b c r y t p.0 p.2) p.3 in
    let law = lawful_later w l ok in
    (p.1, l, law.0, law.1)

pub again_back : (w : Setup) (b a : ℕ) (h : List Event) → Lawful w h → Ever (IsProposalAgain b a) h
    → (h' : List Event) × Later (ProposedAgain b a ∷ h') h × Lawful w h' × MayProposeAgain w h' b a
again_back w b a h ok was =
    let p = back (IsProposalAgain b a) h was in
    let l = subst (λ e. Later (e ∷ p.1) h) (again_is b a p.0 p.2) p.3 in
    let law = lawful_later w l ok in
    (p.1, l, law.0, law.1)

promise_is : (n b a c : ℕ) (s : List Held) (e : Event) → IsPromise n b a c s e → e ≡ Promised n b a c s
promise_is n b a c s (Promised n' b' a' c' s') is = λ i. Promised (is.0 i) (is.1 i) (is.2 i) (is.3 i) (is.4 i)
promise_is n b a c s _ is = elim is [ ]

-- a promise, and the list when it came
pub promise_back : (w : Setup) (n b a c : ℕ) (s : List Held) (h : List Event) → Lawful w h → Ever (IsPromise n b a c s) h
    → (h' : List Event) × Later (Promised n b a c s ∷ h') h × Lawful w h' × MayPromise h' n b a c s
promise_back w n b a c s h ok was =
    let p = back (IsPromise n b a c s) h was in
    let l = subst (λ e. Later (e ∷ p.1) h) (promise_is n b a c s p.0 p.2) p.3 in
    let law = lawful_later w l ok in
    (p.1, l, law.0, law.1)

pub later_was : {e : Event} {h k : List Event} → Later (e ∷ h) k → Later h k
later_was {e = e} l = later_trans (later_once e) l

-- of two lists with later events on top, one is behind the other
pub later_cases : {h k m : List Event} → Later h m → Later k m → Later h k ⊎ Later k h
later_cases here r = inr r
later_cases l here = inl l
later_cases (more l) (more r) = later_cases l r

pub later_split : {h k : List Event} {e : Event} → Later h (e ∷ k) → (h ≡ e ∷ k) ⊎ Later h k
later_split here = inl refl
later_split (more l) = inr l
