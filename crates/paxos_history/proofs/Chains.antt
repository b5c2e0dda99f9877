-- The chain of a ballot's update stays as it was when the ballot was proposed.
use Rattle.std.proofs.Common.{◌≡◌, ℕ, ◌<◌, ◌≢◌, List, [], ◌∷◌, ◌⊎◌, inl, inr, refl, sym, ap, subst, arith, ◌∙◌, ne_eqb, eq-eqb}
use Rattle.paxos_history.specs.Protocol.{Later, here, more, Event, Proposed, ProposedAgain, Setup, Ever, IsAcceptance, IsProposal, IsOwnProposal, IsProposalAgain, chain, Chosen, MayPropose, MayProposeAgain, Allowed, Lawful}
use Rattle.paxos_history.proofs.Histories.{later_once, later_trans, quorums_meet, own_back, again_back, ever_later}
use Rattle.paxos_history.proofs.Acceptors.{promise_true, accepted_proposed, chosen_proposed}
use Rattle.cs_base.specs.declared.ids.ReqId.{ReqId}
use Rattle.paxos_history.specs.Protocol.{Result}

chain_stays : (w : Setup) (b : ℕ) (e : Event) (h : List Event) → Allowed w e h → ((x : ℕ) → IsProposal x e → b ≢ x) → chain b (e ∷ h) ≡ chain b h
chain_stays w b (Proposed x c r y t) h may new = rw (ne_eqb x b (λ s. new x refl (sym s)))
chain_stays w b (ProposedAgain x a) h may new = rw (ne_eqb x b (λ s. new x refl (sym s)))
chain_stays w b _ h may new = refl

old_is_not_new : (w : Setup) (b x : ℕ) (e : Event) (h : List Event) → Allowed w e h → Ever (IsProposal b) h → IsProposal x e → b ≢ x
old_is_not_new w b x (Proposed x' c r y t) h may was is same = may.unused (subst (λ v. Ever (IsProposal v) h) (same ∙ sym is) was)
old_is_not_new w b x (ProposedAgain x' a) h may was is same = may.unused (subst (λ v. Ever (IsProposal v) h) (same ∙ sym is) was)
old_is_not_new w b x _ h may was is same = elim is [ ]

pub chain_later : (w : Setup) (b : ℕ) {h k : List Event} → Later h k → Lawful w k → Ever (IsProposal b) h → chain b k ≡ chain b h
chain_later w b here ok was = refl
chain_later w b (more {h = h} {k = k} {e = e} l) ok was =
    chain_stays w b e k ok.1 (λ x is. old_is_not_new w b x e k ok.1 (ever_later (IsProposal b) l was) is) ∙ chain_later w b l ok.0 was

positive : (w : Setup) (x : ℕ) (e : Event) (h : List Event) → Allowed w e h → IsProposal x e → 0 ≢ x
positive w x (Proposed x' c r y t) h may is same = let p = may.positive in omega arith
positive w x (ProposedAgain x' a) h may is same = let p = may.positive in omega arith
positive w x _ h may is same = elim is [ ]

-- 0 is no ballot
pub chain_zero : (w : Setup) (h : List Event) → Lawful w h → chain 0 h ≡ []
chain_zero w [] ok = refl
chain_zero w (e ∷ h) ok = chain_stays w 0 e h ok.1 (λ x is. positive w x e h ok.1 is) ∙ chain_zero w h ok.0

pub proposal_positive : (w : Setup) (b : ℕ) (h : List Event) → Lawful w h → Ever (IsProposal b) h → 0 < b
proposal_positive w b [] ok was = elim was [ ]
proposal_positive w b (e ∷ h) ok (inr was) = proposal_positive w b h ok.0 was
proposal_positive w b (Proposed x c r y t ∷ h) ok (inl is) = let p = ok.1.positive in omega arith
proposal_positive w b (ProposedAgain x a ∷ h) ok (inl is) = let p = ok.1.positive in omega arith
proposal_positive w b (_ ∷ h) ok (inl is) = elim is [ ]

-- what a new proposal rests on: no commit, or one that was chosen
pub base_chosen : (w : Setup) (b c : ℕ) (r : ReqId) (y : Result) (h : List Event) → Lawful w h → MayPropose w h b c r y → (c ≡ 0) ⊎ Chosen w c h
base_chosen w b c r y h ok may =
    let n = quorums_meet w may.quorum may.quorum may.big may.big in
    let p = may.promises n.0 n.1 in
    (promise_true w n.0 b p.0 c p.1 h ok p.2).chosen

pub base_stays : (w : Setup) (b c : ℕ) (r : ReqId) (y : Result) {h k : List Event} → Later h k → Lawful w h → Lawful w k → MayPropose w h b c r y → chain c k ≡ chain c h
base_stays w b c r y {h = h} {k = k} l ok okk may = elim (base_chosen w b c r y h ok may) [
  | inl z ↦ rw z (chain_zero w k okk ∙ sym (chain_zero w h ok))
  | inr is ↦ chain_later w c l okk (chosen_proposed w c h ok is)
]

own_proposes : (b c : ℕ) (r : ReqId) (y : Result) (t : List ℕ) (h : List Event) → Ever (IsProposal b) (Proposed b c r y t ∷ h)
own_proposes b c r y t h = inl refl

pub own_chain : (w : Setup) (b c : ℕ) (r : ReqId) (y : Result) (t : List ℕ) (h : List Event) → Lawful w h → Ever (IsOwnProposal b c r y t) h → chain b h ≡ record { origin = b; request = r; result = y } ∷ chain c h
own_chain w b c r y t h ok was =
    let p = own_back w b c r y t h ok was in
    let one : chain b h ≡ chain b (Proposed b c r y t ∷ p.0) = chain_later w b p.1 ok (own_proposes b c r y t p.0) in
    let two : chain b (Proposed b c r y t ∷ p.0) ≡ record { origin = b; request = r; result = y } ∷ chain c p.0 = rw (eq-eqb b b refl) in
    let three : chain c h ≡ chain c p.0 = base_stays w b c r y (later_trans (later_once (Proposed b c r y t)) p.1) p.2 ok p.3 in
    one ∙ two ∙ ap (λ us. record { origin = b; request = r; result = y } ∷ us) (sym three)

-- what is proposed again was accepted below
pub again_from : (w : Setup) (b a : ℕ) (h : List Event) → Lawful w h → MayProposeAgain w h b a → (a < b) × ((n : ℕ) × Ever (IsAcceptance n a) h)
again_from w b a h ok may =
    let m = quorums_meet w may.quorum may.quorum may.big may.big in
    let above = may.promises m.0 m.1 in
    let n = may.witness in
    let t = promise_true w n.0 b a n.1 n.2 h ok n.3 in
    (t.below, elim t.was [ inl z ↦ absurd (omega arith) | inr is ↦ (n.0, is) ])

pub again_chain : (w : Setup) (b a : ℕ) (h : List Event) → Lawful w h → Ever (IsProposalAgain b a) h → chain b h ≡ chain a h
again_chain w b a h ok was =
    let p = again_back w b a h ok was in
    let from = again_from w b a p.0 p.2 p.3 in
    let proposed : Ever (IsProposal a) p.0 = accepted_proposed w from.1.0 a p.0 p.2 from.1.1 in
    let one : chain b h ≡ chain b (ProposedAgain b a ∷ p.0) = chain_later w b p.1 ok (inl refl) in
    let two : chain b (ProposedAgain b a ∷ p.0) ≡ chain a p.0 = rw (eq-eqb b b refl) in
    let three : chain a h ≡ chain a p.0 = chain_later w a (later_trans (later_once (ProposedAgain b a)) p.1) ok proposed in
    one ∙ two ∙ sym three

-- a proposal is new or again
pub kind : (b : ℕ) (h : List Event) → Ever (IsProposal b) h
    → ((c : ℕ) × (r : ReqId) × (y : Result) × (t : List ℕ) × Ever (IsOwnProposal b c r y t) h) ⊎ ((a : ℕ) × Ever (IsProposalAgain b a) h)
kind b [] was = elim was [ ]
kind b (e ∷ h) (inr was) = elim (kind b h was) [
  | inl k ↦ inl (k.0, k.1, k.2, k.3, inr k.4)
  | inr k ↦ inr (k.0, inr k.1)
]
kind b (Proposed x c r y t ∷ h) (inl is) = inl (c, r, y, t, inl (is, refl, refl, refl, refl))
kind b (ProposedAgain x a ∷ h) (inl is) = inr (a, inl (is, refl))
kind b (_ ∷ h) (inl is) = elim is [ ]
