-- A chosen ballot at or below a proposal is in the proposal's chain.
use Rattle.std.proofs.Common.{le_of_lt, lt_of_le_of_lt, ◌≡◌, ℕ, zero, suc, ◌<◌, ◌≤◌, ◌≢◌, List, ◌⊎◌, inl, inr, subst, arith, le_trans}
use Rattle.paxos_history.specs.Protocol.{Later, Event, Proposed, ProposedAgain, Setup, Ever, IsPromise, IsProposal, IsOwnProposal, IsProposalAgain, chain, Chosen, MayPropose, MayProposeAgain, Lawful, Under, same, below}
use Rattle.paxos_history.proofs.Histories.{later_once, later_trans, quorums_meet, own_back, again_back, ever_later, same_or_not}
use Rattle.paxos_history.proofs.Acceptors.{promise_sees, accepted_proposed, chosen_proposed}
use Rattle.paxos_history.proofs.Bases.{base_below}
use Rattle.paxos_history.proofs.Chains.{base_chosen, own_chain, again_chain, again_from, kind, proposal_positive}
use Rattle.cs_base.specs.declared.ids.ReqId.{ReqId}
use Rattle.paxos_history.specs.Protocol.{Result}

-- where b was chosen, a new proposal above it has a base at or above it
pub base_sees : (w : Setup) (a c : ℕ) (r : ReqId) (y : Result) (b : ℕ) {h' : List Event} (h : List Event) → Later h' h → Lawful w h → MayPropose w h' a c r y → Chosen w b h → b < a → b ≤ c
base_sees w a c r y b h l ok may (q, big, all) lt =
    let n = quorums_meet w may.quorum q may.big big in
    let p = may.promises n.0 n.1 in
    elim (promise_sees w n.0 a p.0 c b p.1 h ok (ever_later (IsPromise n.0 a p.0 c p.1) l p.2) (all n.0 n.2) lt) [
      | inl le ↦ le_trans le p.3
      | inr le ↦ le
    ]

pub again_sees : (w : Setup) (a x b : ℕ) {h' : List Event} (h : List Event) → Later h' h → Lawful w h → MayProposeAgain w h' a x → Chosen w b h → b < a → b ≤ x
again_sees w a x b h l ok may (q, big, all) lt =
    let n = quorums_meet w may.quorum q may.big big in
    let p = may.promises n.0 n.1 in
    elim (promise_sees w n.0 a p.0 p.1 b p.2 h ok (ever_later (IsPromise n.0 a p.0 p.1 p.2) l p.3) (all n.0 n.2) lt) [
      | inl le ↦ le_trans le p.4
      | inr le ↦ le_of_lt (lt_of_le_of_lt le p.5)
    ]

agree : (w : Setup) (k a b : ℕ) (h : List Event) → Lawful w h → a < k → Chosen w b h → Ever (IsProposal a) h → b ≤ a → Under (chain b h) (chain a h)
agree w zero a b h ok lt chosen was le = absurd (omega arith)
agree w (suc k) a b h ok lt chosen was le = go (same_or_not b a) (kind a h was)
    (λ x lx prop lex. agree w k x b h ok lx chosen prop lex)
  where
    go : (b ≡ a) ⊎ (b ≢ a)
        → ((c : ℕ) × (r : ReqId) × (y : Result) × (t : List ℕ) × Ever (IsOwnProposal a c r y t) h) ⊎ ((x : ℕ) × Ever (IsProposalAgain a x) h)
        → ((x : ℕ) → x < k → Ever (IsProposal x) h → b ≤ x → Under (chain b h) (chain x h))
        → Under (chain b h) (chain a h)
    go (inl e) kd ih = subst (λ x. Under (chain b h) (chain x h)) e same
    go (inr ne) (inl (c, r, y, t, own)) ih =
        let p = own_back w a c r y t h ok own in
        let later = later_trans (later_once (Proposed a c r y t)) p.1 in
        let less : b < a = omega arith in
        let at : b ≤ c = base_sees w a c r y b h later ok p.3 chosen less in
        let lower : c < a = base_below w a c r y p.0 p.2 p.3 in
        let pos : 0 < b = proposal_positive w b h ok (chosen_proposed w b h ok chosen) in
        let prop : Ever (IsProposal c) h = elim (base_chosen w a c r y p.0 p.2 p.3) [
          | inl z ↦ absurd (omega arith)
          | inr is ↦ ever_later (IsProposal c) later (chosen_proposed w c p.0 p.2 is)
        ] in
        rw (own_chain w a c r y t h ok own) (below (ih c (omega arith) prop at))
    go (inr ne) (inr (x, again)) ih =
        let p = again_back w a x h ok again in
        let later = later_trans (later_once (ProposedAgain a x)) p.1 in
        let less : b < a = omega arith in
        let at : b ≤ x = again_sees w a x b h later ok p.3 chosen less in
        let from = again_from w a x p.0 p.2 p.3 in
        let lower : x < a = from.0 in
        let prop : Ever (IsProposal x) h = ever_later (IsProposal x) later (accepted_proposed w from.1.0 x p.0 p.2 from.1.1) in
        rw (again_chain w a x h ok again) (ih x (omega arith) prop at)

pub agreement : (w : Setup) (a b : ℕ) (h : List Event) → Lawful w h → Chosen w b h → Ever (IsProposal a) h → b ≤ a → Under (chain b h) (chain a h)
agreement w a b h ok chosen was le = agree w (suc a) a b h ok (omega arith) chosen was le
