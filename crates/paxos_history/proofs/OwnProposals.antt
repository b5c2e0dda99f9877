-- An operation is chosen at most once: of its own proposals at most one is ever accepted anywhere.
use Rattle.std.proofs.Common.{◌≡◌, ℕ, zero, suc, ◌<◌, ◌≤◌, List, [], ◌∷◌, ◌⊎◌, inl, inr, sym, subst, arith, le_refl, lt_of_lt_of_le, ◌∙◌}
use Rattle.paxos_history.specs.Protocol.{Later, here, Event, Proposed, ProposedAgain, Accepted, Refused, Setup, Ever, Member, IsAcceptance, IsRefusal, IsProposal, IsOwnProposal, IsProposalAgain, chain, Chosen, Lawful, promised}
use Rattle.paxos_history.proofs.Histories.{later_once, later_trans, own_back, again_back, ever_later, chosen_later}
use Rattle.paxos_history.proofs.Acceptors.{rises, accepted_proposed}
use Rattle.paxos_history.proofs.Bases.{base_below}
use Rattle.paxos_history.proofs.Chains.{base_chosen, own_chain, again_chain, again_from, kind}
use Rattle.cs_base.specs.declared.ids.ReqId.{ReqId}
use Rattle.paxos_history.specs.Protocol.{Result}

-- what was refused is below the promise
pub refusal_below : (w : Setup) (n b : ℕ) (h : List Event) → Lawful w h → Ever (IsRefusal n b) h → b < promised n h
refusal_below w n b [] ok was = elim was [ ]
refusal_below w n b (Refused m x ∷ h) ok (inl is) = let p : x < promised m h = ok.1.below in subst (λ z. z < promised n h) is.1 (subst (λ z. x < promised z h) is.0 p)
refusal_below w n b (_ ∷ h) ok (inl is) = elim is [ ]
refusal_below w n b (e ∷ h) ok (inr was) = lt_of_lt_of_le (refusal_below w n b h ok.0 was) (rises w n e h ok.1)

-- what is refused was not accepted before, and never is
pub refused_never : (w : Setup) (n b : ℕ) (h : List Event) → Lawful w h → Ever (IsRefusal n b) h → Ever (IsAcceptance n b) h → ⊥
refused_never w n b [] ok r a = r
refused_never w n b (e ∷ h) ok (inr r) (inr a) = refused_never w n b h ok.0 r a
refused_never w n b (Refused m x ∷ h) ok (inl is) (inr a) = ok.1.never (subst (λ z. Ever (IsAcceptance m z) h) (sym is.1) (subst (λ z. Ever (IsAcceptance z b) h) (sym is.0) a))
refused_never w n b (_ ∷ h) ok (inl is) (inr a) = elim is [ ]
refused_never w n b (Accepted m x ∷ h) ok (inr r) (inl is) =
    let p = refusal_below w n b h ok.0 r in
    let q : promised n h ≤ x = rw is.0 at ok.1.above in
    let same = is.1 in omega arith
refused_never w n b (_ ∷ h) ok (inr r) (inl is) = elim is [ ]
refused_never w n b (Refused m x ∷ h) ok (inl is) (inl isnt) = elim isnt [ ]
refused_never w n b (_ ∷ h) ok (inl is) (inl isnt) = elim is [ ]

own_proposal : (b c : ℕ) (r : ReqId) (y : Result) (t : List ℕ) (e : Event) → IsOwnProposal b c r y t e → IsProposal b e
own_proposal b c r y t (Proposed _ _ _ _ _) is = is.0
own_proposal b c r y t _ is = elim is [ ]

pub own_proposed : (b c : ℕ) (r : ReqId) (y : Result) (t : List ℕ) (h : List Event) → Ever (IsOwnProposal b c r y t) h → Ever (IsProposal b) h
own_proposed b c r y t [] was = was
own_proposed b c r y t (e ∷ h) (inl is) = inl (own_proposal b c r y t e is)
own_proposed b c r y t (e ∷ h) (inr was) = inr (own_proposed b c r y t h was)

-- an own proposal is accepted by its targets alone
pub only_targets : (w : Setup) (n b c : ℕ) (r : ReqId) (y : Result) (t : List ℕ) (h : List Event) → Lawful w h → Ever (IsOwnProposal b c r y t) h → Ever (IsAcceptance n b) h → Member n t
only_targets w n b c r y t [] ok f a = elim f [ ]
only_targets w n b c r y t (e ∷ h) ok (inr f) (inr a) = only_targets w n b c r y t h ok.0 f a
only_targets w n b c r y t (Accepted m x ∷ h) ok (inr f) (inl is) =
    subst (λ z. Member z t) is.0 (ok.1.target c r y t (subst (λ z. Ever (IsOwnProposal z c r y t) h) (sym is.1) f))
only_targets w n b c r y t (_ ∷ h) ok (inr f) (inl is) = elim is [ ]
only_targets w n b c r y t (Proposed x _ _ _ _ ∷ h) ok (inl is) (inr a) =
    absurd (ok.1.unused (subst (λ z. Ever (IsProposal z) h) (sym is.0) (accepted_proposed w n b h ok.0 a)))
only_targets w n b c r y t (_ ∷ h) ok (inl is) (inr a) = elim is [ ]
only_targets w n b c r y t (Proposed _ _ _ _ _ ∷ h) ok (inl is) (inl isnt) = elim isnt [ ]
only_targets w n b c r y t (_ ∷ h) ok (inl is) (inl isnt) = elim is [ ]

-- of two proposals of one operation at most one is accepted: h is the part in which both were made
once_in : (w : Setup) (o c : ℕ) (r : ReqId) (y : Result) (o' c' : ℕ) (y' : Result) (n n' : ℕ) (t t' : List ℕ) (h k : List Event) → Lawful w h → Lawful w k → Later h k
    → Ever (IsOwnProposal o c r y t) h → Ever (IsOwnProposal o' c' r y' t') h → Ever (IsAcceptance n o) k → Ever (IsAcceptance n' o') k → o ≡ o'
once_in w o c r y o' c' y' n n' t t' [] k ok okk l f f' a a' = elim f [ ]
once_in w o c r y o' c' y' n n' t t' (e ∷ h) k ok okk l (inr f) (inr f') a a' =
    once_in w o c r y o' c' y' n n' t t' h k ok.0 okk (later_trans (later_once e) l) f f' a a'
once_in w o c r y o' c' y' n n' t t' (Proposed x z r2 y2 t2 ∷ h) k ok okk l (inl is) (inl is') a a' = sym is.0 ∙ is'.0
once_in w o c r y o' c' y' n n' t t' (_ ∷ h) k ok okk l (inl is) (inl is') a a' = elim is [ ]
once_in w o c r y o' c' y' n n' t t' (Proposed x z r2 y2 t2 ∷ h) k ok okk l (inl is) (inr f') a a' =
    let up = later_trans (later_once (Proposed x z r2 y2 t2)) l in
    let f2 : Ever (IsOwnProposal o' c' r2 y' t') h = subst (λ v. Ever (IsOwnProposal o' c' v y' t') h) (sym is.2) f' in
    let target = only_targets w n' o' c' r y' t' k okk (ever_later (IsOwnProposal o' c' r y' t') up f') a' in
    absurd (refused_never w n' o' k okk (ever_later (IsRefusal n' o') up (ok.1.dead o' c' y' t' f2 n' target)) a')
once_in w o c r y o' c' y' n n' t t' (_ ∷ h) k ok okk l (inl is) (inr f') a a' = elim is [ ]
once_in w o c r y o' c' y' n n' t t' (Proposed x z r2 y2 t2 ∷ h) k ok okk l (inr f) (inl is) a a' =
    let up = later_trans (later_once (Proposed x z r2 y2 t2)) l in
    let f2 : Ever (IsOwnProposal o c r2 y t) h = subst (λ v. Ever (IsOwnProposal o c v y t) h) (sym is.2) f in
    let target = only_targets w n o c r y t k okk (ever_later (IsOwnProposal o c r y t) up f) a in
    absurd (refused_never w n o k okk (ever_later (IsRefusal n o) up (ok.1.dead o c y t f2 n target)) a)
once_in w o c r y o' c' y' n n' t t' (_ ∷ h) k ok okk l (inr f) (inl is) a a' = elim is [ ]

pub once : (w : Setup) (o c : ℕ) (r : ReqId) (y : Result) (o' c' : ℕ) (y' : Result) (n n' : ℕ) (t t' : List ℕ) (h : List Event) → Lawful w h
    → Ever (IsOwnProposal o c r y t) h → Ever (IsOwnProposal o' c' r y' t') h → Ever (IsAcceptance n o) h → Ever (IsAcceptance n' o') h → o ≡ o'
once w o c r y o' c' y' n n' t t' h ok f f' a a' = once_in w o c r y o' c' y' n n' t t' h h ok ok here f f' a a'

-- where the update that a ballot carries was first computed
pub record Origin (w : Setup) (h : List Event) (b : ℕ) : Type 0 where
  pub first : ℕ
  pub base : ℕ
  pub request : ReqId
  pub result : Result
  pub targets : List ℕ
  pub own : Ever (IsOwnProposal first base request result targets) h
  pub is : chain b h ≡ record { origin = first; request = request; result = result } ∷ chain base h
  pub upto : first ≤ b
  pub under : base < first
  pub rests : (base ≡ 0) ⊎ Chosen w base h
  -- accepted somewhere, if the ballot was
  pub accepted : (n : ℕ) → Ever (IsAcceptance n b) h → (m : ℕ) × Ever (IsAcceptance m first) h

-- a ballot that carries the update of a lower one that was accepted has its origin
origin_again : (w : Setup) (h : List Event) (b x n : ℕ) → chain b h ≡ chain x h → x < b → Ever (IsAcceptance n x) h → Origin w h x → Origin w h b
origin_again w h b x n same lower acc o =
    let upto : o.first ≤ x = o.upto in
    record {
      first = o.first;
      base = o.base;
      request = o.request;
      result = o.result;
      targets = o.targets;
      own = o.own;
      is = same ∙ o.is;
      upto = omega arith;
      under = o.under;
      rests = o.rests;
      accepted = λ m a. o.accepted n acc;
    }

origin_in : (w : Setup) (k b : ℕ) (h : List Event) → Lawful w h → b < k → Ever (IsProposal b) h → Origin w h b
origin_in w zero b h ok lt was = absurd (omega arith)
origin_in w (suc k) b h ok lt was = go (kind b h was) (λ x less prop. origin_in w k x h ok less prop)
  where
    go : ((c : ℕ) × (r : ReqId) × (y : Result) × (t : List ℕ) × Ever (IsOwnProposal b c r y t) h) ⊎ ((x : ℕ) × Ever (IsProposalAgain b x) h)
        → ((x : ℕ) → x < k → Ever (IsProposal x) h → Origin w h x) → Origin w h b
    go (inl (c, r, y, t, own)) ih =
        let p = own_back w b c r y t h ok own in
        let up = later_trans (later_once (Proposed b c r y t)) p.1 in
        record {
          first = b;
          base = c;
          request = r;
          result = y;
          targets = t;
          own = own;
          is = own_chain w b c r y t h ok own;
          upto = le_refl b;
          under = base_below w b c r y p.0 p.2 p.3;
          rests = elim (base_chosen w b c r y p.0 p.2 p.3) [ inl z ↦ inl z | inr is ↦ inr (chosen_later w c up is) ];
          accepted = λ n a. (n, a);
        }
    go (inr (x, again)) ih =
        let p = again_back w b x h ok again in
        let from = again_from w b x p.0 p.2 p.3 in
        let acc : Ever (IsAcceptance from.1.0 x) h = ever_later (IsAcceptance from.1.0 x) (later_trans (later_once (ProposedAgain b x)) p.1) from.1.1 in
        let lower : x < b = from.0 in
        origin_again w h b x from.1.0 (again_chain w b x h ok again) lower acc (ih x (omega arith) (accepted_proposed w from.1.0 x h ok acc))

pub origin : (w : Setup) (b : ℕ) (h : List Event) → Lawful w h → Ever (IsProposal b) h → Origin w h b
origin w b h ok was = origin_in w (suc b) b h ok (omega arith) was
