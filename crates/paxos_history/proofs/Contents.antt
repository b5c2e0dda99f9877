-- The content on which a chosen update was computed shows the map after the chain below it.
use Rattle.std.proofs.Common.{true, Bool, ◌≡◌, ◌↔◌, ℕ, zero, suc, ◌<◌, ◌≤◌, ◌==◌, ◌≢◌, List, [], ◌∷◌, length, ◌⊎◌, inl, inr, refl, sym, ap, subst, arith, le_refl, le_of_lt, ◌∙◌, Contains}
use Rattle.std.specs.Prelude.{Option, None, Some, ℤ, pos, ◌≤ℤ◌, ◌<ℤ◌}
use Rattle.std.proofs.lemmas.Int.{ints}
use Rattle.changes.specs.declared.Draft.{Draft}
use Rattle.changes.specs.declared.Held.{Held}
use Rattle.changes.specs.declared.Place.{Place}
use Rattle.changes.specs.Order.{Encloses, Outranks}
use Rattle.changes.specs.Contents.{IsReachedBy}
use Rattle.change_laws.proofs.Outranking.{Outranks_trans}
use Rattle.change_laws.proofs.Contents.{reached_below}
use Rattle.cs_base.proofs.Members.{contains_nil, contains_map, contains_from_map}
use Rattle.single_copy.specs.Maps.{Slot, place_of, seen, ActsOn, IsValueAt, DraftOutranks, LeavesIn, ShowsAt}
use Rattle.paxos_history.specs.Protocol.{Later, here, more, Event, Promised, Proposed, ProposedAgain, Committed, Mended, Setup, Ever, IsPromise, IsProposal, IsOwnProposal, IsCommit, Update, chain, Chosen, MayPropose, Lawful, Under, same, below, drafts_in, proposed_at, changes_of, Taken, commit}
use Rattle.paxos_history.proofs.Histories.{pick, back, later_once, later_trans, later_was, lawful_later, quorums_meet, own_back, promise_back, ever_later, same_or_not, chosen_later}
use Rattle.paxos_history.proofs.Acceptors.{chosen_proposed, commit_was, promise_order}
use Rattle.paxos_history.proofs.Chains.{chain_later, proposal_positive, chain_zero}
use Rattle.paxos_history.proofs.Agreement.{agreement, base_sees}
use Rattle.paxos_history.proofs.OwnProposals.{Origin, origin, own_proposed}
use Rattle.single_copy.proofs.Slots.{drafts_act}
use Rattle.paxos_history.proofs.Slots.{Top, top, acts_above, not_older, later_outranks, to_draft, from_draft}

-- ---- chains

pub under_cases : {us vs : List Update} {v : Update} → Under us (v ∷ vs) → (us ≡ v ∷ vs) ⊎ Under us vs
under_cases same = inl refl
under_cases (below p) = inr p

pub under_nil : (u : Update) (us : List Update) → Under (u ∷ us) [] → ⊥
under_nil u us p = elim p [ ]

pub under_length : {us vs : List Update} → Under us vs → length us ≤ length vs
under_length same = le_refl _
under_length (below p) = let q = under_length p in omega arith

pub under_both : {us vs : List Update} → Under us vs → Under vs us → us ≡ vs
under_both same q = refl
under_both (below p) q = let a = under_length p in let b = under_length q in absurd (omega arith)

pub under_trans : {us vs ws : List Update} → Under us vs → Under vs ws → Under us ws
under_trans p same = p
under_trans p (below q) = below (under_trans p q)

abbrev pub MadeIn : List Event → Update → Type 0
MadeIn h u = (c : ℕ) × (t : List ℕ) × Ever (IsOwnProposal u.origin c u.request u.result t) h

made_more : (e : Event) (h : List Event) (u : Update) → MadeIn h u → MadeIn (e ∷ h) u
made_more e h u (c, t, was) = (c, t, inr was)

-- each update of a chain was proposed
pub chain_member : (b : ℕ) (h : List Event) (u : Update) (us : List Update) → Under (u ∷ us) (chain b h) → MadeIn h u
chain_member b [] u us = λ p. absurd (under_nil u us p)
chain_member b (Proposed x c r y t ∷ h) u us =
    pick (x == b) (record { origin = x; request = r; result = y } ∷ chain c h) (chain b h)
    (λ vs. Under (u ∷ us) vs → MadeIn (Proposed x c r y t ∷ h) u)
    (λ p. now (chain_member c h u us) (under_cases p))
    (λ p. made_more (Proposed x c r y t) h u (chain_member b h u us p))
  where
    now : (Under (u ∷ us) (chain c h) → MadeIn h u)
        → ((u ∷ us) ≡ (record { origin = x; request = r; result = y } ∷ chain c h)) ⊎ Under (u ∷ us) (chain c h) → MadeIn (Proposed x c r y t ∷ h) u
    now ih (inl e) =
        let eu : u ≡ record { origin = x; request = r; result = y } = cc in
        (c, t, inl (ap (λ (v : Update). v.origin) (sym eu), refl, ap (λ (v : Update). v.request) (sym eu), ap (λ (v : Update). v.result) (sym eu), refl))
    now ih (inr p) = made_more (Proposed x c r y t) h u (ih p)
chain_member b (ProposedAgain x a ∷ h) u us =
    pick (x == b) (chain a h) (chain b h)
    (λ vs. Under (u ∷ us) vs → MadeIn (ProposedAgain x a ∷ h) u)
    (λ p. made_more (ProposedAgain x a) h u (chain_member a h u us p))
    (λ p. made_more (ProposedAgain x a) h u (chain_member b h u us p))
chain_member b (e ∷ h) u us = λ p. made_more e h u (chain_member b h u us p)

-- ---- changes of a ballot

pub of_ballot : (b : ℕ) (us : List Update) (x : Held) → Contains (changes_of b us) x → (x.timestamp ≡ pos b) × (x.submitted ≡ b)
of_ballot b [] x h = absurd (contains_nil x h)
of_ballot b (u ∷ us) x h =
    let d = contains_from_map (proposed_at b u.request) (drafts_in u.result) x h in
    (ap (λ (z : Held). z.timestamp) (sym d.2), ap (λ (z : Held). z.submitted) (sym d.2))

first_of : (b : ℕ) (us : List Update) (x : Held) → Contains (changes_of b us) x → (u : Update) × (vs : List Update) × (us ≡ u ∷ vs)
first_of b [] x h = absurd (contains_nil x h)
first_of b (u ∷ us) x h = (u, us, refl)

-- ---- what a replica has taken

abbrev pub Reached : (Held → Type 0) → Held → Type 0
Reached S x = S x ⊎ ((y : Held) × S y × Outranks y x)

taken_more : (n : ℕ) (x : Held) (e : Event) (h : List Event) → Taken n h x → Taken n (e ∷ h) x
taken_more n x (Committed m b) h t = inr t
taken_more n x (Mended m xs) h t = inr t
taken_more n x (Promised _ _ _ _ _) h t = t
taken_more n x _ h t = t

pub taken_later : (n : ℕ) (x : Held) {h k : List Event} → Later h k → Taken n h x → Taken n k x
taken_later n x here t = t
taken_later n x (more {h = h} {k = k} {e = e} l) t = taken_more n x e k (taken_later n x l t)

-- it is of a chosen ballot, and what else of that ballot acts on the slot in which it stands was taken too, or is outranked
pub record Whole (w : Setup) (n : ℕ) (h : List Event) (x : Held) : Type 0 where
  pub ballot : ℕ
  pub chosen : Chosen w ballot h
  pub of : Contains (changes_of ballot (chain ballot h)) x
  pub beside : (k : Slot) → x.place ≡ place_of k → (y : Held) → Contains (changes_of ballot (chain ballot h)) y → ActsOn y.place k → Reached (Taken n h) y

reached_more : (n : ℕ) (e : Event) (h : List Event) (y : Held) → Reached (Taken n h) y → Reached (Taken n (e ∷ h)) y
reached_more n e h y (inl t) = inl (taken_more n y e h t)
reached_more n e h y (inr (z, t, over)) = inr (z, taken_more n z e h t, over)

whole_more : (w : Setup) (n : ℕ) (e : Event) (h : List Event) (x : Held) → Lawful w (e ∷ h) → Whole w n h x → Whole w n (e ∷ h) x
whole_more w n e h x ok t =
    let same : chain t.ballot (e ∷ h) ≡ chain t.ballot h = chain_later w t.ballot (later_once e) ok (chosen_proposed w t.ballot h ok.0 t.chosen) in
    record {
      ballot = t.ballot;
      chosen = chosen_later w t.ballot (later_once e) t.chosen;
      of = subst (λ (us : List Update). Contains (changes_of t.ballot us) x) (sym same) t.of;
      beside = λ k a y mem b. reached_more n e h y (t.beside k a y (subst (λ (us : List Update). Contains (changes_of t.ballot us) y) same mem) b);
    }

pub taken_whole : (w : Setup) (n : ℕ) (h : List Event) → Lawful w h → (x : Held) → Taken n h x → Whole w n h x
taken_whole w n [] ok x t = elim t [ ]
taken_whole w n (Committed m b ∷ h) ok x (inl (mine, mem)) = record {
  ballot = b;
  chosen = chosen_later w b (later_once (Committed m b)) ok.1;
  of = mem;
  beside = λ k a y has c. inl (inl (mine, has));
}
taken_whole w n (Committed m b ∷ h) ok x (inr t) = whole_more w n (Committed m b) h x ok (taken_whole w n h ok.0 x t)
taken_whole w n (Mended m xs ∷ h) ok x (inl (mine, mem)) =
    let may = ok.1 x mem in
    record {
      ballot = may.ballot;
      chosen = chosen_later w may.ballot (later_once (Mended m xs)) may.chosen;
      of = may.of;
      beside = λ k a y has c. elim (may.beside k a y has c) [ inl there ↦ inl (inl (mine, there)) | inr r ↦ inr (r.0, inl (mine, r.1), r.2) ];
    }
taken_whole w n (Mended m xs ∷ h) ok x (inr t) = whole_more w n (Mended m xs) h x ok (taken_whole w n h ok.0 x t)
taken_whole w n (Promised p b a c s ∷ h) ok x t = whole_more w n (Promised p b a c s) h x ok (taken_whole w n h ok.0 x t)
taken_whole w n (e ∷ h) ok x t = whole_more w n e h x ok (taken_whole w n h ok.0 x t)

commit_is : (n b : ℕ) (e : Event) → IsCommit n b e → e ≡ Committed n b
commit_is n b (Committed n' b') is = λ i. Committed (is.0 i) (is.1 i)
commit_is n b _ is = elim is [ ]

pub commit_back : (w : Setup) (n b : ℕ) (h : List Event) → Lawful w h → Ever (IsCommit n b) h → (h' : List Event) × Later (Committed n b ∷ h') h × Lawful w h' × Chosen w b h'
commit_back w n b h ok was =
    let p = back (IsCommit n b) h was in
    let l = subst (λ e. Later (e ∷ p.1) h) (commit_is n b p.0 p.2) p.3 in
    let law = lawful_later w l ok in
    (p.1, l, law.0, law.1)

-- a commit takes the whole update
pub committed_taken : (w : Setup) (n b : ℕ) (h : List Event) (x : Held) → Lawful w h → Ever (IsCommit n b) h → Contains (changes_of b (chain b h)) x → Taken n h x
committed_taken w n b h x ok was mem =
    let p = commit_back w n b h ok was in
    let same : chain b h ≡ chain b p.0 = chain_later w b (later_was p.1) ok (chosen_proposed w b p.0 p.2 p.3) in
    taken_later n x p.1 (inl (refl, subst (λ (us : List Update). Contains (changes_of b us) x) same mem))

-- ---- what a slot has after a chain

abbrev pub ActsIn : Update → Slot → Type 0
ActsIn u k = (d : Draft) × Contains (drafts_in u.result) d × ActsOn d.place k

abbrev pub ValueOf : List Update → Slot → Option (List ℕ) → Type 0
ValueOf [] k o = o ≡ None
ValueOf (u ∷ us) k o = (ActsIn u k × ((v : List ℕ) → (o ≡ Some v) ↔ LeavesIn (drafts_in u.result) k v)) ⊎ ((ActsIn u k → ⊥) × ValueOf us k o)

-- what was known of the replicas that promised a ballot when they did
pub record From (q : ℕ → Bool) (b c : ℕ) (h : List Event) (P : ℕ → List Event → Type 0) : Type 0 where
  pub node : ℕ
  pub accepted : ℕ
  pub held : List Held
  pub then_ : List Event
  pub is : q node ≡ true
  pub at : Later (Promised node b accepted c held ∷ then_) h
  pub holds : P node then_

abbrev pub HasTaken : Held → ℕ → List Event → Type 0
HasTaken x n k = Taken n k x

abbrev pub HasCommitted : ℕ → ℕ → List Event → Type 0
HasCommitted z n k = Ever (IsCommit n z) k

pos_below : (a b : ℕ) (x y : ℤ) → x ≡ pos a → y ≡ pos b → a < b → x <ℤ y
pos_below a b x y e f lt = let g : pos a <ℤ pos b = omega (arith, ints) in subst (λ z. z <ℤ y) (sym e) (subst (λ z. pos a <ℤ z) (sym f) g)

pos_upto : (a b : ℕ) (x y : ℤ) → x ≡ pos a → y ≡ pos b → x ≤ℤ y → a ≤ b
pos_upto a b x y e f le = let g : pos a ≤ℤ pos b = subst (λ z. z ≤ℤ pos b) e (subst (λ z. x ≤ℤ z) f le) in omega (arith, ints, g)

module _ (w : Setup) (b : ℕ) (h : List Event) (ok : Lawful w h) (chosen : Chosen w b h) (o : Origin w h b)
    (h' : List Event) (on : Later (Proposed o.first o.base o.request o.result o.targets ∷ h') h) (ok' : Lawful w h')
    (may : MayPropose w h' o.first o.base o.request o.result) where
  up : Later h' h
  up = later_trans (later_once (Proposed o.first o.base o.request o.result o.targets)) on

  abbrev T : Held → Type 0
  T x = From may.quorum o.first o.base h' (HasTaken x)

  abbrev All : ℕ → Type 0
  All z = From may.quorum o.first o.base h' (HasCommitted z)

  -- the update itself is in no chain of what was chosen before
  not_yet : (x : ℕ) → Chosen w x h' → (us : List Update) → Under (record { origin = o.first; request = o.request; result = o.result } ∷ us) (chain x h) → ⊥
  not_yet x is us p =
      let q = subst (λ vs. Under (record { origin = o.first; request = o.request; result = o.result } ∷ us) vs) (chain_later w x up ok (chosen_proposed w x h' ok' is)) p in
      let m = chain_member x h' _ us q in
      may.unused (own_proposed o.first m.0 o.request o.result m.1 h' m.2)

  -- all that was chosen before is in the chain of the base
  s_under : (x : ℕ) → Chosen w x h' → Under (chain x h) (chain o.base h)
  s_under x is = go (same_or_not x o.first) (grind arith)
    where
      there : Chosen w x h
      there = chosen_later w x up is

      prop' : Ever (IsProposal x) h'
      prop' = chosen_proposed w x h' ok' is

      prop : Ever (IsProposal x) h
      prop = ever_later (IsProposal x) up prop'

      posx : 0 < x
      posx = proposal_positive w x h ok prop

      rest : (us : List Update) → us ≡ chain x h → Under us (record { origin = o.first; request = o.request; result = o.result } ∷ chain o.base h) → Under us (chain o.base h)
      rest us e p = elim (under_cases p) [
        | inl all ↦ absurd (not_yet x is (chain o.base h) (subst (λ vs. Under vs (chain x h)) all (subst (λ vs. Under us vs) e same)))
        | inr q ↦ q
      ]

      go : (x ≡ o.first) ⊎ (x ≢ o.first) → (x ≤ o.base) ⊎ ((o.base < x) × (x ≤ o.first)) ⊎ ((o.first ≤ x) × (b ≤ x)) ⊎ ((o.first ≤ x) × (x < b)) → Under (chain x h) (chain o.base h)
      go e (inl le) = agreement w o.base x h ok there (elim o.rests [ inl z ↦ (let at = posx in absurd (omega arith)) | inr r ↦ chosen_proposed w o.base h ok r ]) le
      go (inl e) (inr _) = absurd (may.unused (subst (λ v. Ever (IsProposal v) h') e prop'))
      go (inr ne) (inr (inl (lo, hi))) =
          let sees : x ≤ o.base = base_sees w o.first o.base o.request o.result x h up ok may there (omega arith) in absurd (omega arith)
      go (inr ne) (inr (inr (inl (lo, le)))) =
          let p = agreement w x b h ok chosen prop le in
          absurd (not_yet x is (chain o.base h) (subst (λ vs. Under vs (chain x h)) o.is p))
      go (inr ne) (inr (inr (inr (lo, lt)))) =
          let p = agreement w b x h ok there (chosen_proposed w b h ok chosen) (le_of_lt lt) in
          rest (chain x h) refl (subst (λ vs. Under (chain x h) vs) o.is p)

  all_chosen : (z : ℕ) → All z → Chosen w z h'
  all_chosen z f =
      let p = commit_back w f.node z f.then_ (lawful_later w (later_was f.at) ok') f.holds in
      chosen_later w z (later_trans (later_was p.1) (later_was f.at)) p.3

  all_chain : (z : ℕ) → All z → chain z h ≡ chain z h'
  all_chain z f = chain_later w z up ok (chosen_proposed w z h' ok' (all_chosen z f))

  -- some replica that promised both ballots had the base of what was gathered
  base_gathered : (x : ℕ) → x ≤ o.base → (ox : Origin w h x) → 0 < ox.base → All ox.base
  base_gathered x le ox pos' =
      let f = own_back w ox.first ox.base ox.request ox.result ox.targets h ok ox.own in
      let n = quorums_meet w may.quorum f.3.quorum may.big f.3.big in
      let p = may.promises n.0 n.1 in
      let p1 = f.3.promises n.0 n.2 in
      let k = promise_back w n.0 o.first p.0 o.base p.1 h' ok' p.2 in
      let k1 = promise_back w n.0 ox.first p1.0 ox.base p1.1 f.0 f.2 p1.2 in
      let a : ox.first ≤ x = ox.upto in
      let c : o.base < o.first = o.under in
      let lt : ox.first < o.first = omega arith in
      let fl = later_trans (later_once (Proposed ox.first ox.base ox.request ox.result ox.targets)) f.1 in
      let before = promise_order w n.0 ox.first p1.0 ox.base o.first p.0 o.base p1.1 p.1 ok (later_trans k1.1 fl) (later_trans k.1 up) lt in
      let ec : ox.base ≡ commit n.0 k1.0 = k1.3.commits in
      record {
        node = n.0;
        accepted = p.0;
        held = p.1;
        then_ = k.0;
        is = n.1;
        at = k.1;
        holds = elim (commit_was n.0 k1.0) [
          | inl z ↦ absurd (omega arith)
          | inr was ↦ ever_later (IsCommit n.0 ox.base) (later_was before) (subst (λ v. Ever (IsCommit n.0 v) k1.0) (sym ec) was)
        ];
      }

  -- each update of the chain was gathered
  shown_in : (k x : ℕ) → x < k → x ≤ o.base → All x → (u : Update) (us : List Update) → Under (u ∷ us) (chain x h) → (z : ℕ) × All z × (chain z h ≡ u ∷ us)
  shown_in zero x lt le is u us p = absurd (omega arith)
  shown_in (suc k) x lt le is u us p = go (λ c less low sc q. shown_in k c less low sc u us q) (under_cases (subst (λ vs. Under (u ∷ us) vs) ox.is p))
    where
      prop : Ever (IsProposal x) h
      prop = ever_later (IsProposal x) up (chosen_proposed w x h' ok' (all_chosen x is))

      ox : Origin w h x
      ox = origin w x h ok prop

      go : ((c : ℕ) → c < k → c ≤ o.base → All c → Under (u ∷ us) (chain c h) → (z : ℕ) × All z × (chain z h ≡ u ∷ us))
          → ((u ∷ us) ≡ (record { origin = ox.first; request = ox.request; result = ox.result } ∷ chain ox.base h)) ⊎ Under (u ∷ us) (chain ox.base h)
          → (z : ℕ) × All z × (chain z h ≡ u ∷ us)
      go ih (inl e) = (x, is, ox.is ∙ sym e)
      go ih (inr q) = elim ox.rests [
        | inl z ↦ absurd (under_nil u us (subst (λ vs. Under (u ∷ us) vs) (ap (λ c. chain c h) z ∙ chain_zero w h ok) q))
        | inr r ↦ (
            let a : ox.base < ox.first = ox.under in
            let b : ox.first ≤ x = ox.upto in
            ih ox.base (omega arith) (omega arith) (base_gathered x le ox (proposal_positive w ox.base h ok (chosen_proposed w ox.base h ok r))) q)
      ]

  shown : (u : Update) (us : List Update) → Under (u ∷ us) (chain o.base h) → (z : ℕ) × All z × (chain z h ≡ u ∷ us)
  shown u us p =
      let n = quorums_meet w may.quorum may.quorum may.big may.big in
      let q = may.promises n.0 n.1 in
      let k = promise_back w n.0 o.first q.0 o.base q.1 h' ok' q.2 in
      let ec : o.base ≡ commit n.0 k.0 = k.3.commits in
      elim (commit_was n.0 k.0) [
        | inl z ↦ absurd (under_nil u us (subst (λ vs. Under (u ∷ us) vs) (ap (λ c. chain c h) (ec ∙ z) ∙ chain_zero w h ok) p))
        | inr was ↦ shown_in (suc o.base) o.base (omega arith) (le_refl o.base) (record {
          node = n.0;
          accepted = q.0;
          held = q.1;
          then_ = k.0;
          is = n.1;
          at = k.1;
          holds = subst (λ v. Ever (IsCommit n.0 v) k.0) (sym ec) was;
        }) u us p
      ]

  -- the gathered content is the content of all that the replicas had taken
  t_within : (x : Held) → Contains may.content x → T x
  t_within x mem =
      let g = may.merged.within x mem in
      let k = promise_back w g.0 o.first g.1 o.base g.2 h' ok' g.4 in
      record { node = g.0; accepted = g.1; held = g.2; then_ = k.0; is = g.3; at = k.1; holds = k.3.holds.within x g.5 }

  t_held : (t : From may.quorum o.first o.base h' (λ n k. Unit {0})) (y : Held) → Contains t.held y → IsReachedBy may.content y
  t_held t y mem = may.merged.reached y (t.node, t.accepted, t.held, t.is, ever_later (IsPromise t.node o.first t.accepted o.base t.held) t.at (inl (refl, refl, refl, refl, refl)), mem)

  t_reached : (x : Held) → T x → IsReachedBy may.content x
  t_reached x t =
      let law = lawful_later w t.at ok' in
      let any : From may.quorum o.first o.base h' (λ n k. Unit {0}) = record { node = t.node; accepted = t.accepted; held = t.held; then_ = t.then_; is = t.is; at = t.at; holds = tt } in
      elim (law.1.holds.reached x t.holds) [
        | inl there ↦ t_held any x there
        | inr r ↦ reached_below may.content r.0 x (t_held any r.0 r.1) r.2
      ]

  all_taken : (z : ℕ) → All z → (x : Held) → Contains (changes_of z (chain z h)) x → T x
  all_taken z f x mem =
      let law = lawful_later w (later_was f.at) ok' in
      let p = commit_back w f.node z f.then_ law f.holds in
      let same : chain z h' ≡ chain z f.then_ = chain_later w z (later_was f.at) ok' (ever_later (IsProposal z) (later_was p.1) (chosen_proposed w z p.0 p.2 p.3)) in
      record {
        node = f.node;
        accepted = f.accepted;
        held = f.held;
        then_ = f.then_;
        is = f.is;
        at = f.at;
        holds = committed_taken w f.node z f.then_ x law f.holds (subst (λ (us : List Update). Contains (changes_of z us) x) (all_chain z f ∙ same) mem);
      }

  -- what is known of a gathered change
  record Known (x : Held) : Type 0 where
    ballot : ℕ
    was_chosen : Chosen w ballot h'
    of : Contains (changes_of ballot (chain ballot h)) x
    beside : (k : Slot) → x.place ≡ place_of k → (y : Held) → Contains (changes_of ballot (chain ballot h)) y → ActsOn y.place k → IsReachedBy may.content y

  known : (x : Held) → T x → Known x
  known x t =
      let law = lawful_later w (later_was t.at) ok' in
      let k = taken_whole w t.node t.then_ law x t.holds in
      let l = later_trans (later_was t.at) up in
      let same : chain k.ballot h ≡ chain k.ballot t.then_ = chain_later w k.ballot l ok (chosen_proposed w k.ballot t.then_ law k.chosen) in
      let there : (y : Held) → Taken t.node t.then_ y → IsReachedBy may.content y = λ y has. t_reached y (record { node = t.node; accepted = t.accepted; held = t.held; then_ = t.then_; is = t.is; at = t.at; holds = has }) in
      record {
        ballot = k.ballot;
        was_chosen = chosen_later w k.ballot (later_was t.at) k.chosen;
        of = subst (λ (us : List Update). Contains (changes_of k.ballot us) x) (sym same) k.of;
        beside = λ s a y mem c. elim (k.beside s a y (subst (λ (us : List Update). Contains (changes_of k.ballot us) y) same mem) c) [
          | inl has ↦ there y has
          | inr r ↦ reached_below may.content r.0 y (there r.0 r.1) r.2
        ];
      }

  in_content : (x : Held) → Contains may.content x → Known x
  in_content x mem = known x (t_within x mem)

  -- the last change that acts on the slot, with the update that it is of
  record Leads (k : Slot) : Type 0 where
    change : Held
    there : Contains may.content change
    acts : ActsOn change.place k
    most : (x : Held) → Contains may.content x → ActsOn x.place k → x.submitted ≤ change.submitted
    its : Known change
    update : Update
    rest : List Update
    carried : chain its.ballot h ≡ update ∷ rest

  module _ (k : Slot) (l : Leads k) where
    stamp : l.change.submitted ≡ l.its.ballot
    stamp = (of_ballot l.its.ballot (chain l.its.ballot h) l.change l.its.of).1

    -- a change in the content that is no older is of the same ballot
    of_same : (x : Held) → Contains may.content x → ActsOn x.place k → l.its.ballot ≤ x.submitted → (d : Draft) × Contains (drafts_in l.update.result) d × (proposed_at l.its.ballot l.update.request d ≡ x)
    of_same x mem a le =
        let kx = in_content x mem in
        let sx : x.submitted ≡ kx.ballot = (of_ballot kx.ballot (chain kx.ballot h) x kx.of).1 in
        let st : l.change.submitted ≡ l.its.ballot = stamp in
        let upto : x.submitted ≤ l.change.submitted = l.most x mem a in
        let e : kx.ballot ≡ l.its.ballot = omega arith in
        let mem2 : Contains (changes_of l.its.ballot (chain l.its.ballot h)) x = subst (λ (z : ℕ). Contains (changes_of z (chain z h)) x) e kx.of in
        contains_from_map (proposed_at l.its.ballot l.update.request) (drafts_in l.update.result) x (subst (λ (us : List Update). Contains (changes_of l.its.ballot us) x) l.carried mem2)

    of_draft : (d : Draft) → Contains (drafts_in l.update.result) d → Contains (changes_of l.its.ballot (chain l.its.ballot h)) (proposed_at l.its.ballot l.update.request d)
    of_draft d mem = subst (λ (us : List Update). Contains (changes_of l.its.ballot us) (proposed_at l.its.ballot l.update.request d)) (sym l.carried) (contains_map (proposed_at l.its.ballot l.update.request) (drafts_in l.update.result) d mem)

    leaves_from : (v : List ℕ) → ShowsAt (Contains may.content) k v → LeavesIn (drafts_in l.update.result) k v
    leaves_from v (x, (mem, unbeaten), place, value) = go (of_same x mem acts (young (grind arith)))
      where
        acts : ActsOn x.place k
        acts = inl place

        young : (l.its.ballot ≤ x.submitted) ⊎ (x.submitted < l.its.ballot) → l.its.ballot ≤ x.submitted
        young (inl le) = le
        young (inr lt) =
            let kx = in_content x mem in
            let ox = of_ballot kx.ballot (chain kx.ballot h) x kx.of in
            let ot = of_ballot l.its.ballot (chain l.its.ballot h) l.change l.its.of in
            let sx : x.submitted ≡ kx.ballot = ox.1 in
            let less : kx.ballot < l.its.ballot = omega arith in
            absurd (unbeaten l.change l.there (later_outranks l.change x k l.acts place (pos_below kx.ballot l.its.ballot x.timestamp l.change.timestamp ox.0 ot.0 less)))

        go : (d : Draft) × Contains (drafts_in l.update.result) d × (proposed_at l.its.ballot l.update.request d ≡ x) → LeavesIn (drafts_in l.update.result) k v
        go (d, mem_d, e) = (d, mem_d, top_draft, ap (λ (z : Held). z.place) e ∙ place, subst (λ (z : Held). IsValueAt k z.value v) (sym e) value)
          where
            top_draft : (f : Draft) → Contains (drafts_in l.update.result) f → DraftOutranks f d → ⊥
            top_draft f mem_f over =
                let z : Held = proposed_at l.its.ballot l.update.request f in
                let beats : Outranks z x = subst (λ (y : Held). Outranks z y) e (from_draft l.its.ballot l.update.request f d over) in
                let kx = in_content x mem in
                let sx : x.submitted ≡ kx.ballot = (of_ballot kx.ballot (chain kx.ballot h) x kx.of).1 in
                let sd : l.its.ballot ≡ x.submitted = ap (λ (y : Held). y.submitted) e in
                let one : l.its.ballot ≡ kx.ballot = sd ∙ sx in
                elim (kx.beside k place z (subst (λ (i : ℕ). Contains (changes_of i (chain i h)) z) one (of_draft f mem_f)) (acts_above z x k beats acts)) [
                  | inl there ↦ unbeaten z there beats
                  | inr r ↦ unbeaten r.0 r.1 (Outranks_trans r.0 z x r.2 beats)
                ]

    leaves_to : (v : List ℕ) → LeavesIn (drafts_in l.update.result) k v → ShowsAt (Contains may.content) k v
    leaves_to v (d, mem, unbeaten, place, value) =
        let x : Held = proposed_at l.its.ballot l.update.request d in
        elim l.acts [
          | inl stands ↦ elim (l.its.beside k stands x (of_draft d mem) (inl place)) [
            | inl there ↦ (x, (there, λ y mem_y over. may.merged.apart y x mem_y there over), place, value)
            | inr r ↦ absurd (beaten r.0 r.1 r.2)
          ]
          | inr encloses ↦ absurd (covered encloses)
        ]
      where
        -- a deletion of the same update that encloses the slot
        covered : Encloses l.change.place (place_of k) → ⊥
        covered f =
            let t = of_same l.change l.there l.acts (let e = stamp in omega arith) in
            unbeaten t.0 t.1 (inr (subst (λ (z : Place). Encloses t.0.place z) (sym place) (subst (λ (z : Held). Encloses z.place (place_of k)) (sym t.2) f)))

        beaten : (y : Held) → Contains may.content y → Outranks y (proposed_at l.its.ballot l.update.request d) → ⊥
        beaten y mem_y over =
            let a : ActsOn y.place k = acts_above y (proposed_at l.its.ballot l.update.request d) k over (inl place) in
            let ky = in_content y mem_y in
            let oy = of_ballot ky.ballot (chain ky.ballot h) y ky.of in
            let sy : y.submitted ≡ ky.ballot = oy.1 in
            let le : l.its.ballot ≤ ky.ballot = pos_upto l.its.ballot ky.ballot (pos l.its.ballot) y.timestamp refl oy.0 (not_older y (proposed_at l.its.ballot l.update.request d) over) in
            let f = of_same y mem_y a (omega arith) in
            unbeaten f.0 f.1 (to_draft l.its.ballot l.update.request f.0 d (subst (λ (z : Held). Outranks z (proposed_at l.its.ballot l.update.request d)) (sym f.2) over))

    leads_value : (v : List ℕ) → (seen may.shown k ≡ Some v) ↔ LeavesIn (drafts_in l.update.result) k v
    leads_value v = let s = may.shows k v in (λ e. leaves_from v (s.0 e), λ has. s.1 (leaves_to v has))

    leads_acts : ActsIn l.update k
    leads_acts =
        let d = of_same l.change l.there l.acts (let e = stamp in omega arith) in
        (d.0, d.1, subst (λ (z : Held). ActsOn z.place k) (sym d.2) l.acts)

    -- what acts in the chain is no later
    chain_acts : (u : Update) (us : List Update) → Under (u ∷ us) (chain o.base h) → ActsIn u k → Under (u ∷ us) (chain l.its.ballot h)
    chain_acts u us p (d, mem, a) = go (shown u us p)
      where
        go : (z : ℕ) × All z × (chain z h ≡ u ∷ us) → Under (u ∷ us) (chain l.its.ballot h)
        go (z, all, e) = subst (λ vs. Under vs (chain l.its.ballot h)) e (agreement w l.its.ballot z h ok (chosen_later w z up (all_chosen z all)) (ever_later (IsProposal l.its.ballot) up (chosen_proposed w l.its.ballot h' ok' l.its.was_chosen)) (below_it (t_reached x (all_taken z all x there))))
          where
            x : Held
            x = proposed_at z u.request d

            there : Contains (changes_of z (chain z h)) x
            there = subst (λ (vs : List Update). Contains (changes_of z vs) x) (sym e) (contains_map (proposed_at z u.request) (drafts_in u.result) d mem)

            below_it : IsReachedBy may.content x → z ≤ l.its.ballot
            below_it (inl here') = let le : z ≤ l.change.submitted = l.most x here' a in let st : l.change.submitted ≡ l.its.ballot = stamp in omega arith
            below_it (inr (y, mem_y, over)) =
                let ky = in_content y mem_y in
                let oy = of_ballot ky.ballot (chain ky.ballot h) y ky.of in
                let sy : y.submitted ≡ ky.ballot = oy.1 in
                let low : z ≤ ky.ballot = pos_upto z ky.ballot (pos z) y.timestamp refl oy.0 (not_older y x over) in
                let le : y.submitted ≤ l.change.submitted = l.most y mem_y (acts_above y x k over a) in
                let st : l.change.submitted ≡ l.its.ballot = stamp in
                omega arith

    walk : (cs : List Update) → Under (l.update ∷ l.rest) cs → ((u : Update) (us : List Update) → Under (u ∷ us) cs → Under (u ∷ us) (chain o.base h)) → ValueOf cs k (seen may.shown k)
    walk [] p all = absurd (under_nil l.update l.rest p)
    walk (u ∷ us) p all = elim (drafts_act (drafts_in u.result) k) [
      | inl a ↦ inl (a, top_is a (under_cases p))
      | inr none ↦ inr (λ a. none a.0 a.1 a.2, walk us (further none (under_cases p)) (λ v vs q. all v vs (below q)))
    ]
      where
        top_is : ActsIn u k → ((l.update ∷ l.rest) ≡ (u ∷ us)) ⊎ Under (l.update ∷ l.rest) us → (v : List ℕ) → (seen may.shown k ≡ Some v) ↔ LeavesIn (drafts_in u.result) k v
        top_is a (inl e) v = let eu : l.update ≡ u = cc in subst (λ (z : Update). (seen may.shown k ≡ Some v) ↔ LeavesIn (drafts_in z.result) k v) eu (leads_value v)
        top_is a (inr q) v =
            let r = subst (λ vs. Under (u ∷ us) vs) l.carried (chain_acts u us (all u us same) a) in
            let n = under_length r in
            let m = under_length q in
            absurd (omega arith)

        further : ((d : Draft) → Contains (drafts_in u.result) d → ActsOn d.place k → ⊥) → ((l.update ∷ l.rest) ≡ (u ∷ us)) ⊎ Under (l.update ∷ l.rest) us → Under (l.update ∷ l.rest) us
        further none (inl e) = let eu : l.update ≡ u = cc in let a = leads_acts in absurd (none a.0 (subst (λ (z : Update). Contains (drafts_in z.result) a.0) eu a.1) a.2)
        further none (inr q) = q

  -- nothing in the content acts on the slot
  walk_none : (k : Slot) → ((x : Held) → Contains may.content x → ActsOn x.place k → ⊥) → (cs : List Update) → ((u : Update) (us : List Update) → Under (u ∷ us) cs → Under (u ∷ us) (chain o.base h)) → ValueOf cs k (seen may.shown k)
  walk_none k none [] all = nothing (seen may.shown k) refl
    where
      nothing : (v : Option (List ℕ)) → seen may.shown k ≡ v → v ≡ None
      nothing None e = refl
      nothing (Some v) e = let s = (may.shows k v).0 e in absurd (none s.0 s.1.0 (inl s.2))
  walk_none k none (u ∷ us) all = elim (drafts_act (drafts_in u.result) k) [
    | inl a ↦ absurd (acting a.0 a.1 a.2 (shown u us (all u us same)))
    | inr not' ↦ inr (λ a. not' a.0 a.1 a.2, walk_none k none us (λ v vs q. all v vs (below q)))
  ]
    where
      acting : (d : Draft) → Contains (drafts_in u.result) d → ActsOn d.place k → (z : ℕ) × All z × (chain z h ≡ u ∷ us) → ⊥
      acting d mem a (z, is, e) =
          let x : Held = proposed_at z u.request d in
          let there : Contains (changes_of z (chain z h)) x = subst (λ (vs : List Update). Contains (changes_of z vs) x) (sym e) (contains_map (proposed_at z u.request) (drafts_in u.result) d mem) in
          elim (t_reached x (all_taken z is x there)) [
            | inl here' ↦ none x here' a
            | inr r ↦ none r.0 r.1 (acts_above r.0 x k r.2 a)
          ]

  -- the map that the update was computed on
  pub content_is : (k : Slot) → ValueOf (chain o.base h) k (seen may.shown k)
  content_is k = go (top may.content k)
    where
      go : Top may.content k → ValueOf (chain o.base h) k (seen may.shown k)
      go (inr none) = walk_none k none (chain o.base h) (λ u us p. p)
      go (inl (t, mem, acts, most)) =
          let its = in_content t mem in
          let f = first_of its.ballot (chain its.ballot h) t its.of in
          let l : Leads k = record { change = t; there = mem; acts = acts; most = most; its = its; update = f.0; rest = f.1; carried = f.2 } in
          walk k l (chain o.base h) (subst (λ us. Under us (chain o.base h)) f.2 (s_under its.ballot its.was_chosen)) (λ u us p. p)
