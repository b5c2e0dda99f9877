-- What a replica's row, and each promise, says of the past.
use Rattle.std.proofs.Common.{◌≡◌, ℕ, ◌<◌, ◌≤◌, ◌==◌, Bool, true, false, List, [], ◌∷◌, ◌⊎◌, inl, inr, refl, sym, subst, arith, eqb-true, le_refl, le_trans, le_of_lt, ltb-true, ◌∙◌}
use Rattle.std.specs.Prelude.{if◌then◌else◌, nat_lt}
use Rattle.std.proofs.lemmas.Bool.Decides.{nat_tests}
use Rattle.paxos_history.specs.Protocol.{Event, Promised, Accepted, Committed, Trimmed, Setup, Ever, IsPromise, IsAcceptance, IsProposal, promised, accepted, commit, IsCommit, Chosen, Allowed, Lawful, Later}
use Rattle.paxos_history.proofs.Histories.{pick, ever_later, lawful_later, chosen_later, later_once, later_was, later_cases, later_split, promise_back, quorums_meet}
use Rattle.changes.specs.declared.Held.{Held}

-- a promise never falls
pub rises : (w : Setup) (n : ℕ) (e : Event) (h : List Event) → Allowed w e h → promised n h ≤ promised n (e ∷ h)
rises w n (Promised m b a c s) h ok = let below = ok.above in grind (arith, nat_tests)
rises w n (Accepted m b) h ok = let below = ok.above in grind (arith, nat_tests)
rises w n _ h ok = le_refl _

acceptance_promises : (n b : ℕ) (e : Event) (h : List Event) → IsAcceptance n b e → b ≤ promised n (e ∷ h)
acceptance_promises n b (Accepted m x) h is = grind (arith, nat_tests)
acceptance_promises n b _ h is = elim is [ ]

pub accepted_below : (w : Setup) (n b : ℕ) (h : List Event) → Lawful w h → Ever (IsAcceptance n b) h → b ≤ promised n h
accepted_below w n b [] ok is = elim is [ ]
accepted_below w n b (e ∷ h) ok (inl is) = acceptance_promises n b e h is
accepted_below w n b (e ∷ h) ok (inr was) = le_trans (accepted_below w n b h ok.0 was) (rises w n e h ok.1)

promise_promises : (n b a c : ℕ) (s : List Held) (e : Event) (h : List Event) → IsPromise n b a c s e → b ≤ promised n (e ∷ h)
promise_promises n b a c s (Promised m x _ _ _) h is = let same = is.0 in let ballot = is.1 in grind (arith, nat_tests)
promise_promises n b a c s _ h is = elim is [ ]

pub promise_below : (w : Setup) (n b a c : ℕ) (s : List Held) (h : List Event) → Lawful w h → Ever (IsPromise n b a c s) h → b ≤ promised n h
promise_below w n b a c s [] ok is = elim is [ ]
promise_below w n b a c s (e ∷ h) ok (inl is) = promise_promises n b a c s e h is
promise_below w n b a c s (e ∷ h) ok (inr was) = le_trans (promise_below w n b a c s h ok.0 was) (rises w n e h ok.1)

-- the accepted ballot is at most the promise
pub accepted_promised : (w : Setup) (n : ℕ) (h : List Event) → Lawful w h → accepted n h ≤ promised n h
accepted_promised w n [] ok = le_refl _
accepted_promised w n (Promised m b a c s ∷ h) ok =
    let ih = accepted_promised w n h ok.0 in let below = ok.1.above in grind (arith, nat_tests)
accepted_promised w n (Accepted m b ∷ h) ok =
    let ih = accepted_promised w n h ok.0 in grind (arith, nat_tests)
accepted_promised w n (Trimmed m ∷ h) ok = let ih = accepted_promised w n h ok.0 in grind (arith, nat_tests)
accepted_promised w n (_ ∷ h) ok = accepted_promised w n h ok.0

-- a commit never falls
commit_grows : (n : ℕ) (e : Event) (h : List Event) → commit n h ≤ commit n (e ∷ h)
commit_grows n (Committed m b) h = go (m == n) (nat_lt (commit n h) b) refl
  where
    go : (t f : Bool) → nat_lt (commit n h) b ≡ f → commit n h ≤ (if t then (if f then b else commit n h) else commit n h)
    go true true e = le_of_lt (ltb-true (commit n h) b e)
    go true false e = le_refl _
    go false f e = le_refl _
commit_grows n _ h = le_refl _

-- what was accepted is at most the accepted ballot, or at most the commit
abbrev pub Seen : ℕ → ℕ → List Event → Type 0
Seen n b h = (b ≤ accepted n h) ⊎ (b ≤ commit n h)

seen_grows : (w : Setup) (n b : ℕ) (e : Event) (h : List Event) → Lawful w h → Allowed w e h → Seen n b h → Seen n b (e ∷ h)
seen_grows w n b e h law ok (inr le) = inr (le_trans le (commit_grows n e h))
seen_grows w n b (Accepted m x) h law ok (inl le) =
    let below = ok.above in
    let top = accepted_promised w n h law in
    inl (go (m == n) refl)
  where
    go : (t : Bool) → (m == n) ≡ t → b ≤ (if t then x else accepted n h)
    go true e =
        let same = eqb-true m n e in
        let below : promised n h ≤ x = subst (λ z. promised z h ≤ x) same ok.above in
        let top = accepted_promised w n h law in omega arith
    go false e = le
seen_grows w n b (Trimmed m) h law ok (inl le) = go (m == n) refl
  where
    go : (t : Bool) → (m == n) ≡ t → (b ≤ (if t then 0 else accepted n h)) ⊎ (b ≤ commit n h)
    go true e = inr (le_trans le (subst (λ z. accepted z h ≤ commit z h) (eqb-true m n e) ok))
    go false e = inl le
seen_grows w n b _ h law ok (inl le) = inl le

acceptance_last : (n b : ℕ) (e : Event) (h : List Event) → IsAcceptance n b e → b ≤ accepted n (e ∷ h)
acceptance_last n b (Accepted m x) h is = grind (arith, nat_tests)
acceptance_last n b _ h is = elim is [ ]

pub accepted_last : (w : Setup) (n b : ℕ) (h : List Event) → Lawful w h → Ever (IsAcceptance n b) h → Seen n b h
accepted_last w n b [] ok is = elim is [ ]
accepted_last w n b (e ∷ h) ok (inl is) = inl (acceptance_last n b e h is)
accepted_last w n b (e ∷ h) ok (inr was) = seen_grows w n b e h ok.0 ok.1 (accepted_last w n b h ok.0 was)

abbrev OrNone : (ℕ → Type 0) → ℕ → Type 0
OrNone P x = (x ≡ 0) ⊎ P x

was_step : (n m b x : ℕ) (h : List Event) (t : Bool) → (m == n) ≡ t → OrNone (λ z. Ever (IsAcceptance n z) h) x → OrNone (λ z. Ever (IsAcceptance n z) (Accepted m b ∷ h)) (if t then b else x)
was_step n m b x h true e old = inr (inl (eqb-true m n e, refl))
was_step n m b x h false e (inl z) = inl z
was_step n m b x h false e (inr was) = inr (inr was)

-- the accepted ballot was accepted
pub accepted_was : (n : ℕ) (h : List Event) → (accepted n h ≡ 0) ⊎ Ever (IsAcceptance n (accepted n h)) h
accepted_was n [] = inl refl
accepted_was n (Accepted m b ∷ h) = was_step n m b (accepted n h) h (m == n) refl (accepted_was n h)
accepted_was n (Trimmed m ∷ h) = pick (m == n) 0 (accepted n h) (OrNone (λ z. Ever (IsAcceptance n z) (Trimmed m ∷ h))) (inl refl) (elim (accepted_was n h) [ inl z ↦ inl z | inr was ↦ inr (inr was) ])
accepted_was n (Promised _ _ _ _ _ ∷ h) = elim (accepted_was n h) [ inl z ↦ inl z | inr was ↦ inr (inr was) ]
accepted_was n (_ ∷ h) = elim (accepted_was n h) [ inl z ↦ inl z | inr was ↦ inr (inr was) ]

-- a promise carries what its replica had accepted below it
pub promise_sees : (w : Setup) (n b a c x : ℕ) (s : List Held) (h : List Event) → Lawful w h → Ever (IsPromise n b a c s) h → Ever (IsAcceptance n x) h → x < b → (x ≤ a) ⊎ (x ≤ c)
promise_sees w n b a c x s [] ok p q lt = elim p [ ]
promise_sees w n b a c x s (e ∷ h) ok (inr p) (inr q) lt = promise_sees w n b a c x s h ok.0 p q lt
promise_sees w n b a c x s (e ∷ h) ok (inl p) (inr q) lt = go e ok.1 p
  where
    go : (e : Event) → Allowed w e h → IsPromise n b a c s e → (x ≤ a) ⊎ (x ≤ c)
    go (Promised m b' a' c' s') may is =
        let ea : accepted n h ≡ a = sym (sym is.2 ∙ may.accepts ∙ (λ i. accepted (is.0 i) h)) in
        let ec : commit n h ≡ c = sym (sym is.3 ∙ may.commits ∙ (λ i. commit (is.0 i) h)) in
        elim (accepted_last w n x h ok.0 q) [ inl le ↦ inl (subst (λ z. x ≤ z) ea le) | inr le ↦ inr (subst (λ z. x ≤ z) ec le) ]
    go _ may is = elim is [ ]
promise_sees w n b a c x s (e ∷ h) ok (inr p) (inl q) lt = go e ok.1 q
  where
    go : (e : Event) → Allowed w e h → IsAcceptance n x e → (x ≤ a) ⊎ (x ≤ c)
    go (Accepted m b') may is =
        let top : b ≤ promised n h = promise_below w n b a c s h ok.0 p in
        let above : promised m h ≤ b' = may.above in
        let above' : promised n h ≤ b' = rw is.0 at above in
        absurd (omega arith)
    go _ may is = elim is [ ]
promise_sees w n b a c x s (e ∷ h) ok (inl p) (inl q) lt = go e p q
  where
    go : (e : Event) → IsPromise n b a c s e → IsAcceptance n x e → (x ≤ a) ⊎ (x ≤ c)
    go (Promised _ _ _ _ _) is isnt = elim isnt [ ]
    go _ is isnt = elim is [ ]

-- only what was proposed is accepted
pub accepted_proposed : (w : Setup) (n b : ℕ) (h : List Event) → Lawful w h → Ever (IsAcceptance n b) h → Ever (IsProposal b) h
accepted_proposed w n b [] ok is = elim is [ ]
accepted_proposed w n b (e ∷ h) ok (inr was) = inr (accepted_proposed w n b h ok.0 was)
accepted_proposed w n b (e ∷ h) ok (inl is) = go e ok.1 is
  where
    go : (e : Event) → Allowed w e h → IsAcceptance n b e → Ever (IsProposal b) (e ∷ h)
    go (Accepted m b') may is = inr (rw is.1 at may.proposed)
    go _ may is = elim is [ ]

pub chosen_proposed : (w : Setup) (b : ℕ) (h : List Event) → Lawful w h → Chosen w b h → Ever (IsProposal b) h
chosen_proposed w b h ok (q, big, all) = let n = quorums_meet w q q big big in accepted_proposed w n.0 b h ok (all n.0 n.1)

-- a replica's commit was chosen
or_later : (w : Setup) (x : ℕ) (e : Event) (h : List Event) → OrNone (λ b. Chosen w b h) x → OrNone (λ b. Chosen w b (e ∷ h)) x
or_later w x e h (inl z) = inl z
or_later w x e h (inr is) = inr (chosen_later w x (later_once e) is)

pub commit_chosen : (w : Setup) (n : ℕ) (h : List Event) → Lawful w h → (commit n h ≡ 0) ⊎ Chosen w (commit n h) h
commit_chosen w n [] ok = inl refl
commit_chosen w n (Committed m b ∷ h) ok =
    let old = or_later w _ (Committed m b) h (commit_chosen w n h ok.0) in
    let now = inr (chosen_later w b (later_once (Committed m b)) ok.1) in
    pick (m == n) _ _ (OrNone (λ x. Chosen w x (Committed m b ∷ h))) (pick (nat_lt (commit n h) b) b (commit n h) (OrNone (λ x. Chosen w x (Committed m b ∷ h))) now old) old
commit_chosen w n (e ∷ h) ok = or_later w _ e h (commit_chosen w n h ok.0)

-- the commit was taken
commit_step : (n m b x : ℕ) (h : List Event) (t f : Bool) → (m == n) ≡ t → OrNone (λ z. Ever (IsCommit n z) h) x
    → OrNone (λ z. Ever (IsCommit n z) (Committed m b ∷ h)) (if t then (if f then b else x) else x)
commit_step n m b x h true true e old = inr (inl (eqb-true m n e, refl))
commit_step n m b x h true false e (inl z) = inl z
commit_step n m b x h true false e (inr was) = inr (inr was)
commit_step n m b x h false f e (inl z) = inl z
commit_step n m b x h false f e (inr was) = inr (inr was)

pub commit_was : (n : ℕ) (h : List Event) → (commit n h ≡ 0) ⊎ Ever (IsCommit n (commit n h)) h
commit_was n [] = inl refl
commit_was n (Committed m b ∷ h) = commit_step n m b (commit n h) h (m == n) (nat_lt (commit n h) b) refl (commit_was n h)
commit_was n (Promised _ _ _ _ _ ∷ h) = elim (commit_was n h) [ inl z ↦ inl z | inr was ↦ inr (inr was) ]
commit_was n (_ ∷ h) = elim (commit_was n h) [ inl z ↦ inl z | inr was ↦ inr (inr was) ]

-- what a promise says was so when it was given
pub record Truly (w : Setup) (h : List Event) (n b a c : ℕ) : Type 0 where
  pub below : a < b
  pub was : (a ≡ 0) ⊎ Ever (IsAcceptance n a) h
  pub chosen : (c ≡ 0) ⊎ Chosen w c h

pub promise_true : (w : Setup) (n b a c : ℕ) (s : List Held) (h : List Event) → Lawful w h → Ever (IsPromise n b a c s) h → Truly w h n b a c
promise_true w n b a c s h ok was =
    let p = promise_back w n b a c s h ok was in
    let top = accepted_promised w n p.0 p.2 in
    let above = p.3.above in
    let ea : a ≡ accepted n p.0 = p.3.accepts in
    let ec : c ≡ commit n p.0 = p.3.commits in
    record {
      below = omega arith;
      was = elim (accepted_was n p.0) [ inl z ↦ inl (ea ∙ z) | inr is ↦ inr (subst (λ z. Ever (IsAcceptance n z) h) (sym ea) (ever_later (IsAcceptance n (accepted n p.0)) (later_was p.1) is)) ];
      chosen = elim (commit_chosen w n p.0 p.2) [ inl z ↦ inl (ec ∙ z) | inr is ↦ inr (subst (λ z. Chosen w z h) (sym ec) (chosen_later w (commit n p.0) (later_was p.1) is)) ];
    }

-- a promise of a higher ballot came later
pub promise_order : (w : Setup) (n b a c b' a' c' : ℕ) (s s' : List Held) {k k' h : List Event} → Lawful w h
    → Later (Promised n b a c s ∷ k) h → Later (Promised n b' a' c' s' ∷ k') h → b < b' → Later (Promised n b a c s ∷ k) k'
promise_order w n b a c b' a' c' s s' {k = k} {k' = k'} {h = h} ok l l' lt = elim (later_cases l l') [
  | inl up ↦ elim (later_split up) [
    | inl e ↦ (let same : b ≡ b' = cc in absurd (omega arith))
    | inr is ↦ is
  ]
  | inr up ↦ elim (later_split up) [
    | inl e ↦ (let same : b' ≡ b = cc in absurd (omega arith))
    | inr is ↦ (
        let law = lawful_later w l ok in
        let below = promise_below w n b' a' c' s' k law.0 (ever_later (IsPromise n b' a' c' s') is (inl (refl, refl, refl, refl, refl))) in
        let above = law.1.above in
        absurd (omega arith))
  ]
]
