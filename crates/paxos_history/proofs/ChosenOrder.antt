-- The requests that were chosen are those of the chain of the highest chosen ballot, in its order.
use Rattle.std.proofs.Common.{◌≡◌, ℕ, zero, suc, ◌<◌, ◌≤◌, ◌==◌, ◌≢◌, ◌&&◌, ◌||◌, Bool, true, false, List, [], ◌∷◌, ◌++◌, ◌⊎◌, inl, inr, refl, sym, ap, subst, arith, le_refl, le_trans, le_of_lt, ◌∙◌, eqb-true, eq-eqb, ltb-true, lt-ltb, le_of_eq, true≢false}
use Rattle.std.specs.Prelude.{if◌then◌else◌, Option, None, Some}
use Rattle.std.proofs.lemmas.List.{append_assoc}
use Rattle.paxos_history.specs.Protocol.{Later, here, more, Event, Promised, Proposed, ProposedAgain, Accepted, Told, Setup, Ever, Member, IsAsk, IsTold, IsAcceptance, IsProposal, IsOwnProposal, Update, Result, chain, Chosen, Lawful, Under, same, below}
use Rattle.paxos_history.specs.Serial.{accepts, is_chosen, carried, is_listed, with_chosen, chosen_requests, NoRepeat, WasAsked, IsSerialReply, IsBefore, SerialRight}
use Rattle.paxos_history.proofs.Histories.{back, later_once, later_trans, quorums_meet, own_back, ever_later, same_or_not, lawful_later, chosen_later}
use Rattle.paxos_history.proofs.Acceptors.{chosen_proposed}
use Rattle.paxos_history.proofs.Chains.{chain_later, own_chain, chain_zero}
use Rattle.paxos_history.proofs.Agreement.{agreement}
use Rattle.paxos_history.proofs.OwnProposals.{Origin, origin, once}
use Rattle.paxos_history.proofs.Contents.{under_cases, under_nil, under_both, chain_member}
use Rattle.paxos_history.proofs.Replies.{requests_of, IsSerial, serial}
use Rattle.cs_base.specs.declared.ids.ReqId.{ReqId}
use Rattle.cs_base.specs.Requests.{is_request}
use Rattle.statement_plan.specs.declared.operation.ConditionalOperation.{ConditionalOperation}
use Rattle.changes.proofs.Ranks.{request_made}
use Rattle.std.specs.Prelude.{count_by, cond}
use Rattle.std.proofs.lemmas.List.Sums.{sum_by-cons}

-- ---- the computed tests say what the relations say

pub or_true : (a b : Bool) → (a || b) ≡ true → (a ≡ true) ⊎ (b ≡ true)
or_true true b e = inl refl
or_true false b e = inr e

pub and_true : (a b : Bool) → (a && b) ≡ true → (a ≡ true) × (b ≡ true)
and_true true b e = (refl, e)
and_true false b e = cc

or_left : (a b : Bool) → a ≡ true → (a || b) ≡ true
or_left a b e = rw e refl

or_right : (a b : Bool) → b ≡ true → (a || b) ≡ true
or_right true b e = refl
or_right false b e = e

pub both : (a b : Bool) → a ≡ true → b ≡ true → (a && b) ≡ true
both a b p q = rw p q

pub accepts_true : (n b : ℕ) (h : List Event) → accepts n b h ≡ true → Ever (IsAcceptance n b) h
accepts_true n b [] e = cc
accepts_true n b (Accepted m x ∷ h) e = elim (or_true ((m == n) && (x == b)) (accepts n b h) e) [
  | inl now ↦ (let p = and_true (m == n) (x == b) now in inl (eqb-true m n p.0, eqb-true x b p.1))
  | inr was ↦ inr (accepts_true n b h was)
]
accepts_true n b (Promised _ _ _ _ _ ∷ h) e = inr (accepts_true n b h e)
accepts_true n b (_ ∷ h) e = inr (accepts_true n b h e)

pub accepts_from : (n b : ℕ) (h : List Event) → Ever (IsAcceptance n b) h → accepts n b h ≡ true
accepts_from n b [] was = elim was [ ]
accepts_from n b (Accepted m x ∷ h) (inl is) = or_left _ (accepts n b h) (both _ _ (eq-eqb m n is.0) (eq-eqb x b is.1))
accepts_from n b (Accepted m x ∷ h) (inr was) = or_right ((m == n) && (x == b)) _ (accepts_from n b h was)
accepts_from n b (_ ∷ h) (inl is) = elim is [ ]
accepts_from n b (_ ∷ h) (inr was) = accepts_from n b h was

one_more : (x y : Bool) → (x ≡ true → y ≡ true) → cond x 1 0 ≤ cond y 1 0
one_more true y f = rw (f refl) (omega arith)
one_more false true f = omega arith
one_more false false f = omega arith

count_more : (ks : List ℕ) (p q : ℕ → Bool) → ((n : ℕ) → p n ≡ true → q n ≡ true) → count_by p ks ≤ count_by q ks
count_more [] p q all = le_refl 0
count_more (k ∷ ks) p q all =
    let pk = sum_by-cons (λ x. cond (p x) 1 0) k ks in
    let qk = sum_by-cons (λ x. cond (q x) 1 0) k ks in
    let one = one_more (p k) (q k) (all k) in
    let ih = count_more ks p q all in omega arith

pub chosen_true : (w : Setup) (b : ℕ) (h : List Event) → is_chosen w b h ≡ true → Chosen w b h
chosen_true w b h e = (λ n. accepts n b h, ltb-true _ _ e, λ n is. accepts_true n b h is)

pub chosen_from : (w : Setup) (b : ℕ) (h : List Event) → Chosen w b h → is_chosen w b h ≡ true
chosen_from w b h (q, big, all) =
    let m = count_more w.replicas q (λ n. accepts n b h) (λ n is. accepts_from n b h (all n is)) in
    lt-ltb _ _ (omega arith)

pub is_request_true : (a b : ReqId) → is_request a b ≡ true → a ≡ b
is_request_true a b e = let p = and_true (a.node == b.node) (a.time == b.time) e in request_made (eqb-true a.node b.node p.0) (eqb-true a.time b.time p.1)

pub is_request_from : (a b : ReqId) → a ≡ b → is_request a b ≡ true
is_request_from a b e = both _ _ (eq-eqb a.node b.node (ap (λ (r : ReqId). r.node) e)) (eq-eqb a.time b.time (ap (λ (r : ReqId). r.time) e))

is_listed_true : (r : ReqId) (xs : List ReqId) → is_listed r xs ≡ true → Member r xs
is_listed_true r [] e = cc
is_listed_true r (x ∷ xs) e = elim (or_true (is_request x r) (is_listed r xs) e) [ inl p ↦ inl (is_request_true x r p) | inr p ↦ inr (is_listed_true r xs p) ]

is_listed_from : (r : ReqId) (xs : List ReqId) → Member r xs → is_listed r xs ≡ true
is_listed_from r [] is = elim is [ ]
is_listed_from r (x ∷ xs) (inl e) = or_left (is_request x r) _ (is_request_from x r e)
is_listed_from r (x ∷ xs) (inr is) = or_right (is_request x r) _ (is_listed_from r xs is)

is_listed_not : (r : ReqId) (xs : List ReqId) → (Member r xs → ⊥) → is_listed r xs ≡ false
is_listed_not r xs none = go (is_listed r xs) refl
  where
    go : (t : Bool) → is_listed r xs ≡ t → is_listed r xs ≡ false
    go true e = absurd (none (is_listed_true r xs e))
    go false e = e

abbrev pub first_request : List Update → Option ReqId
first_request [] = None
first_request (u ∷ us) = Some u.request

pub carried_is : (b : ℕ) (h : List Event) → carried b h ≡ first_request (chain b h)
carried_is b [] = refl
carried_is b (Proposed x c r y t ∷ h) = go (x == b) (carried_is b h)
  where
    go : (t : Bool) → carried b h ≡ first_request (chain b h) → (if t then Some r else carried b h) ≡ first_request (if t then record { origin = x; request = r; result = y } ∷ chain c h else chain b h)
    go true ih = refl
    go false ih = ih
carried_is b (ProposedAgain x a ∷ h) = go (x == b) (carried_is b h) (carried_is a h)
  where
    go : (t : Bool) → carried b h ≡ first_request (chain b h) → carried a h ≡ first_request (chain a h) → (if t then carried a h else carried b h) ≡ first_request (if t then chain a h else chain b h)
    go true ih ia = ia
    go false ih ia = ih
carried_is b (_ ∷ h) = carried_is b h

-- ---- the requests of a chain

requests_member : (r : ReqId) (us : List Update) → Member r (requests_of us) → (u : Update) × (vs : List Update) × Under (u ∷ vs) us × (u.request ≡ r)
requests_member r [] is = elim is [ ]
requests_member r (u ∷ us) (inl e) = (u, us, same, e)
requests_member r (u ∷ us) (inr is) = let p = requests_member r us is in (p.0, p.1, below p.2, p.3)

requests_under : {us vs : List Update} → Under us vs → (later : List ReqId) × (requests_of vs ≡ later ++ requests_of us)
requests_under same = ([], refl)
requests_under (below {v = v} p) = let q = requests_under p in (v.request ∷ q.0, ap (λ xs. v.request ∷ xs) q.1)

member_under : (u : Update) {us vs : List Update} → Under (u ∷ us) vs → Member u.request (requests_of vs)
member_under u same = inl refl
member_under u (below p) = inr (member_under u p)

-- each update of a chosen ballot's chain was accepted somewhere
chain_accepted : (w : Setup) (k b : ℕ) (h : List Event) → Lawful w h → b < k → Chosen w b h → (u : Update) (us : List Update) → Under (u ∷ us) (chain b h)
    → (u.origin ≤ b) × ((m : ℕ) × Ever (IsAcceptance m u.origin) h)
chain_accepted w zero b h ok lt chosen u us p = absurd (omega arith)
chain_accepted w (suc k) b h ok lt chosen u us p =
    go (origin w b h ok (chosen_proposed w b h ok chosen)) (λ c less is q. chain_accepted w k c h ok less is u us q)
  where
    go : (o : Origin w h b) → ((c : ℕ) → c < k → Chosen w c h → Under (u ∷ us) (chain c h) → (u.origin ≤ c) × ((m : ℕ) × Ever (IsAcceptance m u.origin) h))
        → (u.origin ≤ b) × ((m : ℕ) × Ever (IsAcceptance m u.origin) h)
    go o ih = elim (under_cases (subst (λ vs. Under (u ∷ us) vs) o.is p)) [
      | inl e ↦ (
          let n = quorums_meet w chosen.0 chosen.0 chosen.1 chosen.1 in
          let a = o.accepted n.0 (chosen.2 n.0 n.1) in
          let eu : o.first ≡ u.origin = cc in
          let upto : o.first ≤ b = o.upto in
          (omega arith, (a.0, subst (λ z. Ever (IsAcceptance a.0 z) h) eu a.1)))
      | inr q ↦ elim o.rests [
        | inl z ↦ absurd (under_nil u us (subst (λ vs. Under (u ∷ us) vs) (ap (λ c. chain c h) z ∙ chain_zero w h ok) q))
        | inr is ↦ (
            let lo : o.base < o.first = o.under in
            let hi : o.first ≤ b = o.upto in
            let r = ih o.base (omega arith) is q in
            let le : u.origin ≤ o.base = r.0 in
            (omega arith, r.1))
      ]
    ]

-- an update that is new on a chosen chain is of another request than all below
new_request : (w : Setup) (h : List Event) → Lawful w h → (b : ℕ) (o : Origin w h b) → (n : ℕ) → Ever (IsAcceptance n b) h → Chosen w o.base h → Member o.request (requests_of (chain o.base h)) → ⊥
new_request w h ok b o n acc chosen is =
    let m = requests_member o.request (chain o.base h) is in
    let a = chain_accepted w (suc o.base) o.base h ok (omega arith) chosen m.0 m.1 m.2 in
    let made = chain_member o.base h m.0 m.1 m.2 in
    let mine = o.accepted n acc in
    let e = once w o.first o.base o.request o.result m.0.origin made.0 m.0.result mine.0 a.1.0 o.targets made.1 h ok o.own
    (subst (λ r. Ever (IsOwnProposal m.0.origin made.0 r m.0.result made.1) h) m.3 made.2) mine.1 a.1.1 in
    let le : m.0.origin ≤ o.base = a.0 in
    let lt : o.base < o.first = o.under in
    omega arith

-- ---- the sequence

record Top (w : Setup) (h : List Event) : Type 0 where
  top : ℕ
  chosen : Chosen w top h
  most : (x : ℕ) → Chosen w x h → x ≤ top
  log : chosen_requests w h ≡ requests_of (chain top h)

abbrev ChosenIs : Setup → List Event → Type 0
ChosenIs w h = (((x : ℕ) → Chosen w x h → ⊥) × (chosen_requests w h ≡ [])) ⊎ Top w h

chosen_back : (w : Setup) (x : ℕ) (e : Event) (h : List Event) → ((n : ℕ) → IsAcceptance n x e → ⊥) → Chosen w x (e ∷ h) → Chosen w x h
chosen_back w x e h other (q, big, all) = (q, big, λ n is. elim (all n is) [ inl now ↦ absurd (other n now) | inr was ↦ was ])

quiet : (w : Setup) (e : Event) (h : List Event) → Lawful w (e ∷ h) → ((n x : ℕ) → IsAcceptance n x e → ⊥) → chosen_requests w (e ∷ h) ≡ chosen_requests w h → ChosenIs w h → ChosenIs w (e ∷ h)
quiet w e h ok other eq (inl (none, log)) = inl (λ x is. none x (chosen_back w x e h (λ n. other n x) is), eq ∙ log)
quiet w e h ok other eq (inr t) = inr (record {
  top = t.top;
  chosen = chosen_later w t.top (later_once e) t.chosen;
  most = λ x is. t.most x (chosen_back w x e h (λ n. other n x) is);
  log = eq ∙ t.log ∙ ap requests_of (sym (chain_later w t.top (later_once e) ok (chosen_proposed w t.top h ok.0 t.chosen)));
})

if_listed : (r : ReqId) (rs : List ReqId) → Member r rs → (if is_listed r rs then rs else r ∷ rs) ≡ rs
if_listed r rs is = rw (is_listed_from r rs is) refl

if_new : (r : ReqId) (rs : List ReqId) → (Member r rs → ⊥) → (if is_listed r rs then rs else r ∷ rs) ≡ r ∷ rs
if_new r rs none = rw (is_listed_not r rs none) refl

module _ (w : Setup) (n b : ℕ) (h : List Event) (ok : Lawful w (Accepted n b ∷ h)) where
  prop : Ever (IsProposal b) h
  prop = ok.1.proposed

  o : Origin w (Accepted n b ∷ h) b
  o = origin w b (Accepted n b ∷ h) ok (inr prop)

  carries : carried b h ≡ Some o.request
  carries = carried_is b h ∙ ap first_request o.is

  others : (x : ℕ) → x ≢ b → Chosen w x (Accepted n b ∷ h) → Chosen w x h
  others x ne is = chosen_back w x (Accepted n b) h (λ m now. ne (sym now.1)) is

  log_false : is_chosen w b (Accepted n b ∷ h) ≡ false → chosen_requests w (Accepted n b ∷ h) ≡ chosen_requests w h
  log_false e = ap (λ t. with_chosen t (carried b h) (chosen_requests w h)) e

  log_true : is_chosen w b (Accepted n b ∷ h) ≡ true → chosen_requests w (Accepted n b ∷ h) ≡ (if is_listed o.request (chosen_requests w h) then chosen_requests w h else o.request ∷ chosen_requests w h)
  log_true e = ap (λ t. with_chosen t (carried b h) (chosen_requests w h)) e ∙ ap (λ r. with_chosen true r (chosen_requests w h)) carries

  mine : requests_of (chain b h) ≡ o.request ∷ requests_of (chain o.base h)
  mine = ap requests_of o.is

  not_chosen : is_chosen w b (Accepted n b ∷ h) ≡ false → ChosenIs w h → ChosenIs w (Accepted n b ∷ h)
  not_chosen e (inl (none, log)) = inl (λ x is. none x (others x (λ s. absurd (true≢false (sym (chosen_from w b (Accepted n b ∷ h) (subst (λ z. Chosen w z (Accepted n b ∷ h)) s is)) ∙ e))) is), log_false e ∙ log)
  not_chosen e (inr t) = inr (record {
    top = t.top;
    chosen = chosen_later w t.top (later_once (Accepted n b)) t.chosen;
    most = λ x is. t.most x (others x (λ s. absurd (true≢false (sym (chosen_from w b (Accepted n b ∷ h) (subst (λ z. Chosen w z (Accepted n b ∷ h)) s is)) ∙ e))) is);
    log = log_false e ∙ t.log;
  })

  rests : (o.base ≡ 0) ⊎ Chosen w o.base h
  rests = elim o.rests [ inl z ↦ inl z | inr is ↦ inr (others o.base (λ s. let lo = o.under in let hi = o.upto in omega arith) is) ]

  -- the request is new where the update below is the last one that was chosen
  new_req : Chosen w o.base h → Member o.request (requests_of (chain o.base h)) → ⊥
  new_req is = new_request w (Accepted n b ∷ h) ok b o n (inl (refl, refl)) (chosen_later w o.base (later_once (Accepted n b)) is)

  is_top : Chosen w b (Accepted n b ∷ h) → ((x : ℕ) → Chosen w x h → x ≤ b) → chosen_requests w (Accepted n b ∷ h) ≡ requests_of (chain b h) → Top w (Accepted n b ∷ h)
  is_top now most log = record { top = b; chosen = now; most = λ x is. elim (same_or_not x b) [ inl s ↦ le_of_eq s | inr ne ↦ most x (others x ne is) ]; log = log }

  stays_top : (t : Top w h) → b ≤ t.top → chosen_requests w (Accepted n b ∷ h) ≡ chosen_requests w h → Top w (Accepted n b ∷ h)
  stays_top t le log = record {
    top = t.top;
    chosen = chosen_later w t.top (later_once (Accepted n b)) t.chosen;
    most = λ x is. elim (same_or_not x b) [ inl s ↦ le_trans (le_of_eq s) le | inr ne ↦ t.most x (others x ne is) ];
    log = log ∙ t.log;
  }

  none_below : o.base ≡ 0 → chain o.base h ≡ []
  none_below z = ap (λ c. chain c h) z ∙ chain_zero w h ok.0

  now_chosen : is_chosen w b (Accepted n b ∷ h) ≡ true → ChosenIs w h → Top w (Accepted n b ∷ h)
  now_chosen e (inl (none, log)) = is_top now (λ x is. absurd (none x is)) (
      log_true e ∙ if_new o.request (chosen_requests w h) (λ is. subst (λ rs. Member o.request rs) log is)
      ∙ ap (λ rs. o.request ∷ rs) (log ∙ sym (ap requests_of (none_below (elim rests [ inl z ↦ z | inr is ↦ absurd (none o.base is) ])))) ∙ sym mine)
    where
      now : Chosen w b (Accepted n b ∷ h)
      now = chosen_true w b (Accepted n b ∷ h) e
  now_chosen e (inr t) = go (grind arith)
    where
      now : Chosen w b (Accepted n b ∷ h)
      now = chosen_true w b (Accepted n b ∷ h) e

      there : Chosen w t.top (Accepted n b ∷ h)
      there = chosen_later w t.top (later_once (Accepted n b)) t.chosen

      in_log : Member o.request (requests_of (chain t.top h)) → chosen_requests w (Accepted n b ∷ h) ≡ chosen_requests w h
      in_log is = log_true e ∙ if_listed o.request (chosen_requests w h) (subst (λ rs. Member o.request rs) (sym t.log) is)

      go : (b ≤ t.top) ⊎ (t.top < b) → Top w (Accepted n b ∷ h)
      go (inl le) =
          let p : Under (chain b h) (chain t.top h) = agreement w t.top b (Accepted n b ∷ h) ok now (chosen_proposed w t.top (Accepted n b ∷ h) ok there) le in
          stays_top t le (in_log (member_under _ (subst (λ us. Under us (chain t.top h)) o.is p)))
      go (inr lt) =
          let p : Under (chain t.top h) (chain b h) = agreement w b t.top (Accepted n b ∷ h) ok there (inr prop) (le_of_lt lt) in
          is_top now (λ x is. le_trans (t.most x is) (le_of_lt lt)) (elim (under_cases (subst (λ us. Under (chain t.top h) us) o.is p)) [
            | inl e2 ↦ in_log (subst (λ us. Member o.request (requests_of us)) (sym e2) (inl refl)) ∙ t.log ∙ ap requests_of e2 ∙ sym mine
            | inr q ↦ elim rests [
              | inl z ↦ absurd (bottom z q)
              | inr is ↦ (
                  let back : Under (chain o.base h) (chain t.top h) = agreement w t.top o.base h ok.0 is (chosen_proposed w t.top h ok.0 t.chosen) (t.most o.base is) in
                  let eq = under_both q back in
                  let log = t.log ∙ ap requests_of eq in
                  log_true e ∙ if_new o.request (chosen_requests w h) (λ m. new_req is (subst (λ rs. Member o.request rs) log m)) ∙ ap (λ rs. o.request ∷ rs) log ∙ sym mine)
            ]
          ])
        where
          bottom : o.base ≡ 0 → Under (chain t.top h) (chain o.base h) → ⊥
          bottom z q =
              let ot = origin w t.top h ok.0 (chosen_proposed w t.top h ok.0 t.chosen) in
              under_nil _ _ (subst (λ us. Under us []) ot.is (subst (λ us. Under (chain t.top h) us) (none_below z) q))

  chosen_step : ChosenIs w h → ChosenIs w (Accepted n b ∷ h)
  chosen_step ih = go (is_chosen w b (Accepted n b ∷ h)) refl
    where
      go : (t : Bool) → is_chosen w b (Accepted n b ∷ h) ≡ t → ChosenIs w (Accepted n b ∷ h)
      go true e = inr (now_chosen e ih)
      go false e = not_chosen e ih

chosen_is : (w : Setup) (h : List Event) → Lawful w h → ChosenIs w h
chosen_is w [] ok = inl (λ x is. nobody x is, refl)
  where
    nobody : (x : ℕ) → Chosen w x [] → ⊥
    nobody x (q, big, all) = let n = quorums_meet w q q big big in all n.0 n.1
chosen_is w (Accepted n b ∷ h) ok = chosen_step w n b h ok (chosen_is w h ok.0)
chosen_is w (e ∷ h) ok = quiet w e h ok (λ n x is. is) refl (chosen_is w h ok.0)

-- ---- once, in order, and with the right replies

no_repeat : (w : Setup) (k b : ℕ) (h : List Event) → Lawful w h → b < k → Chosen w b h → NoRepeat (requests_of (chain b h))
no_repeat w zero b h ok lt chosen = absurd (omega arith)
no_repeat w (suc k) b h ok lt chosen = go (origin w b h ok (chosen_proposed w b h ok chosen)) (λ c less is. no_repeat w k c h ok less is)
  where
    go : (o : Origin w h b) → ((c : ℕ) → c < k → Chosen w c h → NoRepeat (requests_of (chain c h))) → NoRepeat (requests_of (chain b h))
    go o ih =
        let n = quorums_meet w chosen.0 chosen.0 chosen.1 chosen.1 in
        let lo : o.base < o.first = o.under in
        let hi : o.first ≤ b = o.upto in
        subst (λ us. NoRepeat (requests_of us)) (sym o.is) (elim o.rests [
          | inl z ↦ (let e = ap (λ c. chain c h) z ∙ chain_zero w h ok in
              (subst (λ us. Member o.request (requests_of us) → ⊥) (sym e) (λ x. x), subst (λ us. NoRepeat (requests_of us)) (sym e) tt))
          | inr is ↦ (new_request w h ok b o n.0 (chosen.2 n.0 n.1) is, ih o.base (omega arith) is)
        ])

-- the sequence goes through the chain of each chosen ballot
chosen_through : (w : Setup) (b : ℕ) (h : List Event) → Lawful w h → Chosen w b h → (later : List ReqId) × (chosen_requests w h ≡ later ++ requests_of (chain b h))
chosen_through w b h ok chosen = go (chosen_is w h ok)
  where
    go : ChosenIs w h → (later : List ReqId) × (chosen_requests w h ≡ later ++ requests_of (chain b h))
    go (inl (none, log)) = absurd (none b chosen)
    go (inr t) =
        let q = requests_under (agreement w t.top b h ok chosen (chosen_proposed w t.top h ok t.chosen) (t.most b chosen)) in
        (q.0, t.log ∙ q.1)

reply_right : (w : Setup) (b c : ℕ) (r : ReqId) (y : Result) (t : List ℕ) (h : List Event) → Lawful w h → Ever (IsOwnProposal b c r y t) h → Chosen w b h
    → IsSerialReply (WasAsked h) (chosen_requests w h) r y
reply_right w b c r y t h ok own chosen =
    let e = own_chain w b c r y t h ok own in
    let p = chosen_through w b h ok chosen in
    let s = subst (λ us. IsSerial h us) e (serial w b h ok chosen) in
    let f = own_back w b c r y t h ok own in
    let asked = ever_later (IsAsk r y.operation) (later_trans (later_once (Proposed b c r y t)) f.1) f.3.asked in
    record { asked = asked; later = p.0; earlier = requests_of (chain c h); there = p.1 ∙ ap (λ us. p.0 ++ requests_of us) e; before = s.map; map = s.after; gives = s.answers }

member_middle : (r : ReqId) (xs ys : List ReqId) → Member r (xs ++ r ∷ ys)
member_middle r [] ys = inl refl
member_middle r (x ∷ xs) ys = inr (member_middle r xs ys)

told_is : (r : ReqId) (y : Result) (e : Event) → IsTold r y e → e ≡ Told r y
told_is r y (Told r' y') is = λ i. Told (is.0 i) (is.1 i)
told_is r y _ is = elim is [ ]

replies_right : (w : Setup) (h : List Event) → Lawful w h → (r : ReqId) (y : Result) → Ever (IsTold r y) h → IsSerialReply (WasAsked h) (chosen_requests w h) r y
replies_right w h ok r y was =
    let p = back (IsTold r y) h was in
    let l = subst (λ e. Later (e ∷ p.1) h) (told_is r y p.0 p.2) p.3 in
    let law = lawful_later w l ok in
    let up = later_trans (later_once (Told r y)) l in
    let m = law.1 in
    reply_right w m.0 m.1 r y m.2 h ok (ever_later (IsOwnProposal m.0 m.1 r y m.2) up m.3) (chosen_later w m.0 up m.4)

-- what was chosen was asked
pub chosen_asked : (w : Setup) (r : ReqId) (h : List Event) → Lawful w h → Member r (chosen_requests w h) → (op : ConditionalOperation) × Ever (IsAsk r op) h
chosen_asked w r h law is = go (chosen_is w h law)
  where
    go : ChosenIs w h → (op : ConditionalOperation) × Ever (IsAsk r op) h
    go (inl (none, log)) = absurd (subst (λ rs. Member r rs) log is)
    go (inr t) =
        let m = requests_member r (chain t.top h) (subst (λ rs. Member r rs) t.log is) in
        let made = chain_member t.top h m.0 m.1 m.2 in
        let f = own_back w m.0.origin made.0 m.0.request m.0.result made.1 h law made.2 in
        (m.0.result.operation, ever_later (IsAsk r m.0.result.operation) (later_trans (later_once (Proposed m.0.origin made.0 m.0.request m.0.result made.1)) f.1) (subst (λ z. Ever (IsAsk z m.0.result.operation) f.0) m.3 f.3.asked))

-- what may be told was chosen
pub told_chosen : (w : Setup) (r : ReqId) (y : Result) (h : List Event) → Lawful w (Told r y ∷ h) → Member r (chosen_requests w h)
told_chosen w r y h law =
    let m = law.1 in
    let p = reply_right w m.0 m.1 r y m.2 h law.0 m.3 m.4 in
    subst (λ rs. Member r rs) (sym p.there) (member_middle r p.later p.earlier)

-- ---- the sequence only grows

with_chosen_more : (t : Bool) (o : Option ReqId) (rs : List ReqId) → (new : List ReqId) × (with_chosen t o rs ≡ new ++ rs)
with_chosen_more false o rs = ([], refl)
with_chosen_more true None rs = ([], refl)
with_chosen_more true (Some r) rs = go (is_listed r rs)
  where
    go : (t : Bool) → (new : List ReqId) × ((if t then rs else r ∷ rs) ≡ new ++ rs)
    go true = ([], refl)
    go false = (r ∷ [], refl)

one_further : (w : Setup) (e : Event) (h : List Event) → (new : List ReqId) × (chosen_requests w (e ∷ h) ≡ new ++ chosen_requests w h)
one_further w (Accepted n b) h = with_chosen_more (is_chosen w b (Accepted n b ∷ h)) (carried b h) (chosen_requests w h)
one_further w _ h = ([], refl)

pub chosen_requests_grow : (w : Setup) {h k : List Event} → Later h k → (new : List ReqId) × (chosen_requests w k ≡ new ++ chosen_requests w h)
chosen_requests_grow w here = ([], refl)
chosen_requests_grow w {h} (more {k = k} {e = e} l) =
    let p = chosen_requests_grow w l in
    let q = one_further w e k in
    (q.0 ++ p.0, q.1 ∙ ap (λ rs. q.0 ++ rs) p.1 ∙ sym (append_assoc q.0 p.0 (chosen_requests w h)))

-- where a member stands, behind the members of a second list
member_in : (s : ReqId) (xs ys : List ReqId) → Member s (xs ++ ys) → ((later : List ReqId) × (between : List ReqId) × (xs ++ ys ≡ later ++ s ∷ (between ++ ys))) ⊎ Member s ys
member_in s [] ys is = inr is
member_in s (x ∷ xs) ys (inl e) = inl ([], xs, ap (λ z. z ∷ (xs ++ ys)) e)
member_in s (x ∷ xs) ys (inr is) = elim (member_in s xs ys is) [
  | inl p ↦ inl (x ∷ p.0, p.1, ap (λ zs. x ∷ zs) p.2)
  | inr there ↦ inr there
]

member_behind : (r : ReqId) (xs ys : List ReqId) → Member r ys → Member r (xs ++ ys)
member_behind r [] ys is = is
member_behind r (x ∷ xs) ys is = inr (member_behind r xs ys is)

pub told_in_order : (w : Setup) (r s : ReqId) (y : Result) (h' h : List Event) → Lawful w h → Later (Told r y ∷ h') h → ((op : ConditionalOperation) → Ever (IsAsk s op) h' → ⊥)
    → Member s (chosen_requests w h) → IsBefore (chosen_requests w h) r s
told_in_order w r s y h' h ok l unasked is = go (member_in s grown.0 (chosen_requests w h') (subst (λ rs. Member s rs) grown.1 is))
  where
    law : Lawful w (Told r y ∷ h')
    law = lawful_later w l ok

    grown : (new : List ReqId) × (chosen_requests w h ≡ new ++ chosen_requests w h')
    grown = chosen_requests_grow w (later_trans (later_once (Told r y)) l)

    go : ((later : List ReqId) × (between : List ReqId) × (grown.0 ++ chosen_requests w h' ≡ later ++ s ∷ (between ++ chosen_requests w h'))) ⊎ Member s (chosen_requests w h')
        → IsBefore (chosen_requests w h) r s
    go (inl p) = record { later = p.0; earlier = p.1 ++ chosen_requests w h'; there = grown.1 ∙ p.2; behind = member_behind r p.1 (chosen_requests w h') (told_chosen w r y h' law) }
    go (inr there) = let a = chosen_asked w s h' law.0 there in absurd (unasked a.0 a.1)

pub serial_right : (w : Setup) (h : List Event) → Lawful w h → SerialRight w h
serial_right w h ok = record {
  once = elim (chosen_is w h ok) [
    | inl none ↦ subst (λ rs. NoRepeat rs) (sym none.1) tt
    | inr t ↦ subst (λ rs. NoRepeat rs) (sym t.log) (no_repeat w (suc t.top) t.top h ok (omega arith) t.chosen)
  ];
  replies = replies_right w h ok;
  taken_first = λ r y h' l. told_chosen w r y h' (lawful_later w l ok);
  asked_first = λ r h' l is. chosen_asked w r h' (lawful_later w l ok) is;
  in_order = λ r s y h' l unasked is. told_in_order w r s y h' h ok l unasked is;
}
