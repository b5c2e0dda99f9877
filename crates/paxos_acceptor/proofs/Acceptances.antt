-- What was accepted is kept, and what is kept was accepted.
use Rattle.std.proofs.Common.{◌≡◌, ◌≢◌, ℕ, ◌<◌, ◌≤◌, ◌⊎◌, inl, inr, Option, Some, None, List, [], ◌∷◌, ◌++◌, refl, sym, ap, subst, arith, ◌∙◌, length, get_or, le_refl, le_of_lt, le_trans, zero, suc}
use Rattle.std.proofs.Math.ListN.{set}
use Rattle.std.proofs.lemmas.List.{get_or-set_same, get_or-set_other, length-set}
use Rattle.std.proofs.lemmas.Bool.{cases_eq, cases_lt}
use Rattle.row_change.specs.declared.entry.Update.{Update}
use Rattle.row_change.specs.declared.entry.Stamped.{Stamped}
use Rattle.row_change.specs.declared.entry.PaxosRow.{PaxosRow}
use Rattle.paxos_acceptor.specs.declared.deciding.Vote.TheVariants as vote
use Rattle.paxos_acceptor.specs.Acceptor.{fresh_row, ballot_of, proposer_of, taken_from, vote_of, row_accepted}
use Rattle.paxos_acceptor.specs.Steps.{Reaction, Promised, Ahead, Accepted, Repeated, Passed, Refused, Committed, Step, Steps, Ever, IsAcceptance, IsTaken, IsCommit}
use Rattle.paxos_acceptor.specs.Laws.{IsInOrder, WasHeard}
use Rattle.paxos_acceptor.proofs.Votes.{cause, only_due}
use Rattle.paxos_acceptor.proofs.Runs.{steps_part, Keeps, run_keeps, run_makes, run_shows, after_step, after_commit, places_stay}
use Rattle.paxos_acceptor.proofs.Promises.{taken_above}

-- a property of what is kept of a proposer once ballot x was accepted: it is x, or it is as it was
pub taken_pick : (P : ℕ → Type 0) (row : PaxosRow) (x : ℕ) (u : Update) (k : ℕ) → length row.took ≡ 7 → proposer_of x < 7
    → (proposer_of x ≡ k → P x) → (proposer_of x ≢ k → P (taken_from row k)) → P (taken_from (row_accepted row x u) k)
taken_pick P row x u k seven known same other = elim (cases_eq k (proposer_of x)) [
  | inl e ↦
      let within : proposer_of x < length row.took = omega arith in
      let here : get_or (set row.took (proposer_of x) x) (proposer_of x) 0 ≡ x = get_or-set_same row.took (proposer_of x) x 0 within in
      subst P (sym (ap (λ (j : ℕ). get_or (set row.took (proposer_of x) x) j 0) e ∙ here)) (same (sym e))
  | inr ne ↦ subst P (sym (get_or-set_other row.took (proposer_of x) k x 0 ne)) (other (λ e. ne (sym e)))
]

-- ---- rows in order

pub fresh_in_order : IsInOrder fresh_row
fresh_in_order = record { places = refl; took = none; accepted = le_refl _ }
  where
    none : (k : ℕ) → taken_from fresh_row k ≤ 0
    none zero = le_refl _
    none (suc zero) = le_refl _
    none (suc (suc zero)) = le_refl _
    none (suc (suc (suc zero))) = le_refl _
    none (suc (suc (suc (suc zero)))) = le_refl _
    none (suc (suc (suc (suc (suc zero))))) = le_refl _
    none (suc (suc (suc (suc (suc (suc zero)))))) = le_refl _
    none (suc (suc (suc (suc (suc (suc (suc k))))))) = le_refl _

in_order_stays : Keeps IsInOrder
in_order_stays row row' r s is = after_step IsInOrder row row' r s
    (λ b lt. record { places = is.places; took = λ k. le_trans (is.took k) (le_of_lt lt); accepted = le_trans is.accepted (le_of_lt lt) })
    (λ b u known le. record {
      places = length-set row.took (proposer_of b) b ∙ is.places;
      took = λ k. taken_pick (λ z. z ≤ b) row b u k is.places known (λ _. le_refl _) (λ _. le_trans (is.took k) le);
      accepted = le_refl _;
    })
    (λ b u lt. record { places = is.places; took = is.took; accepted = is.accepted })
    is

pub rows_stay_in_order : (row row' : PaxosRow) (rs : List Reaction) → IsInOrder row → Steps row rs row' → IsInOrder row'
rows_stay_in_order row row' rs is s = run_keeps IsInOrder in_order_stays row row' rs s is

-- ---- what was accepted is kept

-- the promise, and what is kept of its proposer, are at least the ballot
pub record IsPast (b : ℕ) (row : PaxosRow) : Type 0 where
  pub places : length row.took ≡ 7
  pub promised : b ≤ row.promised
  pub taken : b ≤ taken_from row (proposer_of b)

pub past_stays : (b : ℕ) → Keeps (IsPast b)
past_stays b row row' r s is = after_step (IsPast b) row row' r s
    (λ x lt. record { places = is.places; promised = le_trans is.promised (le_of_lt lt); taken = is.taken })
    (λ x u known le. record {
      places = length-set row.took (proposer_of x) x ∙ is.places;
      promised = le_trans is.promised le;
      taken = taken_pick (λ z. b ≤ z) row x u (proposer_of b) is.places known (λ _. le_trans is.promised le) (λ _. is.taken);
    })
    (λ x u lt. record { places = is.places; promised = is.promised; taken = is.taken })
    is

pub past_here : (b : ℕ) (row row' : PaxosRow) (r : Reaction) → Step row r row' → length row.took ≡ 7 → IsTaken b r → IsPast b row'
past_here b row row' (Accepted x u) s seven is =
    let why = cause row x vote.Take s.0 in
    let le : b ≤ x = omega arith in
    subst (IsPast b) (sym s.1) (record {
      places = length-set row.took (proposer_of x) x ∙ seven;
      promised = le;
      taken = taken_pick (λ z. b ≤ z) row x u (proposer_of b) seven why.0 (λ _. le) (λ ne. absurd (ne (ap proposer_of is)));
    })
past_here b row row' (Promised x) s seven is = elim is [ ]
past_here b row row' (Ahead x) s seven is = elim is [ ]
past_here b row row' (Repeated x) s seven is = elim is [ ]
past_here b row row' (Passed x) s seven is = elim is [ ]
past_here b row row' (Refused x) s seven is = elim is [ ]
past_here b row row' (Committed x u) s seven is = elim is [ ]

pub taken_past : (row row' : PaxosRow) (rs : List Reaction) (b : ℕ) → length row.took ≡ 7 → Steps row rs row' → Ever (IsTaken b) rs → IsPast b row'
taken_past row row' rs b seven s e = run_makes (λ z. length z.took ≡ 7) (IsPast b) (IsTaken b) places_stay (past_stays b) (past_here b) row row' rs s seven e

-- the promise and the accepted ballot are at least the ballot
pub record IsUnder (b : ℕ) (row : PaxosRow) : Type 0 where
  pub promised : b ≤ row.promised
  pub accepted : b ≤ ballot_of row.accepted

under_stays : (b : ℕ) → Keeps (IsUnder b)
under_stays b row row' r s is = after_step (IsUnder b) row row' r s
    (λ x lt. record { promised = le_trans is.promised (le_of_lt lt); accepted = is.accepted })
    (λ x u known le. record { promised = le_trans is.promised le; accepted = le_trans is.promised le })
    (λ x u lt. record { promised = is.promised; accepted = is.accepted })
    is

under_here : (b : ℕ) (row row' : PaxosRow) (r : Reaction) → Step row r row' → IsTaken b r → IsUnder b row'
under_here b row row' (Accepted x u) s is =
    let le : b ≤ x = omega arith in
    subst (IsUnder b) (sym s.1) (record { promised = le; accepted = le })
under_here b row row' (Promised x) s is = elim is [ ]
under_here b row row' (Ahead x) s is = elim is [ ]
under_here b row row' (Repeated x) s is = elim is [ ]
under_here b row row' (Passed x) s is = elim is [ ]
under_here b row row' (Refused x) s is = elim is [ ]
under_here b row row' (Committed x u) s is = elim is [ ]

-- what was accepted is at most the accepted ballot
pub taken_under : (row row' : PaxosRow) (rs : List Reaction) (b : ℕ) → Steps row rs row' → Ever (IsTaken b) rs → b ≤ ballot_of row'.accepted
taken_under row row' rs b s e =
    let under : IsUnder b row' = run_shows (IsUnder b) (IsTaken b) (under_stays b) (under_here b) row row' rs s e in
    under.accepted

pub taken_is_kept : (row row' : PaxosRow) (rs : List Reaction) (b : ℕ) → length row.took ≡ 7 → Steps row rs row' → Ever (IsTaken b) rs
    → (b ≤ taken_from row' (proposer_of b)) × (b ≤ ballot_of row'.accepted)
taken_is_kept row row' rs b seven s e = let past = taken_past row row' rs b seven s e in (past.taken, taken_under row row' rs b s e)

-- a promise tells of what is accepted below it: before, since nothing below it is accepted behind it
pub promises_tell : (row told row' : PaxosRow) (earlier later : List Reaction) (b x : ℕ) → Steps row earlier told → Steps told (Promised b ∷ later) row'
    → Ever (IsTaken x) earlier ⊎ Ever (IsTaken x) later → x < b → x ≤ ballot_of told.accepted
promises_tell row told row' earlier later b x s t (inl before) lt = taken_under row told earlier x s before
promises_tell row told row' earlier later b x s t (inr behind) lt =
    let at : b ≤ t.0.promised = subst (λ (z : PaxosRow). b ≤ z.promised) (sym t.1.1) (le_refl _) in
    let above = taken_above t.0 row' later x t.2 behind in
    absurd (omega arith)

-- ---- a proposal that comes again

-- what is kept of its proposer is at most the ballot
most_stays : (b : ℕ) (row row' : PaxosRow) (rs : List Reaction) → length row.took ≡ 7 → Steps row rs row' → taken_from row (proposer_of b) ≤ b
    → ((x : ℕ) → Ever (IsTaken x) rs → proposer_of x ≡ proposer_of b → x ≤ b) → taken_from row' (proposer_of b) ≤ b
most_stays b row row' [] seven s le none = subst (λ (z : PaxosRow). taken_from z (proposer_of b) ≤ b) (sym s) le
most_stays b row row' (r ∷ rs) seven s le none = most_stays b s.0 row' rs (places_stay row s.0 r s.1 seven) s.2 (go r s.1 (λ x is. none x (inl is))) (λ x e. none x (inr e))
  where
    go : (r : Reaction) → Step row r s.0 → ((x : ℕ) → IsTaken x r → proposer_of x ≡ proposer_of b → x ≤ b) → taken_from s.0 (proposer_of b) ≤ b
    go (Accepted x u) t only =
        let why = cause row x vote.Take t.0 in
        subst (λ (z : PaxosRow). taken_from z (proposer_of b) ≤ b) (sym t.1) (taken_pick (λ z. z ≤ b) row x u (proposer_of b) seven why.0 (λ e. only x refl e) (λ _. le))
    go (Promised x) t only = subst (λ (z : PaxosRow). taken_from z (proposer_of b) ≤ b) (sym t.1) le
    go (Ahead x) t only = subst (λ (z : PaxosRow). taken_from z (proposer_of b) ≤ b) (sym t.1) le
    go (Repeated x) t only = subst (λ (z : PaxosRow). taken_from z (proposer_of b) ≤ b) (sym t.1) le
    go (Passed x) t only = subst (λ (z : PaxosRow). taken_from z (proposer_of b) ≤ b) (sym t.1) le
    go (Refused x) t only = subst (λ (z : PaxosRow). taken_from z (proposer_of b) ≤ b) (sym t.1) le
    go (Committed x u) t only = after_commit (λ z. taken_from z (proposer_of b) ≤ b) row s.0 x u t (λ _. le) (λ _. le)

pub repeats_are_accepted : (row row' : PaxosRow) (later : List Reaction) (b : ℕ) (u : Update) → length row.took ≡ 7 → Steps row (Accepted b u ∷ later) row'
    → ((x : ℕ) → Ever (IsTaken x) later → proposer_of x ≡ proposer_of b → x ≤ b)
    → (vote_of row' b ≡ vote.Take) ⊎ (vote_of row' b ≡ vote.Again)
repeats_are_accepted row row' later b u seven s none =
    let why = cause row b vote.Take s.1.0 in
    let past = taken_past row row' (Accepted b u ∷ later) b seven s (inl refl) in
    let low = past.taken in
    let here : taken_from s.0 (proposer_of b) ≤ b = subst (λ (z : PaxosRow). taken_from z (proposer_of b) ≤ b) (sym s.1.1) (taken_pick (λ z. z ≤ b) row b u (proposer_of b) seven why.0 (λ _. le_refl _) (λ ne. absurd (ne refl))) in
    let high : taken_from row' (proposer_of b) ≤ b = most_stays b s.0 row' later (places_stay row s.0 (Accepted b u) s.1 seven) s.2 here none in
    let same : b ≡ taken_from row' (proposer_of b) = omega arith in
    elim (cases_lt b row'.promised) [
      | inl lt ↦ inr (sym (only_due row' b vote.Again (why.0, lt, same)))
      | inr le ↦ inl (sym (only_due row' b vote.Take (why.0, le)))
    ]

-- ---- what is kept was accepted

-- a ballot kept of proposer k stood there at the start, or was accepted in the run
abbrev pub Took : PaxosRow → List Reaction → ℕ → ℕ → Type 0
Took start rs k t = (t ≡ taken_from start k) ⊎ (Ever (IsTaken t) rs × (proposer_of t ≡ k))

-- the row has only what it had at the start, and what came in the run
pub record WasHeardSince (start : PaxosRow) (rs : List Reaction) (row : PaxosRow) : Type 0 where
  pub took : (k : ℕ) → Took start rs k (taken_from row k)
  pub accepted : (s : Stamped) → row.accepted ≡ Some s → (start.accepted ≡ Some s) ⊎ Ever (IsAcceptance s.ballot s.update) rs
  pub commit : (s : Stamped) → row.commit ≡ Some s → (start.commit ≡ Some s) ⊎ Ever (IsCommit s.ballot s.update) rs

abbrev stamped_or : Stamped → Option Stamped → Stamped
stamped_or d None = d
stamped_or d (Some s) = s

took_first : (start row : PaxosRow) (r : Reaction) (rs : List Reaction) (k : ℕ) → length start.took ≡ 7 → Step start r row → Took start (r ∷ rs) k (taken_from row k)
took_first start row (Accepted x u) rs k seven s =
    let why = cause start x vote.Take s.0 in
    subst (λ (z : PaxosRow). Took start (Accepted x u ∷ rs) k (taken_from z k)) (sym s.1) (taken_pick (Took start (Accepted x u ∷ rs) k) start x u k seven why.0 (λ e. inr (inl refl, e)) (λ ne. inl refl))
took_first start row (Promised x) rs k seven s = inl (ap (λ (z : PaxosRow). taken_from z k) s.1)
took_first start row (Ahead x) rs k seven s = inl (ap (λ (z : PaxosRow). taken_from z k) s.1)
took_first start row (Repeated x) rs k seven s = inl (ap (λ (z : PaxosRow). taken_from z k) s.1)
took_first start row (Passed x) rs k seven s = inl (ap (λ (z : PaxosRow). taken_from z k) s.1)
took_first start row (Refused x) rs k seven s = inl (ap (λ (z : PaxosRow). taken_from z k) s.1)
took_first start row (Committed x u) rs k seven s = after_commit (λ z. Took start (Committed x u ∷ rs) k (taken_from z k)) start row x u s (λ _. inl refl) (λ _. inl refl)

accepted_first : (start row : PaxosRow) (r : Reaction) (rs : List Reaction) (t : Stamped) → Step start r row → row.accepted ≡ Some t → (start.accepted ≡ Some t) ⊎ Ever (IsAcceptance t.ballot t.update) (r ∷ rs)
accepted_first start row (Accepted x u) rs t s e =
    let here : Some (record { ballot = x; update = u }) ≡ Some t = sym (ap (λ (z : PaxosRow). z.accepted) s.1) ∙ e in
    inr (inl (ap (λ (o : Option Stamped). (stamped_or t o).ballot) here, ap (λ (o : Option Stamped). (stamped_or t o).update) here))
accepted_first start row (Promised x) rs t s e = inl (sym (ap (λ (z : PaxosRow). z.accepted) s.1) ∙ e)
accepted_first start row (Ahead x) rs t s e = inl (sym (ap (λ (z : PaxosRow). z.accepted) s.1) ∙ e)
accepted_first start row (Repeated x) rs t s e = inl (sym (ap (λ (z : PaxosRow). z.accepted) s.1) ∙ e)
accepted_first start row (Passed x) rs t s e = inl (sym (ap (λ (z : PaxosRow). z.accepted) s.1) ∙ e)
accepted_first start row (Refused x) rs t s e = inl (sym (ap (λ (z : PaxosRow). z.accepted) s.1) ∙ e)
accepted_first start row (Committed x u) rs t s e = inl (after_commit (λ z. start.accepted ≡ z.accepted) start row x u s (λ _. refl) (λ _. refl) ∙ e)

commit_first : (start row : PaxosRow) (r : Reaction) (rs : List Reaction) (t : Stamped) → Step start r row → row.commit ≡ Some t → (start.commit ≡ Some t) ⊎ Ever (IsCommit t.ballot t.update) (r ∷ rs)
commit_first start row (Committed x u) rs t s e = after_commit (λ z. z.commit ≡ Some t → (start.commit ≡ Some t) ⊎ Ever (IsCommit t.ballot t.update) (Committed x u ∷ rs)) start row x u s
    (λ _ here. inr (inl (ap (λ (o : Option Stamped). (stamped_or t o).ballot) here, ap (λ (o : Option Stamped). (stamped_or t o).update) here)))
    (λ _ here. inl here)
    e
commit_first start row (Accepted x u) rs t s e = inl (sym (ap (λ (z : PaxosRow). z.commit) s.1) ∙ e)
commit_first start row (Promised x) rs t s e = inl (sym (ap (λ (z : PaxosRow). z.commit) s.1) ∙ e)
commit_first start row (Ahead x) rs t s e = inl (sym (ap (λ (z : PaxosRow). z.commit) s.1) ∙ e)
commit_first start row (Repeated x) rs t s e = inl (sym (ap (λ (z : PaxosRow). z.commit) s.1) ∙ e)
commit_first start row (Passed x) rs t s e = inl (sym (ap (λ (z : PaxosRow). z.commit) s.1) ∙ e)
commit_first start row (Refused x) rs t s e = inl (sym (ap (λ (z : PaxosRow). z.commit) s.1) ∙ e)

pub heard_since : (start row : PaxosRow) (rs : List Reaction) → length start.took ≡ 7 → Steps start rs row → WasHeardSince start rs row
heard_since start row [] seven s = record {
  took = λ k. inl (ap (λ (z : PaxosRow). taken_from z k) s);
  accepted = λ t e. inl (sym (ap (λ (z : PaxosRow). z.accepted) s) ∙ e);
  commit = λ t e. inl (sym (ap (λ (z : PaxosRow). z.commit) s) ∙ e);
}
heard_since start row (r ∷ rs) seven s =
    let rest = heard_since s.0 row rs (places_stay start s.0 r s.1 seven) s.2 in
    record {
      took = λ k. elim (rest.took k) [
        | inl e ↦ subst (Took start (r ∷ rs) k) (sym e) (took_first start s.0 r rs k seven s.1)
        | inr was ↦ inr (inr was.0, was.1)
      ];
      accepted = λ t e. elim (rest.accepted t e) [ inl here ↦ accepted_first start s.0 r rs t s.1 here | inr was ↦ inr (inr was) ];
      commit = λ t e. elim (rest.commit t e) [ inl here ↦ commit_first start s.0 r rs t s.1 here | inr was ↦ inr (inr was) ];
    }

fresh_took : (k : ℕ) → taken_from fresh_row k ≡ 0
fresh_took k = let le = fresh_in_order.took k in omega arith

pub accepted_was_taken : (row : PaxosRow) (rs : List Reaction) → Steps fresh_row rs row → WasHeard rs row
accepted_was_taken row rs s =
    let heard = heard_since fresh_row row rs refl s in
    record {
      took = λ k. elim (heard.took k) [ inl e ↦ inl (e ∙ fresh_took k) | inr was ↦ inr was ];
      accepted = λ t e. elim (heard.accepted t e) [ inl lacks ↦ absurd (none_some t lacks) | inr was ↦ was ];
      commit = λ t e. elim (heard.commit t e) [ inl lacks ↦ absurd (none_some t lacks) | inr was ↦ was ];
    }
  where
    none_some : (t : Stamped) → None ≡ Some t → ⊥
    none_some t e = cc

pub repeated_was_taken : (row : PaxosRow) (earlier later : List Reaction) (b : ℕ) → 0 < b → Steps fresh_row (earlier ++ Repeated b ∷ later) row → Ever (IsTaken b) earlier
repeated_was_taken row earlier later b positive s =
    let parts = steps_part fresh_row row earlier (Repeated b ∷ later) s in
    let why = cause parts.0 b vote.Again parts.2.1.0 in
    let same : b ≡ taken_from parts.0 (proposer_of b) = why.2 in
    let heard = accepted_was_taken parts.0 earlier parts.1 in
    elim (heard.took (proposer_of b)) [
      | inl none ↦ (let zero' : b ≡ 0 = same ∙ none in absurd (omega arith))
      | inr was ↦ subst (λ z. Ever (IsTaken z) earlier) (sym same) was.0
    ]
