-- What is refused was not accepted before, and will not be.
use Rattle.std.proofs.Common.{◌≡◌, ◌≢◌, ℕ, ◌<◌, ◌≤◌, List, ◌∷◌, ◌++◌, refl, sym, subst, arith, ◌∙◌, length, le_of_lt}
use Rattle.std.proofs.lemmas.List.{length-set}
use Rattle.row_change.specs.declared.entry.PaxosRow.{PaxosRow}
use Rattle.paxos_acceptor.specs.declared.deciding.Vote.TheVariants as vote
use Rattle.paxos_acceptor.specs.Acceptor.{proposer_of, taken_from}
use Rattle.paxos_acceptor.specs.Steps.{Reaction, Promised, Ahead, Accepted, Repeated, Passed, Refused, Committed, Step, Steps, Ever, IsYes, IsRefusal}
use Rattle.paxos_acceptor.proofs.Votes.{cause}
use Rattle.paxos_acceptor.proofs.Runs.{steps_part, Keeps, run_makes, run_tells, run_keeps, after_step, places_stay}
use Rattle.paxos_acceptor.proofs.Acceptances.{taken_pick, IsPast, past_stays, past_here}

-- an answer as accepted puts the row past the ballot
yes_here : (b : ℕ) (row row' : PaxosRow) (r : Reaction) → Step row r row' → length row.took ≡ 7 → IsYes b r → IsPast b row'
yes_here b row row' (Accepted x u) s seven is = past_here b row row' (Accepted x u) s seven is
yes_here b row row' (Repeated x) s seven is =
    let why = cause row x vote.Again s.0 in
    let below = why.1 in
    let same : x ≡ taken_from row (proposer_of x) = why.2 in
    let promised : b ≤ row.promised = omega arith in
    let kept : b ≤ taken_from row (proposer_of x) = omega arith in
    subst (IsPast b) (sym s.1) (record { places = seven; promised = promised; taken = subst (λ z. b ≤ taken_from row (proposer_of z)) is kept })
yes_here b row row' (Promised x) s seven is = elim is [ ]
yes_here b row row' (Ahead x) s seven is = elim is [ ]
yes_here b row row' (Passed x) s seven is = elim is [ ]
yes_here b row row' (Refused x) s seven is = elim is [ ]
yes_here b row row' (Committed x u) s seven is = elim is [ ]

-- a row that is past a ballot does not refuse it
past_bars : (b : ℕ) (row row' : PaxosRow) (r : Reaction) → Step row r row' → IsPast b row → IsRefusal b r → ⊥
past_bars b row row' (Refused x) s past is =
    let why = cause row x (vote.Refused row.promised) s.0 in
    let low : taken_from row (proposer_of x) < x = why.2 in
    let low' : taken_from row (proposer_of b) < b = subst (λ z. taken_from row (proposer_of z) < z) is low in
    let high = past.taken in
    omega arith
past_bars b row row' (Promised x) s past is = elim is [ ]
past_bars b row row' (Ahead x) s past is = elim is [ ]
past_bars b row row' (Accepted x u) s past is = elim is [ ]
past_bars b row row' (Repeated x) s past is = elim is [ ]
past_bars b row row' (Passed x) s past is = elim is [ ]
past_bars b row row' (Committed x u) s past is = elim is [ ]

-- the promise is above the ballot, and it is not what is kept of its proposer
pub record IsBarred (b : ℕ) (row : PaxosRow) : Type 0 where
  pub places : length row.took ≡ 7
  pub promised : b < row.promised
  pub taken : taken_from row (proposer_of b) ≢ b

pub barred_stays : (b : ℕ) → Keeps (IsBarred b)
barred_stays b row row' r s is = after_step (IsBarred b) row row' r s
    (λ x lt. record { places = is.places; promised = above x is.promised (le_of_lt lt); taken = is.taken })
    (λ x u known le. record {
      places = length-set row.took (proposer_of x) x ∙ is.places;
      promised = above x is.promised le;
      taken = taken_pick (λ z. z ≢ b) row x u (proposer_of b) is.places known (λ _ e. (let lt = above x is.promised le in omega arith)) (λ _. is.taken);
    })
    (λ x u lt. record { places = is.places; promised = is.promised; taken = is.taken })
    is
  where
    above : (x : ℕ) → b < row.promised → row.promised ≤ x → b < x
    above x lt le = omega arith

-- a refusal leaves the row so
refused_here : (b : ℕ) (row row' : PaxosRow) (r : Reaction) → Step row r row' → length row.took ≡ 7 → IsRefusal b r → IsBarred b row'
refused_here b row row' (Refused x) s seven is =
    let why = cause row x (vote.Refused row.promised) s.0 in
    let low : taken_from row (proposer_of x) < x = why.2 in
    let low' : taken_from row (proposer_of b) < b = subst (λ z. taken_from row (proposer_of z) < z) is low in
    let below : x < row.promised = why.1 in
    let below' : b < row.promised = subst (λ z. z < row.promised) is below in
    subst (IsBarred b) (sym s.1) (record { places = seven; promised = below'; taken = λ e. (omega arith) })
refused_here b row row' (Promised x) s seven is = elim is [ ]
refused_here b row row' (Ahead x) s seven is = elim is [ ]
refused_here b row row' (Accepted x u) s seven is = elim is [ ]
refused_here b row row' (Repeated x) s seven is = elim is [ ]
refused_here b row row' (Passed x) s seven is = elim is [ ]
refused_here b row row' (Committed x u) s seven is = elim is [ ]

-- and such a row does not answer the ballot as accepted
barred_bars : (b : ℕ) (row row' : PaxosRow) (r : Reaction) → Step row r row' → IsBarred b row → IsYes b r → ⊥
barred_bars b row row' (Accepted x u) s barred is =
    let why = cause row x vote.Take s.0 in
    let above = why.1 in
    let below = barred.promised in
    omega arith
barred_bars b row row' (Repeated x) s barred is =
    let why = cause row x vote.Again s.0 in
    let same : x ≡ taken_from row (proposer_of x) = why.2 in
    let same' : b ≡ taken_from row (proposer_of b) = subst (λ z. z ≡ taken_from row (proposer_of z)) is same in
    barred.taken (sym same')
barred_bars b row row' (Promised x) s barred is = elim is [ ]
barred_bars b row row' (Ahead x) s barred is = elim is [ ]
barred_bars b row row' (Passed x) s barred is = elim is [ ]
barred_bars b row row' (Refused x) s barred is = elim is [ ]
barred_bars b row row' (Committed x u) s barred is = elim is [ ]

-- ---- before and behind

seven_stays : (row row' : PaxosRow) (rs : List Reaction) → Steps row rs row' → length row.took ≡ 7 → length row'.took ≡ 7
seven_stays row row' rs s seven = run_keeps (λ z. length z.took ≡ 7) places_stay row row' rs s seven

yes_then_no : (row row' : PaxosRow) (rs : List Reaction) (b : ℕ) → IsPast b row → Steps row rs row' → Ever (IsRefusal b) rs → ⊥
yes_then_no row row' rs b past s e = run_tells (IsPast b) (IsRefusal b) ⊥ (past_stays b) (past_bars b) row row' rs s past e

no_then_yes : (row row' : PaxosRow) (rs : List Reaction) (b : ℕ) → IsBarred b row → Steps row rs row' → Ever (IsYes b) rs → ⊥
no_then_yes row row' rs b barred s e = run_tells (IsBarred b) (IsYes b) ⊥ (barred_stays b) (barred_bars b) row row' rs s barred e

yes_past : (row row' : PaxosRow) (rs : List Reaction) (b : ℕ) → length row.took ≡ 7 → Steps row rs row' → Ever (IsYes b) rs → IsPast b row'
yes_past row row' rs b seven s e = run_makes (λ z. length z.took ≡ 7) (IsPast b) (IsYes b) places_stay (past_stays b) (yes_here b) row row' rs s seven e

no_barred : (row row' : PaxosRow) (rs : List Reaction) (b : ℕ) → length row.took ≡ 7 → Steps row rs row' → Ever (IsRefusal b) rs → IsBarred b row'
no_barred row row' rs b seven s e = run_makes (λ z. length z.took ≡ 7) (IsBarred b) (IsRefusal b) places_stay (barred_stays b) (refused_here b) row row' rs s seven e

pub refused_is_not_accepted : (row row' : PaxosRow) (earlier later : List Reaction) (b : ℕ) → length row.took ≡ 7 → Steps row (earlier ++ Refused b ∷ later) row'
    → (Ever (IsYes b) earlier → ⊥) × (Ever (IsYes b) later → ⊥)
refused_is_not_accepted row row' earlier later b seven s =
    let parts = steps_part row row' earlier (Refused b ∷ later) s in
    let seven' = seven_stays row parts.0 earlier parts.1 seven in (
      λ e. past_bars b parts.0 parts.2.0 (Refused b) parts.2.1 (yes_past row parts.0 earlier b seven parts.1 e) refl,
      λ e. no_then_yes parts.2.0 row' later b (refused_here b parts.0 parts.2.0 (Refused b) parts.2.1 seven' refl) parts.2.2 e,
    )

pub accepted_is_not_refused : (row row' : PaxosRow) (earlier later : List Reaction) (b : ℕ) (r : Reaction) → length row.took ≡ 7 → IsYes b r → Steps row (earlier ++ r ∷ later) row'
    → (Ever (IsRefusal b) earlier → ⊥) × (Ever (IsRefusal b) later → ⊥)
accepted_is_not_refused row row' earlier later b r seven yes' s =
    let parts = steps_part row row' earlier (r ∷ later) s in
    let seven' = seven_stays row parts.0 earlier parts.1 seven in (
      λ e. barred_bars b parts.0 parts.2.0 r parts.2.1 (no_barred row parts.0 earlier b seven parts.1 e) yes',
      λ e. yes_then_no parts.2.0 row' later b (yes_here b parts.0 parts.2.0 r parts.2.1 seven' yes') parts.2.2 e,
    )
