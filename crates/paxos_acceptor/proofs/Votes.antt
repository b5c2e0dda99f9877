-- What an answer to a proposal says of the row.
use Rattle.std.proofs.Common.{◌≡◌, ◌≢◌, ℕ, ◌<◌, ◌≤◌, ◌==◌, ◌⊎◌, inl, inr, Bool, true, false, refl, sym, subst, arith, ◌∙◌, eqb-true, ltb-true}
use Rattle.std.specs.Prelude.{if◌then◌else◌, nat_lt, nat_le}
use Rattle.std.proofs.lemmas.Bool.{cases_lt, eqb-false, ltb-false, leb-true, leb-false}
use Rattle.row_change.specs.declared.entry.Update.{Update}
use Rattle.row_change.specs.declared.entry.PaxosRow.{PaxosRow}
use Rattle.paxos_acceptor.specs.declared.deciding.Vote.{Vote}
use Rattle.paxos_acceptor.specs.declared.deciding.Vote.TheVariants.{Take, Again, Silent, Refused}
use Rattle.paxos_acceptor.specs.Acceptor.{proposer_of, taken_from, vote_of, IsDue, row_promised}
use Rattle.paxos_acceptor.specs.Steps.{Promised, Ahead, Step, reaction_of, row_voted}

lt_of_le_ne : (a b : ℕ) → a ≤ b → a ≢ b → a < b
lt_of_le_ne a b le ne = omega arith

-- an answer to a proposal has its cause
pub due : (row : PaxosRow) (b : ℕ) → IsDue row b (vote_of row b)
due row b = go (nat_lt (proposer_of b) 7) (nat_le row.promised b) (b == taken_from row (proposer_of b)) (nat_lt b (taken_from row (proposer_of b))) refl refl refl refl
  where
    go : (known above same below : Bool) → nat_lt (proposer_of b) 7 ≡ known → nat_le row.promised b ≡ above → (b == taken_from row (proposer_of b)) ≡ same → nat_lt b (taken_from row (proposer_of b)) ≡ below
        → IsDue row b (if known then (if above then Take else if same then Again else if below then Silent else Refused row.promised) else Silent)
    go true true same below e f g h = (ltb-true (proposer_of b) 7 e, leb-true row.promised b f)
    go true false true below e f g h = (ltb-true (proposer_of b) 7 e, leb-false row.promised b f, eqb-true b (taken_from row (proposer_of b)) g)
    go true false false true e f g h = inr (leb-false row.promised b f, ltb-true b (taken_from row (proposer_of b)) h)
    go true false false false e f g h =
        let ne = eqb-false b (taken_from row (proposer_of b)) g in
        let le = ltb-false b (taken_from row (proposer_of b)) h in
        (ltb-true (proposer_of b) 7 e, leb-false row.promised b f, lt_of_le_ne (taken_from row (proposer_of b)) b le (λ z. ne (sym z)), refl)
    go false above same below e f g h = inl (ltb-false (proposer_of b) 7 e)

pub cause : (row : PaxosRow) (b : ℕ) (v : Vote) → vote_of row b ≡ v → IsDue row b v
cause row b v e = subst (λ (z : Vote). IsDue row b z) e (due row b)

-- two answers are not due at once
pub one_is_due : (row : PaxosRow) (b : ℕ) (v w : Vote) → IsDue row b v → IsDue row b w → v ≡ w
one_is_due row b Take Take h k = refl
one_is_due row b Take Again h k = absurd (let x = h.1 in let y = k.1 in omega arith)
one_is_due row b Take Silent h k = absurd (elim k [ inl lacks ↦ (let x = h.0 in omega arith) | inr both ↦ (let x = h.1 in let y = both.0 in omega arith) ])
one_is_due row b Take (Refused kept) h k = absurd (let x = h.1 in let y = k.1 in omega arith)
one_is_due row b Again Take h k = absurd (let x = h.1 in let y = k.1 in omega arith)
one_is_due row b Again Again h k = refl
one_is_due row b Again Silent h k = absurd (elim k [ inl lacks ↦ (let x = h.0 in omega arith) | inr both ↦ (let x = h.2 in let y = both.1 in omega arith) ])
one_is_due row b Again (Refused kept) h k = absurd (let x = h.2 in let y = k.2 in omega arith)
one_is_due row b Silent Take h k = absurd (elim h [ inl lacks ↦ (let x = k.0 in omega arith) | inr both ↦ (let x = k.1 in let y = both.0 in omega arith) ])
one_is_due row b Silent Again h k = absurd (elim h [ inl lacks ↦ (let x = k.0 in omega arith) | inr both ↦ (let x = k.2 in let y = both.1 in omega arith) ])
one_is_due row b Silent Silent h k = refl
one_is_due row b Silent (Refused kept) h k = absurd (elim h [ inl lacks ↦ (let x = k.0 in omega arith) | inr both ↦ (let x = k.2 in let y = both.1 in omega arith) ])
one_is_due row b (Refused kept) Take h k = absurd (let x = h.1 in let y = k.1 in omega arith)
one_is_due row b (Refused kept) Again h k = absurd (let x = h.2 in let y = k.2 in omega arith)
one_is_due row b (Refused kept) Silent h k = absurd (elim k [ inl lacks ↦ (let x = h.0 in omega arith) | inr both ↦ (let x = h.2 in let y = both.1 in omega arith) ])
one_is_due row b (Refused kept) (Refused kept') h k = λ i. Refused ((h.3 ∙ sym k.3) i)

pub only_due : (row : PaxosRow) (b : ℕ) (v : Vote) → IsDue row b v → v ≡ vote_of row b
only_due row b v h = one_is_due row b v (vote_of row b) h (due row b)

-- ---- each message makes a step

pub prepares_are_steps : (row : PaxosRow) (b : ℕ) → Step row (Promised b) (row_promised row b) ⊎ Step row (Ahead b) row
prepares_are_steps row b = elim (cases_lt row.promised b) [ inl lt ↦ inl (lt, refl) | inr le ↦ inr (le, refl) ]

pub votes_are_steps : (row : PaxosRow) (b : ℕ) (u : Update) → Step row (reaction_of b u (vote_of row b)) (row_voted row b u (vote_of row b))
votes_are_steps row b u = go (vote_of row b) refl
  where
    go : (v : Vote) → vote_of row b ≡ v → Step row (reaction_of b u v) (row_voted row b u v)
    go Take e = (e, refl)
    go Again e = (e, refl)
    go Silent e = (e, refl)
    go (Refused kept) e = let why = cause row b (Refused kept) e in (subst (λ z. vote_of row b ≡ Refused z) why.3 e, refl)
