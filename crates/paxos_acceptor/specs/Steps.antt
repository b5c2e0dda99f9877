-- What an acceptor does of one partition, step by step.
use Rattle.std.specs.Prelude.{◌≡◌, ℕ, ◌<◌, ◌≤◌, ◌⊎◌, List, [], ◌∷◌}
use Rattle.row_change.specs.declared.entry.Update.{Update}
use Rattle.row_change.specs.declared.entry.PaxosRow.{PaxosRow}
use Rattle.paxos_acceptor.specs.declared.deciding.Vote.{Vote}
use Rattle.paxos_acceptor.specs.declared.deciding.Vote.TheVariants as vote
use Rattle.paxos_acceptor.specs.Acceptor.{vote_of, row_promised, row_accepted, row_committed}

-- what it does with one message
pub data Reaction : Type 0 where
  -- it promises a ballot
  Promised : (ballot : ℕ) → Reaction
  -- it tells that its promise is ahead of a ballot
  Ahead : (ballot : ℕ) → Reaction
  -- it accepts a proposal
  Accepted : (ballot : ℕ) (update : Update) → Reaction
  -- it answers a proposal that it accepted before as accepted
  Repeated : (ballot : ℕ) → Reaction
  -- it gives no answer to a proposal
  Passed : (ballot : ℕ) → Reaction
  -- it refuses a proposal
  Refused : (ballot : ℕ) → Reaction
  -- it hears of a commit
  Committed : (ballot : ℕ) (update : Update) → Reaction

-- when it does so, and its row behind it
abbrev pub Step : PaxosRow → Reaction → PaxosRow → Type 0
Step row (Promised b) row' = (row.promised < b) × (row' ≡ row_promised row b)
Step row (Ahead b) row' = (b ≤ row.promised) × (row' ≡ row)
Step row (Accepted b u) row' = (vote_of row b ≡ vote.Take) × (row' ≡ row_accepted row b u)
Step row (Repeated b) row' = (vote_of row b ≡ vote.Again) × (row' ≡ row)
Step row (Passed b) row' = (vote_of row b ≡ vote.Silent) × (row' ≡ row)
Step row (Refused b) row' = (vote_of row b ≡ vote.Refused row.promised) × (row' ≡ row)
Step row (Committed b u) row' = row' ≡ row_committed row b u

-- what is done with a proposal by its vote, and the row behind it
abbrev pub reaction_of : ℕ → Update → Vote → Reaction
reaction_of b u vote.Take = Accepted b u
reaction_of b u vote.Again = Repeated b
reaction_of b u vote.Silent = Passed b
reaction_of b u (vote.Refused kept) = Refused b

abbrev pub row_voted : PaxosRow → ℕ → Update → Vote → PaxosRow
row_voted row b u vote.Take = row_accepted row b u
row_voted row b u vote.Again = row
row_voted row b u vote.Silent = row
row_voted row b u (vote.Refused kept) = row

-- one after another, in order of time
abbrev pub Steps : PaxosRow → List Reaction → PaxosRow → Type 0
Steps row [] row' = row' ≡ row
Steps row (r ∷ rs) row' = (between : PaxosRow) × Step row r between × Steps between rs row'

-- ---- what happened

abbrev pub Ever : (Reaction → Type 0) → List Reaction → Type 0
Ever P [] = ⊥
Ever P (r ∷ rs) = P r ⊎ Ever P rs

abbrev pub IsPromise : ℕ → Reaction → Type 0
IsPromise b (Promised x) = x ≡ b
IsPromise b _ = ⊥

abbrev pub IsAcceptance : ℕ → Update → Reaction → Type 0
IsAcceptance b u (Accepted x v) = (x ≡ b) × (v ≡ u)
IsAcceptance b u _ = ⊥

-- accepted, whatever the update
abbrev pub IsTaken : ℕ → Reaction → Type 0
IsTaken b (Accepted x v) = x ≡ b
IsTaken b _ = ⊥

-- answered as accepted, the first time or again
abbrev pub IsYes : ℕ → Reaction → Type 0
IsYes b (Accepted x v) = x ≡ b
IsYes b (Repeated x) = x ≡ b
IsYes b _ = ⊥

abbrev pub IsRefusal : ℕ → Reaction → Type 0
IsRefusal b (Refused x) = x ≡ b
IsRefusal b _ = ⊥

abbrev pub IsCommit : ℕ → Update → Reaction → Type 0
IsCommit b u (Committed x v) = (x ≡ b) × (v ≡ u)
IsCommit b u _ = ⊥
