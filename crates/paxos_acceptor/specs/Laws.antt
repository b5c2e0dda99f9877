-- The laws of an acceptor, stated. A run is what it did of one partition, from some row on, in order of time.
use Rattle.std.specs.Prelude.{◌≡◌, ℕ, ◌<◌, ◌≤◌, ◌⊎◌, Some, List, ◌∷◌, ◌++◌, length}
use Rattle.row_change.specs.declared.entry.Stamped.{Stamped}
use Rattle.row_change.specs.declared.entry.Update.{Update}
use Rattle.row_change.specs.declared.entry.PaxosRow.{PaxosRow}
use Rattle.paxos_acceptor.specs.declared.deciding.Vote.{Vote}
use Rattle.paxos_acceptor.specs.declared.deciding.Vote.TheVariants as vote
use Rattle.paxos_acceptor.specs.Acceptor.{fresh_row, ballot_of, proposer_of, taken_from, vote_of, IsDue, row_promised}
use Rattle.paxos_acceptor.specs.Steps.{Reaction, Promised, Ahead, Accepted, Repeated, Refused, Step, reaction_of, row_voted, Steps, Ever, IsPromise, IsAcceptance, IsTaken, IsYes, IsRefusal, IsCommit}

-- ---- answers

-- an answer to a proposal has its cause
abbrev pub VotesAreDue : Type 0
VotesAreDue = (row : PaxosRow) (b : ℕ) → IsDue row b (vote_of row b)

-- and no other answer has a cause then
abbrev pub VotesAreDetermined : Type 0
VotesAreDetermined = (row : PaxosRow) (b : ℕ) (v : Vote) → IsDue row b v → v ≡ vote_of row b

-- each ballot is promised, or it is told that the promise is ahead
abbrev pub PreparesAreSteps : Type 0
PreparesAreSteps = (row : PaxosRow) (b : ℕ) → Step row (Promised b) (row_promised row b) ⊎ Step row (Ahead b) row

-- and each proposal is voted on
abbrev pub VotesAreSteps : Type 0
VotesAreSteps = (row : PaxosRow) (b : ℕ) (u : Update) → Step row (reaction_of b u (vote_of row b)) (row_voted row b u (vote_of row b))

-- ---- rows

-- a row has a place for each proposer, and its promise is at least what it accepted
pub record IsInOrder (row : PaxosRow) : Type 0 where
  pub places : length row.took ≡ 7
  pub took : (proposer : ℕ) → taken_from row proposer ≤ row.promised
  pub accepted : ballot_of row.accepted ≤ row.promised

abbrev pub RowsStayInOrder : Type 0
RowsStayInOrder = (row row' : PaxosRow) (rs : List Reaction) → IsInOrder row → Steps row rs row' → IsInOrder row'

-- ---- promises

abbrev pub PromisesRise : Type 0
PromisesRise = (row row' : PaxosRow) (rs : List Reaction) → Steps row rs row' → row.promised ≤ row'.promised

-- a ballot is promised, or accepted, in the run
abbrev pub IsHeld : ℕ → List Reaction → Type 0
IsHeld b rs = Ever (IsPromise b) rs ⊎ Ever (IsTaken b) rs

abbrev pub PromisesAreKept : Type 0
PromisesAreKept = (row row' : PaxosRow) (rs : List Reaction) (b : ℕ) → Steps row rs row' → IsHeld b rs → b ≤ row'.promised

-- nothing is accepted below what was promised or accepted before
abbrev pub NothingBelowIsTaken : Type 0
NothingBelowIsTaken = (row row' : PaxosRow) (earlier later : List Reaction) (p b : ℕ) → Steps row (earlier ++ later) row' → IsHeld p earlier → Ever (IsTaken b) later → p ≤ b

-- The row that a promise of ballot b tells has the highest of the ballots below b that are ever accepted, before the promise or
-- behind it: none comes behind it.
abbrev pub PromisesTell : Type 0
PromisesTell =
    (row told row' : PaxosRow) (earlier later : List Reaction) (b x : ℕ) → Steps row earlier told → Steps told (Promised b ∷ later) row'
    → Ever (IsTaken x) earlier ⊎ Ever (IsTaken x) later → x < b → x ≤ ballot_of told.accepted

-- ---- acceptances

-- what was accepted is at most what the row has of its proposer, and at most the ballot of the accepted update
abbrev pub TakenIsKept : Type 0
TakenIsKept =
    (row row' : PaxosRow) (rs : List Reaction) (b : ℕ) → length row.took ≡ 7 → Steps row rs row' → Ever (IsTaken b) rs
    → (b ≤ taken_from row' (proposer_of b)) × (b ≤ ballot_of row'.accepted)

-- the row behind a run has nothing but what came in it
pub record WasHeard (rs : List Reaction) (row : PaxosRow) : Type 0 where
  pub took : (k : ℕ) → (taken_from row k ≡ 0) ⊎ (Ever (IsTaken (taken_from row k)) rs × (proposer_of (taken_from row k) ≡ k))
  pub accepted : (s : Stamped) → row.accepted ≡ Some s → Ever (IsAcceptance s.ballot s.update) rs
  pub commit : (s : Stamped) → row.commit ≡ Some s → Ever (IsCommit s.ballot s.update) rs

abbrev pub AcceptedWasTaken : Type 0
AcceptedWasTaken = (row : PaxosRow) (rs : List Reaction) → Steps fresh_row rs row → WasHeard rs row

-- what is answered as accepted again was accepted before; no ballot is 0
abbrev pub RepeatedWasTaken : Type 0
RepeatedWasTaken = (row : PaxosRow) (earlier later : List Reaction) (b : ℕ) → 0 < b → Steps fresh_row (earlier ++ Repeated b ∷ later) row → Ever (IsTaken b) earlier

-- A proposal that comes again is accepted again, whatever was promised since, unless a higher one of its proposer was accepted.
abbrev pub RepeatsAreAccepted : Type 0
RepeatsAreAccepted =
    (row row' : PaxosRow) (later : List Reaction) (b : ℕ) (u : Update) → length row.took ≡ 7 → Steps row (Accepted b u ∷ later) row'
    → ((x : ℕ) → Ever (IsTaken x) later → proposer_of x ≡ proposer_of b → x ≤ b)
    → (vote_of row' b ≡ vote.Take) ⊎ (vote_of row' b ≡ vote.Again)

-- ---- refusals

-- what is refused was not accepted before, and will not be
abbrev pub RefusedIsNotAccepted : Type 0
RefusedIsNotAccepted =
    (row row' : PaxosRow) (earlier later : List Reaction) (b : ℕ) → length row.took ≡ 7 → Steps row (earlier ++ Refused b ∷ later) row'
    → (Ever (IsYes b) earlier → ⊥) × (Ever (IsYes b) later → ⊥)

-- what is accepted was not refused before, and will not be
abbrev pub AcceptedIsNotRefused : Type 0
AcceptedIsNotRefused =
    (row row' : PaxosRow) (earlier later : List Reaction) (b : ℕ) (r : Reaction) → length row.took ≡ 7 → IsYes b r → Steps row (earlier ++ r ∷ later) row'
    → (Ever (IsRefusal b) earlier → ⊥) × (Ever (IsRefusal b) later → ⊥)

-- ---- commits

abbrev pub CommitsRise : Type 0
CommitsRise = (row row' : PaxosRow) (rs : List Reaction) → Steps row rs row' → ballot_of row.commit ≤ ballot_of row'.commit

abbrev pub CommitsAreKept : Type 0
CommitsAreKept = (row row' : PaxosRow) (rs : List Reaction) (b : ℕ) (u : Update) → Steps row rs row' → Ever (IsCommit b u) rs → b ≤ ballot_of row'.commit
