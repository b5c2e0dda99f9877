-- What an acceptor answers of one partition, and what its row becomes. After Lamport, "Paxos Made Simple", sections 2.2 and 2.3.
-- That a proposal below the promise is compared with the highest ballot accepted from its proposer is this project's own.
use Rattle.std.specs.Prelude.{◌≡◌, ℕ, ◌<◌, ◌≤◌, ◌%◌, ◌==◌, ◌⊎◌, nat_lt, nat_le, if◌then◌else◌, Option, Some, None, [], ◌∷◌, slice_index_or, slice_set}
use Rattle.row_change.specs.declared.entry.Update.{Update}
use Rattle.row_change.specs.declared.entry.Stamped.{Stamped}
use Rattle.row_change.specs.declared.entry.PaxosRow.{PaxosRow}
use Rattle.paxos_acceptor.specs.declared.deciding.Vote.{Vote}
use Rattle.paxos_acceptor.specs.declared.deciding.Vote.TheVariants.{Take, Again, Silent, Refused}

-- the row of a partition of which nothing was heard
abbrev pub fresh_row : PaxosRow
fresh_row = record { promised = 0; took = 0 ∷ 0 ∷ 0 ∷ 0 ∷ 0 ∷ 0 ∷ 0 ∷ []; accepted = None; commit = None }

-- the ballot of an accepted update or of a commit, 0 for none
abbrev pub ballot_of : Option Stamped → ℕ
ballot_of None = 0
ballot_of (Some s) = s.ballot

-- the node that makes such ballots; there is none of number 7
abbrev pub proposer_of : ℕ → ℕ
proposer_of b = b % 8

-- the highest ballot that was accepted from a proposer, 0 for none
abbrev pub taken_from : PaxosRow → ℕ → ℕ
taken_from row proposer = slice_index_or row.took proposer 0

-- ---- what is answered

-- on a proposal of ballot b, where taken is the highest ballot accepted from its proposer
abbrev pub vote_at : ℕ → ℕ → ℕ → Vote
vote_at promised taken b = if nat_le promised b then Take else if b == taken then Again else if nat_lt b taken then Silent else Refused promised

abbrev pub vote_of : PaxosRow → ℕ → Vote
vote_of row b = if nat_lt (proposer_of b) 7 then vote_at row.promised (taken_from row (proposer_of b)) b else Silent

-- the cause of each answer to a proposal
abbrev pub IsDue : PaxosRow → ℕ → Vote → Type 0
IsDue row b Take = (proposer_of b < 7) × (row.promised ≤ b)
IsDue row b Again = (proposer_of b < 7) × (b < row.promised) × (b ≡ taken_from row (proposer_of b))
IsDue row b Silent = (7 ≤ proposer_of b) ⊎ ((b < row.promised) × (b < taken_from row (proposer_of b)))
IsDue row b (Refused kept) = (proposer_of b < 7) × (b < row.promised) × (taken_from row (proposer_of b) < b) × (kept ≡ row.promised)

-- ---- what the row becomes

abbrev pub row_promised : PaxosRow → ℕ → PaxosRow
row_promised row b = record { promised = b; took = row.took; accepted = row.accepted; commit = row.commit }

-- an accepted ballot becomes the promise
abbrev pub row_accepted : PaxosRow → ℕ → Update → PaxosRow
row_accepted row b u = record {
  promised = b;
  took = slice_set row.took (proposer_of b) b;
  accepted = Some (record { ballot = b; update = u });
  commit = row.commit;
}

abbrev pub with_commit : PaxosRow → ℕ → Update → PaxosRow
with_commit row b u = record {
  promised = row.promised;
  took = row.took;
  accepted = row.accepted;
  commit = Some (record { ballot = b; update = u });
}

-- a commit that is not newer leaves the row as it was
abbrev pub row_committed : PaxosRow → ℕ → Update → PaxosRow
row_committed row b u = if nat_lt (ballot_of row.commit) b then with_commit row b u else row
