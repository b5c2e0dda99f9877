-- The ballot of the commit never falls.
use Rattle.std.proofs.Common.{ℕ, ◌≤◌, List, arith, le_refl, le_of_lt, le_trans}
use Rattle.row_change.specs.declared.entry.Update.{Update}
use Rattle.row_change.specs.declared.entry.PaxosRow.{PaxosRow}
use Rattle.paxos_acceptor.specs.Acceptor.{ballot_of}
use Rattle.paxos_acceptor.specs.Steps.{Reaction, Promised, Ahead, Accepted, Repeated, Passed, Refused, Committed, Step, Steps, Ever, IsCommit}
use Rattle.paxos_acceptor.proofs.Runs.{Keeps, run_keeps, run_shows, after_step, after_commit}

commit_stays : (b : ℕ) → Keeps (λ row. b ≤ ballot_of row.commit)
commit_stays b row row' r s le = after_step (λ z. b ≤ ballot_of z.commit) row row' r s (λ x lt. le) (λ x u known above. le) (λ x u lt. le_trans le (le_of_lt lt)) le

pub commit_rises : (row row' : PaxosRow) (rs : List Reaction) → Steps row rs row' → ballot_of row.commit ≤ ballot_of row'.commit
commit_rises row row' rs s = run_keeps (λ z. ballot_of row.commit ≤ ballot_of z.commit) (commit_stays (ballot_of row.commit)) row row' rs s (le_refl _)

commit_here : (b : ℕ) (u : Update) (row row' : PaxosRow) (r : Reaction) → Step row r row' → IsCommit b u r → b ≤ ballot_of row'.commit
commit_here b u row row' (Committed x v) s is = after_commit (λ z. b ≤ ballot_of z.commit) row row' x v s (λ newer. (let e = is.0 in omega arith)) (λ older. (let e = is.0 in omega arith))
commit_here b u row row' (Promised x) s is = elim is [ ]
commit_here b u row row' (Ahead x) s is = elim is [ ]
commit_here b u row row' (Accepted x v) s is = elim is [ ]
commit_here b u row row' (Repeated x) s is = elim is [ ]
commit_here b u row row' (Passed x) s is = elim is [ ]
commit_here b u row row' (Refused x) s is = elim is [ ]

pub commits_are_kept : (row row' : PaxosRow) (rs : List Reaction) (b : ℕ) (u : Update) → Steps row rs row' → Ever (IsCommit b u) rs → b ≤ ballot_of row'.commit
commits_are_kept row row' rs b u s e = run_shows (λ z. b ≤ ballot_of z.commit) (IsCommit b u) (commit_stays b) (commit_here b u) row row' rs s e
