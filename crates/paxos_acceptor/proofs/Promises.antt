-- A promise never falls, and nothing is accepted below it.
use Rattle.std.proofs.Common.{ℕ, ◌≤◌, inl, inr, List, ◌++◌, sym, subst, arith, le_refl, le_of_lt, le_trans}
use Rattle.row_change.specs.declared.entry.PaxosRow.{PaxosRow}
use Rattle.paxos_acceptor.specs.declared.deciding.Vote.TheVariants as vote
use Rattle.paxos_acceptor.specs.Steps.{Reaction, Promised, Ahead, Accepted, Repeated, Passed, Refused, Committed, Step, Steps, Ever, IsPromise, IsTaken}
use Rattle.paxos_acceptor.specs.Laws.{IsHeld}
use Rattle.paxos_acceptor.proofs.Votes.{cause}
use Rattle.paxos_acceptor.proofs.Runs.{steps_part, Keeps, run_keeps, run_shows, run_tells, after_step}

pub step_rises : (row row' : PaxosRow) (r : Reaction) → Step row r row' → row.promised ≤ row'.promised
step_rises row row' r s = after_step (λ z. row.promised ≤ z.promised) row row' r s (λ b lt. le_of_lt lt) (λ b u known le. le) (λ b u lt. le_refl _) (le_refl _)

pub stays_below : (b : ℕ) → Keeps (λ row. b ≤ row.promised)
stays_below b row row' r s le = le_trans le (step_rises row row' r s)

pub promise_rises : (row row' : PaxosRow) (rs : List Reaction) → Steps row rs row' → row.promised ≤ row'.promised
promise_rises row row' rs s = run_keeps (λ z. row.promised ≤ z.promised) (stays_below row.promised) row row' rs s (le_refl _)

promise_here : (b : ℕ) (row row' : PaxosRow) (r : Reaction) → Step row r row' → IsPromise b r → b ≤ row'.promised
promise_here b row row' (Promised x) s is = subst (λ (z : PaxosRow). b ≤ z.promised) (sym s.1) (omega arith)
promise_here b row row' (Ahead x) s is = elim is [ ]
promise_here b row row' (Accepted x u) s is = elim is [ ]
promise_here b row row' (Repeated x) s is = elim is [ ]
promise_here b row row' (Passed x) s is = elim is [ ]
promise_here b row row' (Refused x) s is = elim is [ ]
promise_here b row row' (Committed x u) s is = elim is [ ]

taken_here : (b : ℕ) (row row' : PaxosRow) (r : Reaction) → Step row r row' → IsTaken b r → b ≤ row'.promised
taken_here b row row' (Accepted x u) s is = subst (λ (z : PaxosRow). b ≤ z.promised) (sym s.1) (omega arith)
taken_here b row row' (Promised x) s is = elim is [ ]
taken_here b row row' (Ahead x) s is = elim is [ ]
taken_here b row row' (Repeated x) s is = elim is [ ]
taken_here b row row' (Passed x) s is = elim is [ ]
taken_here b row row' (Refused x) s is = elim is [ ]
taken_here b row row' (Committed x u) s is = elim is [ ]

-- what was promised or accepted is at most the promise
pub promises_are_kept : (row row' : PaxosRow) (rs : List Reaction) (b : ℕ) → Steps row rs row' → IsHeld b rs → b ≤ row'.promised
promises_are_kept row row' rs b s (inl promised) = run_shows (λ z. b ≤ z.promised) (IsPromise b) (stays_below b) (promise_here b) row row' rs s promised
promises_are_kept row row' rs b s (inr taken) = run_shows (λ z. b ≤ z.promised) (IsTaken b) (stays_below b) (taken_here b) row row' rs s taken

takes_above : (p b : ℕ) (row row' : PaxosRow) (r : Reaction) → Step row r row' → p ≤ row.promised → IsTaken b r → p ≤ b
takes_above p b row row' (Accepted x u) s le is = let why = cause row x vote.Take s.0 in let above = why.1 in omega arith
takes_above p b row row' (Promised x) s le is = elim is [ ]
takes_above p b row row' (Ahead x) s le is = elim is [ ]
takes_above p b row row' (Repeated x) s le is = elim is [ ]
takes_above p b row row' (Passed x) s le is = elim is [ ]
takes_above p b row row' (Refused x) s le is = elim is [ ]
takes_above p b row row' (Committed x u) s le is = elim is [ ]

-- what a run accepts is not below the promise at its start
pub taken_above : (row row' : PaxosRow) (rs : List Reaction) (b : ℕ) → Steps row rs row' → Ever (IsTaken b) rs → row.promised ≤ b
taken_above row row' rs b s e = run_tells (λ z. row.promised ≤ z.promised) (IsTaken b) (row.promised ≤ b) (stays_below row.promised) (takes_above row.promised b) row row' rs s (le_refl _) e

pub nothing_below : (row row' : PaxosRow) (earlier later : List Reaction) (p b : ℕ) → Steps row (earlier ++ later) row' → IsHeld p earlier → Ever (IsTaken b) later → p ≤ b
nothing_below row row' earlier later p b s held taken =
    let parts = steps_part row row' earlier later s in
    le_trans (promises_are_kept row parts.0 earlier p parts.1 held) (taken_above parts.0 row' later b parts.2 taken)
