-- Ballots, retry moments and deadlines.
use Rattle.std.specs.Prelude.{◌≡◌, ℕ, ◌+◌, ◌-◌, ◌*◌, ◌%◌, ◌<◌, ◌≤◌, Bool, true, false, Option, Some, None}
use Rattle.cs_base.specs.declared.ids.ReqId.{ReqId}
use Rattle.paxos_moves.specs.declared.operation.Context.{Context}

-- the least number above the time that is congruent to the node's, modulo 8. So no two nodes make the same ballot
pub record IsBallot (me time ballot : ℕ) : Type 0 where
  pub above : time < ballot
  pub mine : ballot % 8 ≡ me
  pub least : (b : ℕ) → time < b → b % 8 ≡ me → ballot ≤ b

-- this is it, for a node below 8
abbrev pub ballot_above : ℕ → ℕ → ℕ
ballot_above me time = time + 1 + (me + 7 - time % 8) % 8

abbrev pub new_ballot : Context → ℕ
new_ballot c = ballot_above c.me c.time

-- node time behind a move: it becomes the ballot, where one was made
abbrev pub time_by : Option ℕ → ℕ → ℕ
time_by None time = time
time_by (Some ballot) time = ballot

-- 10 milliseconds behind the step, and 10 more for each node of a lower number, so that nodes that meet do not meet again
abbrev pub retry_at : Context → ℕ
retry_at c = c.risen + 10000 * (c.me + 1)

abbrev pub retry_if : Bool → Context → Option ℕ
retry_if false c = None
retry_if true c = Some (retry_at c)

-- how long an operation waits for its replicas: 10 seconds from its start
abbrev pub deadline_of : ReqId → ℕ
deadline_of request = request.time + 10000000
