-- The definitions at a few rows.
use Rattle.std.specs.Prelude.{◌≡◌, ℕ, pos, Option, Some, None, [], ◌∷◌}
use Rattle.cs_base.specs.declared.level.Level.TheVariants as level
use Rattle.cs_base.specs.declared.ids.ReqId.{ReqId}
use Rattle.changes.specs.declared.Partition.{Partition}
use Rattle.row_change.specs.declared.entry.Stamped.{Stamped}
use Rattle.row_change.specs.declared.entry.Update.{Update}
use Rattle.statement_plan.specs.declared.operation.Test.TheVariants as test
use Rattle.statement_plan.specs.declared.plan.Columns.TheVariants as columns
use Rattle.paxos_messages.specs.declared.message.PaxosMessage.TheVariants as message
use Rattle.paxos_messages.specs.declared.outcome.PaxosMove.{PaxosMove}
use Rattle.paxos_moves.specs.declared.operation.Context.{Context}
use Rattle.paxos_moves.specs.declared.operation.Operation.{Operation}
use Rattle.paxos_moves.specs.declared.operation.Promised.{Promised}
use Rattle.paxos_moves.specs.Operations.{send, unbegun, Decides}
use Rattle.paxos_moves.specs.Promises.{newest_accepted, newest_commit, lacking}
use Rattle.paxos_moves.specs.Timing.{ballot_above, retry_at, deadline_of}

-- the operation of node 0 that began at time 1, on three replicas, of which all are alive
abbrev pub first_request : ReqId
first_request = record { node = 0; time = 1 }

abbrev pub at_node : ℕ → ℕ → Context
at_node me time = record { me = me; time = time; risen = time; members = 0 ∷ 1 ∷ 2 ∷ []; alive = 0 ∷ 1 ∷ 2 ∷ []; majority = 2; needed = 2 }

abbrev pub some_partition : Partition
some_partition = record { token = pos 0; table = 0; key = [] }

abbrev pub some_operation : Operation
some_operation =
    unbegun level.Quorum (record { partition = some_partition; row = []; test = test.Absent; changes = []; shown = columns.Count })

-- an update of node 1's that was first proposed under this ballot
abbrev pub update_of : ℕ → ℕ → Update
update_of time base = record { request = record { node = 1; time = time }; base = base; changes = [] }

abbrev pub stamped : ℕ → Stamped
stamped b = record { ballot = b; update = update_of b 0 }

-- what a node promised with: what it had accepted last, and its commit
abbrev pub promise : ℕ → Option Stamped → Option Stamped → Promised
promise k accepted commit = record { from = k; row = record { promised = 0; took = []; accepted = accepted; commit = commit }; content = [] }

-- nodes 0 and 1 at time 1, node 0 when a ballot is node time, node 0 behind its retry moment, and the last of seven nodes
abbrev pub Ballots : Type 0
Ballots = (ballot_above 0 1 ≡ 8) × (ballot_above 1 1 ≡ 9) × (ballot_above 0 8 ≡ 16) × (ballot_above 0 100000 ≡ 100008) × (ballot_above 6 70 ≡ 78)

-- a retry of node 0, one of node 2, and the deadline
abbrev pub Moments : Type 0
Moments = (retry_at (at_node 0 5) ≡ 10005) × (retry_at (at_node 2 5) ≡ 30005) × (deadline_of first_request ≡ 10000001)

abbrev pub Newest : Type 0
Newest =
    (newest_accepted [] ≡ None) × (newest_accepted (promise 0 None None ∷ promise 1 (Some (stamped 8)) None ∷ promise 2 (Some (stamped 17)) None ∷ []) ≡ Some (stamped 17))
    × (newest_commit (promise 0 None (Some (stamped 17)) ∷ promise 1 None (Some (stamped 8)) ∷ []) ≡ Some (stamped 17))

-- of three promisers one has the most recent commit, one an older one, and one has none
abbrev pub Missing : Type 0
Missing = lacking (at_node 0 18) 17 (promise 2 None None ∷ promise 1 None (Some (stamped 17)) ∷ promise 0 None (Some (stamped 8)) ∷ []) ≡ 0 ∷ 2 ∷ []

-- Node 2 promised 42 with the accepted update of 33, which nobody has as a commit. It is proposed once more, under 42
abbrev pub OlderFirst : Type 0
OlderFirst =
    (turn : PaxosMove) (o' : Operation)
    → Decides (at_node 2 42) first_request some_operation 42 (promise 2 (Some (stamped 33)) (Some (stamped 17)) ∷ promise 1 (Some (stamped 17)) (Some (stamped 17)) ∷ []) turn o'
    → turn.sends ≡ send (message.Propose some_partition 42 (update_of 33 0)) 0 ∷ send (message.Propose some_partition 42 (update_of 33 0)) 1 ∷ send (message.Propose some_partition 42 (update_of 33 0)) 2 ∷ []

-- Node 1 promised 26 with the accepted update of 8, and node 2 with the commit of 17, which is newer: 8 is left alone, and node 1
-- is sent the commit first
abbrev pub NotBelowTheCommit : Type 0
NotBelowTheCommit =
    (turn : PaxosMove) (o' : Operation)
    → Decides (at_node 2 26) first_request some_operation 26 (promise 1 (Some (stamped 8)) None ∷ promise 2 (Some (stamped 17)) (Some (stamped 17)) ∷ []) turn o'
    → turn.sends ≡ send (message.Commit some_partition 17 (update_of 17 0)) 1 ∷ []
