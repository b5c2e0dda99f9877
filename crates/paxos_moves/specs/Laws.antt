-- What holds of every story of an operation, whatever replicas reply, how often and in which order.
use Rattle.std.specs.Prelude.{◌≡◌, ℕ, ◌<◌, ◌≤◌, true, false, Bool, Some, List, ◌∷◌, Contains}
use Rattle.cs_base.specs.declared.ids.ReqId.{ReqId}
use Rattle.cs_base.specs.Quorums.{is_in, heard_of}
use Rattle.changes.specs.declared.Partition.{Partition}
use Rattle.changes.specs.declared.Held.{Held}
use Rattle.row_change.specs.declared.entry.PaxosRow.{PaxosRow}
use Rattle.row_change.specs.declared.entry.Update.{Update}
use Rattle.paxos_messages.specs.declared.entry.PaxosEntry.TheVariants as entry
use Rattle.paxos_messages.specs.declared.entry.PaxosGrounds.{PaxosGrounds}
use Rattle.paxos_messages.specs.declared.entry.Reply.{Reply}
use Rattle.paxos_messages.specs.declared.entry.Telling.TheVariants as telling
use Rattle.paxos_messages.specs.declared.message.PaxosMessage.TheVariants as message
use Rattle.paxos_moves.specs.declared.operation.Context.{Context}
use Rattle.paxos_moves.specs.declared.operation.Phase.{Phase}
use Rattle.paxos_moves.specs.declared.operation.Phase.TheVariants.{Preparing, ProposingOwn, ProposingOlder, CommittingOwn, CommittingOlder, Completing}
use Rattle.paxos_moves.specs.Operations.{send}
use Rattle.paxos_moves.specs.Proposals.{is_applied}
use Rattle.paxos_moves.specs.Stories.{Turn, Heard, IsStory, Ever}
use Rattle.paxos_moves.specs.Timing.{IsBallot, ballot_above}

-- ---- ballots

-- the number that is computed is the least that a node can make
abbrev pub BallotsAreLeast : Type 0
BallotsAreLeast = (me time : ℕ) → me < 8 → IsBallot me time (ballot_above me time)

abbrev pub Makes : ℕ → Turn → Type 0
Makes b t = t.move.ballot ≡ Some b

-- each ballot is above node time and above all that the operation made before, and is the node's own
abbrev pub BallotsRise : Type 0
BallotsRise =
    (id : ReqId) (t : Turn) (earlier : List Turn) → IsStory id (t ∷ earlier) → t.context.me < 8 → (b : ℕ) → Makes b t
    → IsBallot t.context.me t.context.time b × ((b' : ℕ) → Ever (Makes b') earlier → b' < b)

-- ---- retries

-- the phase is that of an own proposal under this ballot
abbrev pub IsOwn : ℕ → Phase → Type 0
IsOwn b (Preparing b' w) = ⊥
IsOwn b (ProposingOwn b' u v votes) = b ≡ b'
IsOwn b (ProposingOlder b' u votes) = ⊥
IsOwn b (CommittingOwn b' v heard) = ⊥
IsOwn b (CommittingOlder b' heard) = ⊥
IsOwn b (Completing b' left) = ⊥

-- the turn sent the operation's own proposal under ballot b to replica k
abbrev pub ProposesTo : ℕ → ℕ → Turn → Type 0
ProposesTo b k t = IsOwn b t.after.phase × ((p : Partition) × (u : Update) × Contains t.move.sends (send (message.Propose p b u) k))

-- replica k refused a proposal of ballot b
abbrev pub IsRefusal : ℕ → ℕ → Turn → Type 0
IsRefusal b k t = (promised : ℕ) × (t.what ≡ Heard k (message.Refused b promised true))

-- where an operation makes a ballot, every replica to which one of its own proposals went before has refused that: so no
-- update of the operation can be chosen under two ballots
abbrev pub RetriesAreSafe : Type 0
RetriesAreSafe =
    (id : ReqId) (t : Turn) (earlier : List Turn) → IsStory id (t ∷ earlier) → (new : ℕ) → Makes new t
    → (b k : ℕ) → Ever (ProposesTo b k) earlier → Ever (IsRefusal b k) earlier

-- ---- what is told

abbrev pub IsPromise : ℕ → ℕ → Turn → Type 0
IsPromise b k t = (row : PaxosRow) × (content : List Held) × (t.what ≡ Heard k (message.Promise b row content))

abbrev pub IsAcceptance : ℕ → ℕ → Turn → Type 0
IsAcceptance b k t = t.what ≡ Heard k (message.Accepted b)

abbrev pub IsAck : ℕ → ℕ → Turn → Type 0
IsAck b k t = t.what ≡ Heard k (message.CommitAck b)

-- these are as many distinct replicas as that, and of each some turn is such
pub record AreHeard (c : Context) (n : ℕ) (P : ℕ → Turn → Type 0) (ks : List ℕ) (turns : List Turn) : Type 0 where
  pub enough : n ≤ heard_of c.members ks
  pub each : (k : ℕ) → is_in ks k ≡ true → Ever (P k) turns

-- as many took its commit as the level waits for, where it was applied
abbrev pub IsTaken : Bool → Context → PaxosGrounds → List Turn → Type 0
IsTaken true c g turns = AreHeard c c.needed (IsAck g.ballot) g.heard turns
IsTaken false c g turns = AreHeard c c.majority (IsAcceptance g.ballot) g.heard turns

pub record IsGrounded (c : Context) (r : Reply) (g : PaxosGrounds) (turns : List Turn) : Type 0 where
  -- a quorum promised the ballot
  pub promised : AreHeard c c.majority (IsPromise g.ballot) g.promised turns
  -- and a quorum accepted the update
  pub chosen : (accepted : List ℕ) × AreHeard c c.majority (IsAcceptance g.ballot) accepted turns
  pub taken : IsTaken (is_applied r) c g turns

-- an operation is answered only once its update is chosen, and an applied one only once enough replicas have taken it
abbrev pub ToldAfterQuorum : Type 0
ToldAfterQuorum =
    (id : ReqId) (t : Turn) (earlier : List Turn) → IsStory id (t ∷ earlier) → (request : ReqId) (r : Reply) (g : PaxosGrounds)
    → Contains t.move.notes (record { request = request; entry = entry.Told (telling.Answered r g) }) → IsGrounded t.context r g (t ∷ earlier)
