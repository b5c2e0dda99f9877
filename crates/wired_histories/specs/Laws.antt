-- What the history of a locked node says of the node's steps, and of the links that lead from it.
use Rattle.std.specs.Prelude.{◌≡◌, ◌++◌, ℕ, Bool, true, Option, Some, List, [], Contains, length, map, slice_get}
use Rattle.std.specs.List.{AllByRecursion}
use Rattle.cs_store.specs.Disk.{Disk}
use Rattle.durable_state.specs.State.{Durable}
use Rattle.peer_messages.specs.declared.message.Message.{Message}
use Rattle.node_links.specs.Ends.{put_by}
use Rattle.node_lock.specs.Histories.{Replays}
use Rattle.lawful_orders.specs.Histories.{Taken, StepsThrough, sent_in as sent_by_steps}
use Rattle.wired_node.specs.declared.entry.NodeEntry.{NodeEntry}
use Rattle.wired_node.specs.declared.senders.NodeSender.{NodeSender}
use Rattle.wired_node.specs.Laws.{HasGone, sent_in}
use Rattle.wired_node.specs.Making.{MakesIn}
use Rattle.wired_node.specs.Sending.{gone_to, message_in}
use Rattle.wired_node.specs.States.{Wiring}
use Rattle.wired_histories.specs.Told.{node_state, taken_in}

-- the node went through the steps of its history, one for each entry, and is the same node in the same setting
pub record IsThrough {R : Type 0} (durable : R → Durable) (start now : Wiring R) (history : List (ℕ × NodeEntry)) : Type 0 where
  pub steps : StepsThrough start.core.setting start.core.me (node_state durable start) (taken_in history) (node_state durable now)
  pub whole : length (taken_in history) ≡ length history
  pub setting : now.core.setting ≡ start.core.setting
  pub me : now.core.me ≡ start.core.me
  pub runs : now.core.runs ≡ start.core.runs

-- Of these messages, each with whether it was lost, the link took those to its node, in order, but for the lost ones: each that
-- it took is a message of these steps to its node
pub record IsGivenBy (taken : List Taken) (sent : List (Message × Bool)) (s s' : NodeSender) : Type 0 where
  pub upto : s'.upto ≡ s.upto
  pub put : put_by s'.sender ≡ put_by s.sender ++ gone_to s.upto sent
  pub each : (m : Message) → Contains (gone_to s.upto sent) m → (m.upto ≡ s.upto) × Contains (sent_by_steps taken) m

-- each link of a node did
pub record AreGivenBy (taken : List Taken) (sent : List (Message × Bool)) (senders senders' : List NodeSender) : Type 0 where
  -- the messages are those of the steps, in order
  pub told : map message_in sent ≡ sent_by_steps taken
  pub as_many : length senders' ≡ length senders
  pub links : (i : ℕ) (s s' : NodeSender) → slice_get senders i ≡ Some s → slice_get senders' i ≡ Some s' → IsGivenBy taken sent s s'

module _ {R : Type 0} (honest : Type 0) (stands_for : (ℕ → List ℕ) → Durable → Type 0) (durable : R → Durable) (log_end : R → ℕ) (since_flush : R → Option ℕ) (disk : R → Disk) (faults : R → ℕ) where
  -- Where the disk is honest and no entry of a history tells that the node failed, the node went through its steps.
  abbrev pub HistoriesAreSteps : Type 0
  HistoriesAreSteps =
      (start now : Wiring R) (history : List (ℕ × NodeEntry))
      → Replays (MakesIn honest stands_for durable log_end since_flush disk faults) start history now
      → honest → AllByRecursion HasGone history → IsThrough durable start now history

  -- None tells so of a node that ran before and still runs.
  abbrev pub RunningHistoriesAreSteps : Type 0
  RunningHistoriesAreSteps =
      (start now : Wiring R) (history : List (ℕ × NodeEntry))
      → Replays (MakesIn honest stands_for durable log_end since_flush disk faults) start history now
      → honest → start.core.runs ≡ true → now.core.runs ≡ true → IsThrough durable start now history

  -- What the links of a node took while it made the steps of a history are the messages of these steps, but for the lost ones.
  abbrev pub LinksTakeWhatIsSent : Type 0
  LinksTakeWhatIsSent =
      (start now : Wiring R) (history : List (ℕ × NodeEntry))
      → Replays (MakesIn honest stands_for durable log_end since_flush disk faults) start history now
      → AreGivenBy (taken_in history) (sent_in history) start.senders now.senders

  -- So of a link into which nothing was put before.
  abbrev pub FreshLinksTakeWhatIsSent : Type 0
  FreshLinksTakeWhatIsSent =
      (start now : Wiring R) (history : List (ℕ × NodeEntry)) (i : ℕ) (s s' : NodeSender)
      → Replays (MakesIn honest stands_for durable log_end since_flush disk faults) start history now
      → slice_get start.senders i ≡ Some s → slice_get now.senders i ≡ Some s' → put_by s.sender ≡ []
      → (m : Message) → Contains (put_by s'.sender) m → (m.upto ≡ s.upto) × Contains (sent_by_steps (taken_in history)) m
