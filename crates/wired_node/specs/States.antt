-- A locked node as its contracts see it.
use Rattle.std.specs.Prelude.{◌≡◌, ◌≤◌, ℕ, true, false, Option, List}
use Rattle.peer_messages.specs.declared.chronicle.Entry.{Entry}
use Rattle.cs_store.specs.Disk.{Disk}
use Rattle.durable_state.specs.State.{Durable}
use Rattle.replica.specs.Kept.{IsKeptOf}
use Rattle.node_core.specs.Nodes.{Core, IsSameLog}
use Rattle.wired_node.specs.declared.senders.NodeSender.{NodeSender}

-- The node, its links, and the answers that were not collected. The replica is as the last step left it: where a call is refused, its
-- disk may be read, and nothing of what it keeps changes
pub record Wiring (R : Type 0) : Type 0 where
  pub core : Core
  pub replica : R
  pub senders : List NodeSender
  pub answers : List Entry

-- what a call depends on, and what it changes
pub record Parts : Type 1 where
  pub core : Core
  pub durable : Durable
  pub log_end : ℕ
  pub since_flush : Option ℕ
  pub disk : Disk
  pub faults : ℕ
  pub senders : List NodeSender
  pub answers : List Entry

module _ {R : Type 0} (durable : R → Durable) (log_end : R → ℕ) (since_flush : R → Option ℕ) (disk : R → Disk) (faults : R → ℕ) where
  abbrev pub parts_with : Core → R → List NodeSender → List Entry → Parts
  parts_with core r senders answers = record {
    core = core;
    durable = durable r;
    log_end = log_end r;
    since_flush = since_flush r;
    disk = disk r;
    faults = faults r;
    senders = senders;
    answers = answers;
  }

  abbrev pub parts_of : Wiring R → Parts
  parts_of w = parts_with w.core w.replica w.senders w.answers

-- The replica as it stands now, behind calls that were refused since the last step left it so. One that has stopped is not called
pub record IsSince {R : Type 0} (is_whole : R → Type 0) (durable_of : R → Durable) (log_end : R → ℕ) (since_flush : R → Option ℕ) (faults_of : R → ℕ) (honest : Type 0) (core : Core) (left now : R) : Type 0 where
  pub whole : core.runs ≡ true → is_whole now
  pub tied : core.runs ≡ true → honest → IsKeptOf (durable_of now) core.kept
  pub durable : core.runs ≡ true → honest → durable_of now ≡ durable_of left
  pub log : core.runs ≡ true → IsSameLog log_end since_flush left now
  pub faults : faults_of left ≤ faults_of now
  pub stopped : core.runs ≡ false → now ≡ left
