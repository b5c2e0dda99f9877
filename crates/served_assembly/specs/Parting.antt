-- Nodes that are taken apart.
use Rattle.std.specs.Prelude.{◌≡◌, ℕ, Bool, Option, Some, None, is_some, List, [], ◌∷◌, length, map, nat_le}
use Rattle.std.specs.List.{list_any, position}
use Rattle.durable_state.specs.State.{Durable}
use Rattle.peer_messages.specs.declared.message.Message.{Message}
use Rattle.node_links.specs.declared.ends.Receiver.{Receiver}
use Rattle.node_lock.specs.Histories.{most_entries}
use Rattle.served_assembly.specs.declared.parting.Apart.{Apart}
use Rattle.served_assembly.specs.declared.parting.Parted.{Parted}
use Rattle.served_jobs.specs.declared.duty.Duty.{Duty}
use Rattle.served_jobs.specs.declared.duty.Duty.TheVariants as duty
use Rattle.served_links.specs.Nodes.{NodeEnds, ends_of}
use Rattle.served_nodes.specs.declared.node.JobLeft.{JobLeft}
use Rattle.served_nodes.specs.declared.node.NodeLeft.{NodeLeft}
use Rattle.wired_node.specs.States.{Wiring, IsSince}
use Rattle.wired_node.specs.declared.entry.NodeEntry.{NodeEntry}

-- ---- what jobs gave back

-- the receivers of the job that delivered the node's messages
abbrev pub receivers_in_duty : {D : Type 0} → Duty D → List (Receiver Message)
receivers_in_duty (duty.Links receivers) = receivers
receivers_in_duty duty.Ticks = []
receivers_in_duty duty.Merges = []
receivers_in_duty (duty.Connections door) = []

abbrev pub receivers_in : {D : Type 0} → List (JobLeft D) → List (Receiver Message)
receivers_in [] = []
receivers_in (job ∷ jobs) = receivers_in_duty job.duty

-- the door of a job that served connections
abbrev pub door_in : {D : Type 0} → Duty D → Option D
door_in (duty.Links receivers) = None
door_in duty.Ticks = None
door_in duty.Merges = None
door_in (duty.Connections door) = Some door

abbrev pub has_door : {D : Type 0} → JobLeft D → Bool
has_door job = is_some (door_in job.duty)

abbrev pub with_door : {D : Type 0} → Duty D → List D → List D
with_door (duty.Links receivers) doors = doors
with_door duty.Ticks doors = doors
with_door duty.Merges doors = doors
with_door (duty.Connections door) doors = door ∷ doors

-- the doors of the jobs that served connections, in order
abbrev pub doors_in : {D : Type 0} → List (JobLeft D) → List D
doors_in [] = []
doors_in (job ∷ jobs) = with_door job.duty (doors_in jobs)

abbrev pub IsLinks : {D : Type 0} → Duty D → Type 0
IsLinks (duty.Links receivers) = Unit {0}
IsLinks duty.Ticks = ⊥
IsLinks duty.Merges = ⊥
IsLinks (duty.Connections door) = ⊥

abbrev pub IsLedByLinks : {D : Type 0} → List (JobLeft D) → Type 0
IsLedByLinks [] = ⊥
IsLedByLinks (job ∷ jobs) = IsLinks job.duty

-- the first job of the node is the one that delivers its messages
abbrev pub HasLinksFirst : {R D : Type 0} → NodeLeft (Wiring R) D NodeEntry → Type 0
HasLinksFirst left = IsLedByLinks left.jobs.items

abbrev pub has_door_failed : {D : Type 0} → JobLeft D → Bool
has_door_failed job = job.door_failed

abbrev pub is_unstarted : {D : Type 0} → JobLeft D → Bool
is_unstarted job = job.unstarted

-- the ends of a node's links, as its run left them
abbrev pub ends_left : {R D : Type 0} → NodeLeft (Wiring R) D NodeEntry → NodeEnds
ends_left left = record { senders = left.state.senders; receivers = receivers_in left.jobs.items }

-- ---- nodes taken apart

-- the node as its run left it, with its links and its doors, and what is found of its history and its jobs
pub record IsApart {R K D : Type 0} (is_whole : R → Type 0) (durable : R → Durable) (log_end : R → ℕ) (since_flush : R → Option ℕ) (faults : R → ℕ) (honest : Type 0) (left : NodeLeft (Wiring R) D NodeEntry) (apart : Apart R D K) : Type 0 where
  pub core : apart.node.core ≡ left.state.core
  pub since : IsSince is_whole durable log_end since_flush faults honest left.state.core left.state.replica apart.node.replica
  pub links : ends_of apart.links ≡ ends_left left
  pub doors : apart.doors.items ≡ doors_in left.jobs.items
  pub full : apart.is_full ≡ nat_le most_entries (length left.history)
  pub door_failed : apart.door_failed ≡ list_any has_door_failed left.jobs.items
  pub unstarted : apart.unstarted ≡ list_any is_unstarted left.jobs.items

-- all of them, each thing in its own list
pub record AreParted {R K D : Type 0} (aparts : List (Apart R D K)) (parted : Parted R D K) : Type 0 where
  pub nodes : parted.nodes.items ≡ map (λ (a : Apart R D K). a.node) aparts
  pub links : parted.links.items ≡ map (λ (a : Apart R D K). a.links) aparts
  pub doors : parted.doors.items ≡ map (λ (a : Apart R D K). a.doors) aparts
  pub full : parted.full ≡ position (λ (a : Apart R D K). a.is_full) aparts
  pub door_failed : parted.door_failed ≡ list_any (λ (a : Apart R D K). a.door_failed) aparts
  pub unstarted : parted.unstarted ≡ list_any (λ (a : Apart R D K). a.unstarted) aparts
