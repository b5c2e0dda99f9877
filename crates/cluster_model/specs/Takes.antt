-- What an event does to a cluster.
use Rattle.std.specs.Prelude.{◌≡◌, ◌⊎◌, ◌<◌, ◌≤◌, ◌++◌, ℕ, zero, suc, Bool, true, false, Option, Some, None, List, [], ◌∷◌, Contains, reverse, slice_get, slice_set}
use Rattle.changes.specs.declared.Partition.{Partition}
use Rattle.cs_store.specs.declared.mem_file.Outcome.{Outcome}
use Rattle.peer_messages.specs.declared.message.Message.{Message}
use Rattle.peer_messages.specs.declared.event.Event.{Event}
use Rattle.peer_messages.specs.declared.event.What.{What}
use Rattle.peer_messages.specs.declared.event.What.TheVariants.{Client, Deliver, Alive, Collect, Flush, Tick}
use Rattle.peer_messages.specs.declared.chronicle.Entry.TheVariants.{Asked, Turned, Stopped}
use Rattle.peer_messages.specs.declared.chronicle.Invalid.TheVariants.{PartitionTooLarge}
use Rattle.peer_messages.specs.declared.chronicle.Refusal.{Refusal}
use Rattle.peer_messages.specs.declared.chronicle.Refusal.TheVariants.{Overloaded, Invalid, Down as IsDown}
use Rattle.peer_messages.specs.declared.outcome.Outputs.{Outputs}
use Rattle.durable_state.specs.State.{Durable}
use Rattle.node_steps.specs.State.{NodeState, loaded}
use Rattle.node_steps.specs.Acts.{Deed}
use Rattle.node_steps.specs.Steps.{NodeStep, risen_time, end_of_time}
use Rattle.node_steps.specs.Stops.{CutStep, remains_in}
use Rattle.node_core.specs.Nodes.{Core, state_with, HasNoRoom, IsTooLarge}
use Rattle.cluster_runs.specs.Run.{entered_by, entered_at_stop}
use Rattle.cluster_model.specs.State.{Showing, Up, Off, Site, ClusterState, place_of, oldest_from, with_sent, passed_over}
use Rattle.cluster_model.specs.declared.told.Told.{Told}
use Rattle.cluster_model.specs.declared.told.Told.TheVariants.{Fail, Stop}
use Rattle.cluster_model.specs.declared.event.ClusterEvent.{ClusterEvent}
use Rattle.cluster_model.specs.declared.event.ClusterEvent.TheVariants as event

-- by its clock
abbrev pub event_at : ℕ → What → Event
event_at clock what = record { clock = clock; what = what }

abbrev pub with_site : ClusterState → ℕ → Site → ClusterState
with_site v k site = record v { sites = slice_set v.sites k site }

-- ---- at a node that runs

-- a client whose request no step takes is told why; of another event nothing is told
abbrev pub turned_away : ClusterState → ℕ → What → Refusal → ClusterState
turned_away v k (Client ask) refusal = record v { chronicle = Turned k refusal ∷ Asked None ∷ v.chronicle }
turned_away v k (Deliver m) refusal = v
turned_away v k (Alive peer up) refusal = v
turned_away v k (Collect request) refusal = v
turned_away v k Flush refusal = v
turned_away v k Tick refusal = v

abbrev pub stepped : ClusterState → ℕ → Site → Outputs → NodeState → ClusterState
stepped v k site o s' = record v {
  sites = slice_set v.sites k (record site { node = Up s' });
  post = with_sent v.post o.sends;
  chronicle = reverse (entered_by v.setting k o s') ++ v.chronicle;
}

-- node k steps from s
pub record StepsAt (v : ClusterState) (k : ℕ) (site : Site) (s : NodeState) (what : What) (v' : ClusterState) : Type 0 where
  pub deeds : List Deed
  pub outputs : Outputs
  pub after : NodeState
  pub early : risen_time s.time (event_at site.clock what) ≤ end_of_time
  pub step : NodeStep v.setting k s (event_at site.clock what) deeds outputs after
  pub state : v' ≡ stepped v k site outputs after

-- a node that is down, whose store forgets its faults
abbrev pub stopped : Site → Site
stopped site = record site { node = Off; told = [] }

-- its store was told that a call should fail, or else to stop the node
abbrev pub WasTold : Bool → List Told → Type 0
WasTold true told = (j : ℕ) × Contains told (Fail j)
WasTold false told = (j : ℕ) × (outcome : Outcome) × Contains told (Stop j outcome)

-- Node k stops inside its step, at a fault that its store was told. What was asked for and submitted is entered, nothing is
-- sent, and that a call failed is entered where it was to fail
pub record StopsAt (v : ClusterState) (k : ℕ) (site : Site) (s : NodeState) (what : What) (v' : ClusterState) : Type 0 where
  pub deeds : List Deed
  pub failed : Bool
  pub cut : CutStep v.setting k s (event_at site.clock what) deeds
  pub cause : WasTold failed site.told
  pub state : v' ≡ record v {
    sites = slice_set v.sites k (stopped site);
    chronicle = reverse (entered_at_stop k (remains_in k s (event_at site.clock what) deeds) failed) ++ v.chronicle;
  }

-- the node refuses the event, for this cause
pub record RefusesAt (v : ClusterState) (k : ℕ) (s : NodeState) (what : What) (refusal : Refusal) (Cause : Core → Durable → Type 0) (v' : ClusterState) : Type 0 where
  pub core : Core
  pub kept : Durable
  pub setting : core.setting ≡ v.setting
  pub me : core.me ≡ k
  pub is : state_with core kept ≡ s
  pub cause : Cause core kept
  pub state : v' ≡ turned_away v k what refusal

-- Its time would pass its end, or its log its length
abbrev pub HasNoRoomAt : ClusterState → ℕ → Site → NodeState → What → ClusterState → Type 0
HasNoRoomAt v k site s what v' = (log_end : ℕ) × RefusesAt v k s what Overloaded (λ n d. HasNoRoom n d log_end (event_at site.clock what)) v'

-- or a partition would grow too large
abbrev pub IsTooLargeAt : ClusterState → ℕ → Site → NodeState → What → ClusterState → Type 0
IsTooLargeAt v k site s what v' = (p : Partition) × RefusesAt v k s what (Invalid PartitionTooLarge) (λ n d. IsTooLarge n d (event_at site.clock what) p) v'

-- what comes at a node
abbrev pub ComesBy : ClusterState → ℕ → Site → Showing → What → ClusterState → Type 0
ComesBy v k site (Up s) what v' = StepsAt v k site s what v' ⊎ (StopsAt v k site s what v' ⊎ (HasNoRoomAt v k site s what v' ⊎ IsTooLargeAt v k site s what v'))
ComesBy v k site Off what v' = v' ≡ turned_away v k what IsDown

-- where there is no such node nothing happens
abbrev pub ComesAt : ClusterState → ℕ → What → Option Site → ClusterState → Type 0
ComesAt v k what None v' = v' ≡ v
ComesAt v k what (Some site) v' = ComesBy v k site site.node what v'

abbrev pub Comes : ClusterState → ℕ → What → ClusterState → Type 0
Comes v k what v' = ComesAt v k what (slice_get v.sites k) v'

-- ---- messages

-- the message at place i comes to its node, and is passed
abbrev pub Arrives : ClusterState → ℕ → Option Message → ClusterState → Type 0
Arrives v i None v' = v' ≡ v
Arrives v i (Some m) v' = (mid : ClusterState) × Comes v m.upto (Deliver m) mid × (v' ≡ passed_over mid i)

abbrev pub Delivers : ClusterState → Option ℕ → ClusterState → Type 0
Delivers v None v' = v' ≡ v
Delivers v (Some i) v' = Arrives v i (slice_get v.post.sent i) v'

abbrev pub lost : ClusterState → Option ℕ → ClusterState
lost v None = v
lost v (Some i) = passed_over v i

-- so many times the oldest message that was neither delivered nor dropped is delivered
abbrev pub Settles : ℕ → ClusterState → ClusterState → Type 0
Settles zero v v' = v' ≡ v
Settles (suc n) v v' = (mid : ClusterState) × Delivers v (oldest_from 0 v.post.passed) mid × Settles n mid v'

-- fewer times
abbrev pub SettlesInPart : ℕ → ClusterState → ClusterState → Type 0
SettlesInPart n v v' = (m : ℕ) × (m < n) × Settles m v v'

-- ---- clocks, stops and loads

-- node k becomes this, if it is there
abbrev pub with_changed : (Site → Site) → ClusterState → ℕ → Option Site → ClusterState
with_changed change v k None = v
with_changed change v k (Some site) = with_site v k (change site)

abbrev pub changed : (Site → Site) → ClusterState → ℕ → ClusterState
changed change v k = with_changed change v k (slice_get v.sites k)

abbrev pub set_clock : ℕ → Site → Site
set_clock micros site = record site { clock = micros }

-- a fault at the call that comes next, which is the first, or later
abbrev pub told_of : ℕ → Told → Site → Site
told_of zero fault site = site
told_of (suc j) fault site = record site { told = site.told ++ fault ∷ [] }

-- a node that is down is loaded with what is found in its store
abbrev pub LoadsAt : ClusterState → ℕ → Site → ClusterState → Type 0
LoadsAt v k site v' = (found : Durable) × (v' ≡ with_site v k (record site { node = Up (loaded found) }))

-- or its load fails at a fault that its store was told
abbrev pub FailsAt : ClusterState → ℕ → Site → ClusterState → Type 0
FailsAt v k site v' = (fault : Told) × Contains site.told fault × (v' ≡ record v { sites = slice_set v.sites k (stopped site); chronicle = Stopped k ∷ v.chronicle })

abbrev pub RestartsBy : ClusterState → ℕ → Site → Showing → ClusterState → Type 0
RestartsBy v k site (Up s) v' = v' ≡ v
RestartsBy v k site Off v' = LoadsAt v k site v' ⊎ FailsAt v k site v'

abbrev pub RestartsAt : ClusterState → ℕ → Option Site → ClusterState → Type 0
RestartsAt v k None v' = v' ≡ v
RestartsAt v k (Some site) v' = RestartsBy v k site site.node v'

abbrev pub Restarts : ClusterState → ℕ → ClusterState → Type 0
Restarts v k v' = RestartsAt v k (slice_get v.sites k) v'

-- ---- events

abbrev pub Takes : ClusterState → ClusterEvent → ClusterState → Type 0
Takes v (event.Ask k ask) v' = Comes v k (Client ask) v'
Takes v (event.Deliver from upto k) v' = Delivers v (place_of from upto k v.post.sent) v'
Takes v (event.Lose from upto k) v' = v' ≡ lost v (place_of from upto k v.post.sent)
Takes v (event.Settle n) v' = Settles n v v'
Takes v (event.Clock k micros) v' = Comes (changed (set_clock micros) v k) k Tick v'
Takes v (event.Reading k micros) v' = v' ≡ changed (set_clock micros) v k
Takes v (event.Alive k peer up) v' = Comes v k (Alive peer up) v'
Takes v (event.Collect k request) v' = Comes v k (Collect request) v'
Takes v (event.Crash k outcome) v' = v' ≡ changed stopped v k
Takes v (event.StopAt k j outcome) v' = v' ≡ changed (told_of j (Stop j outcome)) v k
Takes v (event.FailAt k j) v' = v' ≡ changed (told_of j (Fail j)) v k
Takes v (event.Restart k) v' = Restarts v k v'
Takes v (event.Flush k) v' = Comes v k Flush v'
Takes v (event.Merge k) v' = Comes v k Flush v'

-- Where memory is wanted, the deliveries of a settling that were made before stand, each whole; of another event nothing does
abbrev pub Stands : ClusterState → ClusterEvent → ClusterState → Type 0
Stands v (event.Ask k ask) v' = v' ≡ v
Stands v (event.Deliver from upto k) v' = v' ≡ v
Stands v (event.Lose from upto k) v' = v' ≡ v
Stands v (event.Settle n) v' = SettlesInPart n v v'
Stands v (event.Clock k micros) v' = v' ≡ v
Stands v (event.Reading k micros) v' = v' ≡ v
Stands v (event.Alive k peer up) v' = v' ≡ v
Stands v (event.Collect k request) v' = v' ≡ v
Stands v (event.Crash k outcome) v' = v' ≡ v
Stands v (event.StopAt k j outcome) v' = v' ≡ v
Stands v (event.FailAt k j) v' = v' ≡ v
Stands v (event.Restart k) v' = v' ≡ v
Stands v (event.Flush k) v' = v' ≡ v
Stands v (event.Merge k) v' = v' ≡ v
