-- A cluster as its contracts see it.
use Rattle.std.specs.Prelude.{◌≡◌, ◌==◌, ◌&&◌, ◌+◌, ◌++◌, ℕ, zero, suc, Bool, true, false, if◌then◌else◌, Option, Some, None, List, [], ◌∷◌, length, replicate, map, slice_get, slice_set}
use Rattle.peer_messages.specs.declared.message.Message.{Message}
use Rattle.peer_messages.specs.declared.chronicle.Entry.{Entry}
use Rattle.peer_messages.specs.declared.setting.Setting.{Setting}
use Rattle.durable_state.specs.State.{Durable, IsSameKept, formatted}
use Rattle.node_steps.specs.State.{NodeState, loaded}
use Rattle.cluster_runs.specs.World.{World, Standing, Running, Down}
use Rattle.cluster_runs.specs.Run.{RunFrom}
use Rattle.cluster_model.specs.declared.told.Told.{Told}

-- a node that runs, or one that is down, of which nothing is seen
pub data Showing : Type 0 where
  Up : (state : NodeState) → Showing
  Off : Showing

-- A node, its clock, and the faults that its store was told since it last stopped
pub record Site : Type 0 where
  pub node : Showing
  pub clock : ℕ
  pub told : List Told

-- Each message that was sent, the oldest first, and whether it was delivered or dropped
pub record Post : Type 0 where
  pub sent : List Message
  pub passed : List Bool

-- the nodes by number, what they were loaded with at first, and the chronicle, newest first
pub record ClusterState : Type 0 where
  pub setting : Setting
  pub first : List NodeState
  pub sites : List Site
  pub post : Post
  pub chronicle : List Entry

-- ---- nodes

abbrev pub is_up : Showing → Bool
is_up (Up s) = true
is_up Off = false

abbrev pub runs_of : Option Site → Bool
runs_of None = false
runs_of (Some site) = is_up site.node

-- whether node k is there, and runs
abbrev pub runs_at : ClusterState → ℕ → Bool
runs_at v k = runs_of (slice_get v.sites k)

-- ---- runs

abbrev pub no_post : Post
no_post = record { sent = []; passed = [] }

-- nodes that were just loaded, and nothing has happened
abbrev pub begin_of : List NodeState → World
begin_of first = record { standing = map Running first; sent = []; chronicle = []; past = [] }

abbrev pub shown_of : Standing → Showing
shown_of (Running s) = Up s
shown_of (Down s made) = Off

abbrev pub node_of : Site → Showing
node_of site = site.node

-- a world looks so
pub record IsShown (w : World) (v : ClusterState) : Type 0 where
  pub nodes : map node_of v.sites ≡ map shown_of w.standing
  pub sent : v.post.sent ≡ w.sent
  pub chronicle : v.chronicle ≡ w.chronicle

-- some run from what the nodes were loaded with comes to a world that looks so
abbrev pub IsReached : ClusterState → Type 0
IsReached v = (w : World) × RunFrom v.setting (begin_of v.first) w × IsShown w v

-- each was loaded from a formatted store, which keeps nothing
pub record AreFresh (c : Setting) (first : List NodeState) : Type 0 where
  pub count : length first ≡ length c.ring
  pub each : (k : ℕ) (s : NodeState) → slice_get first k ≡ Some s → (d : Durable) × IsSameKept formatted d × (s ≡ loaded d)

-- ---- messages by place

-- the places, from i on, of the messages from one node to another
abbrev pub places_from : ℕ → ℕ → ℕ → List Message → List ℕ
places_from from upto i [] = []
places_from from upto i (m ∷ ms) = if (m.from == from) && (m.upto == upto) then i ∷ places_from from upto (i + 1) ms else places_from from upto (i + 1) ms

-- the k-th of them, counted from 1
abbrev pub numbered : ℕ → List ℕ → Option ℕ
numbered zero places = None
numbered (suc k) places = slice_get places k

-- the place of the k-th message ever sent from one node to another
abbrev pub place_of : ℕ → ℕ → ℕ → List Message → Option ℕ
place_of from upto k sent = numbered k (places_from from upto 0 sent)

-- the place, from i on, of the oldest message that was neither delivered nor dropped
abbrev pub oldest_from : ℕ → List Bool → Option ℕ
oldest_from i [] = None
oldest_from i (passed ∷ rest) = if passed then oldest_from (i + 1) rest else Some i

abbrev pub with_sent : Post → List Message → Post
with_sent post messages = record { sent = post.sent ++ messages; passed = post.passed ++ replicate (length messages) false }

abbrev pub passed_at : Post → ℕ → Post
passed_at post i = record { sent = post.sent; passed = slice_set post.passed i true }

abbrev pub passed_over : ClusterState → ℕ → ClusterState
passed_over v i = record v { post = passed_at v.post i }

-- what no event changes
pub record KeepsOn (v v' : ClusterState) : Type 0 where
  pub setting : v'.setting ≡ v.setting
  pub first : v'.first ≡ v.first
