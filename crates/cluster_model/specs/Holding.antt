-- What always holds of a cluster: a run comes to what its nodes and their stores have.
use Rattle.std.specs.Prelude.{◌≡◌, ◌+◌, ◌≤◌, ℕ, List, [], ◌∷◌, map, length, reverse, Vec}
use Rattle.std.specs.declared.alloc.Global.{Global}
use Rattle.cs_store.specs.declared.mem.MemStore.{MemStore}
use Rattle.peer_messages.specs.declared.chronicle.Entry.{Entry}
use Rattle.peer_messages.specs.declared.setting.Setting.{Setting}
use Rattle.node_steps.specs.State.{NodeState, fresh_node}
use Rattle.node_core.specs.declared.node.Node.{Node}
use Rattle.node_core.specs.Nodes.{state_with}
use Rattle.cluster_runs.specs.World.{World, Standing, Running, Down, left_by}
use Rattle.cluster_runs.specs.Run.{RunFrom}
use Rattle.cluster_model.specs.State.{Showing, Up, Off, Site, Post, ClusterState, begin_of}
use Rattle.cluster_model.specs.Faults.{NeverFails}
use Rattle.cluster_model.specs.Mails.{HoldsMail, post_of}
use Rattle.cluster_model.specs.Annals.{entries_of}
use Rattle.cluster_model.specs.Sites.{Keeper, IsReady, HasLeft}
use Rattle.cluster_model.specs.declared.told.Told.{Told}
use Rattle.cluster_model.specs.declared.seat.Part.{Part}
use Rattle.cluster_model.specs.declared.seat.Part.TheVariants.{Runs, Rests, Lent}
use Rattle.cluster_model.specs.declared.seat.Seat.{Seat}
use Rattle.cluster_model.specs.declared.parts.Parts.{Parts}

-- ---- what is seen

abbrev pub showing_of : {R : Type 0} → Keeper R → Part R → Showing
showing_of m (Runs n) = Up (state_with n.core (m.durable n.replica))
showing_of m (Rests s) = Off
showing_of m Lent = Off

abbrev pub site_of : {R : Type 0} → Keeper R → Seat R → Site
site_of m seat = record { node = showing_of m seat.part; clock = seat.clock; told = seat.told.items }

-- the state of a node that runs
abbrev pub running_state : {R : Type 0} → Keeper R → Part R → NodeState
running_state m (Runs n) = state_with n.core (m.durable n.replica)
running_state m (Rests s) = fresh_node
running_state m Lent = fresh_node

abbrev pub states_of : {R : Type 0} → Keeper R → List (Seat R) → List NodeState
states_of {R} m seats = map (λ (seat : Seat R). running_state m seat.part) seats

-- those with which a history begins
abbrev pub first_of : {R : Type 0} → Keeper R → List (Vec (Seat R) Global × Unit {0}) → List NodeState
first_of m [] = []
first_of m (x ∷ xs) = states_of m x.0.items

-- ---- nodes beside those of a run

-- node k runs, and is in this state. Without a fault that its store was told no call of it fails
pub record IsRunning {R : Type 0} (m : Keeper R) (c : Setting) (k : ℕ) (told : List Told) (n : Node R MemStore) (s : NodeState) : Type 0 where
  pub is : state_with n.core (m.durable n.replica) ≡ s
  pub setting : n.core.setting ≡ c
  pub me : n.core.me ≡ k
  pub ready : IsReady m n
  pub sure : told ≡ [] → NeverFails (m.disk n.replica)

abbrev pub Fits : {R : Type 0} → Keeper R → Setting → ℕ → List Told → Part R → Standing → Type 0
Fits m c k told (Runs n) (Running s) = IsRunning m c k told n s
Fits m c k told (Runs n) (Down s made) = ⊥
Fits m c k told (Rests store) (Running s) = ⊥
Fits m c k told (Rests store) (Down s made) = HasLeft m (left_by s made) store
Fits m c k told Lent standing = ⊥

-- the nodes from number i on
abbrev pub AreFit : {R : Type 0} → Keeper R → Setting → ℕ → List (Seat R) → List Standing → Type 0
AreFit m c i [] [] = Unit {0}
AreFit m c i [] (y ∷ ys) = ⊥
AreFit m c i (x ∷ xs) [] = ⊥
AreFit m c i (x ∷ xs) (y ∷ ys) = Fits m c i x.told.items x.part y × AreFit m c (i + 1) xs ys

-- what is seen of these nodes, messages and entries, the newest first
abbrev pub seen : {R : Type 0} → Keeper R → Setting → List NodeState → List (Seat R) → Post → List Entry → ClusterState
seen m c first seats post chronicle = record { setting = c; first = first; sites = map (site_of m) seats; post = post; chronicle = chronicle }

-- some run is at them
pub record IsRun {R : Type 0} (m : Keeper R) (c : Setting) (first : List NodeState) (seats : List (Seat R)) (post : Post) (entries : List Entry) : Type 0 where
  pub world : World
  pub run : RunFrom c (begin_of first) world
  pub nodes : AreFit m c 0 seats world.standing
  pub sent : world.sent ≡ post.sent
  pub chronicle : world.chronicle ≡ entries

-- ---- the whole

abbrev pub entries_in : {R : Type 0} → Parts R → List Entry
entries_in p = reverse (entries_of p.annals)

abbrev pub state_of : {R : Type 0} → Keeper R → Parts R → ClusterState
state_of m p = seen m p.setting (first_of m p.begun.items) p.seats.items (post_of p.annals.mail) (entries_in p)

pub record Holds {R : Type 0} (m : Keeper R) (p : Parts R) : Type 0 where
  pub few : length p.setting.ring ≤ 7
  pub mail : HoldsMail p.annals.mail
  pub run : IsRun m p.setting (first_of m p.begun.items) p.seats.items (post_of p.annals.mail) (entries_in p)
