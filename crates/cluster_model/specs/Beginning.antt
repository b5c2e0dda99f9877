-- What a cluster begins with.
use Rattle.std.specs.Prelude.{◌≡◌, ◌+◌, ℕ, Some, List, [], ◌∷◌, map, slice_get}
use Rattle.cs_store.specs.declared.mem.MemStore.{MemStore}
use Rattle.cs_store.specs.Images.{formatted_bytes}
use Rattle.cs_store.specs.Mem.{disk_of}
use Rattle.peer_messages.specs.declared.setting.Setting.{Setting}
use Rattle.durable_state.specs.State.{Durable}
use Rattle.node_steps.specs.State.{NodeState, loaded}
use Rattle.node_core.specs.declared.node.Node.{Node}
use Rattle.cluster_model.specs.Faults.{NeverFails}
use Rattle.cluster_model.specs.Sites.{Keeper, IsReady, IsSeat}
use Rattle.cluster_model.specs.State.{Site, Up, ClusterState, no_post}
use Rattle.node_core.specs.Nodes.{state_with}
use Rattle.cluster_model.specs.declared.seat.Part.TheVariants.{Runs}
use Rattle.cluster_model.specs.declared.seat.Seat.{Seat}

-- files that are what a read of the store gives
abbrev pub AreRead : MemStore → (ℕ → List ℕ) → Type 0
AreRead s files = (f : ℕ) → files f ≡ (disk_of s).seen f

abbrev pub IsFormatted : MemStore → Type 0
IsFormatted s = AreRead s formatted_bytes

-- each store is formatted
abbrev pub AreFormatted : List MemStore → Type 0
AreFormatted stores = (k : ℕ) (s : MemStore) → slice_get stores k ≡ Some s → IsFormatted s

-- the state is that of a node which is loaded with what the store has
pub record StandsFor (stands_for : (ℕ → List ℕ) → Durable → Type 0) (s : MemStore) (state : NodeState) : Type 0 where
  pub kept : Durable
  pub files : ℕ → List ℕ
  pub read : AreRead s files
  pub stands : stands_for files kept
  pub is : state ≡ loaded kept

-- each node is loaded with what its store has
abbrev pub AreLoaded : ((ℕ → List ℕ) → Durable → Type 0) → List MemStore → List NodeState → Type 0
AreLoaded stands_for [] [] = Unit {0}
AreLoaded stands_for [] (s ∷ ss) = ⊥
AreLoaded stands_for (x ∷ xs) [] = ⊥
AreLoaded stands_for (x ∷ xs) (s ∷ ss) = StandsFor stands_for x s × AreLoaded stands_for xs ss

-- the file of the store is not in its format, first at this place
abbrev pub IsDamagedAt : ((ℕ → List ℕ) → ℕ → ℕ → Type 0) → MemStore → ℕ → ℕ → Type 0
IsDamagedAt is_damaged s f p = (files : ℕ → List ℕ) × AreRead s files × is_damaged files f p

-- node k, which was just loaded from the store
pub record IsSeated {R : Type 0} (m : Keeper R) (c : Setting) (k : ℕ) (s : MemStore) (seat : Seat R) : Type 0 where
  pub node : Node R MemStore
  pub is : IsSeat (Runs node) 0 [] seat
  pub stands : StandsFor m.stands_for s (state_with node.core (m.durable node.replica))
  pub setting : node.core.setting ≡ c
  pub me : node.core.me ≡ k
  pub ready : IsReady m node
  pub sure : NeverFails (m.disk node.replica)

-- the nodes from number i on
abbrev pub AreSeated : {R : Type 0} → Keeper R → Setting → ℕ → List MemStore → List (Seat R) → Type 0
AreSeated m c i [] [] = Unit {0}
AreSeated m c i [] (y ∷ ys) = ⊥
AreSeated m c i (x ∷ xs) [] = ⊥
AreSeated m c i (x ∷ xs) (y ∷ ys) = IsSeated m c i x y × AreSeated m c (i + 1) xs ys

-- a node whose clock reads 0, and whose store was told no fault
abbrev pub begun_site : NodeState → Site
begun_site s = record { node = Up s; clock = 0; told = [] }

-- a cluster whose nodes were just loaded with what these stores have
pub record Begins (stands_for : (ℕ → List ℕ) → Durable → Type 0) (c : Setting) (stores : List MemStore) (v : ClusterState) : Type 0 where
  pub setting : v.setting ≡ c
  pub loaded : AreLoaded stands_for stores v.first
  pub sites : v.sites ≡ map begun_site v.first
  pub post : v.post ≡ no_post
  pub chronicle : v.chronicle ≡ []
