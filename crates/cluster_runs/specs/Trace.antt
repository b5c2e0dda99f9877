-- Runs move by move: what the inductions of the theorems go over.
use Rattle.std.specs.Prelude.{◌≡◌, ℕ, Bool, true, false, Option, Some, None, List, [], ◌∷◌, ◌++◌, Contains, slice_get, slice_set, map, replicate, length, reverse}
use Rattle.cs_base.specs.declared.ids.ReqId.{ReqId}
use Rattle.changes.specs.declared.Mutation.{Mutation}
use Rattle.peer_messages.specs.declared.chronicle.Entry.{Entry}
use Rattle.peer_messages.specs.declared.chronicle.Entry.TheVariants.{Asked, Submitted, Acked, Refused, Used, Began, Rows, Marks as Marked, Time, Turned, Tables, Stopped}
use Rattle.peer_messages.specs.declared.chronicle.Refusal.{Refusal}
use Rattle.peer_messages.specs.declared.event.Ask.{Ask}
use Rattle.peer_messages.specs.declared.setting.Setting.{Setting}
use Rattle.durable_state.specs.State.{Durable, IsSameKept}
use Rattle.node_steps.specs.State.{NodeState, durable_of, loaded, fresh_node}
use Rattle.node_steps.specs.Acts.{Act, Rises, Hears, Asks, Marks, DeadlineComes, HintExpires, Deed, Does, Incoming}
use Rattle.cluster_runs.specs.Chronicle.{submission_of}
use Rattle.cluster_runs.specs.World.{World, state_of}

-- Each node's state, up or down; the chronicle and each move that was made, the newest first; and the node that is being
-- loaded, whose moves make up for a step that a stop cut off: their outputs are lost
pub record Scene : Type 0 where
  pub nodes : List NodeState
  pub chronicle : List Entry
  pub past : List Deed
  pub losing : Option ℕ

abbrev pub scene_of : World → Scene
scene_of w = record { nodes = map state_of w.standing; chronicle = w.chronicle; past = w.past; losing = None }

abbrev pub first_scene : Setting → Scene
first_scene c = record { nodes = replicate (length c.ring) fresh_node; chronicle = []; past = []; losing = None }

-- node m.from made this body for node k
pub record WasMade (past : List Deed) (k : ℕ) (m : Incoming) : Type 0 where
  pub deed : Deed
  pub there : Contains past deed
  pub node : deed.node ≡ m.from
  pub made : Contains deed.effects.sends (record { upto = k; born = m.born; request = m.request; body = m.body })

-- the move began a request of node k, in a step that rose to this time
abbrev pub IsAskAt : ℕ → ℕ → Deed → Type 0
IsAskAt k time d = (d.node ≡ k) × (d.before.risen ≡ time) × ((ask : Ask) × (d.act ≡ Asks ask))

-- no move began this request
abbrev pub IsUnbegun : List Deed → ℕ → ℕ → Type 0
IsUnbegun past k time = (d : Deed) → Contains past d → IsAskAt k time d → ⊥

-- what a move takes was made for its node, and a request begins at a time at which its node began none
abbrev pub MayTake : List Deed → ℕ → NodeState → Act → Type 0
MayTake past k s (Rises time) = Unit {0}
MayTake past k s (Hears m) = WasMade past k m
MayTake past k s (Asks ask) = IsUnbegun past k s.risen
MayTake past k s (Marks peer up) = Unit {0}
MayTake past k s (DeadlineComes id) = Unit {0}
MayTake past k s (HintExpires peer number) = Unit {0}

-- which node is being loaded while node k makes moves whose outputs are lost, or are not
abbrev pub loser : Bool → ℕ → Option ℕ
loser true k = Some k
loser false k = None

-- of a move whose outputs are lost, what it submitted is the last that the chronicle has under its id
abbrev pub IsTold : List Entry → Entry → Type 0
IsTold chronicle (Submitted id m) = submission_of chronicle id ≡ Some m
IsTold chronicle (Asked r) = Unit {0}
IsTold chronicle (Acked r l heard) = Unit {0}
IsTold chronicle (Refused r refusal) = Unit {0}
IsTold chronicle (Used r keyspace) = Unit {0}
IsTold chronicle (Began r q l columns) = Unit {0}
IsTold chronicle (Rows r rows more grounds) = Unit {0}
IsTold chronicle (Marked k alive) = Unit {0}
IsTold chronicle (Time k t) = Unit {0}
IsTold chronicle (Turned k refusal) = Unit {0}
IsTold chronicle (Tables k n) = Unit {0}
IsTold chronicle (Stopped k) = Unit {0}

abbrev pub AreTold : Bool → List Entry → List Entry → Type 0
AreTold true chronicle entries = (e : Entry) → Contains entries e → IsTold chronicle e
AreTold false chronicle entries = Unit {0}

-- of the entries of a move, those that come into the chronicle with it
abbrev pub entered : Bool → List Entry → List Entry
entered true entries = []
entered false entries = entries

-- one move of node k, whose outputs may be lost
pub record Move (c : Setting) (w : Scene) (k : ℕ) (lost : Bool) (d : Deed) (w' : Scene) : Type 0 where
  pub losing : w.losing ≡ loser lost k
  pub at : slice_get w.nodes k ≡ Some d.before
  pub mine : d.node ≡ k
  pub may_take : MayTake w.past k d.before d.act
  pub does : Does c k d.before d.act d.effects d.after
  pub told : AreTold lost w.chronicle d.effects.entries
  pub scene : w' ≡ record {
    nodes = slice_set w.nodes k d.after;
    chronicle = reverse (entered lost d.effects.entries) ++ w.chronicle;
    past = d ∷ w.past;
    losing = w.losing;
  }

-- entries without a move: those round a step, and what was submitted by a step that a stop cut off
pub data IsFree (past : List Deed) : Entry → Type 0 where
  asked : (request : Option ReqId) → IsFree past (Asked request)
  marks : (k : ℕ) (alive : List ℕ) → IsFree past (Marked k alive)
  time : (k t : ℕ) → IsFree past (Time k t)
  turned : (k : ℕ) (refusal : Refusal) → IsFree past (Turned k refusal)
  tables : (k n : ℕ) → IsFree past (Tables k n)
  failed : (k : ℕ) → IsFree past (Stopped k)
  submitted : (id : ReqId) (m : Mutation) → IsUnbegun past id.node id.time → IsFree past (Submitted id m)

-- node k has what was found in its store, and nothing else
abbrev pub forgetting : Scene → ℕ → Durable → Scene
forgetting w k found = record { nodes = slice_set w.nodes k (loaded found); chronicle = w.chronicle; past = w.past; losing = None }

-- A load is: the node is loaded, makes the moves of the step in which it stopped, if that was made, and forgets
pub data Trace (c : Setting) : Scene → Type 0 where
  begun : Trace c (first_scene c)
  moved : (w w' : Scene) (k : ℕ) (lost : Bool) (d : Deed) → Trace c w → Move c w k lost d w' → Trace c w'
  wakes : (w : Scene) (k : ℕ) → Trace c w → w.losing ≡ None → Trace c (record w { losing = Some k })
  forgets : (w : Scene) (k : ℕ) (s : NodeState) (found : Durable) → Trace c w → w.losing ≡ Some k → slice_get w.nodes k ≡ Some s → IsSameKept (durable_of s) found → Trace c (forgetting w k found)
  free : (w : Scene) (e : Entry) → Trace c w → IsFree w.past e → Trace c (record w { chronicle = e ∷ w.chronicle })
