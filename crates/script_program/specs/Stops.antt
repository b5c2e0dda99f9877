-- Nodes that no line of a script stops.
use Rattle.std.specs.Prelude.{◌≡◌, ◌==◌, ℕ, Bool, false, Some, List, [], slice_get}
use Rattle.std.specs.List.{list_any}
use Rattle.cluster_model.specs.State.{Showing, Up, Off, Site}
use Rattle.fault_script.specs.declared.script.ScriptEvent.{ScriptEvent}
use Rattle.fault_script.specs.declared.script.ScriptEvent.TheVariants as line

-- the line names the node as one that stops, or whose store fails
abbrev pub names_stop : ℕ → ScriptEvent → Bool
names_stop k (line.Put put) = false
names_stop k (line.Get get) = false
names_stop k (line.Cql request) = false
names_stop k (line.Deliver place) = false
names_stop k (line.Drop place) = false
names_stop k (line.Settle count) = false
names_stop k (line.Clock node micros) = false
names_stop k (line.Mark node peer up) = false
names_stop k (line.Crash node outcome) = node == k
names_stop k (line.StopAt node call outcome) = node == k
names_stop k (line.FailAt node call) = node == k
names_stop k (line.Restart node) = false
names_stop k (line.Flush node) = false
names_stop k (line.Merge node) = false

abbrev pub IsUp : Showing → Type 0
IsUp (Up state) = Unit {0}
IsUp Off = ⊥

-- it runs, and its store was told no fault
pub record IsWell (site : Site) : Type 0 where
  pub untold : site.told ≡ []
  pub up : IsUp site.node

abbrev pub IsWellAt : List Site → ℕ → Type 0
IsWellAt sites k = (site : Site) → slice_get sites k ≡ Some site → IsWell site

-- a node that no line names so runs behind them all
abbrev pub StopsAreNamed : List ScriptEvent → List Site → Type 0
StopsAreNamed lines sites = (k : ℕ) → list_any (names_stop k) lines ≡ false → IsWellAt sites k
