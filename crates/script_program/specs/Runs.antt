-- A text that is the run of a script in print.
use Rattle.std.specs.Prelude.{◌≡◌, ℕ, Bool, true, false, Option, Some, None, List, [], ◌∷◌, map}
use Rattle.answer_causes.specs.AnswersRight.{AnswersRight}
use Rattle.read_consistency.specs.ReadRight.{ReadRight}
use Rattle.reads_forward.specs.ReadsForward.{ReadsForward}
use Rattle.schema_book.specs.Books.{Book}
use Rattle.peer_messages.specs.declared.chronicle.Entry.{Entry}
use Rattle.peer_messages.specs.declared.chronicle.Entry.TheVariants.{Used}
use Rattle.peer_messages.specs.declared.setting.Setting.{Setting}
use Rattle.cluster_model.specs.Beginning.{begun_site}
use Rattle.cluster_model.specs.State.{ClusterState, IsReached, AreFresh, no_post}
use Rattle.cluster_model.specs.Takes.{Takes}
use Rattle.cluster_model.specs.declared.event.ClusterEvent.{ClusterEvent}
use Rattle.chronicle_print.specs.Printed.{IsInPrint}
use Rattle.fault_script.specs.declared.script.Script.{Script}
use Rattle.fault_script.specs.declared.script.ScriptEvent.{ScriptEvent}
use Rattle.script_program.specs.Requests.{IsEventOf, setting_of}
use Rattle.script_program.specs.Stops.{StopsAreNamed}

abbrev pub named_by : Entry → Option (List ℕ) → Option (List ℕ)
named_by (Used request name) keyspace = Some name
named_by e keyspace = keyspace

abbrev pub newest : List Entry → Option Entry
newest [] = None
newest (e ∷ earlier) = Some e

-- the name that an entry gives
abbrev pub name_in : Option Entry → Option (List ℕ)
name_in None = None
name_in (Some e) = named_by e None

abbrev pub is_nothing : List Entry → Bool
is_nothing [] = true
is_nothing (e ∷ earlier) = false

abbrev pub named_by_any : Option Entry → Option (List ℕ) → Option (List ℕ)
named_by_any None keyspace = keyspace
named_by_any (Some e) keyspace = named_by e keyspace

-- the keyspace of later statements is the one that the newest entry names, if it names one
abbrev pub keyspace_after : Option (List ℕ) → List Entry → Option (List ℕ)
keyspace_after keyspace entries = named_by_any (newest entries) keyspace

-- the cluster takes the events one after another
abbrev pub Plays : Book → Option (List ℕ) → ClusterState → List ScriptEvent → ClusterState → Type 0
Plays book keyspace v [] v' = v' ≡ v
Plays book keyspace v (e ∷ rest) v' =
    (event : ClusterEvent) × (mid : ClusterState) × IsEventOf book keyspace e event × Takes v event mid
    × Plays book (keyspace_after keyspace mid.chronicle) mid rest v'

-- nodes that were just loaded from formatted stores, and nothing has happened
pub record IsFresh (c : Setting) (v : ClusterState) : Type 0 where
  pub setting : v.setting ≡ c
  pub first : AreFresh c v.first
  pub sites : v.sites ≡ map begun_site v.first
  pub post : v.post ≡ no_post
  pub chronicle : v.chronicle ≡ []

-- The text is the printed chronicle of a run of fresh nodes with just the script's events, in which each answered read is
-- right and goes forward, each request is told what it is told for its cause, and each node runs on that no line stops
pub record IsRunInPrint (script : Script) (text : List ℕ) : Type 0 where
  pub before : ClusterState
  pub after : ClusterState
  pub fresh : IsFresh (setting_of script) before
  pub plays : Plays script.schema None before script.events after
  pub reached : IsReached after
  pub named : StopsAreNamed script.events after.sites
  pub right : ReadRight (setting_of script) after.chronicle
  pub forward : ReadsForward (setting_of script) after.chronicle
  pub causes : AnswersRight (setting_of script) after.chronicle
  pub print : IsInPrint script.schema.tables after.chronicle text
