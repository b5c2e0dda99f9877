-- What holds of each script.
use Rattle.std.specs.Prelude.{◌≡◌, ◌≢◌, ℕ, ◌<◌, ◌≤◌, Result, Ok, List, [], ◌∷◌, length, All}
use Rattle.cs_base.specs.Ring.{IsRing}
use Rattle.cql_statement.specs.declared.statement.Statement.{Statement}
use Rattle.schema_book.specs.Books.{book_of}
use Rattle.fault_script.specs.declared.script.Script.{Script}
use Rattle.fault_script.specs.declared.script.ScriptError.{ScriptError}
use Rattle.fault_script.specs.declared.script.ScriptEvent.{ScriptEvent}
use Rattle.fault_script.specs.declared.script.ScriptEvent.TheVariants as event
use Rattle.fault_script.specs.declared.script.MessagePlace.{MessagePlace}
use Rattle.fault_script.specs.Script.{IsRead, IsOneStatement, IsSaid}

-- one to seven nodes with tokens of their own, and a factor of at most so many
pub record HasRing (script : Script) : Type 0 where
  pub ring : IsRing script.ring
  pub some : 1 ≤ script.factor
  pub few : script.factor ≤ length script.ring

abbrev pub ScriptsHaveARing : Type 0
ScriptsHaveARing = (text : List ℕ) (script : Script) → IsRead text (Ok script) → HasRing script

-- a message is too old after 1,000 to 100,000 seconds
pub record HasExpiry (script : Script) : Type 0 where
  pub least : 1000 ≤ script.expiry
  pub most : script.expiry ≤ 100000

abbrev pub ScriptsHaveAnExpiry : Type 0
ScriptsHaveAnExpiry = (text : List ℕ) (script : Script) → IsRead text (Ok script) → HasExpiry script

-- both ends of a message are among so many nodes
abbrev pub IsBetweenNodes : ℕ → MessagePlace → Type 0
IsBetweenNodes nodes place = (place.from < nodes) × (place.upto < nodes)

-- a node and another one are among so many
abbrev pub ArePeers : ℕ → ℕ → ℕ → Type 0
ArePeers nodes node peer = (node < nodes) × (peer < nodes) × (node ≢ peer)

-- the nodes of an event are among so many, and a mark is of another node
abbrev pub IsAtNodes : ℕ → ScriptEvent → Type 0
IsAtNodes nodes (event.Put put) = put.node < nodes
IsAtNodes nodes (event.Get get) = get.node < nodes
IsAtNodes nodes (event.Cql request) = request.node < nodes
IsAtNodes nodes (event.Deliver place) = IsBetweenNodes nodes place
IsAtNodes nodes (event.Drop place) = IsBetweenNodes nodes place
IsAtNodes nodes (event.Settle count) = Unit {0}
IsAtNodes nodes (event.Clock node micros) = node < nodes
IsAtNodes nodes (event.Mark node peer up) = ArePeers nodes node peer
IsAtNodes nodes (event.Crash node outcome) = node < nodes
IsAtNodes nodes (event.StopAt node call outcome) = node < nodes
IsAtNodes nodes (event.FailAt node call) = node < nodes
IsAtNodes nodes (event.Restart node) = node < nodes
IsAtNodes nodes (event.Flush node) = node < nodes
IsAtNodes nodes (event.Merge node) = node < nodes

abbrev pub EventsAreAtNodes : Type 0
EventsAreAtNodes = (text : List ℕ) (script : Script) → IsRead text (Ok script) → All (IsAtNodes (length script.ring)) script.events

-- the statement of each event is that of its text
abbrev pub StatementsAreRead : Type 0
StatementsAreRead = (text : List ℕ) (script : Script) → IsRead text (Ok script) → All IsSaid script.events

-- each text is the statement beside it
abbrev pub AreStatements : List (List ℕ) → List Statement → Type 0
AreStatements [] [] = Unit {0}
AreStatements [] (s ∷ ss) = ⊥
AreStatements (text ∷ texts) [] = ⊥
AreStatements (text ∷ texts) (s ∷ ss) = IsOneStatement text s × AreStatements texts ss

-- the statements of a script make its schema
pub record HasSchema (script : Script) : Type 0 where
  pub statements : List Statement
  pub written : AreStatements script.statements statements
  pub made : book_of (length script.ring) script.factor script.grace statements ≡ Ok script.schema

abbrev pub ScriptsHaveTheirSchema : Type 0
ScriptsHaveTheirSchema = (text : List ℕ) (script : Script) → IsRead text (Ok script) → HasSchema script

-- a text is read in one way
abbrev pub OneReading : Type 0
OneReading = (text : List ℕ) (a b : Result Script ScriptError) → IsRead text a → IsRead text b → a ≡ b
