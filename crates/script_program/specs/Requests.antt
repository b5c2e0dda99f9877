-- What the lines of a script ask of a cluster.
use Rattle.std.specs.Prelude.{◌≡◌, ◌⊎◌, ◌*◌, ℕ, ℤ, Option, Some, None, Result, Ok, Err, List, [], ◌∷◌, map, codes}
use Rattle.cs_base.specs.declared.level.Level.{Level}
use Rattle.cql_values.specs.Literals.{literal_text}
use Rattle.cql_values.specs.declared.value.CqlValue.TheVariants as values
use Rattle.cql_values.specs.declared.value.LiteralKind.TheVariants as kinds
use Rattle.cql_statement.specs.declared.term.Term.{Term}
use Rattle.cql_statement.specs.declared.term.Term.TheVariants.{Constant}
use Rattle.cql_statement.specs.declared.term.TableName.{TableName}
use Rattle.cql_statement.specs.declared.term.Relation.{Relation}
use Rattle.cql_statement.specs.declared.term.RelationOperator.TheVariants.{Equal}
use Rattle.cql_statement.specs.declared.select.Selection.TheVariants as selection
use Rattle.cql_statement.specs.declared.statement.Statement.{Statement}
use Rattle.cql_statement.specs.declared.statement.Statement.TheVariants as statement
use Rattle.schema_book.specs.Books.{Book}
use Rattle.schema_book.specs.declared.table.Table.{Table}
use Rattle.statement_values.specs.declared.params.Params.{Params}
use Rattle.statement_values.specs.declared.params.Params.TheVariants.{ByPlace}
use Rattle.statement_plan.specs.declared.fault.Fault.{Fault}
use Rattle.statement_plan.specs.declared.fault.Fault.TheVariants as fault
use Rattle.statement_plan.specs.declared.fault.Feature.TheVariants as feature
use Rattle.statement_plan.specs.declared.plan.Plan.{Plan}
use Rattle.statement_plan.specs.declared.plan.Plan.TheVariants as bound
use Rattle.statement_binder.specs.Meanings.{meaning_of, IsPlan, IsRefusal}
use Rattle.statement_binder.specs.declared.error.BindError.{BindError}
use Rattle.statement_binder.specs.declared.error.BindError.TheVariants as error
use Rattle.peer_messages.specs.declared.event.Plan.{Plan as NodePlan}
use Rattle.peer_messages.specs.declared.event.Plan.TheVariants as plan
use Rattle.peer_messages.specs.declared.setting.Setting.{Setting}
use Rattle.peer_messages.specs.declared.setting.TableSetting.{TableSetting}
use Rattle.cluster_model.specs.declared.event.ClusterEvent.{ClusterEvent}
use Rattle.cluster_model.specs.declared.event.ClusterEvent.TheVariants as cluster
use Rattle.fault_script.specs.Script.{IsOneStatement}
use Rattle.fault_script.specs.declared.script.Script.{Script}
use Rattle.fault_script.specs.declared.script.PutRequest.{PutRequest}
use Rattle.fault_script.specs.declared.script.GetRequest.{GetRequest}
use Rattle.fault_script.specs.declared.script.ScriptEvent.{ScriptEvent}
use Rattle.fault_script.specs.declared.script.ScriptEvent.TheVariants as line

abbrev pub table_setting : Table → TableSetting
table_setting table = record { factor = table.factor }

-- a node for each token, the tables of the schema, and in microseconds the time after which a message is too old
abbrev pub setting_of : Script → Setting
setting_of script = record { ring = script.ring; tables = map table_setting script.schema.tables; expiry = script.expiry * 1000000 }

-- ---- `put` and `get` are statements on script.kv

abbrev pub kv_table : TableName
kv_table = record { keyspace = Some (codes "script"); name = codes "kv" }

-- a text as a constant: in single quotes, which are doubled inside
abbrev pub text_term : List ℕ → Term
text_term text = Constant (record { kind = kinds.Str; text = literal_text (values.Text text) })

abbrev pub number_term : ℤ → Term
number_term number = Constant (record { kind = kinds.Whole; text = literal_text (values.Bigint number) })

abbrev pub equals_by : List ℕ → Term → Relation
equals_by column term = record { column = column; operator = Equal; term = term }

-- UPDATE script.kv USING TIMESTAMP <timestamp> SET v = <value> WHERE k = <key> AND c = <row>
abbrev pub put_by : Term → Term → Term → Term → Statement
put_by timestamp value key row = statement.Update (record {
  table = kv_table;
  stamp = Some (record { timestamp = timestamp });
  assignments = record { column = codes "v"; term = value } ∷ [];
  relations = equals_by (codes "k") key ∷ equals_by (codes "c") row ∷ [];
  condition = None;
})

abbrev pub put_statement : PutRequest → Statement
put_statement put = put_by (number_term put.timestamp) (text_term put.value) (text_term put.key) (text_term put.row)

-- SELECT c, v FROM script.kv WHERE k = <key>
abbrev pub get_by : Term → Statement
get_by key = statement.Select (record {
  selection = selection.Columns (codes "c" ∷ codes "v" ∷ []);
  table = kv_table;
  relations = equals_by (codes "k") key ∷ [];
  orders = [];
  limit = None;
})

abbrev pub get_statement : GetRequest → Statement
get_statement get = get_by (text_term get.key)

-- ---- what a statement asks of a node

-- a script gives no values
abbrev pub no_values : Params
no_values = ByPlace []

-- what the node is asked; it has no conditional operations yet
abbrev pub asked_of : Plan → NodePlan
asked_of (bound.Write mutation) = plan.Write mutation
asked_of (bound.Read query columns) = plan.Read query columns
asked_of (bound.Conditional operation) = plan.Invalid (fault.NotSupported feature.Condition)
asked_of (bound.Use keyspace) = plan.Use keyspace

-- what was bound asks this of the node
abbrev pub IsAskedBy : Result Plan BindError → NodePlan → Type 0
IsAskedBy (Ok b) p = p ≡ asked_of b
IsAskedBy (Err (error.Refused f)) p = p ≡ plan.Invalid f
IsAskedBy (Err error.NoMemory) p = ⊥

-- the statement's plan, or its refusal, for a schema and the keyspace in use
abbrev pub AsksFor : Book → Option (List ℕ) → Statement → NodePlan → Type 0
AsksFor book keyspace s p =
    ((b : Plan) × IsPlan b (meaning_of book keyspace no_values None s) × (p ≡ asked_of b))
    ⊎ ((f : Fault) × IsRefusal f (meaning_of book keyspace no_values None s) × (p ≡ plan.Invalid f))

-- the node is asked for that at a level
abbrev pub AsksAt : Book → Option (List ℕ) → ℕ → Level → Statement → ClusterEvent → Type 0
AsksAt book keyspace node level s e = (p : NodePlan) × AsksFor book keyspace s p × (e ≡ cluster.Ask node (record { plan = p; level = level }))

abbrev pub AsksBy : Result Plan BindError → ℕ → Level → ClusterEvent → Type 0
AsksBy bound node level e = (p : NodePlan) × IsAskedBy bound p × (e ≡ cluster.Ask node (record { plan = p; level = level }))

-- what a line does to the cluster
abbrev pub IsEventOf : Book → Option (List ℕ) → ScriptEvent → ClusterEvent → Type 0
IsEventOf book keyspace (line.Put put) e = AsksAt book keyspace put.node put.level (put_statement put) e
IsEventOf book keyspace (line.Get get) e = AsksAt book keyspace get.node get.level (get_statement get) e
IsEventOf book keyspace (line.Cql request) e = (s : Statement) × IsOneStatement request.text s × AsksAt book keyspace request.node request.level s e
IsEventOf book keyspace (line.Deliver place) e = e ≡ cluster.Deliver place.from place.upto place.number
IsEventOf book keyspace (line.Drop place) e = e ≡ cluster.Lose place.from place.upto place.number
IsEventOf book keyspace (line.Settle count) e = e ≡ cluster.Settle count
IsEventOf book keyspace (line.Clock node micros) e = e ≡ cluster.Clock node micros
IsEventOf book keyspace (line.Mark node peer up) e = e ≡ cluster.Alive node peer up
IsEventOf book keyspace (line.Crash node outcome) e = e ≡ cluster.Crash node outcome
IsEventOf book keyspace (line.StopAt node call outcome) e = e ≡ cluster.StopAt node call outcome
IsEventOf book keyspace (line.FailAt node call) e = e ≡ cluster.FailAt node call
IsEventOf book keyspace (line.Restart node) e = e ≡ cluster.Restart node
IsEventOf book keyspace (line.Flush node) e = e ≡ cluster.Flush node
IsEventOf book keyspace (line.Merge node) e = e ≡ cluster.Merge node
