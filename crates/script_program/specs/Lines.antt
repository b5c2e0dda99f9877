-- The lines `put` and `get` as prepared statements with a marker for each of their words.
use Rattle.std.specs.Prelude.{◌≡◌, ℕ, Option, Some, None, List, [], ◌∷◌, Ok, codes}
use Rattle.std.specs.Int.{cast_unsigned, to_be_bytes, w64}
use Rattle.cql_statement.specs.declared.term.Relation.{Relation}
use Rattle.cql_statement.specs.declared.term.Term.TheVariants.{Marker}
use Rattle.cql_statement.specs.declared.statement.Statement.{Statement}
use Rattle.schema_book.specs.Books.{Book, script_columns, table_at}
use Rattle.schema_book.specs.declared.table.Table.{Table}
use Rattle.prepared_statement.specs.Prepared.{outline_of}
use Rattle.statement_values.specs.declared.params.Param.TheVariants.{Given}
use Rattle.statement_values.specs.declared.params.Params.{Params}
use Rattle.statement_values.specs.declared.params.Params.TheVariants.{ByPlace}
use Rattle.fault_script.specs.Script.{IsRead}
use Rattle.fault_script.specs.declared.script.Script.{Script}
use Rattle.fault_script.specs.declared.script.PutRequest.{PutRequest}
use Rattle.fault_script.specs.declared.script.GetRequest.{GetRequest}
use Rattle.fault_script.specs.declared.script.ScriptEvent.{ScriptEvent}
use Rattle.cluster_model.specs.declared.event.ClusterEvent.{ClusterEvent}
use Rattle.script_program.specs.Requests.{put_by, get_by, equals_by, IsEventOf}
use Rattle.script_program.specs.declared.statements.LineStatements.{LineStatements}

abbrev pub marker_for : List ℕ → Relation
marker_for column = equals_by column Marker

abbrev pub marked_put : Statement
marked_put = put_by Marker Marker Marker Marker

abbrev pub marked_get : Statement
marked_get = get_by Marker

abbrev pub put_values : PutRequest → Params
put_values put = ByPlace (Given (to_be_bytes w64 (cast_unsigned w64 put.timestamp)) ∷ Given put.value ∷ Given put.key ∷ Given put.row ∷ [])

abbrev pub get_values : GetRequest → Params
get_values get = ByPlace (Given get.key ∷ [])

-- the statements were prepared in this schema
pub record ArePrepared (book : Book) (lines : LineStatements) : Type 0 where
  pub put : lines.put ≡ outline_of book None marked_put
  pub get : lines.get ≡ outline_of book None marked_get

-- the table is there, with its columns
pub record HasKv (book : Book) : Type 0 where
  pub table : Table
  pub found : table_at book (codes "script") (codes "kv") ≡ Some table
  pub columns : table.columns ≡ script_columns

-- with the statements that were prepared in its schema the line has this event
abbrev pub IsEventBy : LineStatements → ScriptEvent → ClusterEvent → Type 0
IsEventBy lines line e = (book : Book) (keyspace : Option (List ℕ)) → HasKv book → ArePrepared book lines → IsEventOf book keyspace line e

abbrev pub ScriptsHaveKv : Type 0
ScriptsHaveKv = (text : List ℕ) (script : Script) → IsRead text (Ok script) → HasKv script.schema
