-- The grammar of CQL statements (CQL reference, "Data Definition", "Data Manipulation"), each form with its value.
use Rattle.std.specs.Prelude.{ℕ, ◌==◌, Bool, true, false, List, [], ◌∷◌, map, if◌then◌else◌, codes, Option, Some, None, ◌⊎◌}
use Rattle.std.proofs.Common.{inl, inr}
use Rattle.std.specs.Char.{to_ascii_lowercase}
use Rattle.std.specs.Str.{chars, encode_utf8_all}
use Rattle.cql_tokens.specs.Tokens.{Meaning}
use Rattle.cql_tokens.specs.declared.token.TokenKind.TheVariants as kinds
use Rattle.cql_values.specs.declared.value.Literal.{Literal}
use Rattle.cql_values.specs.declared.value.LiteralKind.{LiteralKind}
use Rattle.cql_values.specs.declared.value.LiteralKind.TheVariants as literals
use Rattle.cql_values.specs.declared.value.CqlType.{CqlType}
use Rattle.cql_values.specs.declared.value.CqlType.TheVariants as types
use Rattle.cql_statement.specs.declared.term.TableName.{TableName}
use Rattle.cql_statement.specs.declared.term.Term.{Term}
use Rattle.cql_statement.specs.declared.term.Term.TheVariants as terms
use Rattle.cql_statement.specs.declared.term.RelationOperator.{RelationOperator}
use Rattle.cql_statement.specs.declared.term.RelationOperator.TheVariants as relation_operators
use Rattle.cql_statement.specs.declared.term.Relation.{Relation}
use Rattle.cql_statement.specs.declared.term.TestOperator.{TestOperator}
use Rattle.cql_statement.specs.declared.term.TestOperator.TheVariants as test_operators
use Rattle.cql_statement.specs.declared.modification.Test.{Test}
use Rattle.cql_statement.specs.declared.modification.Condition.{Condition}
use Rattle.cql_statement.specs.declared.modification.Condition.TheVariants as conditions
use Rattle.cql_statement.specs.declared.modification.Stamp.{Stamp}
use Rattle.cql_statement.specs.declared.modification.Assignment.{Assignment}
use Rattle.cql_statement.specs.declared.modification.Insert.{Insert}
use Rattle.cql_statement.specs.declared.modification.Update.{Update}
use Rattle.cql_statement.specs.declared.modification.Delete.{Delete}
use Rattle.cql_statement.specs.declared.modification.Modification.{Modification}
use Rattle.cql_statement.specs.declared.modification.Modification.TheVariants as modifications
use Rattle.cql_statement.specs.declared.modification.Batch.{Batch}
use Rattle.cql_statement.specs.declared.schema.ReplicationEntry.{ReplicationEntry}
use Rattle.cql_statement.specs.declared.schema.CreateKeyspace.{CreateKeyspace}
use Rattle.cql_statement.specs.declared.schema.TableItem.{TableItem}
use Rattle.cql_statement.specs.declared.schema.TableItem.TheVariants as items
use Rattle.cql_statement.specs.declared.schema.ColumnOrder.{ColumnOrder}
use Rattle.cql_statement.specs.declared.schema.TableOption.{TableOption}
use Rattle.cql_statement.specs.declared.schema.TableOption.TheVariants as options
use Rattle.cql_statement.specs.declared.schema.CreateTable.{CreateTable}
use Rattle.cql_statement.specs.declared.schema.Use.{Use}
use Rattle.cql_statement.specs.declared.select.Select.{Select}
use Rattle.cql_statement.specs.declared.select.Selection.{Selection}
use Rattle.cql_statement.specs.declared.select.Selection.TheVariants as selections
use Rattle.cql_statement.specs.declared.statement.Statement.{Statement}
use Rattle.cql_statement.specs.declared.statement.Statement.TheVariants as statements
use Rattle.cql_parser.specs.Forms.{Form, is_kind, word, symbol, type_named, option, optional, optional_list, flag, many, more, listed, joined, ◌▹◌, ◌◃◌, ◌&◌, ◌⊕◌}
use Rattle.cql_parser.specs.Forms.Terminal.{Word, Symbol, Name, NameBut, TypeWord}
use Rattle.cql_parser.specs.Forms.Form.{Token, Nothing, Made}

-- ---- names

-- characters without the quotes around them, where two quotes stand for one: the flag says that a quote stood just before
abbrev pub unquoted_from : Bool → List ℕ → List ℕ
unquoted_from after_quote [] = []
unquoted_from true (c ∷ cs) = c ∷ unquoted_from false cs
unquoted_from false (c ∷ cs) = if c == 34 then unquoted_from true cs else c ∷ unquoted_from false cs

-- what stands behind the quote that begins a name
abbrev pub unquoted : List ℕ → List ℕ
unquoted [] = []
unquoted (c ∷ cs) = unquoted_from false cs

-- a name in quotes keeps its case
abbrev pub name_of : Meaning → List ℕ
name_of t = if is_kind t.kind kinds.QuotedName then encode_utf8_all (unquoted (chars t.word)) else map to_ascii_lowercase t.word

unfoldable pub name : Form (List ℕ)
name = Made name_of (Token Name)

-- This word, as a name. CLUSTERING, COUNT and EXISTS are no reserved words: what stands behind tells what they are.
abbrev pub word_as_name : List ℕ → Form (List ℕ)
word_as_name w = Made name_of (Token (Word w))

-- a name, but not this word without quotes
abbrev pub other_name : List ℕ → Form (List ℕ)
other_name w = Made name_of (Token (NameBut w))

unfoldable pub names : Form (List (List ℕ))
names = listed name

-- [name '.'] name
abbrev pub table_of : List ℕ × Option (List ℕ) → TableName
table_of v = elim v.1 [ None ↦ record { keyspace = None; name = v.0 } | Some behind ↦ record { keyspace = Some v.0; name = behind } ]

unfoldable pub table_name : Form TableName
table_name = Made table_of (name & option (symbol kinds.Dot ▹ name))

-- ---- terms

abbrev pub literal_as : LiteralKind → Meaning → Literal
literal_as kind t = record { kind = kind; text = t.word }

abbrev pub string : Form Literal
string = Made (literal_as literals.Str) (Token (Symbol kinds.Str))

abbrev pub integer : Form Literal
integer = Made (literal_as literals.Whole) (Token (Symbol kinds.Whole))

abbrev pub blob : Form Literal
blob = Made (literal_as literals.Blob) (Token (Symbol kinds.Blob))

abbrev pub uuid : Form Literal
uuid = Made (literal_as literals.Uuid) (Token (Symbol kinds.Uuid))

abbrev pub boolean : List ℕ → Form Literal
boolean w = Made (literal_as literals.Bool) (Token (Word w))

-- TRUE and FALSE are booleans in either case.
unfoldable pub term : Form Term
term =
    Made (λ v. terms.Constant v) string
    ⊕ Made (λ v. terms.Constant v) integer
    ⊕ Made (λ v. terms.Constant v) blob
    ⊕ Made (λ v. terms.Constant v) uuid
    ⊕ Made (λ v. terms.Constant v) (boolean (codes "TRUE"))
    ⊕ Made (λ v. terms.Constant v) (boolean (codes "FALSE"))
    ⊕ Made (λ v. terms.Null) (word (codes "NULL"))
    ⊕ Made (λ v. terms.Marker) (symbol kinds.QuestionMark)
    ⊕ Made (λ v. terms.NamedMarker v) (symbol kinds.Colon ▹ name)

-- ---- relations and tests

unfoldable pub relation_operator : Form RelationOperator
relation_operator =
    Made (λ v. relation_operators.Equal) (symbol kinds.Equal)
    ⊕ Made (λ v. relation_operators.Less) (symbol kinds.Less)
    ⊕ Made (λ v. relation_operators.LessOrEqual) (symbol kinds.LessOrEqual)
    ⊕ Made (λ v. relation_operators.Greater) (symbol kinds.Greater)
    ⊕ Made (λ v. relation_operators.GreaterOrEqual) (symbol kinds.GreaterOrEqual)

abbrev pub relation_of : List ℕ × (RelationOperator × Term) → Relation
relation_of v = record { column = v.0; operator = v.1.0; term = v.1.1 }

unfoldable pub relation : Form Relation
relation = Made relation_of (name & relation_operator & term)

unfoldable pub relations : Form (List Relation)
relations = joined relation

abbrev pub test_operator : Form TestOperator
test_operator =
    Made (λ v. test_operators.Equal) (symbol kinds.Equal)
    ⊕ Made (λ v. test_operators.NotEqual) (symbol kinds.NotEqual)
    ⊕ Made (λ v. test_operators.Less) (symbol kinds.Less)
    ⊕ Made (λ v. test_operators.LessOrEqual) (symbol kinds.LessOrEqual)
    ⊕ Made (λ v. test_operators.Greater) (symbol kinds.Greater)
    ⊕ Made (λ v. test_operators.GreaterOrEqual) (symbol kinds.GreaterOrEqual)

abbrev pub test_of : List ℕ × (TestOperator × Term) → Test
test_of v = record { column = v.0; operator = v.1.0; term = v.1.1 }

unfoldable pub column_test : Form Test
column_test = Made test_of (name & test_operator & term)

-- {AND column_test}
unfoldable pub more_tests : Form (List Test)
more_tests = more (word (codes "AND")) column_test

-- what stands behind IF EXISTS: where an operator does, EXISTS is a column
abbrev pub exists_of : List ℕ × Option ((TestOperator × Term) × List Test) → Condition
exists_of v = elim v.1 [ None ↦ conditions.Exists | Some behind ↦ conditions.Tests (test_of (v.0, behind.0) ∷ behind.1) ]

abbrev pub tests_of : (List ℕ × (TestOperator × Term)) × List Test → Condition
tests_of v = conditions.Tests (test_of v.0 ∷ v.1)

unfoldable pub condition_body : Form Condition
condition_body =
    Made exists_of (word_as_name (codes "EXISTS") & option ((test_operator & term) & more_tests))
    ⊕ Made tests_of ((other_name (codes "EXISTS") & test_operator & term) & more_tests)

-- IF EXISTS | IF column_test {AND column_test}
abbrev pub condition : Form Condition
condition = word (codes "IF") ▹ condition_body

-- IF NOT EXISTS
abbrev pub if_not_exists : Form (Unit {0})
if_not_exists = word (codes "IF") ▹ word (codes "NOT") ▹ word (codes "EXISTS")

-- USING TIMESTAMP term
abbrev pub stamp_of : Term → Stamp
stamp_of v = record { timestamp = v }

abbrev pub stamp : Form Stamp
stamp = Made stamp_of (word (codes "USING") ▹ word (codes "TIMESTAMP") ▹ term)

abbrev pub parenthesized : {A : Type 0} → Form A → Form A
parenthesized f = symbol kinds.OpenParenthesis ▹ f ◃ symbol kinds.CloseParenthesis

-- ---- keyspaces and tables

abbrev pub entry_of : Literal × Literal → ReplicationEntry
entry_of v = record { key = v.0; value = v.1 }

unfoldable pub entry_value : Form Literal
entry_value = string ⊕ integer

unfoldable pub entry : Form ReplicationEntry
entry = Made entry_of (string & (symbol kinds.Colon ▹ entry_value))

unfoldable pub replication : Form (List ReplicationEntry)
replication = symbol kinds.OpenBrace ▹ listed entry ◃ symbol kinds.CloseBrace

-- [AND DURABLE_WRITES '=' TRUE]
unfoldable pub durable_writes : Form (Unit {0})
durable_writes = optional (word (codes "AND") ▹ word (codes "DURABLE_WRITES") ▹ symbol kinds.Equal ▹ word (codes "TRUE"))

abbrev pub keyspace_of : Bool × (List ℕ × List ReplicationEntry) → CreateKeyspace
keyspace_of v = record { if_not_exists = v.0; name = v.1.0; replication = v.1.1 }

unfoldable pub keyspace_body : Form CreateKeyspace
keyspace_body =
    Made keyspace_of (flag if_not_exists & name & (word (codes "WITH") ▹ word (codes "REPLICATION") ▹ symbol kinds.Equal ▹ replication))
    ◃ durable_writes

abbrev pub type_of : Meaning → CqlType
type_of t = elim (type_named t.word) [ None ↦ types.Int | Some ty ↦ ty ]

unfoldable pub type_word : Form CqlType
type_word = Made type_of (Token TypeWord)

abbrev pub primary_key : Form (Unit {0})
primary_key = word (codes "PRIMARY") ▹ word (codes "KEY")

abbrev pub column_of : List ℕ × (CqlType × Bool) → TableItem
column_of v = items.Column (record { name = v.0; ty = v.1.0; is_primary_key = v.1.1 })

unfoldable pub partition_key : Form (List (List ℕ))
partition_key = parenthesized names ⊕ Made (λ v. v ∷ []) name

abbrev pub key_of : List (List ℕ) × List (List ℕ) → TableItem
key_of v = items.PrimaryKey (record { partition = v.0; clustering = v.1 })

-- {',' name}
unfoldable pub more_names : Form (List (List ℕ))
more_names = more (symbol kinds.Comma) name

unfoldable pub key : Form TableItem
key = Made key_of (partition_key & more_names)

unfoldable pub item : Form TableItem
item = (primary_key ▹ parenthesized key) ⊕ Made column_of (name & type_word & flag primary_key)

unfoldable pub direction : Form Bool
direction = Made (λ v. false) (word (codes "ASC")) ⊕ Made (λ v. true) (word (codes "DESC"))

abbrev pub order_of : List ℕ × Bool → ColumnOrder
order_of v = record { column = v.0; is_descending = v.1 }

-- name (ASC | DESC)
unfoldable pub stated_order : Form ColumnOrder
stated_order = Made order_of (name & direction)

unfoldable pub clustering_order : Form (List ColumnOrder)
clustering_order = word (codes "ORDER") ▹ word (codes "BY") ▹ parenthesized (listed stated_order)

abbrev pub named_option : List ℕ → Literal → TableOption
named_option name value = options.Named (record { name = name; value = value })

unfoldable pub option_value : Form Literal
option_value = symbol kinds.Equal ▹ (integer ⊕ string)

-- what stands behind CLUSTERING: where a value does, it is an option's name
abbrev pub clustering_of : List ℕ × (List ColumnOrder ⊎ Literal) → TableOption
clustering_of v = elim v.1 [ inl orders ↦ options.ClusteringOrder orders | inr value ↦ named_option v.0 value ]

abbrev pub option_of : List ℕ × Literal → TableOption
option_of v = named_option v.0 v.1

unfoldable pub table_option : Form TableOption
table_option =
    Made clustering_of (word_as_name (codes "CLUSTERING") & (Made (λ v. inl v) clustering_order ⊕ Made (λ v. inr v) option_value))
    ⊕ Made option_of (other_name (codes "CLUSTERING") & option_value)

abbrev pub create_table_of : Bool × (TableName × (List TableItem × List TableOption)) → CreateTable
create_table_of v = record { if_not_exists = v.0; table = v.1.0; items = v.1.1.0; options = v.1.1.1 }

unfoldable pub table_options : Form (List TableOption)
table_options = optional_list (word (codes "WITH") ▹ joined table_option)

unfoldable pub table_body : Form CreateTable
table_body = Made create_table_of (flag if_not_exists & table_name & parenthesized (listed item) & table_options)

-- CREATE KEYSPACE or CREATE TABLE
abbrev pub create : Form Statement
create =
    word (codes "CREATE")
    ▹ (Made (λ v. statements.CreateKeyspace v) (word (codes "KEYSPACE") ▹ keyspace_body)
    ⊕ Made (λ v. statements.CreateTable v) (word (codes "TABLE") ▹ table_body))

abbrev pub use_of : List ℕ → Use
use_of v = record { keyspace = v }

abbrev pub use_keyspace : Form Use
use_keyspace = Made use_of (word (codes "USE") ▹ name)

-- ---- rows

abbrev pub insert_of : TableName × (List (List ℕ) × (List Term × (Bool × Option Stamp))) → Insert
insert_of v = record { table = v.0; columns = v.1.0; values = v.1.1.0; if_not_exists = v.1.1.1.0; stamp = v.1.1.1.1 }

unfoldable pub terms_in_parentheses : Form (List Term)
terms_in_parentheses = parenthesized (listed term)

unfoldable pub insert_body : Form Insert
insert_body =
    Made insert_of
    (word (codes "INTO") ▹ table_name & parenthesized names & word (codes "VALUES") ▹ terms_in_parentheses
    & flag if_not_exists & option stamp)

abbrev pub insert : Form Insert
insert = word (codes "INSERT") ▹ insert_body

abbrev pub assignment_of : List ℕ × Term → Assignment
assignment_of v = record { column = v.0; term = v.1 }

unfoldable pub assignment : Form Assignment
assignment = Made assignment_of (name & symbol kinds.Equal ▹ term)

abbrev pub update_of : TableName × (Option Stamp × (List Assignment × (List Relation × Option Condition))) → Update
update_of v = record { table = v.0; stamp = v.1.0; assignments = v.1.1.0; relations = v.1.1.1.0; condition = v.1.1.1.1 }

unfoldable pub update_body : Form Update
update_body =
    Made update_of
    (table_name & option stamp & word (codes "SET") ▹ listed assignment & word (codes "WHERE") ▹ relations & option condition)

abbrev pub update : Form Update
update = word (codes "UPDATE") ▹ update_body

abbrev pub delete_of : List (List ℕ) × (TableName × (Option Stamp × (List Relation × Option Condition))) → Delete
delete_of v = record { columns = v.0; table = v.1.0; stamp = v.1.1.0; relations = v.1.1.1.0; condition = v.1.1.1.1 }

unfoldable pub delete_body : Form Delete
delete_body =
    Made delete_of
    (optional_list names & word (codes "FROM") ▹ table_name & option stamp & word (codes "WHERE") ▹ relations & option condition)

abbrev pub delete : Form Delete
delete = word (codes "DELETE") ▹ delete_body

-- ---- SELECT

-- what stands behind COUNT: (*), or the rest of a list of columns
abbrev pub counted_of : List ℕ × Option (List (List ℕ)) → Selection
counted_of v = elim v.1 [ None ↦ selections.Count | Some columns ↦ selections.Columns (v.0 ∷ columns) ]

abbrev pub columns_of : List ℕ × List (List ℕ) → Selection
columns_of v = selections.Columns (v.0 ∷ v.1)

unfoldable pub selection : Form Selection
selection =
    Made (λ v. selections.All) (symbol kinds.Star)
    ⊕ Made counted_of
    (word_as_name (codes "COUNT") & (Made (λ v. None) (parenthesized (symbol kinds.Star)) ⊕ Made (λ v. Some v) more_names))
    ⊕ Made columns_of (other_name (codes "COUNT") & more_names)

-- name [ASC | DESC]
unfoldable pub order : Form ColumnOrder
order = Made order_of (name & (direction ⊕ Made (λ v. false) Nothing))

abbrev pub select_of : Selection × (TableName × (List Relation × (List ColumnOrder × Option Term))) → Select
select_of v = record { selection = v.0; table = v.1.0; relations = v.1.1.0; orders = v.1.1.1.0; limit = v.1.1.1.1 }

unfoldable pub select_body : Form Select
select_body =
    Made select_of
    (selection & word (codes "FROM") ▹ table_name & word (codes "WHERE") ▹ relations
    & optional_list (word (codes "ORDER") ▹ word (codes "BY") ▹ listed order) & option (word (codes "LIMIT") ▹ term))

abbrev pub select : Form Select
select = word (codes "SELECT") ▹ select_body

-- ---- batches and statements

unfoldable pub semicolon : Form (Unit {0})
semicolon = optional (symbol kinds.Semicolon)

abbrev pub modification : Form Modification
modification =
    Made (λ v. modifications.Insert v) insert
    ⊕ Made (λ v. modifications.Update v) update
    ⊕ Made (λ v. modifications.Delete v) delete

abbrev pub batch_of : Bool × (Option Stamp × List Modification) → Batch
batch_of v = record { is_unlogged = v.0; stamp = v.1.0; statements = v.1.1 }

unfoldable pub modifications_form : Form (List Modification)
modifications_form = many (modification ◃ semicolon)

unfoldable pub batch_body : Form Batch
batch_body =
    Made batch_of (flag (word (codes "UNLOGGED")) & word (codes "BATCH") ▹ option stamp & modifications_form)
    ◃ (word (codes "APPLY") ▹ word (codes "BATCH"))

abbrev pub batch : Form Batch
batch = word (codes "BEGIN") ▹ batch_body

unfoldable pub statement_body : Form Statement
statement_body =
    create
    ⊕ Made (λ v. statements.Use v) use_keyspace
    ⊕ Made (λ v. statements.Insert v) insert
    ⊕ Made (λ v. statements.Update v) update
    ⊕ Made (λ v. statements.Delete v) delete
    ⊕ Made (λ v. statements.Select v) select
    ⊕ Made (λ v. statements.Batch v) batch

unfoldable pub statement : Form Statement
statement = statement_body ◃ semicolon
