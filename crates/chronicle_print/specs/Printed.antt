-- A chronicle in print: a line for each answer, with the number of its request, and for what is told of a node itself. The
-- newest entry comes first.
use Rattle.std.specs.Prelude.{◌≡◌, ℕ, ◌+◌, Bool, true, false, if◌then◌else◌, Option, Some, None, List, [], ◌∷◌, ◌++◌, length, codes, slice_get}
use Rattle.std.specs.Fmt.{decimal}
use Rattle.cs_base.specs.declared.ids.ReqId.{ReqId}
use Rattle.cs_base.specs.Requests.{is_request}
use Rattle.changes.specs.declared.Partition.{Partition}
use Rattle.changes.specs.declared.ShownRow.{ShownRow}
use Rattle.cql_values.specs.declared.value.CqlValue.{CqlValue}
use Rattle.schema_book.specs.declared.table.ColumnDef.{ColumnDef}
use Rattle.schema_book.specs.declared.table.Table.{Table}
use Rattle.row_values.specs.Values.{AreValuesOf}
use Rattle.row_values.specs.Prints.{values_text}
use Rattle.statement_plan.specs.declared.plan.Columns.{Columns}
use Rattle.statement_plan.specs.declared.plan.Columns.TheVariants.{Listed, Count}
use Rattle.statement_plan.specs.Faults.{name_of}
use Rattle.peer_messages.specs.declared.chronicle.Invalid.{Invalid}
use Rattle.peer_messages.specs.declared.chronicle.Invalid.TheVariants.{SerialWrite, Level, UnknownTable, PartitionTooLarge, Statement}
use Rattle.peer_messages.specs.declared.chronicle.Refusal.{Refusal}
use Rattle.peer_messages.specs.declared.chronicle.Refusal.TheVariants as refusal
use Rattle.peer_messages.specs.declared.chronicle.Refusal.TheVariants.{Unavailable, WriteTimeout, ReadTimeout, Overloaded, Down}
use Rattle.peer_messages.specs.declared.chronicle.Entry.{Entry}
use Rattle.peer_messages.specs.declared.chronicle.Entry.TheVariants.{Asked, Submitted, Acked, Refused, Used, Began, Rows, Time, Marks, Turned, Tables, Stopped}

-- ---- numbers: each request that came has its place among them all

abbrev pub asked_count : List Entry → ℕ
asked_count [] = 0
asked_count (Asked request ∷ earlier) = asked_count earlier + 1
asked_count (e ∷ earlier) = asked_count earlier

-- the number of the last request that came with this id; 0 where none did
abbrev pub number_of : List Entry → ReqId → ℕ
number_of [] request = 0
number_of (Asked None ∷ earlier) request = number_of earlier request
number_of (Asked (Some r) ∷ earlier) request = if is_request r request then asked_count earlier + 1 else number_of earlier request
number_of (e ∷ earlier) request = number_of earlier request

-- ---- rows, as the statement of their read shows them

-- the partition that the last read of this id asked of, and what is shown of its rows
abbrev pub shape_of : List Entry → ReqId → Option (Partition × Columns)
shape_of [] request = None
shape_of (Began r query level columns ∷ earlier) request = if is_request r request then Some (query.partition, columns) else shape_of earlier request
shape_of (e ∷ earlier) request = shape_of earlier request

abbrev pub columns_in : Option Table → List ColumnDef
columns_in None = []
columns_in (Some table) = table.columns

-- the columns of the table of this number
abbrev pub columns_of : List Table → ℕ → List ColumnDef
columns_of tables number = columns_in (slice_get tables number)

-- the line of a row: the values of these of its columns
abbrev pub IsRowLine : List ColumnDef → List ℕ → List ℕ → ShownRow → List ℕ → Type 0
IsRowLine columns key listed row line =
    (values : List (Option CqlValue)) × AreValuesOf columns key row values × (line ≡ 32 ∷ values_text values listed ++ 10 ∷ [])

-- one line for each row
abbrev pub AreRowLines : (ShownRow → List ℕ → Type 0) → List ShownRow → List ℕ → Type 0
AreRowLines IsLine [] lines = lines ≡ []
AreRowLines IsLine (row ∷ rows) lines = (first : List ℕ) × (later : List ℕ) × IsLine row first × AreRowLines IsLine rows later × (lines ≡ first ++ later)

abbrev pub rows_line : ℕ → ℕ → List ℕ
rows_line number count = decimal number ++ codes " rows " ++ decimal count ++ 10 ∷ []

-- COUNT(*) shows one row, the number of those that were found
abbrev pub count_lines : ℕ → ℕ → List ℕ
count_lines number count = rows_line number 1 ++ (32 ∷ decimal count ++ 10 ∷ [])

abbrev pub AreRowsOf : List Table → Partition → Columns → ℕ → List ShownRow → List ℕ → Type 0
AreRowsOf tables p (Listed listed) number rows lines =
    (behind : List ℕ) × AreRowLines (IsRowLine (columns_of tables p.table) p.key listed) rows behind × (lines ≡ rows_line number (length rows) ++ behind)
AreRowsOf tables p Count number rows lines = lines ≡ count_lines number (length rows)

-- rows of a read that never began are told by their number alone
abbrev pub AreRows : List Table → Option (Partition × Columns) → ℕ → List ShownRow → List ℕ → Type 0
AreRows tables None number rows lines = lines ≡ rows_line number (length rows)
AreRows tables (Some shape) number rows lines = AreRowsOf tables shape.0 shape.1 number rows lines

-- ---- answers, under the number of their request

abbrev pub acked_line : ℕ → List ℕ
acked_line number = decimal number ++ codes " ok" ++ 10 ∷ []

abbrev pub used_line : ℕ → List ℕ → List ℕ
used_line number keyspace = decimal number ++ codes " keyspace " ++ keyspace ++ 10 ∷ []

abbrev pub invalid_text : Invalid → List ℕ
invalid_text SerialWrite = codes "SerialWrite"
invalid_text Level = codes "Level"
invalid_text UnknownTable = codes "UnknownTable"
invalid_text PartitionTooLarge = codes "PartitionTooLarge"
invalid_text (Statement fault) = name_of fault

abbrev pub data_text : Bool → List ℕ
data_text true = codes " data 1"
data_text false = codes " data 0"

abbrev pub timeout_text : List ℕ → ℕ → ℕ → List ℕ → List ℕ
timeout_text name received blockfor last = name ++ codes " received " ++ decimal received ++ codes " blockfor " ++ decimal blockfor ++ last

abbrev pub refusal_text : Refusal → List ℕ
refusal_text (Unavailable required alive) = codes "unavailable required " ++ decimal required ++ codes " alive " ++ decimal alive
refusal_text (WriteTimeout received blockfor) = timeout_text (codes "write-timeout") received blockfor (codes " SIMPLE")
refusal_text (ReadTimeout received blockfor replied) = timeout_text (codes "read-timeout") received blockfor (data_text replied)
refusal_text Overloaded = codes "overloaded"
refusal_text (refusal.Invalid why) = codes "invalid " ++ invalid_text why
refusal_text Down = codes "down"

abbrev pub refused_line : ℕ → Refusal → List ℕ
refused_line number why = decimal number ++ 32 ∷ refusal_text why ++ 10 ∷ []

-- ---- what is told of a node itself

abbrev pub tables_text : ℕ → List ℕ
tables_text node = codes "tables " ++ decimal node

-- how many tables it has
abbrev pub tables_line : ℕ → ℕ → List ℕ
tables_line node count = tables_text node ++ 32 ∷ decimal count ++ 10 ∷ []

abbrev pub stopped_line : ℕ → List ℕ
stopped_line node = codes "stopped " ++ decimal node ++ 10 ∷ []

-- what an entry prints, behind those before it
abbrev pub IsEntryInPrint : List Table → List Entry → Entry → List ℕ → Type 0
IsEntryInPrint tables earlier (Asked request) lines = lines ≡ []
IsEntryInPrint tables earlier (Submitted request mutation) lines = lines ≡ []
IsEntryInPrint tables earlier (Acked request level heard) lines = lines ≡ acked_line (number_of earlier request)
IsEntryInPrint tables earlier (Refused request why) lines = lines ≡ refused_line (number_of earlier request) why
IsEntryInPrint tables earlier (Used request keyspace) lines = lines ≡ used_line (number_of earlier request) keyspace
IsEntryInPrint tables earlier (Began request query level columns) lines = lines ≡ []
IsEntryInPrint tables earlier (Rows request rows more grounds) lines = AreRows tables (shape_of earlier request) (number_of earlier request) rows lines
IsEntryInPrint tables earlier (Time node time) lines = lines ≡ []
IsEntryInPrint tables earlier (Marks node alive) lines = lines ≡ []
-- of the request that came last
IsEntryInPrint tables earlier (Turned node why) lines = lines ≡ refused_line (asked_count earlier) why
IsEntryInPrint tables earlier (Tables node count) lines = lines ≡ tables_line node count
IsEntryInPrint tables earlier (Stopped node) lines = lines ≡ stopped_line node

-- the text is the chronicle in print, for these tables by number
abbrev pub IsInPrint : List Table → List Entry → List ℕ → Type 0
IsInPrint tables [] text = text ≡ []
IsInPrint tables (e ∷ earlier) text =
    (before : List ℕ) × (lines : List ℕ) × IsInPrint tables earlier before × IsEntryInPrint tables earlier e lines × (text ≡ before ++ lines)
