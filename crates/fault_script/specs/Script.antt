-- Which texts are scripts, and what the others are refused for.
use Rattle.std.specs.Prelude.{◌≡◌, ◌≤◌, ◌⊎◌, ℕ, ◌+◌, ◌-◌, Bool, true, false, nat_lt, if◌then◌else◌, Option, None, Some, Result, Ok, Err, List, [], ◌∷◌, ◌++◌, length}
use Rattle.cql_tokens.specs.declared.token.Token.{Token}
use Rattle.cs_base.specs.declared.level.Level.{Level}
use Rattle.cql_statement.specs.declared.statement.Statement.{Statement}
use Rattle.cql_parser.specs.declared.error.ParseError.{ParseError}
use Rattle.cql_parser.specs.declared.error.ParseError.TheVariants as cql
use Rattle.cql_parser.specs.Parsing.{IsStatement, IsRefused, most_tokens}
use Rattle.schema_book.specs.Books.{Book, book_of}
use Rattle.schema_book.specs.declared.error.Refused.{Refused}
use Rattle.fault_script.specs.declared.script.Script.{Script}
use Rattle.fault_script.specs.declared.script.ScriptEvent.{ScriptEvent}
use Rattle.fault_script.specs.declared.script.ScriptEvent.TheVariants as event
use Rattle.fault_script.specs.declared.script.EventLine.{EventLine}
use Rattle.fault_script.specs.declared.script.EventLine.TheVariants as asks
use Rattle.fault_script.specs.declared.script.Fault.{Fault}
use Rattle.fault_script.specs.declared.script.Fault.TheVariants as fault
use Rattle.fault_script.specs.declared.script.ScriptError.{ScriptError}
use Rattle.fault_script.specs.declared.script.ScriptError.TheVariants as refused
use Rattle.fault_script.specs.declared.script.Settings.{Settings}
use Rattle.fault_script.specs.declared.script.HeadStage.{HeadStage}
use Rattle.fault_script.specs.declared.script.HeadStage.TheVariants as head
use Rattle.fault_script.specs.declared.script.HeadLine.{HeadLine}
use Rattle.fault_script.specs.declared.script.HeadLine.TheVariants as says
use Rattle.fault_script.specs.declared.reader.Opening.{Opening}
use Rattle.fault_script.specs.declared.reader.Stage.{Stage}
use Rattle.fault_script.specs.declared.reader.Stage.TheVariants as stage
use Rattle.fault_script.specs.declared.reader.Reader.{Reader}
use Rattle.script_words.specs.Words.{lines_of, is_skipped}
use Rattle.fault_script.specs.Lines.{head_line, event_at}
use Rattle.fault_script.specs.Written.{WrittenSchema, no_statements, with_line, line_of}

-- ---- statements

-- the text is this statement, of no more tokens than there may be
abbrev pub IsOneStatement : List ℕ → Statement → Type 0
IsOneStatement text s = (tokens : List Token) × IsStatement text tokens s × (length tokens ≤ most_tokens)

-- the place of a refusal; of too many tokens it is the text's length
abbrev pub offset_of : List ℕ → ParseError → Option ℕ
offset_of text (cql.Char at) = Some at
offset_of text (cql.Unexpected at) = Some at
offset_of text (cql.Unclosed at) = Some at
offset_of text cql.TooLong = Some (length text)
offset_of text cql.NoMemory = None

-- the text is no statement, and this is where it stops to be one
abbrev pub IsRefusedAt : List ℕ → ℕ → Type 0
IsRefusedAt text at = (e : ParseError) × IsRefused text e × (offset_of text e ≡ Some at)

-- the text of line n is no statement
abbrev pub IsRefusedCql : ℕ → List ℕ → ScriptError → Type 0
IsRefusedCql n text e = (at : ℕ) × IsRefusedAt text at × (e ≡ refused.Cql n at)

-- ---- the schema

-- what the statements make, or the line of the one that is refused
abbrev pub made_of : WrittenSchema → Result Book Refused → Result Book ScriptError
made_of written (Ok book) = Ok book
made_of written (Err r) = Err (refused.Head (line_of written r.statement))

abbrev pub schema_of : Settings → WrittenSchema → Result Book ScriptError
schema_of settings written = made_of written (book_of (length settings.ring) settings.factor settings.grace written.statements)

-- ---- the reader of lines: which line is next, what it has to be, and what was read so far

abbrev pub first_reader : Reader
first_reader = record { number = 1; stage = stage.Head head.Version; written = no_statements; events = [] }

-- behind one line more
abbrev pub counted : Reader → Reader
counted reader = record reader { number = reader.number + 1 }

abbrev pub with_stage : Reader → HeadStage → Reader
with_stage reader next = record reader { stage = stage.Head next }

abbrev pub with_statement : Reader → Settings → List ℕ → Statement → Reader
with_statement reader settings text s =
    record reader { stage = stage.Head (head.Schema settings); written = with_line reader.written reader.number text s }

-- the line is `run`, and the events stand from the next one on
abbrev pub opened : Reader → Settings → Book → Reader
opened reader settings schema =
    record reader { stage = stage.Events (record { settings = settings; schema = schema; first = reader.number + 1 }) }

abbrev pub with_event : Reader → ScriptEvent → Reader
with_event reader event = record reader { events = reader.events ++ event ∷ [] }

-- ---- lines that take the reader on

-- what a line of the head says, and what was read then
abbrev pub HeadGoes : Reader → Result HeadLine Fault → Reader → Type 0
HeadGoes reader (Ok (says.Next next)) read = read ≡ with_stage reader next
HeadGoes reader (Ok (says.Schema settings text)) read = (s : Statement) × IsOneStatement text s × (read ≡ with_statement reader settings text s)
HeadGoes reader (Ok (says.Run settings)) read = (schema : Book) × (schema_of settings reader.written ≡ Ok schema) × (read ≡ opened reader settings schema)
HeadGoes reader (Err f) read = ⊥

-- the statement of an event is that of its text
abbrev pub IsSaid : ScriptEvent → Type 0
IsSaid (event.Put put) = Unit {0}
IsSaid (event.Get get) = Unit {0}
IsSaid (event.Cql request) = IsOneStatement request.text request.statement
IsSaid (event.Deliver place) = Unit {0}
IsSaid (event.Drop place) = Unit {0}
IsSaid (event.Settle count) = Unit {0}
IsSaid (event.Clock node micros) = Unit {0}
IsSaid (event.Mark node peer up) = Unit {0}
IsSaid (event.Crash node outcome) = Unit {0}
IsSaid (event.StopAt node call outcome) = Unit {0}
IsSaid (event.FailAt node call) = Unit {0}
IsSaid (event.Restart node) = Unit {0}
IsSaid (event.Flush node) = Unit {0}
IsSaid (event.Merge node) = Unit {0}

abbrev pub cql_event : ℕ → Level → List ℕ → Statement → ScriptEvent
cql_event node level text s = event.Cql (record { node = node; level = level; text = text; statement = s })

-- the text of a statement is read
abbrev pub EventGoes : Reader → Result EventLine Fault → Reader → Type 0
EventGoes reader (Ok (asks.Event event)) read = read ≡ with_event reader event
EventGoes reader (Ok (asks.Cql node level text)) read =
    (s : Statement) × IsOneStatement text s × (read ≡ with_event reader (cql_event node level text s))
EventGoes reader (Err f) read = ⊥

abbrev pub LineGoes : Stage → Reader → List ℕ → Reader → Type 0
LineGoes (stage.Head next) reader line read = HeadGoes reader (head_line next line) read
LineGoes (stage.Events opening) reader line read = EventGoes reader (event_at (length opening.settings.ring) line) read

-- a line that is skipped says nothing
abbrev pub GoesBy : Bool → Reader → List ℕ → Reader → Type 0
GoesBy true reader line read = read ≡ reader
GoesBy false reader line read = LineGoes reader.stage reader line read

-- the line takes the reader on
abbrev pub Goes : Reader → List ℕ → Reader → Type 0
Goes reader line next = (read : Reader) × GoesBy (is_skipped line) reader line read × (next ≡ counted read)

-- ---- lines that are refused

abbrev pub refusal : Fault → ℕ → ScriptError
refusal fault.Head n = refused.Head n
refusal fault.Line n = refused.Line n
refusal fault.Number n = refused.Number n

abbrev pub refused_or : Result Book ScriptError → ScriptError → ScriptError
refused_or (Ok schema) e = e
refused_or (Err refusal) e = refusal

-- a refusal in the head, or that of the schema, which stands before it
abbrev pub head_refusal : HeadStage → WrittenSchema → ScriptError → ScriptError
head_refusal head.Version written e = e
head_refusal head.Ring written e = e
head_refusal (head.Factor ring) written e = e
head_refusal (head.Grace settings) written e = e
head_refusal (head.Expiry settings) written e = e
head_refusal (head.Schema settings) written e = refused_or (schema_of settings written) e

abbrev pub first_refusal : Stage → WrittenSchema → ScriptError → ScriptError
first_refusal (stage.Head next) written e = head_refusal next written e
first_refusal (stage.Events opening) written e = e

abbrev pub HeadStops : Reader → Result HeadLine Fault → ScriptError → Type 0
HeadStops reader (Ok (says.Next next)) e = ⊥
HeadStops reader (Ok (says.Schema settings text)) e =
    (at : ℕ) × IsRefusedAt text at × (e ≡ first_refusal reader.stage reader.written (refused.Cql reader.number at))
HeadStops reader (Ok (says.Run settings)) e = schema_of settings reader.written ≡ Err e
HeadStops reader (Err f) e = e ≡ first_refusal reader.stage reader.written (refusal f reader.number)

-- the CQL of a line is refused
abbrev pub IsRefusedEvent : ℕ → EventLine → ScriptError → Type 0
IsRefusedEvent n (asks.Event event) e = ⊥
IsRefusedEvent n (asks.Cql node level text) e = IsRefusedCql n text e

abbrev pub EventStops : Reader → Result EventLine Fault → ScriptError → Type 0
EventStops reader (Ok line) e = IsRefusedEvent reader.number line e
EventStops reader (Err f) e = e ≡ refusal f reader.number

abbrev pub LineStops : Stage → Reader → List ℕ → ScriptError → Type 0
LineStops (stage.Head next) reader line e = HeadStops reader (head_line next line) e
LineStops (stage.Events opening) reader line e = EventStops reader (event_at (length opening.settings.ring) line) e

abbrev pub StopsBy : Bool → Reader → List ℕ → ScriptError → Type 0
StopsBy true reader line e = ⊥
StopsBy false reader line e = LineStops reader.stage reader line e

-- the line is refused for this
abbrev pub Stops : Reader → List ℕ → ScriptError → Type 0
Stops reader line e = StopsBy (is_skipped line) reader line e

-- ---- the end of the text

-- the most lines behind `run`
abbrev pub most_lines : ℕ
most_lines = 1000000

abbrev pub script_with : Opening → List (List ℕ) → List ScriptEvent → Script
script_with opening statements events = record {
  ring = opening.settings.ring;
  factor = opening.settings.factor;
  grace = opening.settings.grace;
  expiry = opening.settings.expiry;
  statements = statements;
  schema = opening.schema;
  events = events;
}

abbrev pub end_at : Stage → Reader → Result Script ScriptError
end_at (stage.Head next) reader = Err (head_refusal next reader.written (refused.Head reader.number))
end_at (stage.Events opening) reader =
    if nat_lt most_lines (reader.number - opening.first) then Err refused.TooMany else Ok (script_with opening reader.written.texts reader.events)

abbrev pub end_of : Reader → Result Script ScriptError
end_of reader = end_at reader.stage reader

-- ---- the script

-- the lines from the next one on give this; the first that is refused decides
abbrev pub Reads : Reader → List (List ℕ) → Result Script ScriptError → Type 0
Reads reader [] r = r ≡ end_of reader
Reads reader (line ∷ lines) r =
    ((next : Reader) × Goes reader line next × Reads next lines r) ⊎ ((e : ScriptError) × Stops reader line e × (r ≡ Err e))

-- the longest script, 64 MiB
abbrev pub longest_script : ℕ
longest_script = 67108864

abbrev pub IsReadBy : Bool → List ℕ → Result Script ScriptError → Type 0
IsReadBy true text r = r ≡ Err refused.TooLong
IsReadBy false text r = Reads first_reader (lines_of text) r

-- the text is this script, or is refused for this
abbrev pub IsRead : List ℕ → Result Script ScriptError → Type 0
IsRead text r = IsReadBy (nat_lt longest_script (length text)) text r
