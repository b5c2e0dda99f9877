-- What holds of each script, by going over its lines.
use Rattle.std.proofs.Common.{◌≡◌, inl, inr, ℕ, ◌-◌, Bool, true, false, List, [], ◌∷◌, ◌++◌, Result, Ok, Err, length, refl, sym, subst, nat_lt, cond}
use Rattle.std.specs.Prelude.{IfOk, All}
use Rattle.std.proofs.lemmas.List.Elements.{All-nil, All-push, All-same}
use Rattle.cql_statement.specs.declared.statement.Statement.{Statement}
use Rattle.schema_book.specs.Books.{Book, book_of}
use Rattle.schema_book.specs.declared.error.Refused.{Refused}
use Rattle.fault_script.specs.declared.script.Script.{Script}
use Rattle.fault_script.specs.declared.script.ScriptEvent.{ScriptEvent}
use Rattle.fault_script.specs.declared.script.EventLine.{EventLine}
use Rattle.fault_script.specs.declared.script.EventLine.TheVariants as asks
use Rattle.fault_script.specs.declared.script.ScriptError.{ScriptError}
use Rattle.fault_script.specs.declared.script.ScriptError.TheVariants as refused
use Rattle.fault_script.specs.declared.script.Fault.{Fault}
use Rattle.fault_script.specs.declared.script.HeadLine.{HeadLine}
use Rattle.fault_script.specs.declared.script.HeadLine.TheVariants as says
use Rattle.fault_script.specs.declared.reader.Opening.{Opening}
use Rattle.fault_script.specs.declared.reader.Stage.{Stage}
use Rattle.fault_script.specs.declared.reader.Stage.TheVariants as stage
use Rattle.fault_script.specs.declared.reader.Reader.{Reader}
use Rattle.script_words.specs.Words.{is_skipped, lines_of}
use Rattle.fault_script.specs.Lines.{head_line, event_at}
use Rattle.fault_script.specs.Written.{WrittenSchema}
use Rattle.fault_script.specs.Script.{IsOneStatement, IsSaid, IsRead, IsReadBy, Reads, Goes, GoesBy, LineGoes, HeadGoes, EventGoes, with_event, cql_event, made_of, end_of, script_with, longest_script, most_lines, first_reader}
use Rattle.fault_script.specs.Laws.{HasExpiry, HasRing, HasSchema, IsAtNodes, AreStatements}
use Rattle.fault_script.proofs.HeadHolds.{AreSettings, Knows, Says, head_line_holds}
use Rattle.fault_script.proofs.EventHolds.{SaysAtNodes, event_at_holds}

-- ---- what was read

abbrev pub KnowsRing : Stage → Type 0
KnowsRing (stage.Head next) = Knows next
KnowsRing (stage.Events opening) = AreSettings opening.settings.ring opening.settings.factor opening.settings.expiry

-- the schema is what the statements make
abbrev pub HasBook : Stage → List Statement → Type 0
HasBook (stage.Head next) statements = Unit {0}
HasBook (stage.Events opening) statements = book_of (length opening.settings.ring) opening.settings.factor opening.settings.grace statements ≡ Ok opening.schema

-- events come behind the head alone, at nodes of the ring
abbrev pub HasEvents : Stage → List ScriptEvent → Type 0
HasEvents (stage.Head next) events = events ≡ []
HasEvents (stage.Events opening) events = All (IsAtNodes (length opening.settings.ring)) events × All IsSaid events

pub record Holds (s : Stage) (written : WrittenSchema) (events : List ScriptEvent) : Type 0 where
  pub ring : KnowsRing s
  pub texts : AreStatements written.texts written.statements
  pub book : HasBook s written.statements
  pub behind : HasEvents s events

abbrev pub IsReader : Reader → Type 0
IsReader reader = Holds reader.stage reader.written reader.events

-- ---- a line

are_more : (texts : List (List ℕ)) (statements : List Statement) (text : List ℕ) (s : Statement) → AreStatements texts statements → IsOneStatement text s → AreStatements (texts ++ text ∷ []) (statements ++ s ∷ [])
are_more [] [] text s are is = (is, tt)
are_more [] (t ∷ ts) text s are is = absurd are
are_more (x ∷ xs) [] text s are is = absurd are
are_more (x ∷ xs) (t ∷ ts) text s are is = (are.0, are_more xs ts text s are.1 is)

made_ok : (written : WrittenSchema) (r : Result Book Refused) (book : Book) → made_of written r ≡ Ok book → r ≡ Ok book
made_ok written (Ok b) book is = cc
made_ok written (Err r) book is = cc

head_goes : (n : ℕ) (s : Stage) (written : WrittenSchema) (events : List ScriptEvent) (r : Result HeadLine Fault) (read : Reader) → IfOk r Says → AreStatements written.texts written.statements → events ≡ [] → HeadGoes (record { number = n; stage = s; written = written; events = events }) r read → IsReader read
head_goes n s written events (Ok (says.Next next)) read knows are none is =
    subst IsReader (sym is) (record { ring = knows; texts = are; book = tt; behind = none })
head_goes n s written events (Ok (says.Schema settings text)) read knows are none goes =
    subst IsReader (sym goes.2) (record { ring = knows; texts = are_more written.texts written.statements text goes.0 are goes.1; book = tt; behind = none })
head_goes n s written events (Ok (says.Run settings)) read knows are none goes =
    subst IsReader (sym goes.2) (record {
      ring = knows;
      texts = are;
      book = made_ok written (book_of (length settings.ring) settings.factor settings.grace written.statements) goes.0 goes.1;
      behind = (All-same (IsAtNodes (length settings.ring)) events [] none (All-nil (IsAtNodes (length settings.ring))), All-same IsSaid events [] none (All-nil IsSaid));
    })
head_goes n s written events (Err f) read knows are none goes = absurd goes

with_one : (n : ℕ) (opening : Opening) (written : WrittenSchema) (events : List ScriptEvent) (event : ScriptEvent) (read : Reader) → Holds (stage.Events opening) written events
    → IsAtNodes (length opening.settings.ring) event → IsSaid event → read ≡ with_event (record { number = n; stage = stage.Events opening; written = written; events = events }) event → IsReader read
with_one n opening written events event read holds at said is =
    subst IsReader (sym is) (record {
      ring = holds.ring;
      texts = holds.texts;
      book = holds.book;
      behind = (All-push (IsAtNodes (length opening.settings.ring)) events event holds.behind.0 at, All-push IsSaid events event holds.behind.1 said);
    })

event_goes : (n : ℕ) (opening : Opening) (written : WrittenSchema) (events : List ScriptEvent) (r : Result EventLine Fault) (read : Reader) → Holds (stage.Events opening) written events → IfOk r (SaysAtNodes (length opening.settings.ring)) → EventGoes (record { number = n; stage = stage.Events opening; written = written; events = events }) r read → IsReader read
event_goes n opening written events (Ok (asks.Event event)) read holds at goes = with_one n opening written events event read holds at.0 at.1 goes
event_goes n opening written events (Ok (asks.Cql node level text)) read holds at goes =
    with_one n opening written events (cql_event node level text goes.0) read holds at goes.1 goes.2
event_goes n opening written events (Err f) read holds at goes = absurd goes

line_goes : (n : ℕ) (s : Stage) (written : WrittenSchema) (events : List ScriptEvent) (line : List ℕ) (read : Reader) → Holds s written events → LineGoes s (record { number = n; stage = s; written = written; events = events }) line read → IsReader read
line_goes n (stage.Head next) written events line read holds goes =
    head_goes n (stage.Head next) written events (head_line next line) read (head_line_holds next line holds.ring) holds.texts holds.behind goes
line_goes n (stage.Events opening) written events line read holds goes =
    event_goes n opening written events (event_at (length opening.settings.ring) line) read holds (event_at_holds (length opening.settings.ring) line holds.ring.ring.some) goes

goes_by : (skipped : Bool) (reader : Reader) (line : List ℕ) (read : Reader) → IsReader reader → GoesBy skipped reader line read → IsReader read
goes_by true reader line read holds is = subst IsReader (sym is) holds
goes_by false reader line read holds goes = line_goes reader.number reader.stage reader.written reader.events line read holds goes

goes_on : (reader : Reader) (line : List ℕ) (next : Reader) → IsReader reader → Goes reader line next → IsReader next
goes_on reader line next holds goes =
    let read = goes_by (is_skipped line) reader line goes.0 holds goes.1 in
    subst IsReader (sym goes.2) (record { ring = read.ring; texts = read.texts; book = read.book; behind = read.behind })

-- ---- the script

pub record IsScript (script : Script) : Type 0 where
  pub ring : HasRing script
  pub expiry : HasExpiry script
  pub schema : HasSchema script
  pub nodes : All (IsAtNodes (length script.ring)) script.events
  pub said : All IsSaid script.events

ended : (many : Bool) (opening : Opening) (reader : Reader) → Holds (stage.Events opening) reader.written reader.events → IfOk (cond many (Err refused.TooMany) (Ok (script_with opening reader.written.texts reader.events))) IsScript
ended true opening reader holds = tt
ended false opening reader holds = record {
  ring = record { ring = holds.ring.ring; some = holds.ring.some; few = holds.ring.few };
  expiry = record { least = holds.ring.least; most = holds.ring.most };
  schema = record { statements = reader.written.statements; written = holds.texts; made = holds.book };
  nodes = holds.behind.0;
  said = holds.behind.1;
}

ends : (n : ℕ) (s : Stage) (written : WrittenSchema) (events : List ScriptEvent) → Holds s written events → IfOk (end_of (record { number = n; stage = s; written = written; events = events })) IsScript
ends n (stage.Head next) written events holds = tt
ends n (stage.Events opening) written events holds = ended (nat_lt most_lines (n - opening.first)) opening (record { number = n; stage = stage.Events opening; written = written; events = events }) holds

reads_hold : (reader : Reader) (lines : List (List ℕ)) (r : Result Script ScriptError) → IsReader reader → Reads reader lines r → IfOk r IsScript
reads_hold reader [] r holds is = subst (λ (x : Result Script ScriptError). IfOk x IsScript) (sym is) (ends reader.number reader.stage reader.written reader.events holds)
reads_hold reader (line ∷ lines) r holds (inl goes) = reads_hold goes.0 lines r (goes_on reader line goes.0 holds goes.1) goes.2
reads_hold reader (line ∷ lines) r holds (inr stops) = subst (λ (x : Result Script ScriptError). IfOk x IsScript) (sym stops.2) tt

first_holds : IsReader first_reader
first_holds = record { ring = tt; texts = tt; book = tt; behind = refl }

read_by : (long : Bool) (text : List ℕ) (r : Result Script ScriptError) → IsReadBy long text r → IfOk r IsScript
read_by true text r is = subst (λ (x : Result Script ScriptError). IfOk x IsScript) (sym is) tt
read_by false text r reads = reads_hold first_reader (lines_of text) r first_holds reads

pub script_holds : (text : List ℕ) (script : Script) → IsRead text (Ok script) → IsScript script
script_holds text script is = read_by (nat_lt longest_script (length text)) text (Ok script) is
