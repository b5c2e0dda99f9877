-- What holds of a script that some text is read as, by going over the lines.
use Rattle.std.proofs.Common.{◌≡◌, inl, inr, ℕ, ◌+◌, ◌-◌, ◌≤◌, Bool, true, false, not, List, [], ◌∷◌, ◌++◌, Result, Ok, Err, length, refl, sym, ap, subst, arith, nat_lt, cond, eqb, length-append}
use Rattle.std.specs.Prelude.{IfOk, All, ◌&&◌}
use Rattle.std.specs.List.{list_all}
use Rattle.std.proofs.lemmas.Bool.{and_from, and_parts, ltb-false, not_from_false, cond_both}
use Rattle.std.proofs.lemmas.List.Elements.{All-nil, All-push, All-same}
use Rattle.cql_statement.specs.declared.statement.Statement.{Statement}
use Rattle.schema_book.specs.Books.{Book, book_of}
use Rattle.schema_book.specs.declared.error.Refused.{Refused}
use Rattle.fault_script.specs.declared.script.Script.{Script}
use Rattle.fault_script.specs.declared.script.ScriptEvent.{ScriptEvent}
use Rattle.fault_script.specs.declared.script.EventLine.{EventLine}
use Rattle.fault_script.specs.declared.script.EventLine.TheVariants as asks
use Rattle.fault_script.specs.declared.script.ScriptError.{ScriptError}
use Rattle.fault_script.specs.declared.script.ScriptError.TheVariants as refused
use Rattle.fault_script.specs.declared.script.Settings.{Settings}
use Rattle.fault_script.specs.declared.script.Fault.{Fault}
use Rattle.fault_script.specs.declared.script.HeadLine.{HeadLine}
use Rattle.fault_script.specs.declared.script.HeadLine.TheVariants as says
use Rattle.fault_script.specs.declared.reader.Opening.{Opening}
use Rattle.fault_script.specs.declared.reader.Stage.{Stage}
use Rattle.fault_script.specs.declared.reader.Stage.TheVariants as stage
use Rattle.script_words.specs.Words.{is_skipped, lines_of, onto_first}
use Rattle.fault_script.specs.Lines.{head_line, event_at}
use Rattle.fault_script.specs.Written.{WrittenSchema}
use Rattle.fault_script.specs.Script.{IsOneStatement, IsRead, IsReadBy, Reads, Goes, GoesBy, LineGoes, HeadGoes, EventGoes, with_event, cql_event, made_of, end_of, script_with, longest_script, most_lines, first_reader}
use Rattle.fault_script.specs.Laws.{AreStatements}
use Rattle.script_print.proofs.Bytes.{lacks}
use Rattle.script_print.proofs.EventFacts.{IsRest, IsFitEvent, FitLine, event_at_fits}
use Rattle.script_print.proofs.HeadFacts.{IsFitSettings, IsFitStage, IsFitLine, head_line_fits}

-- the type of a value
abbrev type_of : {T : Type 0} → T → Type 0
type_of {T} value = T

-- the readers of fault_script, which keeps the name of their type to itself
abbrev pub Reader : Type 0
Reader = type_of first_reader

-- ---- lines have no line feed

inline_onto : (b : ℕ) (lines : List (List ℕ)) → not (eqb b 10) ≡ true → list_all (lacks 10) lines ≡ true → list_all (lacks 10) (onto_first b lines) ≡ true
inline_onto b [] other h = and_from (not (eqb b 10) && true) true (and_from (not (eqb b 10)) true other refl) refl
inline_onto b (line ∷ lines) other h =
    let both = and_parts (lacks 10 line) (list_all (lacks 10) lines) h in
    and_from (not (eqb b 10) && lacks 10 line) (list_all (lacks 10) lines) (and_from (not (eqb b 10)) (lacks 10 line) other both.0) both.1

lines_are_inline : (text : List ℕ) → list_all (lacks 10) (lines_of text) ≡ true
lines_are_inline [] = refl
lines_are_inline (b ∷ text) =
    let rest = lines_are_inline text in
    cond_both (eqb b 10) ([] ∷ lines_of text) (onto_first b (lines_of text)) (λ (lines : List (List ℕ)). list_all (lacks 10) lines ≡ true) (λ _. rest) (λ other. inline_onto b (lines_of text) (not_from_false (eqb b 10) other) rest)

-- ---- what was read

abbrev StageFits : Stage → Type 0
StageFits (stage.Head next) = IsFitStage next
StageFits (stage.Events opening) = IsFitSettings opening.settings

-- the schema is what the statements make
abbrev HasBook : Stage → List Statement → Type 0
HasBook (stage.Head next) statements = Unit {0}
HasBook (stage.Events opening) statements = book_of (length opening.settings.ring) opening.settings.factor opening.settings.grace statements ≡ Ok opening.schema

-- events come behind the head alone, no more than one a line
abbrev HasEvents : ℕ → Stage → List ScriptEvent → Type 0
HasEvents number (stage.Head next) events = events ≡ []
HasEvents number (stage.Events opening) events = All (IsFitEvent (length opening.settings.ring)) events × (opening.first + length events ≤ number)

record Holds (number : ℕ) (s : Stage) (written : WrittenSchema) (events : List ScriptEvent) : Type 0 where
  stage : StageFits s
  texts : AreStatements written.texts written.statements
  rests : All IsRest written.texts
  book : HasBook s written.statements
  behind : HasEvents number s events

-- where `number` is the number of the next line
abbrev HoldsAt : ℕ → Reader → Type 0
HoldsAt number reader = Holds number reader.stage reader.written reader.events

-- ---- a line

are_more : (texts : List (List ℕ)) (statements : List Statement) (text : List ℕ) (s : Statement) → AreStatements texts statements → IsOneStatement text s → AreStatements (texts ++ text ∷ []) (statements ++ s ∷ [])
are_more [] [] text s are is = (is, tt)
are_more [] (t ∷ ts) text s are is = absurd are
are_more (x ∷ xs) [] text s are is = absurd are
are_more (x ∷ xs) (t ∷ ts) text s are is = (are.0, are_more xs ts text s are.1 is)

made_ok : (written : WrittenSchema) (r : Result Book Refused) (book : Book) → made_of written r ≡ Ok book → r ≡ Ok book
made_ok written (Ok b) book is = cc
made_ok written (Err r) book is = cc

head_goes : (n : ℕ) (s : Stage) (written : WrittenSchema) (events : List ScriptEvent) (r : Result HeadLine Fault) (read : Reader) → IfOk r IsFitLine → AreStatements written.texts written.statements → All IsRest written.texts → events ≡ [] → HeadGoes (record { number = n; stage = s; written = written; events = events }) r read → HoldsAt (n + 1) read × (read.number ≡ n)
head_goes n s written events (Ok (says.Next next)) read fits are rests none is =
    subst (λ (r : Reader). HoldsAt (n + 1) r × (r.number ≡ n)) (sym is) (record { stage = fits; texts = are; rests = rests; book = tt; behind = none }, refl)
head_goes n s written events (Ok (says.Schema settings text)) read fits are rests none goes =
    subst (λ (r : Reader). HoldsAt (n + 1) r × (r.number ≡ n)) (sym goes.2)
    (record { stage = fits.0; texts = are_more written.texts written.statements text goes.0 are goes.1; rests = All-push IsRest written.texts text rests fits.1; book = tt; behind = none }, refl)
head_goes n s written events (Ok (says.Run settings)) read fits are rests none goes =
    let count : length events ≡ 0 = ap length none in
    subst (λ (r : Reader). HoldsAt (n + 1) r × (r.number ≡ n)) (sym goes.2) (
      record {
        stage = fits;
        texts = are;
        rests = rests;
        book = made_ok written (book_of (length settings.ring) settings.factor settings.grace written.statements) goes.0 goes.1;
        behind = (All-same (IsFitEvent (length settings.ring)) events [] none (All-nil (IsFitEvent (length settings.ring))), omega (arith, count));
      },
      refl,
    )
head_goes n s written events (Err f) read fits are rests none goes = absurd goes

with_one : (n : ℕ) (opening : Opening) (written : WrittenSchema) (events : List ScriptEvent) (said : ScriptEvent) (read : Reader) → Holds n (stage.Events opening) written events
    → IsFitEvent (length opening.settings.ring) said → read ≡ with_event (record { number = n; stage = stage.Events opening; written = written; events = events }) said → HoldsAt (n + 1) read × (read.number ≡ n)
with_one n opening written events said read holds fits is =
    let count : length (events ++ said ∷ []) ≡ length events + 1 = length-append events (said ∷ []) in
    let before = holds.behind.1 in
    subst (λ (r : Reader). HoldsAt (n + 1) r × (r.number ≡ n)) (sym is) (
      record {
        stage = holds.stage;
        texts = holds.texts;
        rests = holds.rests;
        book = holds.book;
        behind = (All-push (IsFitEvent (length opening.settings.ring)) events said holds.behind.0 fits, omega (arith, count, before));
      },
      refl,
    )

event_goes : (n : ℕ) (opening : Opening) (written : WrittenSchema) (events : List ScriptEvent) (r : Result EventLine Fault) (read : Reader) → Holds n (stage.Events opening) written events → IfOk r (FitLine (length opening.settings.ring)) → EventGoes (record { number = n; stage = stage.Events opening; written = written; events = events }) r read → HoldsAt (n + 1) read × (read.number ≡ n)
event_goes n opening written events (Ok (asks.Event said)) read holds fits goes = with_one n opening written events said read holds fits goes
event_goes n opening written events (Ok (asks.Cql node level text)) read holds fits goes =
    with_one n opening written events (cql_event node level text goes.0) read holds (record { node = fits.0; text = fits.1 }) goes.2
event_goes n opening written events (Err f) read holds fits goes = absurd goes

line_goes : (n : ℕ) (s : Stage) (written : WrittenSchema) (events : List ScriptEvent) (line : List ℕ) (read : Reader) → lacks 10 line ≡ true → Holds n s written events → LineGoes s (record { number = n; stage = s; written = written; events = events }) line read → HoldsAt (n + 1) read × (read.number ≡ n)
line_goes n (stage.Head next) written events line read inline holds goes =
    head_goes n (stage.Head next) written events (head_line next line) read (head_line_fits next line inline holds.stage) holds.texts holds.rests holds.behind goes
line_goes n (stage.Events opening) written events line read inline holds goes =
    event_goes n opening written events (event_at (length opening.settings.ring) line) read holds (event_at_fits (length opening.settings.ring) line inline) goes

more_lines : (n : ℕ) (s : Stage) (events : List ScriptEvent) → HasEvents n s events → HasEvents (n + 1) s events
more_lines n (stage.Head next) events none = none
more_lines n (stage.Events opening) events has = let before = has.1 in (has.0, omega (arith, before))

skipped : (reader : Reader) → HoldsAt reader.number reader → HoldsAt (reader.number + 1) reader
skipped reader holds = record { stage = holds.stage; texts = holds.texts; rests = holds.rests; book = holds.book; behind = more_lines reader.number reader.stage reader.events holds.behind }

goes_by : (skips : Bool) (reader : Reader) (line : List ℕ) (read : Reader) → lacks 10 line ≡ true → HoldsAt reader.number reader → GoesBy skips reader line read → HoldsAt (reader.number + 1) read × (read.number ≡ reader.number)
goes_by true reader line read inline holds is = subst (λ (r : Reader). HoldsAt (reader.number + 1) r × (r.number ≡ reader.number)) (sym is) (skipped reader holds, refl)
goes_by false reader line read inline holds goes = line_goes reader.number reader.stage reader.written reader.events line read inline holds goes

goes_on : (reader : Reader) (line : List ℕ) (next : Reader) → lacks 10 line ≡ true → HoldsAt reader.number reader → Goes reader line next → HoldsAt next.number next
goes_on reader line next inline holds goes =
    let read = goes_by (is_skipped line) reader line goes.0 inline holds goes.1 in
    let same : reader.number + 1 ≡ goes.0.number + 1 = ap (λ (n : ℕ). n + 1) (sym read.1) in
    subst (λ (r : Reader). HoldsAt r.number r) (sym goes.2) (subst (λ (n : ℕ). HoldsAt n goes.0) same read.0)

-- ---- the script

abbrev pub settings_of : Script → Settings
settings_of script = record { ring = script.ring; factor = script.factor; grace = script.grace; expiry = script.expiry }

pub record IsFitScript (script : Script) : Type 0 where
  pub settings : IsFitSettings (settings_of script)
  pub parsed : List Statement
  pub texts : AreStatements script.statements parsed
  pub rests : All IsRest script.statements
  pub made : book_of (length script.ring) script.factor script.grace parsed ≡ Ok script.schema
  pub events : All (IsFitEvent (length script.ring)) script.events
  pub few : length script.events ≤ most_lines

ended : (n : ℕ) (many : Bool) (opening : Opening) (reader : Reader) → nat_lt most_lines (n - opening.first) ≡ many → Holds n (stage.Events opening) reader.written reader.events → IfOk (cond many (Err refused.TooMany) (Ok (script_with opening reader.written.texts reader.events))) IsFitScript
ended n true opening reader is holds = tt
ended n false opening reader is holds =
    let low = ltb-false most_lines (n - opening.first) is in
    let count = holds.behind.1 in
    record {
      settings = record { ring = holds.stage.ring; factor = holds.stage.factor; grace = holds.stage.grace; expiry = holds.stage.expiry };
      parsed = reader.written.statements;
      texts = holds.texts;
      rests = holds.rests;
      made = holds.book;
      events = holds.behind.0;
      few = omega (arith, low, count);
    }

ends : (n : ℕ) (s : Stage) (written : WrittenSchema) (events : List ScriptEvent) → Holds n s written events → IfOk (end_of (record { number = n; stage = s; written = written; events = events })) IsFitScript
ends n (stage.Head next) written events holds = tt
ends n (stage.Events opening) written events holds = ended n (nat_lt most_lines (n - opening.first)) opening (record { number = n; stage = stage.Events opening; written = written; events = events }) refl holds

reads_fit : (reader : Reader) (lines : List (List ℕ)) (r : Result Script ScriptError) → list_all (lacks 10) lines ≡ true → HoldsAt reader.number reader → Reads reader lines r → IfOk r IsFitScript
reads_fit reader [] r inline holds is = subst (λ (x : Result Script ScriptError). IfOk x IsFitScript) (sym is) (ends reader.number reader.stage reader.written reader.events holds)
reads_fit reader (line ∷ lines) r inline holds (inl goes) =
    let both = and_parts (lacks 10 line) (list_all (lacks 10) lines) inline in
    reads_fit goes.0 lines r both.1 (goes_on reader line goes.0 both.0 holds goes.1) goes.2
reads_fit reader (line ∷ lines) r inline holds (inr stops) = subst (λ (x : Result Script ScriptError). IfOk x IsFitScript) (sym stops.2) tt

first_holds : HoldsAt 1 first_reader
first_holds = record { stage = tt; texts = tt; rests = All-nil IsRest; book = tt; behind = refl }

read_by : (long : Bool) (text : List ℕ) (r : Result Script ScriptError) → IsReadBy long text r → IfOk r IsFitScript
read_by true text r is = subst (λ (x : Result Script ScriptError). IfOk x IsFitScript) (sym is) tt
read_by false text r reads = reads_fit first_reader (lines_of text) r (lines_are_inline text) first_holds reads

pub script_fits : (text : List ℕ) (script : Script) → IsRead text (Ok script) → IsFitScript script
script_fits text script is = read_by (nat_lt longest_script (length text)) text (Ok script) is
