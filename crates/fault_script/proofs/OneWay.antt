-- A text is read in one way.
use Rattle.std.proofs.Common.{◌≡◌, inl, inr, ℕ, Bool, true, false, List, [], ◌∷◌, length, Some, None, Result, Ok, Err, sym, ◌∙◌, ap, subst, nat_lt}
use Rattle.cql_statement.specs.declared.statement.Statement.{Statement}
use Rattle.cql_parser.specs.declared.error.ParseError.{ParseError}
use Rattle.cql_parser.specs.declared.error.ParseError.TheVariants as cql
use Rattle.cql_parser.specs.Parsing.{OneReading, OneRefusal, NoRefusal}
use Rattle.fault_script.specs.declared.script.Script.{Script}
use Rattle.fault_script.specs.declared.script.EventLine.{EventLine}
use Rattle.fault_script.specs.declared.script.EventLine.TheVariants as asks
use Rattle.fault_script.specs.declared.script.ScriptError.{ScriptError}
use Rattle.fault_script.specs.declared.script.ScriptError.TheVariants as refused
use Rattle.fault_script.specs.declared.script.Fault.{Fault}
use Rattle.fault_script.specs.declared.script.HeadLine.{HeadLine}
use Rattle.fault_script.specs.declared.script.HeadLine.TheVariants as says
use Rattle.fault_script.specs.declared.reader.Stage.{Stage}
use Rattle.fault_script.specs.declared.reader.Stage.TheVariants as stage
use Rattle.fault_script.specs.declared.reader.Reader.{Reader}
use Rattle.script_words.specs.Words.{is_skipped, lines_of}
use Rattle.fault_script.specs.Lines.{head_line, event_at}
use Rattle.fault_script.specs.Script.{IsOneStatement, IsRefusedAt, offset_of, schema_of, with_statement, with_event, cql_event, opened, counted, first_refusal, HeadGoes, HeadStops, EventGoes, EventStops, IsRefusedEvent, LineGoes, LineStops, GoesBy, StopsBy, Goes, Reads, IsReadBy, IsRead, first_reader, longest_script}

-- the laws of statements
pub record CqlLaws : Type 0 where
  pub reading : OneReading
  pub refusal : OneRefusal
  pub none : NoRefusal

-- ---- statements

one_statement : CqlLaws → (text : List ℕ) (s t : Statement) → IsOneStatement text s → IsOneStatement text t → s ≡ t
one_statement laws text s t a b = laws.reading text a.0 b.0 s t a.1 b.1

some_is_none : {T : Type 0} (x : T) → Some x ≡ None → ⊥
some_is_none x h = cc

no_memory : (text : List ℕ) (e : ParseError) (at : ℕ) → offset_of text e ≡ Some at → e ≡ cql.NoMemory → ⊥
no_memory text e at is memory = some_is_none at (sym is ∙ ap (offset_of text) memory)

some_same : {T : Type 0} (x y : T) → Some x ≡ Some y → x ≡ y
some_same x y h = cc

one_offset : CqlLaws → (text : List ℕ) (i j : ℕ) → IsRefusedAt text i → IsRefusedAt text j → i ≡ j
one_offset laws text i j a b =
    let same : a.0 ≡ b.0 = laws.refusal text a.0 b.0 a.1 b.1 (no_memory text a.0 i a.2) (no_memory text b.0 j b.2) in
    some_same i j (sym a.2 ∙ (ap (offset_of text) same ∙ b.2))

not_both : CqlLaws → (text : List ℕ) (s : Statement) (at : ℕ) → IsOneStatement text s → IsRefusedAt text at → ⊥
not_both laws text s at one is = laws.none text one.0 s is.0 one.1 one.2 is.1 (no_memory text is.0 at is.2)

-- ---- lines of the head

ok_same : {T E : Type 0} (r : Result T E) (x y : T) → r ≡ Ok x → r ≡ Ok y → x ≡ y
ok_same r x y h k = cc

err_same : {T E : Type 0} (r : Result T E) (x y : E) → r ≡ Err x → r ≡ Err y → x ≡ y
err_same r x y h k = cc

ok_and_err : {T E : Type 0} (r : Result T E) (x : T) (y : E) → r ≡ Ok x → r ≡ Err y → ⊥
ok_and_err r x y h k = cc

head_goes_one : CqlLaws → (reader : Reader) (r : Result HeadLine Fault) (a b : Reader) → HeadGoes reader r a → HeadGoes reader r b → a ≡ b
head_goes_one laws reader (Ok (says.Next next)) a b g h = g ∙ sym h
head_goes_one laws reader (Ok (says.Schema settings text)) a b g h =
    g.2 ∙ (ap (with_statement reader settings text) (one_statement laws text g.0 h.0 g.1 h.1) ∙ sym h.2)
head_goes_one laws reader (Ok (says.Run settings)) a b g h =
    g.2 ∙ (ap (opened reader settings) (ok_same (schema_of settings reader.written) g.0 h.0 g.1 h.1) ∙ sym h.2)
head_goes_one laws reader (Err f) a b g h = absurd g

abbrev refused_at : Reader → ℕ → ScriptError
refused_at reader at = first_refusal reader.stage reader.written (refused.Cql reader.number at)

head_stops_one : CqlLaws → (reader : Reader) (r : Result HeadLine Fault) (a b : ScriptError) → HeadStops reader r a → HeadStops reader r b → a ≡ b
head_stops_one laws reader (Ok (says.Next next)) a b g h = absurd g
head_stops_one laws reader (Ok (says.Schema settings text)) a b g h = g.2 ∙ (ap (refused_at reader) (one_offset laws text g.0 h.0 g.1 h.1) ∙ sym h.2)
head_stops_one laws reader (Ok (says.Run settings)) a b g h = err_same (schema_of settings reader.written) a b g h
head_stops_one laws reader (Err f) a b g h = g ∙ sym h

head_not_both : CqlLaws → (reader : Reader) (r : Result HeadLine Fault) (a : Reader) (e : ScriptError) → HeadGoes reader r a → HeadStops reader r e → ⊥
head_not_both laws reader (Ok (says.Next next)) a e g s = s
head_not_both laws reader (Ok (says.Schema settings text)) a e g s = not_both laws text g.0 s.0 g.1 s.1
head_not_both laws reader (Ok (says.Run settings)) a e g s = ok_and_err (schema_of settings reader.written) g.0 e g.1 s
head_not_both laws reader (Err f) a e g s = g

-- ---- events

event_goes_one : CqlLaws → (reader : Reader) (r : Result EventLine Fault) (a b : Reader) → EventGoes reader r a → EventGoes reader r b → a ≡ b
event_goes_one laws reader (Ok (asks.Event event)) a b g h = g ∙ sym h
event_goes_one laws reader (Ok (asks.Cql node level text)) a b g h =
    g.2 ∙ (ap (λ (s : Statement). with_event reader (cql_event node level text s)) (one_statement laws text g.0 h.0 g.1 h.1) ∙ sym h.2)
event_goes_one laws reader (Err f) a b g h = absurd g

refused_one : CqlLaws → (n : ℕ) (said : EventLine) (a b : ScriptError) → IsRefusedEvent n said a → IsRefusedEvent n said b → a ≡ b
refused_one laws n (asks.Event event) a b g h = absurd g
refused_one laws n (asks.Cql node level text) a b g h = g.2 ∙ (ap (refused.Cql n) (one_offset laws text g.0 h.0 g.1 h.1) ∙ sym h.2)

event_stops_one : CqlLaws → (reader : Reader) (r : Result EventLine Fault) (a b : ScriptError) → EventStops reader r a → EventStops reader r b → a ≡ b
event_stops_one laws reader (Ok said) a b g h = refused_one laws reader.number said a b g h
event_stops_one laws reader (Err f) a b g h = g ∙ sym h

event_not_both : CqlLaws → (reader : Reader) (r : Result EventLine Fault) (a : Reader) (e : ScriptError) → EventGoes reader r a → EventStops reader r e → ⊥
event_not_both laws reader (Ok (asks.Event event)) a e g s = s
event_not_both laws reader (Ok (asks.Cql node level text)) a e g s = not_both laws text g.0 s.0 g.1 s.1
event_not_both laws reader (Err f) a e g s = g

-- ---- lines

line_goes_one : CqlLaws → (s : Stage) (reader : Reader) (line : List ℕ) (a b : Reader) → LineGoes s reader line a → LineGoes s reader line b → a ≡ b
line_goes_one laws (stage.Head next) reader line a b g h = head_goes_one laws reader (head_line next line) a b g h
line_goes_one laws (stage.Events opening) reader line a b g h = event_goes_one laws reader (event_at (length opening.settings.ring) line) a b g h

line_stops_one : CqlLaws → (s : Stage) (reader : Reader) (line : List ℕ) (a b : ScriptError) → LineStops s reader line a → LineStops s reader line b → a ≡ b
line_stops_one laws (stage.Head next) reader line a b g h = head_stops_one laws reader (head_line next line) a b g h
line_stops_one laws (stage.Events opening) reader line a b g h = event_stops_one laws reader (event_at (length opening.settings.ring) line) a b g h

line_not_both : CqlLaws → (s : Stage) (reader : Reader) (line : List ℕ) (a : Reader) (e : ScriptError) → LineGoes s reader line a → LineStops s reader line e → ⊥
line_not_both laws (stage.Head next) reader line a e g h = head_not_both laws reader (head_line next line) a e g h
line_not_both laws (stage.Events opening) reader line a e g h = event_not_both laws reader (event_at (length opening.settings.ring) line) a e g h

goes_by_one : CqlLaws → (skipped : Bool) (reader : Reader) (line : List ℕ) (a b : Reader) → GoesBy skipped reader line a → GoesBy skipped reader line b → a ≡ b
goes_by_one laws true reader line a b g h = g ∙ sym h
goes_by_one laws false reader line a b g h = line_goes_one laws reader.stage reader line a b g h

stops_by_one : CqlLaws → (skipped : Bool) (reader : Reader) (line : List ℕ) (a b : ScriptError) → StopsBy skipped reader line a → StopsBy skipped reader line b → a ≡ b
stops_by_one laws true reader line a b g h = absurd g
stops_by_one laws false reader line a b g h = line_stops_one laws reader.stage reader line a b g h

by_not_both : CqlLaws → (skipped : Bool) (reader : Reader) (line : List ℕ) (a : Reader) (e : ScriptError) → GoesBy skipped reader line a → StopsBy skipped reader line e → ⊥
by_not_both laws true reader line a e g h = h
by_not_both laws false reader line a e g h = line_not_both laws reader.stage reader line a e g h

goes_one : CqlLaws → (reader : Reader) (line : List ℕ) (a b : Reader) → Goes reader line a → Goes reader line b → a ≡ b
goes_one laws reader line a b g h = g.2 ∙ (ap counted (goes_by_one laws (is_skipped line) reader line g.0 h.0 g.1 h.1) ∙ sym h.2)

-- ---- texts

reads_one : CqlLaws → (reader : Reader) (lines : List (List ℕ)) (a b : Result Script ScriptError) → Reads reader lines a → Reads reader lines b → a ≡ b
reads_one laws reader [] a b g h = g ∙ sym h
reads_one laws reader (line ∷ lines) a b (inl g) (inl h) =
    reads_one laws h.0 lines a b (subst (λ (next : Reader). Reads next lines a) (goes_one laws reader line g.0 h.0 g.1 h.1) g.2) h.2
reads_one laws reader (line ∷ lines) a b (inl g) (inr h) = absurd (by_not_both laws (is_skipped line) reader line g.1.0 h.0 g.1.1 h.1)
reads_one laws reader (line ∷ lines) a b (inr g) (inl h) = absurd (by_not_both laws (is_skipped line) reader line h.1.0 g.0 h.1.1 g.1)
reads_one laws reader (line ∷ lines) a b (inr g) (inr h) =
    g.2 ∙ (ap (λ (e : ScriptError). Err e) (stops_by_one laws (is_skipped line) reader line g.0 h.0 g.1 h.1) ∙ sym h.2)

read_by_one : CqlLaws → (long : Bool) (text : List ℕ) (a b : Result Script ScriptError) → IsReadBy long text a → IsReadBy long text b → a ≡ b
read_by_one laws true text a b g h = g ∙ sym h
read_by_one laws false text a b g h = reads_one laws first_reader (lines_of text) a b g h

pub read_one : CqlLaws → (text : List ℕ) (a b : Result Script ScriptError) → IsRead text a → IsRead text b → a ≡ b
read_one laws text a b g h = read_by_one laws (nat_lt longest_script (length text)) text a b g h
