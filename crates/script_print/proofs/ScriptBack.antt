-- What is printed of a script is read as the script, line by line.
use Rattle.std.proofs.Common.{◌≡◌, inl, ℕ, ◌+◌, ◌-◌, ◌≤◌, Bool, true, not, List, [], ◌∷◌, ◌++◌, Result, Ok, Err, length, map, refl, sym, ◌∙◌, ap, subst, arith, nat_lt, eqb, append-nil, append_assoc}
use Rattle.std.specs.Prelude.{codes, All}
use Rattle.std.specs.List.{list_all, AllByRecursion}
use Rattle.std.proofs.lemmas.Bool.{and_from, and_parts, eqb-true, le-ltb, cond-false, not-true, cond_both}
use Rattle.std.proofs.lemmas.List.Elements.{recursion_from_All}
use Rattle.std.proofs.lemmas.List.Folds.{list_all-append}
use Rattle.cql_statement.specs.declared.statement.Statement.{Statement}
use Rattle.schema_book.specs.Books.{book_of}
use Rattle.fault_script.specs.declared.script.Script.{Script}
use Rattle.fault_script.specs.declared.script.ScriptEvent.{ScriptEvent}
use Rattle.fault_script.specs.declared.script.ScriptEvent.TheVariants as event
use Rattle.fault_script.specs.declared.script.ScriptError.{ScriptError}
use Rattle.fault_script.specs.declared.script.ScriptError.TheVariants as refused
use Rattle.fault_script.specs.declared.script.Settings.{Settings}
use Rattle.fault_script.specs.declared.script.HeadStage.{HeadStage}
use Rattle.fault_script.specs.declared.script.HeadStage.TheVariants as head
use Rattle.fault_script.specs.declared.script.HeadLine.{HeadLine}
use Rattle.fault_script.specs.declared.script.HeadLine.TheVariants as says
use Rattle.fault_script.specs.declared.reader.Opening.{Opening}
use Rattle.fault_script.specs.declared.reader.Stage.{Stage}
use Rattle.fault_script.specs.declared.reader.Stage.TheVariants as stage
use Rattle.script_words.specs.Words.{lines_of, onto_first}
use Rattle.fault_script.specs.Lines.{first_settings, with_factor, with_grace, with_expiry}
use Rattle.fault_script.specs.Written.{WrittenSchema, no_statements, with_line}
use Rattle.fault_script.specs.Script.{IsSaid, IsRead, IsReadBy, Reads, Goes, GoesBy, HeadGoes, EventGoes, made_of, schema_of, end_of, script_with, longest_script, most_lines, first_reader, counted, opened, with_statement, with_event}
use Rattle.fault_script.specs.Laws.{AreStatements}
use Rattle.script_print.specs.Printed.{printed, printed_lines, script_lines, head_lines, settings_lines, lines_unless, number_line, ring_line, schema_line, event_line}
use Rattle.script_print.proofs.Bytes.{lacks}
use Rattle.script_print.proofs.EventFacts.{IsRest, IsFitEvent}
use Rattle.script_print.proofs.EventBack.{IsLineOf, line_of, event_back}
use Rattle.script_print.proofs.HeadFacts.{Fits}
use Rattle.script_print.proofs.HeadBack.{IsHeadLine, MayHaveExpiry, HasSettings, version_back, ring_back, factor_back, grace_back, expiry_back, statement_back, run_back}
use Rattle.script_print.proofs.ScriptFacts.{Reader, IsFitScript, settings_of}

-- ---- the lines of what is printed

line_in_front : (line rest : List ℕ) → lacks 10 line ≡ true → lines_of ((line ++ 10 ∷ []) ++ rest) ≡ line ∷ lines_of rest
line_in_front [] rest inline = refl
line_in_front (b ∷ line) rest inline =
    let parts = and_parts (not (eqb b 10)) (lacks 10 line) inline in
    let behind : List ℕ = (line ++ 10 ∷ []) ++ rest in
    cond-false (eqb b 10) ([] ∷ lines_of behind) (onto_first b (lines_of behind)) (not-true (eqb b 10) parts.0) ∙ ap (onto_first b) (line_in_front line rest parts.1)

lines_back : (lines : List (List ℕ)) → list_all (lacks 10) lines ≡ true → lines_of (printed_lines lines) ≡ lines
lines_back [] inline = refl
lines_back (line ∷ lines) inline =
    let parts = and_parts (lacks 10 line) (list_all (lacks 10) lines) inline in
    line_in_front line (printed_lines lines) parts.0 ∙ ap (λ (ls : List (List ℕ)). line ∷ ls) (lines_back lines parts.1)

-- ---- a line takes the reader on

abbrev reader_at : ℕ → Stage → WrittenSchema → List ScriptEvent → Reader
reader_at number s written events = record { number = number; stage = s; written = written; events = events }

abbrev head_at : ℕ → HeadStage → WrittenSchema → Reader
head_at number s written = reader_at number (stage.Head s) written []

head_step : (n : ℕ) (s : HeadStage) (written : WrittenSchema) (line : List ℕ) (said : HeadLine) (read : Reader) → IsHeadLine s line said → HeadGoes (head_at n s written) (Ok said) read → Goes (head_at n s written) line (counted read)
head_step n s written line said read is goes =
    let reader = head_at n s written in
    (read, subst (λ (t : Bool). GoesBy t reader line read) (sym is.read) (subst (λ r. HeadGoes reader r read) (sym is.says) goes), refl)

next_step : (n : ℕ) (s next : HeadStage) (written : WrittenSchema) (line : List ℕ) → IsHeadLine s line (says.Next next) → Goes (head_at n s written) line (head_at (n + 1) next written)
next_step n s next written line is = head_step n s written line (says.Next next) (head_at n next written) is refl

-- an event is taken as its line says it
event_goes : (reader : Reader) (said : ScriptEvent) → IsSaid said → EventGoes reader (Ok (line_of said)) (with_event reader said)
event_goes reader (event.Put put) one = refl
event_goes reader (event.Get get) one = refl
event_goes reader (event.Cql request) one = (request.statement, one, refl)
event_goes reader (event.Deliver place) one = refl
event_goes reader (event.Drop place) one = refl
event_goes reader (event.Settle count) one = refl
event_goes reader (event.Clock node micros) one = refl
event_goes reader (event.Mark node peer up) one = refl
event_goes reader (event.Crash node outcome) one = refl
event_goes reader (event.StopAt node call outcome) one = refl
event_goes reader (event.FailAt node call) one = refl
event_goes reader (event.Restart node) one = refl
event_goes reader (event.Flush node) one = refl
event_goes reader (event.Merge node) one = refl

event_step : (n : ℕ) (opening : Opening) (written : WrittenSchema) (done : List ScriptEvent) (line : List ℕ) (said : ScriptEvent) → IsLineOf (length opening.settings.ring) line said → IsSaid said → Goes (reader_at n (stage.Events opening) written done) line (reader_at (n + 1) (stage.Events opening) written (done ++ said ∷ []))
event_step n opening written done line said is one =
    let reader = reader_at n (stage.Events opening) written done in
    let read = reader_at n (stage.Events opening) written (done ++ said ∷ []) in
    (read, subst (λ (t : Bool). GoesBy t reader line read) (sym is.read) (subst (λ r. EventGoes reader r read) (sym is.says) (event_goes reader said one)), refl)

reads_on : (reader next : Reader) (line : List ℕ) (lines : List (List ℕ)) (r : Result Script ScriptError) → Goes reader line next → Reads next lines r → Reads reader (line ∷ lines) r
reads_on reader next line lines r goes reads = inl (next, goes, reads)

-- ---- settings

-- where a line is left out, the reader stays; else it goes on
unless_reads : (usual number : ℕ) (word : List ℕ) (reader next : Reader) (rest : List (List ℕ)) (r : Result Script ScriptError) → (number ≡ usual → Reads reader rest r) → Goes reader (number_line word number) next → Reads next rest r → Reads reader (lines_unless usual word number ++ rest) r
unless_reads usual number word reader next rest r stays goes reads =
    cond_both (eqb number usual) [] (number_line word number ∷ []) (λ (lines : List (List ℕ)). Reads reader (lines ++ rest) r) (λ same. stays (eqb-true number usual same)) (λ _. reads_on reader next (number_line word number) rest r goes reads)

grace_reads : (n grace : ℕ) (base : Settings) (written : WrittenSchema) (rest : List (List ℕ)) (r : Result Script ScriptError) → base.grace ≡ 864000 → Fits 0 100000000 grace → ((m : ℕ) (s : HeadStage) → MayHaveExpiry s (record base { grace = grace }) → Reads (head_at m s written) rest r) → Reads (head_at n (head.Grace base) written) (lines_unless 864000 (codes "grace") grace ++ rest) r
grace_reads n grace base written rest r usual fits more =
    unless_reads 864000 grace (codes "grace") (head_at n (head.Grace base) written) (head_at (n + 1) (with_grace base grace) written) rest r
    (λ same. more n (head.Grace base) (ap (λ (g : ℕ). record base { grace = g }) (usual ∙ sym same)))
    (next_step n (head.Grace base) (with_grace base grace) written (number_line (codes "grace") grace) (grace_back base grace fits))
    (more (n + 1) (with_grace base grace) refl)

has_settings : (s : HeadStage) (a b : Settings) → MayHaveExpiry s a → a ≡ b → HasSettings s b
has_settings head.Version a b may same = absurd may
has_settings head.Ring a b may same = absurd may
has_settings (head.Factor ring) a b may same = absurd may
has_settings (head.Grace found) a b may same = may ∙ same
has_settings (head.Expiry found) a b may same = may ∙ same
has_settings (head.Schema found) a b may same = absurd may

expiry_reads : (n expiry : ℕ) (s : HeadStage) (base : Settings) (written : WrittenSchema) (rest : List (List ℕ)) (r : Result Script ScriptError) → MayHaveExpiry s base → base.expiry ≡ 10800 → Fits 1000 100000 expiry → ((m : ℕ) (s : HeadStage) → HasSettings s (record base { expiry = expiry }) → Reads (head_at m s written) rest r) → Reads (head_at n s written) (lines_unless 10800 (codes "expiry") expiry ++ rest) r
expiry_reads n expiry s base written rest r may usual fits more =
    unless_reads 10800 expiry (codes "expiry") (head_at n s written) (head_at (n + 1) (with_expiry base expiry) written) rest r
    (λ same. more n s (has_settings s base (record base { expiry = expiry }) may (ap (λ (e : ℕ). record base { expiry = e }) (usual ∙ sym same))))
    (next_step n s (with_expiry base expiry) written (number_line (codes "expiry") expiry) (expiry_back s base expiry may fits))
    (more (n + 1) (with_expiry base expiry) refl)

-- ---- the schema

statements_read : (texts : List (List ℕ)) (parsed : List Statement) (n : ℕ) (s : HeadStage) (settings : Settings) (written : WrittenSchema) (rest : List (List ℕ)) (r : Result Script ScriptError) → HasSettings s settings → AreStatements texts parsed → AllByRecursion IsRest texts
    → ((m : ℕ) (t : HeadStage) (all : WrittenSchema) → HasSettings t settings → all.texts ≡ written.texts ++ texts → all.statements ≡ written.statements ++ parsed → Reads (head_at m t all) rest r) → Reads (head_at n s written) (map schema_line texts ++ rest) r
statements_read [] [] n s settings written rest r has are rests more = more n s written has (sym (append-nil written.texts)) (sym (append-nil written.statements))
statements_read [] (p ∷ parsed) n s settings written rest r has are rests more = absurd are
statements_read (text ∷ texts) [] n s settings written rest r has are rests more = absurd are
statements_read (text ∷ texts) (p ∷ parsed) n s settings written rest r has are rests more =
    let reader = head_at n s written in
    let next = head_at (n + 1) (head.Schema settings) (with_line written n text p) in
    reads_on reader next (schema_line text) (map schema_line texts ++ rest) r
    (head_step n s written (schema_line text) (says.Schema settings text) (with_statement reader settings text p) (statement_back s settings text has rests.0) (p, are.0, refl))
    (statements_read texts parsed (n + 1) (head.Schema settings) settings (with_line written n text p) rest r refl are.1 rests.1
    (λ m t all found same made. more m t all found (same ∙ append_assoc written.texts (text ∷ []) texts) (made ∙ append_assoc written.statements (p ∷ []) parsed)))

-- ---- events

events_read : (events : List ScriptEvent) (n : ℕ) (opening : Opening) (written : WrittenSchema) (done : List ScriptEvent) (r : Result Script ScriptError) → length opening.settings.ring ≤ 7 → AllByRecursion (IsFitEvent (length opening.settings.ring)) events → AllByRecursion IsSaid events → r ≡ end_of (reader_at (n + length events) (stage.Events opening) written (done ++ events)) → Reads (reader_at n (stage.Events opening) written done) (map event_line events) r
events_read [] n opening written done r few are said is =
    is ∙ ap (λ (es : List ScriptEvent). end_of (reader_at (n + 0) (stage.Events opening) written es)) (append-nil done) ∙ ap (λ (m : ℕ). end_of (reader_at m (stage.Events opening) written done)) (omega arith)
events_read (e ∷ events) n opening written done r few are said is =
    let behind : n + length (e ∷ events) ≡ (n + 1) + length events = omega arith in
    reads_on (reader_at n (stage.Events opening) written done) (reader_at (n + 1) (stage.Events opening) written (done ++ e ∷ [])) (event_line e) (map event_line events) r
    (event_step n opening written done (event_line e) e (event_back (length opening.settings.ring) e few are.0) said.0)
    (events_read events (n + 1) opening written (done ++ e ∷ []) r few are.1 said.1
    (is ∙ ap (λ (es : List ScriptEvent). end_of (reader_at (n + length (e ∷ events)) (stage.Events opening) written es)) (sym (append_assoc done (e ∷ []) events)) ∙ ap (λ (m : ℕ). end_of (reader_at m (stage.Events opening) written ((done ++ e ∷ []) ++ events))) behind))

-- ---- the script

-- what stands behind the head
abbrev body_lines : Script → List (List ℕ)
body_lines script = map schema_line script.statements ++ codes "run" ∷ map event_line script.events

script_ends : (m : ℕ) (script : Script) (written : WrittenSchema) → length script.events ≤ most_lines → written.texts ≡ script.statements → Ok script ≡ end_of (reader_at ((m + 1) + length script.events) (stage.Events (record { settings = settings_of script; schema = script.schema; first = m + 1 })) written script.events)
script_ends m script written few same =
    let opening : Opening = record { settings = settings_of script; schema = script.schema; first = m + 1 } in
    let lines = ((m + 1) + length script.events) - (m + 1) in
    ap (λ (texts : List (List ℕ)). Ok (script_with opening texts script.events)) (sym same)
    ∙ sym (cond-false (nat_lt most_lines lines) (Err refused.TooMany) (Ok (script_with opening written.texts script.events)) (le-ltb most_lines lines (omega (arith, few))))

run_reads : (m : ℕ) (s : HeadStage) (script : Script) (written : WrittenSchema) (is : IsFitScript script) → All IsSaid script.events → HasSettings s (settings_of script) → written.texts ≡ script.statements → written.statements ≡ is.parsed → Reads (head_at m s written) (codes "run" ∷ map event_line script.events) (Ok script)
run_reads m s script written is said has texts parsed =
    let settings = settings_of script in
    let reader = head_at m s written in
    let opening : Opening = record { settings = settings; schema = script.schema; first = m + 1 } in
    let made : schema_of settings written ≡ Ok script.schema =
    ap (λ (ps : List Statement). made_of written (book_of (length script.ring) script.factor script.grace ps)) parsed ∙ ap (made_of written) is.made in
    reads_on reader (reader_at (m + 1) (stage.Events opening) written []) (codes "run") (map event_line script.events) (Ok script)
    (head_step m s written (codes "run") (says.Run settings) (opened reader settings script.schema) (run_back s settings has) (script.schema, made, refl))
    (events_read script.events (m + 1) opening written [] (Ok script) is.settings.ring.few (recursion_from_All (IsFitEvent (length script.ring)) script.events is.events) (recursion_from_All IsSaid script.events said) (script_ends m script written is.few texts))

body_reads : (n : ℕ) (s : HeadStage) (script : Script) → IsFitScript script → All IsSaid script.events → HasSettings s (settings_of script) → Reads (head_at n s no_statements) (body_lines script) (Ok script)
body_reads n s script is said has =
    statements_read script.statements is.parsed n s (settings_of script) no_statements (codes "run" ∷ map event_line script.events) (Ok script) has is.texts (recursion_from_All IsRest script.statements is.rests)
    (λ m t all found same made. run_reads m t script all is said found same made)

settings_read : (n : ℕ) (script : Script) → IsFitScript script → All IsSaid script.events → Reads (head_at n (with_factor script.ring script.factor) no_statements) (settings_lines script ++ body_lines script) (Ok script)
settings_read n script is said =
    let base = first_settings script.ring script.factor in
    let grace_lines = lines_unless 864000 (codes "grace") script.grace in
    let expiry_lines = lines_unless 10800 (codes "expiry") script.expiry in
    let body = body_lines script in
    subst (λ (lines : List (List ℕ)). Reads (head_at n (head.Grace base) no_statements) lines (Ok script)) (sym (append_assoc grace_lines expiry_lines body))
    (grace_reads n script.grace base no_statements (expiry_lines ++ body) (Ok script) refl is.settings.grace
    (λ m s may. expiry_reads m script.expiry s (record base { grace = script.grace }) no_statements body (Ok script) may refl is.settings.expiry (λ k t has. body_reads k t script is said has)))

script_reads : (script : Script) → IsFitScript script → All IsSaid script.events → Reads first_reader (script_lines script) (Ok script)
script_reads script is said =
    let ring = is.settings.ring in
    let second : List (List ℕ) = number_line (codes "rf") script.factor ∷ (settings_lines script ++ body_lines script) in
    reads_on first_reader (head_at 2 head.Ring no_statements) (codes "cassandra-script 1") (ring_line script.ring ∷ second) (Ok script) (next_step 1 head.Version head.Ring no_statements (codes "cassandra-script 1") version_back)
    (reads_on (head_at 2 head.Ring no_statements) (head_at 3 (head.Factor script.ring) no_statements) (ring_line script.ring) second (Ok script) (next_step 2 head.Ring (head.Factor script.ring) no_statements (ring_line script.ring) (ring_back script.ring ring))
    (reads_on (head_at 3 (head.Factor script.ring) no_statements) (head_at 4 (with_factor script.ring script.factor) no_statements) (number_line (codes "rf") script.factor) (settings_lines script ++ body_lines script) (Ok script)
    (next_step 3 (head.Factor script.ring) (with_factor script.ring script.factor) no_statements (number_line (codes "rf") script.factor) (factor_back script.ring script.factor ring is.settings.factor))
    (settings_read 4 script is said)))

-- ---- no line has a line feed

unless_inline : (usual number : ℕ) (word : List ℕ) → lacks 10 (number_line word number) ≡ true → list_all (lacks 10) (lines_unless usual word number) ≡ true
unless_inline usual number word inline =
    cond_both (eqb number usual) [] (number_line word number ∷ []) (λ (lines : List (List ℕ)). list_all (lacks 10) lines ≡ true) (λ _. refl) (λ _. and_from (lacks 10 (number_line word number)) true inline refl)

inline_append : (xs ys : List (List ℕ)) → list_all (lacks 10) xs ≡ true → list_all (lacks 10) ys ≡ true → list_all (lacks 10) (xs ++ ys) ≡ true
inline_append xs ys h k = list_all-append (lacks 10) xs ys ∙ and_from (list_all (lacks 10) xs) (list_all (lacks 10) ys) h k

statements_inline : (texts : List (List ℕ)) → AllByRecursion IsRest texts → list_all (lacks 10) (map schema_line texts) ≡ true
statements_inline [] rests = refl
statements_inline (text ∷ texts) rests = and_from (lacks 10 text) (list_all (lacks 10) (map schema_line texts)) rests.0.inline (statements_inline texts rests.1)

events_inline : (nodes : ℕ) (events : List ScriptEvent) → nodes ≤ 7 → AllByRecursion (IsFitEvent nodes) events → list_all (lacks 10) (map event_line events) ≡ true
events_inline nodes [] few are = refl
events_inline nodes (e ∷ events) few are =
    let line = event_back nodes e few are.0 in
    and_from (lacks 10 (event_line e)) (list_all (lacks 10) (map event_line events)) line.inline (events_inline nodes events few are.1)

head_inline : (script : Script) → IsFitScript script → list_all (lacks 10) (head_lines script) ≡ true
head_inline script is =
    let ring = ring_back script.ring is.settings.ring in
    let factor = factor_back script.ring script.factor is.settings.ring is.settings.factor in
    let grace = grace_back (settings_of script) script.grace is.settings.grace in
    let expiry = expiry_back (head.Expiry (settings_of script)) (settings_of script) script.expiry refl is.settings.expiry in
    let factor_line = number_line (codes "rf") script.factor in
    and_from (lacks 10 (ring_line script.ring)) (list_all (lacks 10) (factor_line ∷ settings_lines script)) ring.inline
    (and_from (lacks 10 factor_line) (list_all (lacks 10) (settings_lines script)) factor.inline
    (inline_append (lines_unless 864000 (codes "grace") script.grace) (lines_unless 10800 (codes "expiry") script.expiry) (unless_inline 864000 script.grace (codes "grace") grace.inline) (unless_inline 10800 script.expiry (codes "expiry") expiry.inline)))

script_inline : (script : Script) → IsFitScript script → list_all (lacks 10) (script_lines script) ≡ true
script_inline script is =
    inline_append (head_lines script) (body_lines script) (head_inline script is)
    (inline_append (map schema_line script.statements) (codes "run" ∷ map event_line script.events) (statements_inline script.statements (recursion_from_All IsRest script.statements is.rests))
    (events_inline (length script.ring) script.events is.settings.ring.few (recursion_from_All (IsFitEvent (length script.ring)) script.events is.events)))

-- ---- the text

pub script_back : (script : Script) → IsFitScript script → All IsSaid script.events → length (printed script) ≤ longest_script → IsRead (printed script) (Ok script)
script_back script is said short =
    subst (λ (long : Bool). IsReadBy long (printed script) (Ok script)) (sym (le-ltb longest_script (length (printed script)) short))
    (subst (λ (lines : List (List ℕ)). Reads first_reader lines (Ok script)) (sym (lines_back (script_lines script) (script_inline script is))) (script_reads script is said))
