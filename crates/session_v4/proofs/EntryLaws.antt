-- Entries of a batch, one after another.
use Rattle.std.proofs.Common.{◌≡◌, ◌≢◌, ℕ, ◌+◌, ◌<◌, ◌≤◌, List, [], ◌∷◌, ◌++◌, length, take, drop, get_or, Option, Some, None, Result, Ok, Err, IfOk, IfErr, refl, sym, ◌∙◌, ap, subst}
use Rattle.std.proofs.lemmas.List.{drop_more, take_more, take-append-drop}
use Rattle.cql_parser.specs.Parsing.{IsStatement, IsRefused, most_tokens}
use Rattle.cql_parser.specs.declared.error.ParseError.{ParseError}
use Rattle.cql_parser.specs.declared.error.ParseError.TheVariants as parsing
use Rattle.cql_statement.specs.declared.statement.Statement.{Statement}
use Rattle.cql_tokens.specs.declared.token.Token.{Token}
use Rattle.prepared_statement.specs.Prepared.{outline_of}
use Rattle.prepared_statement.specs.declared.change.Change.{Change}
use Rattle.prepared_statement.specs.declared.prepared.Prepared.{Prepared}
use Rattle.request_bodies.specs.declared.batch.BatchEntry.{BatchEntry}
use Rattle.request_bodies.specs.declared.batch.BatchStatement.TheVariants as entries
use Rattle.response_bodies.specs.declared.response.Response.{Response}
use Rattle.session_v4.specs.Sessions.{State, AreEntries, AreEntriesAs, AreStatements, IsEntry, IsEntryAs, IsReading, change_in, changes_of, entry_in, entry_misread, with_first, with_last}
use Rattle.session_v4.specs.declared.batches.Entries.{Entries}
use Rattle.session_v4.specs.declared.batches.Entries.TheVariants as all
use Rattle.session_v4.specs.declared.batches.Entry.{Entry}
use Rattle.session_v4.specs.declared.batches.Entry.TheVariants as entry

pub statements_append : (s : State) (es : List BatchEntry) (e : BatchEntry) (ps : List Prepared) (p : Prepared)
    → AreStatements s es ps → IsEntry s e.statement (Ok p) → AreStatements s (es ++ e ∷ []) (ps ++ p ∷ [])
statements_append s [] e ps p h k = (p, [], k, refl, ap (λ (qs : List Prepared). qs ++ p ∷ []) h)
statements_append s (d ∷ ds) e ps p (q, later, first, rest, same) k =
    (q, later ++ p ∷ [], first, statements_append s ds e later p rest k, ap (λ (qs : List Prepared). qs ++ p ∷ []) same)

first_last : (a : Option Change) (cs : Option (List Change)) (b : Option Change) → with_first a (with_last cs b) ≡ with_last (with_first a cs) b
first_last None None b = refl
first_last None (Some cs) b = refl
first_last (Some a) None b = refl
first_last (Some a) (Some cs) None = refl
first_last (Some a) (Some cs) (Some b) = refl

last_alone : (b : Option Change) → with_first b (Some []) ≡ with_last (Some []) b
last_alone None = refl
last_alone (Some b) = refl

pub changes_append : (ps : List Prepared) (p : Prepared) → changes_of (ps ++ p ∷ []) ≡ with_last (changes_of ps) (change_in p)
changes_append [] p = last_alone (change_in p)
changes_append (q ∷ qs) p = ap (with_first (change_in q)) (changes_append qs p) ∙ first_last (change_in q) (changes_of qs) (change_in p)

-- the first entry that has no statement
parted : (es : List BatchEntry) (i : ℕ) (d : BatchEntry) → i < length es → es ≡ take i es ++ get_or es i d ∷ drop (i + 1) es
parted es i d h = sym (take-append-drop i es) ∙ ap (λ (back : List BatchEntry). take i es ++ back) (drop_more es i d h)

pub stopped_at : (s : State) (es : List BatchEntry) (i : ℕ) (d : BatchEntry) (ps : List Prepared) (r : Response) → i < length es
    → AreStatements s (take i es) ps → IsEntry s (get_or es i d).statement (Err r) → AreEntries s es (Err r)
stopped_at s es i d ps r h are none = (take i es, get_or es i d, drop (i + 1) es, ps, parted es i d h, are, none)

-- ---- what was read of a text

pub reading_of : (r : Result Statement ParseError) (text read : List ℕ) (t : Statement) → read ≡ text → r ≡ Ok t
    → IfOk r (λ s. (tokens : List Token) × IsStatement read tokens s × (length tokens ≤ most_tokens)) → IsReading text (Ok t)
reading_of r text read t same is h =
    let P : Result Statement ParseError → Type 0 = λ x. IfOk x (λ s. (tokens : List Token) × IsStatement read tokens s × (length tokens ≤ most_tokens)) in
    let Q : List ℕ → Type 0 = λ bytes. IsReading bytes (Ok t) in
    subst Q same (subst P is h)

pub refusal_of : (r : Result Statement ParseError) (text read : List ℕ) (e : ParseError) → read ≡ text → r ≡ Err e → IfErr r (λ x. IsRefused read x) → IsRefused text e
refusal_of r text read e same is h =
    let P : Result Statement ParseError → Type 0 = λ x. IfErr x (λ y. IsRefused read y) in
    let Q : List ℕ → Type 0 = λ bytes. IsRefused bytes e in
    subst Q same (subst P is h)

-- ---- an entry

pub entry_read_as : {E : Type 0} (r : Result Entry E) (s : State) (text : List ℕ) (t : Statement) → IsReading text (Ok t)
    → IfOk r (λ e. e ≡ entry_in (outline_of s.book s.used t)) → IfOk r (IsEntryAs s (entries.Query text))
entry_read_as (Ok e) s text t reading h =
    let P : Entry → Type 0 = λ x. IsEntryAs s (entries.Query text) x in
    subst P (sym h) (outline_of s.book s.used t, (Ok t, reading, refl), refl)
entry_read_as (Err x) s text t reading h = tt

pub entry_misread_as : {E : Type 0} (r : Result Entry E) (s : State) (text told : List ℕ) (error : ParseError) → IsRefused text error → told ≡ text
    → IfOk r (λ e. e ≡ entry_misread told error) → IfOk r (λ e. error ≢ parsing.NoMemory) → IfOk r (IsEntryAs s (entries.Query text))
entry_misread_as (Ok e) s text told error refused same h cause =
    let P : Entry → Type 0 = λ x. IsEntryAs s (entries.Query text) x in
    subst P (sym (h ∙ ap (λ (bytes : List ℕ). entry_misread bytes error) same)) (Err error, (refused, cause), refl)
entry_misread_as (Err x) s text told error refused same h cause = tt

-- ---- all entries, one more

grows_by : (s : State) (es : List BatchEntry) (i : ℕ) (d : BatchEntry) (before more : Option (List Change)) (c : Option Change) → i < length es → d ≡ get_or es i d
    → IsEntryAs s d.statement (entry.Found c) → more ≡ with_last before c → (ps : List Prepared) → AreStatements s (take i es) ps → before ≡ changes_of ps
    → (qs : List Prepared) × AreStatements s (take (i + 1) es) qs × (more ≡ changes_of qs)
grows_by s es i d before more c below is (p, stands, same) e ps are was =
    let P : List BatchEntry → Type 0 = λ xs. AreStatements s xs (ps ++ p ∷ []) in
    let front : take (i + 1) es ≡ take i es ++ d ∷ [] = take_more es i d below ∙ ap (λ (x : BatchEntry). take i es ++ x ∷ []) (sym is) in (
      ps ++ p ∷ [],
      subst P (sym front) (statements_append s (take i es) d ps p are stands),
      e ∙ (ap (λ (b : Option (List Change)). with_last b c) was ∙ (ap (with_last (changes_of ps)) same ∙ sym (changes_append ps p))),
    )

-- what the entries before this one are
abbrev pub AreBefore : State → List BatchEntry → ℕ → Option (List Change) → Type 0
AreBefore s es i changes = (ps : List Prepared) × AreStatements s (take i es) ps × (changes ≡ changes_of ps)

pub entries_grow : (s : State) (es : List BatchEntry) (i : ℕ) (d : BatchEntry) (before more : Option (List Change)) (c : Option Change) (found : Entry)
    → i < length es → d ≡ get_or es i d → found ≡ entry.Found c → IsEntryAs s d.statement found → more ≡ with_last before c → AreBefore s es i before
    → AreBefore s es (i + 1) more
entries_grow s es i d before more c found below is was h e (ps, are, same) =
    let P : Entry → Type 0 = λ x. IsEntryAs s d.statement x in
    grows_by s es i d before more c below is (subst P was h) e ps are same

pub entries_stop : (s : State) (es : List BatchEntry) (i : ℕ) (d : BatchEntry) (before : Option (List Change)) (r : Response) (found : Entry)
    → i < length es → d ≡ get_or es i d → found ≡ entry.Refused r → IsEntryAs s d.statement found → AreBefore s es i before → AreEntries s es (Err r)
entries_stop s es i d before r found below is was h (ps, are, same) =
    let P : Entry → Type 0 = λ x. IsEntryAs s d.statement x in
    let Q : BatchEntry → Type 0 = λ x. IsEntry s x.statement (Err r) in
    stopped_at s es i d ps r below are (subst Q is (subst P was h))

-- ---- what was found in all entries

pub all_refused : (s : State) (es read : List BatchEntry) (found : Entries) (r : Response) → read ≡ es → found ≡ all.Refused r → AreEntriesAs s read found
    → AreEntries s es (Err r)
all_refused s es read found r same was h =
    let P : Entries → Type 0 = λ x. AreEntriesAs s read x in
    let Q : List BatchEntry → Type 0 = λ xs. AreEntries s xs (Err r) in
    subst Q same (subst P was h)

pub all_found : (s : State) (es read : List BatchEntry) (found : Entries) (cs : Option (List Change)) → read ≡ es → found ≡ all.Found cs → AreEntriesAs s read found
    → (ps : List Prepared) × AreStatements s es ps × (cs ≡ changes_of ps)
all_found s es read found cs same was h =
    let P : Entries → Type 0 = λ x. AreEntriesAs s read x in
    let Q : List BatchEntry → Type 0 = λ xs. (ps : List Prepared) × AreStatements s xs ps × (cs ≡ changes_of ps) in
    subst Q same (subst P was h)
