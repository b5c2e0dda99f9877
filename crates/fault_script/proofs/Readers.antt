-- What a reader gives, from what its lines give.
use Rattle.std.proofs.Common.{◌≡◌, ℕ, ◌≤◌, Bool, true, false, List, ◌∷◌, length, Result, Ok, Err, inl, inr, refl, nat_lt}
use Rattle.std.specs.Prelude.{OnOk}
use Rattle.std.proofs.lemmas.Bool.{le-ltb}
use Rattle.fault_script.specs.declared.reader.Reader.{Reader}
use Rattle.script_words.specs.Words.{lines_of}
use Rattle.fault_script.specs.Script.{Goes, Stops, Reads, IsRead, IsReadBy, first_reader, longest_script}
use Rattle.fault_script.specs.declared.script.Script.{Script}
use Rattle.fault_script.specs.declared.script.ScriptError.{ScriptError}
use Rattle.fault_script.specs.declared.error.ParseError.{ParseError}
use Rattle.fault_script.specs.declared.error.ParseError.TheVariants as parse
use Rattle.fault_script.specs.Reads.{Fails}

pub fails_too : (P Q : ScriptError → Type 0) (e : ParseError) → Fails P e → ((f : ScriptError) → P f → Q f) → Fails Q e
fails_too P Q (parse.Script f) fails more = more f fails
fails_too P Q parse.NoMemory fails more = tt

pub on_ok : {A E : Type 0} (P : Type 0) (r : Result A E) → P → OnOk r P
on_ok P (Ok value) holds = holds
on_ok P (Err e) holds = tt

pub on_err : {A E : Type 0} (P : Type 0) (r : Result A E) (e : E) → r ≡ Err e → OnOk r P
on_err P (Ok value) e is = cc
on_err P (Err f) e is = tt

-- ---- a line, and those behind it

pub goes_then : (reader next : Reader) (line : List ℕ) (lines : List (List ℕ)) (r : Result Script ScriptError) → Goes reader line next → Reads next lines r → Reads reader (line ∷ lines) r
goes_then reader next line lines r goes reads = inl (next, goes, reads)

pub stops_there : (reader : Reader) (line : List ℕ) (lines : List (List ℕ)) (e : ScriptError) → Stops reader line e → Reads reader (line ∷ lines) (Err e)
stops_there reader line lines e stops = inr (e, stops, refl)

-- ---- the text

by_length : (long : Bool) (text : List ℕ) (r : Result Script ScriptError) → long ≡ false → Reads first_reader (lines_of text) r → IsReadBy long text r
by_length true text r short reads = cc
by_length false text r short reads = reads

pub read_short : (text : List ℕ) (r : Result Script ScriptError) → length text ≤ longest_script → Reads first_reader (lines_of text) r → IsRead text r
read_short text r short reads = by_length (nat_lt longest_script (length text)) text r (le-ltb longest_script (length text) short) reads
