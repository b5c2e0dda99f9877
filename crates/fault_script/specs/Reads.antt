-- What the functions that read give: what the grammar says, unless memory is wanted.
use Rattle.std.specs.Prelude.{◌≡◌, ℕ, List, Result, Ok, Err}
use Rattle.fault_script.specs.declared.script.Script.{Script}
use Rattle.fault_script.specs.declared.script.Fault.{Fault}
use Rattle.fault_script.specs.declared.script.ScriptError.{ScriptError}
use Rattle.fault_script.specs.declared.script.LineError.{LineError}
use Rattle.fault_script.specs.declared.script.LineError.TheVariants as line
use Rattle.fault_script.specs.declared.error.ParseError.{ParseError}
use Rattle.fault_script.specs.declared.error.ParseError.TheVariants as parse
use Rattle.fault_script.specs.declared.statements.StatementError.{StatementError}
use Rattle.fault_script.specs.declared.statements.StatementError.TheVariants as statement
use Rattle.fault_script.specs.Script.{IsRead, IsRefusedAt}

abbrev pub LineFails : {T : Type 0} → LineError → Result T Fault → Type 0
LineFails (line.Fault f) read = read ≡ Err f
LineFails line.NoMemory read = Unit {0}

abbrev pub LineGives : {T : Type 0} → Result T LineError → Result T Fault → Type 0
LineGives (Ok value) read = read ≡ Ok value
LineGives (Err e) read = LineFails e read

-- the error is such a refusal, unless memory is wanted
abbrev pub Fails : (ScriptError → Type 0) → ParseError → Type 0
Fails P (parse.Script e) = P e
Fails P parse.NoMemory = Unit {0}

abbrev pub Gives : {T : Type 0} → Result T ParseError → Result T ScriptError → Type 0
Gives (Ok value) read = read ≡ Ok value
Gives (Err e) read = Fails (λ f. read ≡ Err f) e

-- the answer is what the text is read as, unless memory is wanted
abbrev pub IsReadAs : List ℕ → Result Script ParseError → Type 0
IsReadAs text (Ok script) = IsRead text (Ok script)
IsReadAs text (Err e) = Fails (λ f. IsRead text (Err f)) e

-- the text is no statement from there on, unless memory is wanted
abbrev pub IsRefusal : List ℕ → StatementError → Type 0
IsRefusal text (statement.At at) = IsRefusedAt text at
IsRefusal text statement.NoMemory = Unit {0}
