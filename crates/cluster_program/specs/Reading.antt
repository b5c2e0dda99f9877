-- The bytes of a head, as they are read.
use Rattle.std.specs.Prelude.{ℕ, List, Option}
use Rattle.fault_script.specs.Script.{longest_script}
use Rattle.script_program.specs.declared.program.Refusal.{Refusal}
use Rattle.script_program.specs.declared.program.Refusal.TheVariants as refusal
use Rattle.source_lines.specs.Heads.{GivesHead}
use Rattle.source_lines.specs.Lines.{Reading, left_of}
use Rattle.source_lines.specs.declared.head.ReadError.{ReadError}
use Rattle.source_lines.specs.declared.head.ReadError.TheVariants as read

abbrev pub of_reading : ReadError → Refusal
of_reading read.Failed = refusal.ReadFault
of_reading read.NoMemory = refusal.NoMemory

-- The head of what was left is read, or a beginning of it that is longer than any script, and the reader has what follows.
abbrev pub GivesHeadOf : List ℕ → List ℕ → Reading → Option (List ℕ) → Type 0
GivesHeadOf left text lines left' = GivesHead longest_script left text (left_of lines.ahead left')
