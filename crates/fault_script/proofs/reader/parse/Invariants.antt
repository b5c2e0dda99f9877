use Rattle.std.proofs.Common.{◌+◌, ◌≤◌, length, Result}
use Rattle.fault_script.specs.declared.script.Script.{Script}
use Rattle.fault_script.specs.declared.script.ScriptError.{ScriptError}
use Rattle.script_words.specs.Words.{lines_of}
use Rattle.fault_script.specs.Script.{Reads, first_reader}
use Rattle.fault_script.proofs.reader.parse.Given as goal

-- what the rest gives the text gives
abbrev pub invariant-loop-rest : goal.invariant-loop-rest
invariant-loop-rest l = record {
  gives : (r : Result Script ScriptError) → Reads l.reader (lines_of l.rest) r → Reads first_reader (lines_of l.text) r;
  small : l.reader.number + length l.rest ≤ length l.text + 1;
}

abbrev pub decreases-loop-rest : goal.decreases-loop-rest
decreases-loop-rest l = length l.rest
