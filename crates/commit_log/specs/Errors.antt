-- Why a log can't be loaded.
use Rattle.gate_log.specs.declared.error.GateError.{GateError}
use Rattle.gate_log.specs.declared.error.GateError.TheVariants as gates
use Rattle.commit_log.specs.declared.error.LogError.{LogError}
use Rattle.commit_log.specs.declared.error.LogError.TheVariants.{Failed, Damaged, NoMemory}

-- what the refusal of a gate log is where it is read
abbrev pub log_error : GateError → LogError
log_error gates.Failed = Failed
log_error (gates.Damaged place) = Damaged place
log_error gates.Full = NoMemory
log_error gates.NoMemory = NoMemory
