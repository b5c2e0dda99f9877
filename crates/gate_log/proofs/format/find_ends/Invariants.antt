use Rattle.std.proofs.Common.{◌-◌, length}
use Rattle.gate_log.proofs.Ends.{Scanned}
use Rattle.gate_log.proofs.format.find_ends.Given as goal

abbrev pub invariant-entries : goal.invariant-entries
invariant-entries l = Scanned l.bytes l.ends.items l.gate

abbrev pub decreases-entries : goal.decreases-entries
decreases-entries l = length l.bytes - l.gate
