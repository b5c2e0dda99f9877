use Rattle.std.proofs.Common.{◌+◌, arith, rules}
use Rattle.gate_log.proofs.log.GateLog.load.Goals as goal

pub returns-in_err-reading-clause-surely : goal.returns-in_err-reading-clause-surely
returns-in_err-reading-clause-surely g c m n more spares =
    let h = c.in_err-reading.ensures.surely m n (omega arith) spares in
    search (rules, h)

pub returns-in_err-log-clause-surely : goal.returns-in_err-log-clause-surely
returns-in_err-log-clause-surely g c m n more spares =
    let first = c.in_ok-reading.ensures.surely m (n + 2) (omega arith) spares in
    cc ((c.in_err-log.ensures.surely (n + 2) n (omega arith) first.1).0)
