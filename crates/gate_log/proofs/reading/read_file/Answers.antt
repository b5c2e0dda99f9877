use Rattle.std.proofs.Common.{◌+◌, arith}
use Rattle.gate_log.proofs.reading.read_file.Goals as goal

pub returns-in_err-len-clause-surely : goal.returns-in_err-len-clause-surely
returns-in_err-len-clause-surely g c m n more spares = cc ((c.in_err-len.ensures.surely m n (omega arith) spares).0)

pub returns-in_err-read-clause-surely : goal.returns-in_err-read-clause-surely
returns-in_err-read-clause-surely g c m n more spares =
    let first = c.in_ok-len.ensures.surely m (n + 1) (omega arith) spares in
    cc ((c.in_err-read.ensures.surely (n + 1) n (omega arith) first.1).0)
