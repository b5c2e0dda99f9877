use Rattle.std.proofs.Common.{rules}
use Rattle.gate_log.proofs.reading.Reading.of.Goals as goal

pub returns-in_err-bytes-clause-surely : goal.returns-in_err-bytes-clause-surely
returns-in_err-bytes-clause-surely g c m n more spares =
    let h = c.in_err-bytes.ensures.surely m n more spares in
    search (rules, h)
