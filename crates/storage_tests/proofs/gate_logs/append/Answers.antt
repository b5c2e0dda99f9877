use Rattle.storage_tests.proofs.gate_logs.append.Goals as goal

pub append-requires-clause-settled : goal.append-requires-clause-settled
append-requires-clause-settled c honest =
    rw (c.stop_at.ensures.disk.0, c.stop_at.ensures.disk.1, c.reserve.ensures.file) (c.reserve.ensures.settled honest c.in_ok-log.log.file c.in_ok-log.ensures.settled)
