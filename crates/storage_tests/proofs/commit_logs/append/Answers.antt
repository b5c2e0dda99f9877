use Rattle.storage_tests.proofs.commit_logs.append.Goals as goal

pub append-requires-clause-settled : goal.append-requires-clause-settled
append-requires-clause-settled c honest =
    rw (c.let_come.ensures.0, c.let_come.ensures.1, c.reserve.ensures.file) (c.reserve.ensures.settled honest c.in_ok-log.log.place.file c.in_ok-log.ensures.settled)
