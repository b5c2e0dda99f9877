use Rattle.storage_tests.proofs.gate_logs.clear.Goals as goal

pub clear-requires-clause-settled : goal.clear-requires-clause-settled
clear-requires-clause-settled c honest = rw c.reserve.ensures.file (c.reserve.ensures.settled honest c.in_ok-log.log.file c.in_ok-log.ensures.settled)
