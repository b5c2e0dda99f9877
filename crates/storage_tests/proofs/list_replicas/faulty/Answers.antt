use Rattle.storage_tests.proofs.list_replicas.faulty.Goals as goal

pub returns : goal.returns
returns c k = rw (c.let_come.ensures.0, c.let_come.ensures.1) (c.in_ok-store.ensures.settled k)
