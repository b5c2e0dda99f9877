use Rattle.list_replica.proofs.Loading.{taken_new}
use Rattle.list_replica.proofs.Looking.{away}
use Rattle.list_replica.proofs.loads.begin.Goals as goal

pub returns-in_ok-insert-in-Ok-clause-takes : goal.returns-in_ok-insert-in-Ok-clause-takes
returns-in_ok-insert-in-Ok-clause-takes c =
    taken_new c.args.loads.now c.insert.new.self c.args.partition c.new-loaded.result c.add.new.self c.args.incoming c.args.at c.requires.ordered c.insert.ensures.ordered c.requires.new c.new-loaded.ensures c.in_ok-insert-in-Ok.ensures.updates.1
    (λ q other. c.in_ok-insert-in-Ok.ensures.updates.2 q (away c.args.partition q other)) c.in-Ok.ensures.content c.in-Ok.ensures.arrivals
