use Rattle.node_core.proofs.hearing.held.Goals as goal

pub returns-clause-peeks : goal.returns-clause-peeks
returns-clause-peeks g c = record { looked = c.content.ensures.looked; log = c.content.ensures.log; flushed = c.content.ensures.flushed; faults = c.content.ensures.faults; spared = λ all. (c.content.ensures.surely all).1 }

pub returns-clause-surely : goal.returns-clause-surely
returns-clause-surely g c = λ failed all. (c.content.ensures.surely all).0 failed
