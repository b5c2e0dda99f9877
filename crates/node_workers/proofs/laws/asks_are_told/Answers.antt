use Rattle.node_workers.proofs.ToldLaws as told
use Rattle.node_workers.proofs.laws.asks_are_told.Goals as goal

pub returns : goal.returns
returns g c = λ clock calls h. told.asks_are_told (g.C.Clock.gives clock) calls h
