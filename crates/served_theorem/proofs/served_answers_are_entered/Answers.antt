use Rattle.served_theorem.proofs.Answering.{tells_all}
use Rattle.served_theorem.proofs.served_answers_are_entered.Goals as goal

pub returns : goal.returns
returns g c = λ host desk before now c' old new result full begun last order served is through.
    tells_all _ _ _ _ host desk _ served.nodes served.served.doors served.out new result full c.asks_are_told.ensures served.served.served served.served.count c' begun last order is through
