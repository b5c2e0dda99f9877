use Rattle.step_desk.proofs.Searching.{own_outcome_is, heading_outcome_is}
use Rattle.step_desk.proofs.search.piece_outcome.Goals as goal

pub returns-in-Some : goal.returns-in-Some
returns-in-Some c = own_outcome_is c.args.piece.now c.own.result.now c.in-Some.outcome c.own.ensures c.in-Some.ensures

pub returns-in-None : goal.returns-in-None
returns-in-None c = heading_outcome_is c.args.piece.now c.own.result.now c.heading_outcome.result c.own.ensures c.in-None.ensures c.heading_outcome.ensures
