use Rattle.step_desk.proofs.Searching.{own_told_is, heading_told_is}
use Rattle.step_desk.proofs.search.piece_told.Goals as goal

pub returns-in-Some : goal.returns-in-Some
returns-in-Some c = own_told_is c.args.request.now c.args.piece.now c.own.result.now c.in-Some.entry.now c.told_by.result c.own.ensures c.in-Some.ensures c.told_by.ensures

pub returns-in-None : goal.returns-in-None
returns-in-None c = heading_told_is c.args.request.now c.args.piece.now c.own.result.now c.is_asked.result c.unanswered.result c.own.ensures c.in-None.ensures c.is_asked.ensures c.unanswered.ensures
