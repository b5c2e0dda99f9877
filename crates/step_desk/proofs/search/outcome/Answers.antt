use Rattle.step_desk.proofs.Searching.{outcome_here, outcome_ahead}
use Rattle.step_desk.proofs.search.outcome.Goals as goal

pub returns-in-Some : goal.returns-in-Some
returns-in-Some c = outcome_here c.args.pieces.now c.loop-left.left c.index-pieces-left.result c.in-Some.outcome c.loop-left-test.true c.loop-left.invariant c.index-pieces-left.is c.in-Some.ensures

pub loop-left-preserved : goal.loop-left-preserved
loop-left-preserved c = outcome_ahead c.args.pieces.now c.loop-left.left c.index-pieces-left.result c.loop-left-test.true c.loop-left.invariant c.index-pieces-left.is c.in-None.ensures
