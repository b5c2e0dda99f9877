use Rattle.std.proofs.Common.{sym, ◌∙◌}
use Rattle.step_desk.proofs.Searching.{told_ahead, told_asked, told_answered, rows_here}
use Rattle.step_desk.proofs.search.told.Goals as goal

pub loop-left-preserved : goal.loop-left-preserved
loop-left-preserved c =
    told_ahead c.args.request.now c.args.pieces.now c.loop-left.left c.index-pieces-left.result c.loop-left-test.true c.loop-left.invariant c.index-pieces-left.is (sym c.in-Ok-Nothing.field-0-is ∙ c.in-Ok-Nothing.ensures)

pub returns-in-Ok-Asked : goal.returns-in-Ok-Asked
returns-in-Ok-Asked c =
    told_asked c.args.request.now c.args.pieces.now c.loop-left.left c.index-pieces-left.result c.in-Ok-Asked.field-0 c.loop-left-test.true c.loop-left.invariant c.index-pieces-left.is c.in-Ok-Asked.field-0-is c.in-Ok-Asked.ensures

pub returns-in-Ok-Answered : goal.returns-in-Ok-Answered
returns-in-Ok-Answered c =
    told_answered c.args.request.now c.args.pieces.now c.loop-left.left c.index-pieces-left.result c.in-Ok-Answered.field-0 c.in-Ok-Answered.answer c.loop-left-test.true c.loop-left.invariant c.index-pieces-left.is c.in-Ok-Answered.field-0-is c.in-Ok-Answered.ensures

pub returns-in-Err : goal.returns-in-Err
returns-in-Err c = rows_here c.args.request.now c.args.pieces.now c.loop-left.left c.index-pieces-left.result c.loop-left-test.true c.loop-left.invariant c.index-pieces-left.is c.in-Err.ensures
