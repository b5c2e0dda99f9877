use Rattle.step_desk.specs.Outcomes.{is_outcome}
use Rattle.step_desk.proofs.Searching.{IsAhead}
use Rattle.step_desk.proofs.search.outcome.Given as goal

abbrev pub invariant-loop-left : goal.invariant-loop-left
invariant-loop-left l = IsAhead is_outcome l.pieces l.left

abbrev pub decreases-loop-left : goal.decreases-loop-left
decreases-loop-left l = l.left
