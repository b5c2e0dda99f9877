use Rattle.step_desk.specs.Tellings.{is_about}
use Rattle.step_desk.proofs.Searching.{IsAhead}
use Rattle.step_desk.proofs.search.told.Given as goal

abbrev pub invariant-loop-left : goal.invariant-loop-left
invariant-loop-left l = IsAhead (is_about l.request) l.pieces l.left

abbrev pub decreases-loop-left : goal.decreases-loop-left
decreases-loop-left l = l.left
