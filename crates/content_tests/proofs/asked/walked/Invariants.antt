use Rattle.std.proofs.Common.{length}
use Rattle.content_tests.proofs.asked.walked.Given as goal

abbrev pub decreases-loop-row : goal.decreases-loop-row
decreases-loop-row l = length l.walk
