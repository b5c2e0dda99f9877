use Rattle.wired_histories.proofs.Steps.{all_steps, running_steps}
use Rattle.wired_histories.proofs.histories_are_steps.Goals as goal

pub returns-clause-gone : goal.returns-clause-gone
returns-clause-gone g c = all_steps _ _ _ _ _ _ _

pub returns-clause-running : goal.returns-clause-running
returns-clause-running g c = running_steps _ _ _ _ _ _ _ c.failures_are_counted.ensures
