use Rattle.replay_tests.proofs.Loaded.{all_run}
use Rattle.replay_tests.proofs.parts.loaded.Goals as goal

pub returns-in-Ok-clause-runs : goal.returns-in-Ok-clause-runs
returns-in-Ok-clause-runs g c = all_run _ _ 0 c.in-Ok.nodes.items _ _ c.in-Ok.ensures.taken
