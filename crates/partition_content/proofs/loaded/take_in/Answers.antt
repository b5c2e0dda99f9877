use Rattle.std.proofs.Common.{subst, List}
use Rattle.partition_content.specs.declared.Arrived.{Arrived}
use Rattle.partition_content.specs.Arrivals.{ComeAt}
use Rattle.partition_content.proofs.loaded.take_in.Goals as goal

pub returns-clause-arrivals : goal.returns-clause-arrivals
returns-clause-arrivals c = subst (λ (l : List Arrived). ComeAt c.args.at l c.apply.new.self.stored) c.reserve.ensures.stored c.apply.ensures.arrivals
