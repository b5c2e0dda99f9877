use Rattle.served_console.proofs.NodeLaws.{passes_stay}
use Rattle.served_console.proofs.job.ConsoleJobJob.unstarted.Goals as goal

pub returns-clause-ends : goal.returns-clause-ends
returns-clause-ends g c = passes_stay c.args.self.console.nodes.items
