use Rattle.cluster_program.proofs.PortLaws.{at_port}
use Rattle.cluster_program.proofs.program.run_cluster.Goals as goal

pub returns-in-Some-Serve-clause-serve : goal.returns-in-Some-Serve-clause-serve
returns-in-Some-Serve-clause-serve g c =
    at_port _ _ _ c.in-Some-Serve.port c.in-Some-Serve.ensures c.in-Some-Serve.field-0-is c.run_serve.ensures.ends
