use Rattle.std.proofs.Common.{refl}
use Rattle.cluster_program.proofs.ServeLaws.{head_ends}
use Rattle.cluster_program.proofs.serving.run_serve.Goals as goal

pub returns-in-Ok-clause-ends : goal.returns-in-Ok-clause-ends
returns-in-Ok-clause-ends g c =
    head_ends c.args.place.port c.args.source c.args.sink c.in-Ok.head.script c.serve_head.ensures c.in-Ok.ensures.setting c.in-Ok.ensures.script c.in-Ok.ensures.counted refl c.in-Ok.ensures.opening
