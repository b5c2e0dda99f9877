use Rattle.script_program.proofs.RunLaws.{begins_fresh}
use Rattle.script_program.proofs.run.begin.Goals as goal

pub returns-in-Ok : goal.returns-in-Ok
returns-in-Ok g c =
    begins_fresh g.R.Replica.stands_for c.args.setting c.in_ok-stores.stores.items c.in-Ok.cluster c.in-Ok.ensures.begins (c.in-Ok.ensures.fresh c.in_ok-stores.ensures.formatted)
