use Rattle.std.proofs.Common.{None, List, take, subst}
use Rattle.std.proofs.lemmas.List.{take_all}
use Rattle.fault_script.specs.declared.script.ScriptEvent.{ScriptEvent}
use Rattle.script_program.specs.Runs.{Plays}
use Rattle.script_program.proofs.RunLaws.{plays_all}
use Rattle.script_program.proofs.run.play.Goals as goal

pub returns-clause-plays : goal.returns-clause-plays
returns-clause-plays g c =
    let events = c.args.events.now in
    let index = c.loop-event.event-index in
    subst (λ (es : List ScriptEvent). Plays c.args.schema.now None c.args.cluster.now es c.loop-event.cluster) (take_all index events c.loop-event-test.false)
    (plays_all c.args.schema.now c.args.cluster.now c.loop-event.cluster (take index events) c.loop-event.keyspace c.loop-event.invariant.0)
