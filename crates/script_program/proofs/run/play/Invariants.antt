use Rattle.std.proofs.Common.{take}
use Rattle.cluster_model.specs.State.{KeepsOn}
use Rattle.script_program.proofs.RunLaws.{PlaysOn}
use Rattle.script_program.proofs.run.play.Given as goal

abbrev pub invariant-loop-event : goal.invariant-loop-event
invariant-loop-event g l = PlaysOn l.schema l.fn.cluster (take l.event-index l.events) l.keyspace l.cluster × KeepsOn l.fn.cluster l.cluster
