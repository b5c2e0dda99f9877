use Rattle.std.proofs.lemmas.Result.{IfOk-weaker}
use Rattle.node_core.specs.Working.{left_open}
use Rattle.node_core.proofs.hears.hear_reply.Goals as goal

pub returns-in-Some : goal.returns-in-Some
returns-in-Some c = record {
  ok = IfOk-weaker c.end_read.result _ _ (λ given moves. moves c.args.setting.now (left_open c.args.ended.now c.args.reads.now.entries) c.in-Some.ensures) c.end_read.ensures;
}
