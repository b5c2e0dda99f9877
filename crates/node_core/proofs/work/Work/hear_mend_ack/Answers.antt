use Rattle.std.proofs.Common.{List, refl, subst}
use Rattle.std.proofs.lemmas.Result.{IfOk-weaker}
use Rattle.cs_base.specs.declared.ids.ReqId.{ReqId}
use Rattle.node_core.specs.Hearing.{MendMoves}
use Rattle.node_core.specs.Working.{left_open}
use Rattle.node_core.proofs.work.Work.hear_mend_ack.Goals as goal

pub returns : goal.returns
returns c =
    IfOk-weaker c.hear_mend_ack.result _ _
    (λ given moves. (
      subst (λ (ids : List ReqId). MendMoves c.args.base.now.setting c.args.asker.request c.args.asker.from (left_open ids c.args.base.now.reads.entries) c.args.self.now.read given c.hear_mend_ack.new.slot) c.as_slice-ended.ensures (moves c.args.base.now.setting),
      refl,
    ))
    c.hear_mend_ack.ensures.ok
