use Rattle.std.proofs.Common.{List, refl, subst}
use Rattle.std.proofs.lemmas.Result.{IfOk-weaker}
use Rattle.cs_base.specs.declared.ids.ReqId.{ReqId}
use Rattle.changes.specs.declared.Held.{Held}
use Rattle.node_core.specs.Hearing.{ReplyMoves}
use Rattle.node_core.specs.Working.{left_open}
use Rattle.node_core.proofs.work.Work.hear_reply.Goals as goal

pub returns : goal.returns
returns c =
    IfOk-weaker c.hear_reply.result _ _
    (λ given moves. (
      subst (λ (ids : List ReqId). ReplyMoves c.args.base.now.setting c.args.asker.request c.args.asker.from c.args.content.now (left_open ids c.args.base.now.reads.entries) c.args.self.now.read given c.hear_reply.new.slot) c.as_slice-ended.ensures
          (subst (λ (xs : List Held). ReplyMoves c.args.base.now.setting c.args.asker.request c.args.asker.from xs (left_open c.as_slice-ended.result.now c.args.base.now.reads.entries) c.args.self.now.read given c.hear_reply.new.slot) c.replace-content.ensures.value moves),
      refl,
    ))
    c.hear_reply.ensures.ok
