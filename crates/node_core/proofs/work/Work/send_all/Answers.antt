use Rattle.std.proofs.Common.{◌∷◌, []}
use Rattle.node_core.proofs.Sending.{sent_more, sent_none}
use Rattle.node_core.proofs.work.Work.send_all.Goals as goal

pub loop-sent-init : goal.loop-sent-init
loop-sent-init c = sent_none c.args.me c.args.self.now

pub loop-sent-preserved : goal.loop-sent-preserved
loop-sent-preserved c = sent_more c.args.me c.loop-sent.yielded (c.in-Some.sent ∷ []) c.args.self.now c.loop-sent.self c.send.new.self c.loop-sent.invariant c.in_ok-send.ensures
