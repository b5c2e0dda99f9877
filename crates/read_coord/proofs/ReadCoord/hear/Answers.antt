use Rattle.std.proofs.Common.{sym}
use Rattle.std.proofs.lemmas.Result.{IfOk-weaker}
use Rattle.read_coord.proofs.Hearing.{reply_waits, reply_decides}
use Rattle.read_coord.proofs.ReadCoord.hear.Goals as goal

pub returns-then-waits-clause-ok : goal.returns-then-waits-clause-ok
returns-then-waits-clause-ok c =
    reply_waits c.args.setting.now c.args.request c.args.from c.args.content c.args.self.now c.keep.new.self c.quiet-then-waits.result c.args.replicas.now
    c.requires (sym c.if-is_stray.ensures) (sym c.if-waits.ensures) c.in_ok-keep.ensures.ok c.quiet-then-waits.ensures

pub returns-clause-ok : goal.returns-clause-ok
returns-clause-ok c =
    IfOk-weaker c.decide.result _ _
    (λ turn decides. reply_decides c.args.setting.now c.args.request c.args.from c.args.content c.args.self.now _ turn c.args.replicas.now
    c.requires (sym c.if-is_stray.ensures) (sym c.if-waits.ensures) decides)
    c.decide.ensures.ok
