use Rattle.std.proofs.Common.{sym}
use Rattle.std.proofs.lemmas.Result.{IfOk-weaker}
use Rattle.read_coord.proofs.ReadCoord.decide.Goals as goal

pub returns-then-agrees-clause-ok : goal.returns-then-agrees-clause-ok
returns-then-agrees-clause-ok c =
    IfOk-weaker c.answer.result _ _ (λ turn decides. decides c.args.replicas.now c.args.self.now (sym c.if-agrees.ensures)) c.answer.ensures.same
