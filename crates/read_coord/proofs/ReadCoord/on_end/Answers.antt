use Rattle.std.proofs.lemmas.Result.{IfOk-weaker}
use Rattle.peer_messages.specs.Settings.{replicas_of}
use Rattle.read_coord.proofs.Hearing.{end_answers}
use Rattle.read_coord.proofs.ReadCoord.on_end.Goals as goal

pub returns-clause-hears : goal.returns-clause-hears
returns-clause-hears c =
    IfOk-weaker c.answer.result _ _
    (λ turn decides setting ends. end_answers setting c.args.request c.args.from c.args.content c.args.self.now turn (decides (replicas_of setting c.args.self.now.query.partition) c.args.self.now) ends)
    c.answer.ensures.same
