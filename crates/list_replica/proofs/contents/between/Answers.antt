use Rattle.std.proofs.Common.{Some, None}
use Rattle.std.proofs.lemmas.Result.{IfOk-weaker}
use Rattle.list_replica.proofs.Looking.{answers_found, nothing_found}
use Rattle.list_replica.proofs.contents.between.Goals as goal

pub returns-in-Some : goal.returns-in-Some
returns-in-Some c =
    IfOk-weaker c.slice.result _ _
    (λ part slice. answers_found c.args.contents.now c.args.partition.now (Some c.in-Some.content.now) c.args.from.now c.args.upto.now part c.requires c.in-Some.ensures.value slice)
    c.slice.ensures

pub returns-in-None : goal.returns-in-None
returns-in-None c =
    answers_found c.args.contents.now c.args.partition.now None c.args.from.now c.args.upto.now c.new.result c.requires c.in-None.ensures.value
    (nothing_found c.args.from.now c.args.upto.now c.new.result c.new.ensures)
