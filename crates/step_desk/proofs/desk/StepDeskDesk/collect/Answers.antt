use Rattle.std.proofs.Common.{ap}
use Rattle.step_desk.specs.Desks.{DeskState}
use Rattle.step_desk.proofs.DeskLaws.{collected}
use Rattle.step_desk.proofs.desk.StepDeskDesk.collect.Goals as goal

pub returns-in-Some-clause-collects : goal.returns-in-Some-clause-collects
returns-in-Some-clause-collects g c =
    collected c.args.self.now.asks c.self.inside.calls.items c.and-self-inside.result.items c.answer.result c.args.request c.in-Some.answer c.answer_of-answer.result
    (ap (λ (d : DeskState). d.asks) c.self.view_is) c.in-Some.is c.and-self-inside.ensures c.answer.ensures.ask c.answer.ensures.answer c.requires
