use Rattle.std.proofs.Common.{List, [], ◌∷◌, ◌++◌, ap, ◌∙◌}
use Rattle.peer_messages.specs.declared.event.Ask.{Ask}
use Rattle.step_desk.specs.Desks.{DeskState}
use Rattle.step_desk.proofs.DeskLaws.{submitted}
use Rattle.step_desk.proofs.desk.StepDeskDesk.submit.Goals as goal

pub returns-clause-submits : goal.returns-clause-submits
returns-clause-submits g c =
    submitted c.args.self.now.asks c.self.inside.calls.items c.and-self-inside.result.items c.submission.result c.args.ask c.and-asked.result.items c.ask_node-named.result
    (ap (λ (d : DeskState). d.asks) c.self.view_is) c.and-self-inside.ensures c.submission.ensures.ask
    (c.and-asked.ensures ∙ ap (λ (xs : List (Ask × Unit {0})). xs ++ (c.args.ask, tt) ∷ []) c.new.ensures) c.submission.ensures.named
