use Rattle.std.proofs.Common.{Result, sym, ap, subst, ◌∙◌}
use Rattle.cs_base.specs.declared.ids.ReqId.{ReqId}
use Rattle.client_desk.specs.declared.answer.Answer.{Answer}
use Rattle.step_desk.specs.Outcomes.{outcome}
use Rattle.step_desk.specs.Calls.{AsksNode}
use Rattle.step_desk.proofs.Asking.{asks_node}
use Rattle.step_desk.proofs.steps.ask_node.Goals as goal

pub returns-in-Ok : goal.returns-in-Ok
returns-in-Ok g c =
    subst (λ (r : Result ReqId Answer). AsksNode c.args.cluster.now c.args.ask r c.step.new.self) (sym c.named.ensures)
    (asks_node c.args.cluster.now c.step.new.self c.args.ask c.runs-runs.result c.outcome.result c.runs-runs.ensures c.in-Ok.ensures.ok (c.outcome.ensures ∙ ap outcome c.chronicle.ensures.entries))
