use Rattle.std.proofs.Common.{None, Result, subst, ap, ◌∙◌}
use Rattle.prepared_statement.specs.declared.prepared.Prepared.{Prepared}
use Rattle.statement_binder.specs.Meanings.{Answers}
use Rattle.statement_binder.specs.Plans.{plan_of}
use Rattle.statement_binder.specs.Supplies.{whole}
use Rattle.statement_plan.specs.declared.fault.Fault.{Fault}
use Rattle.statement_plan.specs.declared.plan.Plan.{Plan}
use Rattle.statement_values.specs.declared.params.Params.{Params}
use Rattle.script_program.specs.Lines.{marked_get}
use Rattle.script_program.specs.Requests.{get_statement}
use Rattle.prepared_statement.specs.Prepared.{outline_of}
use Rattle.script_program.proofs.KvLaws.{IsRead, asks, get_means}
use Rattle.script_program.proofs.RunLaws.{if_ok_more}
use Rattle.script_program.proofs.requests.get_event.Goals as goal

pub returns : goal.returns
returns c =
    let get = c.args.get.now in
    let bound = c.fill-bound.result in
    let key : IsRead get.key = subst IsRead c.as_str.ensures c.text_is_read.ensures in
    if_ok_more c.ask_by.result c.ask_by.ensures (λ e asked book keyspace kv are.
    let prepared = ap (λ (p : Prepared). plan_of p (whole c.in_ok-values.values) None) are.get in
    let given = ap (λ (ps : Params). plan_of (outline_of book None marked_get) (whole ps) None) c.in_ok-values.ensures in
    asks book keyspace (get_statement get) bound get.node get.level e
    (subst (λ (r : Result Plan Fault). Answers bound r) (prepared ∙ (given ∙ get_means book keyspace get kv key)) c.fill-bound.ensures)
    asked)
