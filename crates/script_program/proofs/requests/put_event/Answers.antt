use Rattle.std.proofs.Common.{None, Result, subst, ap, ◌∙◌}
use Rattle.prepared_statement.specs.declared.prepared.Prepared.{Prepared}
use Rattle.statement_binder.specs.Meanings.{Answers}
use Rattle.statement_binder.specs.Plans.{plan_of}
use Rattle.statement_binder.specs.Supplies.{whole}
use Rattle.statement_plan.specs.declared.fault.Fault.{Fault}
use Rattle.statement_plan.specs.declared.plan.Plan.{Plan}
use Rattle.statement_values.specs.declared.params.Params.{Params}
use Rattle.script_program.specs.Lines.{marked_put}
use Rattle.script_program.specs.Requests.{put_statement}
use Rattle.prepared_statement.specs.Prepared.{outline_of}
use Rattle.script_program.proofs.KvLaws.{IsRead, asks, put_means}
use Rattle.script_program.proofs.RunLaws.{if_ok_more}
use Rattle.script_program.proofs.requests.put_event.Goals as goal

pub returns : goal.returns
returns c =
    let put = c.args.put.now in
    let bound = c.fill-bound.result in
    let value : IsRead put.value = subst IsRead c.as_str.ensures c.text_is_read.ensures in
    let key : IsRead put.key = subst IsRead c.as_str-2.ensures c.text_is_read-2.ensures in
    let row : IsRead put.row = subst IsRead c.as_str-3.ensures c.text_is_read-3.ensures in
    if_ok_more c.ask_by.result c.ask_by.ensures (λ e asked book keyspace kv are.
    let prepared = ap (λ (p : Prepared). plan_of p (whole c.in_ok-values.values) None) are.put in
    let given = ap (λ (ps : Params). plan_of (outline_of book None marked_put) (whole ps) None) c.in_ok-values.ensures in
    asks book keyspace (put_statement put) bound put.node put.level e
    (subst (λ (r : Result Plan Fault). Answers bound r) (prepared ∙ (given ∙ put_means book keyspace put kv c.timestamp_is_read.ensures value key row)) c.fill-bound.ensures)
    asked)
