use Rattle.std.proofs.Common.{sym}
use Rattle.session_v4.proofs.Comings.{plan_comes, fault_comes}
use Rattle.session_v4.proofs.outcome.filled_outcome.Goals as goal

pub returns-in-Ok : goal.returns-in-Ok
returns-in-Ok c = plan_comes c.plan_outcome.result c.args.terms.now c.in-Ok.plan _ c.in-Ok.ensures c.plan_outcome.ensures

pub returns-in-Err-Refused : goal.returns-in-Err-Refused
returns-in-Err-Refused c =
    fault_comes c.in-Err-Refused.field-0 c.in-Err-Refused.fault _ c.args.terms.now _ c.in-Err-Refused.field-0-is (sym c.in-Err-Refused.fault-is) c.in-Err-Refused.ensures
