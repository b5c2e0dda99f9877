use Rattle.std.proofs.lemmas.Result.{err_from_is_err_and}
use Rattle.node_core.proofs.Answered.{handed_on, ok_no_error}
use Rattle.node_core.proofs.Loading.{loaded_fit, loaded_tied, no_memory_damaged, no_memory_failed}
use Rattle.node_core.proofs.node.Node.load.Goals as goal

pub returns-in-Ok-clause-tied : goal.returns-in-Ok-clause-tied
returns-in-Ok-clause-tied g c = λ honest. loaded_tied c.args.me c.args.setting c.in_ok-replica.kept c.in-Ok.core (g.R.Replica.durable c.in_ok-replica.replica) c.in-Ok.ensures (c.in_ok-replica.ensures.kept honest)

pub returns-in-Ok-clause-fits : goal.returns-in-Ok-clause-fits
returns-in-Ok-clause-fits g c = λ honest. loaded_fit c.args.me c.args.setting c.in_ok-replica.kept c.in-Ok.core (g.R.Replica.durable c.in_ok-replica.replica) c.in-Ok.ensures (c.in_ok-replica.ensures.kept honest) c.what_fits_is_tested.ensures.mutations c.in_ok-replica.ensures.hints_fit

pub returns-in_err-replica-clause-found : goal.returns-in_err-replica-clause-found
returns-in_err-replica-clause-found g c =
    let e = err_from_is_err_and c.from_residual.result c.from_residual.ensures.1 in
    rw e.1 tt

pub returns-in_err-replica-clause-state : goal.returns-in_err-replica-clause-state
returns-in_err-replica-clause-state g c =
    let e = err_from_is_err_and c.from_residual.result c.from_residual.ensures.1 in
    rw e.1 tt

pub returns-in_err-replica-clause-core : goal.returns-in_err-replica-clause-core
returns-in_err-replica-clause-core g c =
    let e = err_from_is_err_and c.from_residual.result c.from_residual.ensures.1 in
    rw e.1 tt

pub returns-in_err-replica-clause-tied : goal.returns-in_err-replica-clause-tied
returns-in_err-replica-clause-tied g c =
    let e = err_from_is_err_and c.from_residual.result c.from_residual.ensures.1 in
    rw e.1 tt

pub returns-in_err-replica-clause-whole : goal.returns-in_err-replica-clause-whole
returns-in_err-replica-clause-whole g c =
    let e = err_from_is_err_and c.from_residual.result c.from_residual.ensures.1 in
    rw e.1 tt

pub returns-in_err-replica-clause-fits : goal.returns-in_err-replica-clause-fits
returns-in_err-replica-clause-fits g c =
    let e = err_from_is_err_and c.from_residual.result c.from_residual.ensures.1 in
    rw e.1 tt

pub returns-in_err-replica-clause-any_moment : goal.returns-in_err-replica-clause-any_moment
returns-in_err-replica-clause-any_moment g c =
    let e = err_from_is_err_and c.from_residual.result c.from_residual.ensures.1 in
    rw e.1 tt

pub returns-in_err-replica-clause-any_moment_failed : goal.returns-in_err-replica-clause-any_moment_failed
returns-in_err-replica-clause-any_moment_failed g c =
    let e = err_from_is_err_and c.from_residual.result c.from_residual.ensures.1 in
    λ s told. c.in_err-replica.ensures.any_moment_failed s (handed_on e told)

pub returns-in_err-replica-clause-any_moment_no_memory : goal.returns-in_err-replica-clause-any_moment_no_memory
returns-in_err-replica-clause-any_moment_no_memory g c =
    let e = err_from_is_err_and c.from_residual.result c.from_residual.ensures.1 in
    λ s told. c.in_err-replica.ensures.any_moment_no_memory s (handed_on e told)

pub returns-in_err-replica-clause-failed : goal.returns-in_err-replica-clause-failed
returns-in_err-replica-clause-failed g c =
    let e = err_from_is_err_and c.from_residual.result c.from_residual.ensures.1 in
    λ s told. c.in_err-replica.ensures.failed s (handed_on e told)

pub returns-in_err-replica-clause-damaged : goal.returns-in_err-replica-clause-damaged
returns-in_err-replica-clause-damaged g c =
    let e = err_from_is_err_and c.from_residual.result c.from_residual.ensures.1 in
    λ s f p told honest. (c.in_err-replica.ensures.damaged s f p (handed_on e told) honest).0

pub returns-in_err-replica-clause-surely : goal.returns-in_err-replica-clause-surely
returns-in_err-replica-clause-surely g c =
    let e = err_from_is_err_and c.from_residual.result c.from_residual.ensures.1 in
    λ all. ((λ s told. (c.in_err-replica.ensures.surely all).0 s (handed_on e told)), rw e.1 tt)

pub returns-in-Ok-clause-found : goal.returns-in-Ok-clause-found
returns-in-Ok-clause-found g c = c.in_ok-replica.ensures.durable

pub returns-in-Ok-clause-whole : goal.returns-in-Ok-clause-whole
returns-in-Ok-clause-whole g c = c.in_ok-replica.ensures.whole

pub returns-in-Ok-clause-any_moment : goal.returns-in-Ok-clause-any_moment
returns-in-Ok-clause-any_moment g c = c.in_ok-replica.ensures.any_moment

pub returns-in-Ok-clause-any_moment_failed : goal.returns-in-Ok-clause-any_moment_failed
returns-in-Ok-clause-any_moment_failed g c = λ s told. absurd (ok_no_error told)

pub returns-in-Ok-clause-any_moment_no_memory : goal.returns-in-Ok-clause-any_moment_no_memory
returns-in-Ok-clause-any_moment_no_memory g c = λ s told. absurd (ok_no_error told)

pub returns-in-Ok-clause-failed : goal.returns-in-Ok-clause-failed
returns-in-Ok-clause-failed g c = λ s told. absurd (ok_no_error told)

pub returns-in-Ok-clause-damaged : goal.returns-in-Ok-clause-damaged
returns-in-Ok-clause-damaged g c = λ s f p told. absurd (ok_no_error told)

pub returns-in-Ok-clause-surely : goal.returns-in-Ok-clause-surely
returns-in-Ok-clause-surely g c = λ all. ((λ s told. absurd (ok_no_error told)), (c.in_ok-replica.ensures.surely all).1)

pub returns-in-Err-clause-found : goal.returns-in-Err-clause-found
returns-in-Err-clause-found g c = tt

pub returns-in-Err-clause-state : goal.returns-in-Err-clause-state
returns-in-Err-clause-state g c = tt

pub returns-in-Err-clause-core : goal.returns-in-Err-clause-core
returns-in-Err-clause-core g c = tt

pub returns-in-Err-clause-tied : goal.returns-in-Err-clause-tied
returns-in-Err-clause-tied g c = tt

pub returns-in-Err-clause-whole : goal.returns-in-Err-clause-whole
returns-in-Err-clause-whole g c = tt

pub returns-in-Err-clause-fits : goal.returns-in-Err-clause-fits
returns-in-Err-clause-fits g c = tt

pub returns-in-Err-clause-any_moment : goal.returns-in-Err-clause-any_moment
returns-in-Err-clause-any_moment g c = tt

pub returns-in-Err-clause-any_moment_failed : goal.returns-in-Err-clause-any_moment_failed
returns-in-Err-clause-any_moment_failed g c = λ s told. absurd (no_memory_failed told)

pub returns-in-Err-clause-failed : goal.returns-in-Err-clause-failed
returns-in-Err-clause-failed g c = λ s told. absurd (no_memory_failed told)

pub returns-in-Err-clause-damaged : goal.returns-in-Err-clause-damaged
returns-in-Err-clause-damaged g c = λ s f p told. absurd (no_memory_damaged told)

pub returns-in_err-replica-clause-faults : goal.returns-in_err-replica-clause-faults
returns-in_err-replica-clause-faults g c =
    let e = err_from_is_err_and c.from_residual.result c.from_residual.ensures.1 in
    rw e.1 tt

pub returns-in-Ok-clause-faults : goal.returns-in-Ok-clause-faults
returns-in-Ok-clause-faults g c = c.in_ok-replica.ensures.faults

pub returns-in-Err-clause-faults : goal.returns-in-Err-clause-faults
returns-in-Err-clause-faults g c = tt
