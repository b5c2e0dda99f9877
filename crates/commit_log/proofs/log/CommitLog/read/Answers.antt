use Rattle.std.proofs.Common.{◌≡◌, Err, ap}
use Rattle.std.proofs.lemmas.Result.{err_from_is_err_and}
use Rattle.gate_log.specs.declared.error.GateError.{GateError}
use Rattle.commit_log.specs.declared.error.LogError.TheVariants.{Failed}
use Rattle.commit_log.specs.Errors.{log_error}
use Rattle.commit_log.proofs.Refusals.{not_failed}
use Rattle.commit_log.proofs.log.CommitLog.read.Goals as goal

pub returns-in_err-gates-clause-surely : goal.returns-in_err-gates-clause-surely
returns-in_err-gates-clause-surely g c m n more spares =
    let h = c.in_err-gates.ensures.surely m n more spares in
    let e = err_from_is_err_and c.from_residual.result c.from_residual.ensures.1 in (
      (λ is.
          let error : log_error c.in_err-gates.field-0.0 ≡ Failed = cc (e.1, e.2, is) in
          h.0 (ap (λ (x : GateError). Err x) (not_failed c.in_err-gates.field-0.0 error))),
      h.1,
    )
