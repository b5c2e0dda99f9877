use Rattle.std.proofs.Common.{◌≡◌, ◌+◌, Err, ap, arith}
use Rattle.std.proofs.lemmas.Result.{err_from_is_err_and}
use Rattle.commit_log.specs.declared.error.LogError.{LogError}
use Rattle.commit_log.specs.declared.error.LogError.TheVariants.{Failed, Damaged}
use Rattle.list_replica.proofs.on_log.load_log.Goals as goal

pub returns-in_err-reading-clause-surely : goal.returns-in_err-reading-clause-surely
returns-in_err-reading-clause-surely g c m n more spares =
    let h = c.in_err-reading.ensures.surely m n (omega arith) spares in
    let e = err_from_is_err_and c.from_residual.result c.from_residual.ensures.1 in (
      (λ is.
          let error : c.in_err-reading.field-0.0 ≡ Failed = cc (e.1, e.2, is) in
          h.0 (ap (λ (x : LogError). Err x) error)),
      h.1,
    )

pub returns-in_err-memtable-clause-damaged : goal.returns-in_err-memtable-clause-damaged
returns-in_err-memtable-clause-damaged g c p is honest =
    let e = err_from_is_err_and c.from_residual-in_err-memtable.result c.from_residual-in_err-memtable.ensures.1 in
    let error : c.in_err-memtable.field-0.0 ≡ Damaged p = cc (e.1, e.2, is) in
    let file = (g.S.Store.disk c.args.store.now).seen c.args.f in
    c.in_err-memtable.ensures.damaged file (c.in_ok-reading.ensures.found honest) p (ap (λ (x : LogError). Err x) error)

pub returns-in_err-log-clause-surely : goal.returns-in_err-log-clause-surely
returns-in_err-log-clause-surely g c m n more spares =
    let first = c.in_ok-reading.ensures.surely m (n + 2) (omega arith) spares in
    cc ((c.in_err-log.ensures.surely (n + 2) n (omega arith) first.1).0)
