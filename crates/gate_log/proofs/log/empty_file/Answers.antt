use Rattle.std.proofs.Common.{◌+◌, arith}
use Rattle.cs_store.proofs.Crashes.{weaker, and_then}
use Rattle.gate_log.specs.Format.{IsBeforeOrEmpty}
use Rattle.gate_log.proofs.Clearing.{first_torn, cut_torn}
use Rattle.gate_log.proofs.log.empty_file.Goals as goal

pub returns-in_err-write_durably-clause-any_moment : goal.returns-in_err-write_durably-clause-any_moment
returns-in_err-write_durably-clause-any_moment g c honest =
    let file = (g.S.Store.disk c.args.store.now).seen c.args.f in
    weaker c.args.f _ _ (IsBeforeOrEmpty file) _ (c.write_durably.ensures.any_moment honest) (first_torn file (c.requires.begins honest))

pub returns-clause-any_moment : goal.returns-clause-any_moment
returns-clause-any_moment g c honest =
    let file = (g.S.Store.disk c.args.store.now).seen c.args.f in
    let first = weaker c.args.f _ _ (IsBeforeOrEmpty file) _ (c.write_durably.ensures.any_moment honest) (first_torn file (c.requires.begins honest)) in
    and_then c.args.f _ _ _ (IsBeforeOrEmpty file) _ first (c.cut_durably.ensures.any_moment honest) (cut_torn file (c.requires.begins honest) _ (c.in_ok-write_durably.ensures.written honest).file)

pub returns-in_err-write_durably-clause-surely : goal.returns-in_err-write_durably-clause-surely
returns-in_err-write_durably-clause-surely g c m n more spares = cc ((c.in_err-write_durably.ensures.surely m (n + 2) (omega arith) spares).0)

pub returns-clause-surely : goal.returns-clause-surely
returns-clause-surely g c m n more spares =
    let first = c.in_ok-write_durably.ensures.surely m (n + 2) (omega arith) spares in
    c.cut_durably.ensures.surely (n + 2) n (omega arith) first.1
