use Rattle.std.proofs.Common.{◌+◌, arith}
use Rattle.cs_store.specs.Disk.{Cut}
use Rattle.cs_store.proofs.Crashes.{first_call, call_more, cut_none}
use Rattle.cs_store.proofs.durable.cut_durably.Goals as goal

pub returns-in_err-cut-clause-any_moment : goal.returns-in_err-cut-clause-any_moment
returns-in_err-cut-clause-any_moment g c honest = first_call c.args.f _ _ (Cut c.args.len) (cut_none c.args.len _) (c.requires.settled honest) (c.cut.ensures.crash honest)

pub returns-clause-any_moment : goal.returns-clause-any_moment
returns-clause-any_moment g c honest =
    call_more c.args.f _ _ _ _ (first_call c.args.f _ _ (Cut c.args.len) (cut_none c.args.len _) (c.requires.settled honest) (c.cut.ensures.crash honest)) (c.sync.ensures.crash honest)

pub returns-in_err-cut-clause-surely : goal.returns-in_err-cut-clause-surely
returns-in_err-cut-clause-surely g c m n more spares = cc ((c.in_err-cut.ensures.surely m (n + 1) (omega arith) spares).0)

pub returns-clause-surely : goal.returns-clause-surely
returns-clause-surely g c m n more spares =
    let first = c.in_ok-cut.ensures.surely m (n + 1) (omega arith) spares in
    c.sync.ensures.surely (n + 1) n (omega arith) first.1
