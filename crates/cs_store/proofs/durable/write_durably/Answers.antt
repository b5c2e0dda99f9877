use Rattle.std.proofs.Common.{◌+◌, length, arith}
use Rattle.cs_store.specs.Disk.{Torn}
use Rattle.cs_store.proofs.Crashes.{first_call, call_more, torn_none}
use Rattle.cs_store.proofs.durable.write_durably.Goals as goal

pub returns-in_err-write_at-clause-any_moment : goal.returns-in_err-write_at-clause-any_moment
returns-in_err-write_at-clause-any_moment g c honest = first_call c.args.f _ _ (Torn c.args.at (length c.args.bytes.now)) (torn_none c.args.at (length c.args.bytes.now) _) (c.requires.settled honest) (c.write_at.ensures.crash honest)

pub returns-clause-any_moment : goal.returns-clause-any_moment
returns-clause-any_moment g c honest =
    call_more c.args.f _ _ _ _ (first_call c.args.f _ _ (Torn c.args.at (length c.args.bytes.now)) (torn_none c.args.at (length c.args.bytes.now) _) (c.requires.settled honest) (c.write_at.ensures.crash honest)) (c.sync.ensures.crash honest)

pub returns-in_err-write_at-clause-surely : goal.returns-in_err-write_at-clause-surely
returns-in_err-write_at-clause-surely g c m n more spares = cc ((c.in_err-write_at.ensures.surely m (n + 1) (omega arith) spares).0)

pub returns-clause-surely : goal.returns-clause-surely
returns-clause-surely g c m n more spares =
    let first = c.in_ok-write_at.ensures.surely m (n + 1) (omega arith) spares in
    c.sync.ensures.surely (n + 1) n (omega arith) first.1
