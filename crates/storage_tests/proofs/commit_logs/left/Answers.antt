use Rattle.std.proofs.Common.{ℕ, sym, subst}
use Rattle.cs_store.specs.Disk.{IsSettled}
use Rattle.cs_store.specs.Mem.{disk_of}
use Rattle.storage_tests.proofs.commit_logs.left.Goals as goal

pub load-requires : goal.load-requires
load-requires c = c.crash.ensures.settled c.args.f

pub returns-clause-settled : goal.returns-clause-settled
returns-clause-settled c = subst (λ (k : ℕ). IsSettled k (disk_of c.load.new.store)) (sym c.in_ok-load.ensures.file) c.in_ok-load.ensures.settled
