use Rattle.std.proofs.Common.{ℕ, sym, subst}
use Rattle.cs_store.specs.Disk.{IsSettled}
use Rattle.cs_store.specs.Mem.{disk_of}
use Rattle.storage_tests.proofs.commit_logs.load.Goals as goal

pub cut-requires-clause-settled : goal.cut-requires-clause-settled
cut-requires-clause-settled c honest =
    subst (λ (k : ℕ). IsSettled k (disk_of c.read.new.store)) (sym c.in_ok-reading.ensures.file) (c.in_ok-reading.ensures.settled honest)

pub returns-clause-settled : goal.returns-clause-settled
returns-clause-settled c =
    subst (λ (k : ℕ). IsSettled k (disk_of c.cut.new.store)) c.in_ok-reading.ensures.file (c.in_ok-log.ensures.settled tt)
