use Rattle.std.proofs.Common.{ℕ, List, sym, subst}
use Rattle.cs_store.specs.Disk.{Only, may_leave}
use Rattle.cs_store.specs.Mem.{disk_of}
use Rattle.storage_tests.proofs.commit_logs.put.Goals as goal

pub returns : goal.returns
returns c =
    subst (λ (l : List ℕ). Only l (may_leave (disk_of c.sync.new.self) c.args.f)) (sym (c.in_ok-sync.ensures.same tt c.args.f)) (c.in_ok-sync.ensures.durable tt)
