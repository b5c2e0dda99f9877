use Rattle.cs_store.proofs.Calls.{disk_from}
use Rattle.std.proofs.Common.{subst, sym}
use Rattle.cs_store.specs.Disk.{Disk, Stays, Passes}
use Rattle.cs_store.specs.Mem.{disk_of}
use Rattle.cs_store.proofs.mem.MemStore.end.Goals as goal

pub returns-in-Some-clause-crash : goal.returns-in-Some-clause-crash
returns-in-Some-clause-crash c f = subst (λ (d : Disk). Passes f Stays (disk_of c.args.self.now) d) (sym (disk_from c.settle.new.self c.fail.new.self c.fail.ensures.disk)) (c.settle.ensures.crash f)
