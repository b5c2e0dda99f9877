use Rattle.cs_store.proofs.Calls.{passes_from}
use Rattle.cs_store.proofs.mem.MemStoreStore.read.Goals as goal

pub returns-clause-crash : goal.returns-clause-crash
returns-clause-crash c honest = passes_from _ _ c.args.self.now c.begin.new.self _ c.begin.ensures.disk (c.end.ensures.crash c.args.f)
