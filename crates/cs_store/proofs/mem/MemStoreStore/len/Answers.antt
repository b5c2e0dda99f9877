use Rattle.cs_store.proofs.Calls.{passes_from}
use Rattle.cs_store.proofs.mem.MemStoreStore.len.Goals as goal

pub returns-in_err-end-clause-crash : goal.returns-in_err-end-clause-crash
returns-in_err-end-clause-crash c honest = passes_from _ _ c.args.self.now c.begin.new.self _ c.begin.ensures.disk (c.end.ensures.crash c.args.f)
