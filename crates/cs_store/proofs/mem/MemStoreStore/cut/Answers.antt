use Rattle.cs_store.proofs.Calls.{call_passes}
use Rattle.cs_store.proofs.Crashes.{cut_none}
use Rattle.cs_store.proofs.mem.MemStoreStore.cut.Goals as goal

pub returns-clause-crash : goal.returns-clause-crash
returns-clause-crash c honest =
    call_passes _ _ c.args.self.now c.begin.new.self c.shorten.new.self c.end.new.self c.begin.ensures.disk c.shorten.ensures.crash (c.end.ensures.crash c.args.f) (λ d. cut_none _ d)
