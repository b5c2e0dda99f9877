use Rattle.std.proofs.Common.{◌∙◌, ap}
use Rattle.cs_store.specs.Past.{image_at}
use Rattle.cs_store.proofs.Calls.{passes_from, quiet_at}
use Rattle.cs_store.proofs.mem.MemStoreStore.sync.Goals as goal

pub returns-in-None-clause-durable : goal.returns-in-None-clause-durable
returns-in-None-clause-durable c honest d left =
    quiet_at c.settle_one.new.self.past.items c.settle_one.new.self.files.items c.args.f _ c.settle_one.ensures.files.file d left ∙ ap (λ v. (image_at v.items c.args.f).kept) c.begin.ensures.disk.0

pub returns-in_default-clause-crash : goal.returns-in_default-clause-crash
returns-in_default-clause-crash c honest = passes_from _ _ c.args.self.now c.begin.new.self _ c.begin.ensures.disk (c.end.ensures.crash c.args.f)
