use Rattle.std.proofs.Common.{◌≡◌, ◌<◌, ◌∙◌, length, ap, arith}
use Rattle.cs_store.specs.Images.{settled}
use Rattle.cs_store.specs.declared.mem_file.Outcome.TheVariants.{Kept}
use Rattle.cs_store.specs.Past.{image_at}
use Rattle.cs_store.proofs.Calls.{item_becomes, becomes_passes, settled_step}
use Rattle.cs_store.proofs.mem.MemStore.settle_one.Goals as goal

pub returns-clause-files : goal.returns-clause-files
returns-clause-files c =
    let old = c.args.self.now.files.items in
    let were = c.note.new.self.files.items in
    let same : were ≡ old = ap (λ v. v.items) c.note.ensures.files in
    let at : c.from.result ≡ c.args.f = c.from.ensures ∙ c.number.ensures.value in
    let within : c.from.result < length were = omega (arith, c.number.ensures.within, c.from.ensures, c.note.new.self.whole, c.note.new.self.files.ok.0) in
    item_becomes c.args.f c.from.result (settled Kept) were old c.index_mut-file.result.now c.settle.new.self at same within c.index_mut-file.ensures.value c.settle.ensures.images

pub returns-clause-crash : goal.returns-clause-crash
returns-clause-crash c =
    let old = c.args.self.now.files.items in
    let were = c.note.new.self.files.items in
    let same : were ≡ old = ap (λ v. v.items) c.note.ensures.files in
    let at : c.from.result ≡ c.args.f = c.from.ensures ∙ c.number.ensures.value in
    let within : c.from.result < length were = omega (arith, c.number.ensures.within, c.from.ensures, c.note.new.self.whole, c.note.new.self.files.ok.0) in
    let item = c.index_mut-file.result.now in
    let becomes = item_becomes c.args.f c.from.result (settled Kept) were old item c.settle.new.self at same within c.index_mut-file.ensures.value c.settle.ensures.images in
    becomes_passes c.args.f _ (settled Kept) c.args.self.now.past.items c.note.new.self.past.items (c.args.self.now.files, tt) _ c.note.ensures.past becomes (settled_step Kept (image_at old c.args.f))
