use Rattle.std.proofs.Common.{◌≡◌, ◌<◌, ◌∙◌, length, ap, subst, arith}
use Rattle.cs_store.specs.Images.{written}
use Rattle.cs_store.specs.MemFile.{Content}
use Rattle.cs_store.specs.Past.{file_at, image_at}
use Rattle.cs_store.proofs.Calls.{item_is, item_becomes, becomes_passes, written_step}
use Rattle.cs_store.proofs.mem.MemStore.put.Goals as goal

pub returns-clause-files : goal.returns-clause-files
returns-clause-files c =
    let old = c.args.self.now.files.items in
    let were = c.note.new.self.files.items in
    let same : were ≡ old = ap (λ v. v.items) c.note.ensures.files in
    let at : c.from.result ≡ c.args.f = c.from.ensures ∙ c.number.ensures.value in
    let within : c.from.result < length were = omega (arith, c.number.ensures.within, c.from.ensures, c.note.new.self.whole, c.note.new.self.files.ok.0) in
    item_becomes c.args.f c.from.result (written c.args.at c.args.bytes.now) were old c.index_mut-file.result.now c.write_at.new.self at same within c.index_mut-file.ensures.value c.write_at.ensures.images

pub returns-clause-crash : goal.returns-clause-crash
returns-clause-crash c =
    let old = c.args.self.now.files.items in
    let were = c.note.new.self.files.items in
    let same : were ≡ old = ap (λ v. v.items) c.note.ensures.files in
    let at : c.from.result ≡ c.args.f = c.from.ensures ∙ c.number.ensures.value in
    let within : c.from.result < length were = omega (arith, c.number.ensures.within, c.from.ensures, c.note.new.self.whole, c.note.new.self.files.ok.0) in
    let item = c.index_mut-file.result.now in
    let becomes = item_becomes c.args.f c.from.result (written c.args.at c.args.bytes.now) were old item c.write_at.new.self at same within c.index_mut-file.ensures.value c.write_at.ensures.images in
    let is : item ≡ file_at old c.args.f = item_is were old c.from.result c.args.f item same at within c.index_mut-file.ensures.value in
    let size = subst (λ (x : Content). length x.images.torn ≡ length x.images.kept) is c.write_at.ensures.size in
    becomes_passes c.args.f _ (written c.args.at c.args.bytes.now) c.args.self.now.past.items c.note.new.self.past.items (c.args.self.now.files, tt) _ c.note.ensures.past becomes (written_step c.args.at c.args.bytes.now (image_at old c.args.f) c.requires.place size)
