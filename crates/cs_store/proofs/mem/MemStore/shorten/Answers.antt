use Rattle.std.proofs.Common.{◌≡◌, ◌<◌, ◌∙◌, length, ap, arith}
use Rattle.cs_store.specs.Images.{shortened}
use Rattle.cs_store.specs.Past.{image_at}
use Rattle.cs_store.proofs.Calls.{item_becomes, becomes_passes, cut_step}
use Rattle.cs_store.proofs.mem.MemStore.shorten.Goals as goal

pub returns-clause-files : goal.returns-clause-files
returns-clause-files c =
    let old = c.args.self.now.files.items in
    let were = c.note.new.self.files.items in
    let same : were ≡ old = ap (λ v. v.items) c.note.ensures.files in
    let at : c.from.result ≡ c.args.f = c.from.ensures ∙ c.number.ensures.value in
    let within : c.from.result < length were = omega (arith, c.number.ensures.within, c.from.ensures, c.note.new.self.whole, c.note.new.self.files.ok.0) in
    item_becomes c.args.f c.from.result (shortened c.args.len) were old c.index_mut-file.result.now c.cut.new.self at same within c.index_mut-file.ensures.value c.cut.ensures.images

pub returns-clause-crash : goal.returns-clause-crash
returns-clause-crash c =
    let old = c.args.self.now.files.items in
    let were = c.note.new.self.files.items in
    let same : were ≡ old = ap (λ v. v.items) c.note.ensures.files in
    let at : c.from.result ≡ c.args.f = c.from.ensures ∙ c.number.ensures.value in
    let within : c.from.result < length were = omega (arith, c.number.ensures.within, c.from.ensures, c.note.new.self.whole, c.note.new.self.files.ok.0) in
    let item = c.index_mut-file.result.now in
    let becomes = item_becomes c.args.f c.from.result (shortened c.args.len) were old item c.cut.new.self at same within c.index_mut-file.ensures.value c.cut.ensures.images in
    becomes_passes c.args.f _ (shortened c.args.len) c.args.self.now.past.items c.note.new.self.past.items (c.args.self.now.files, tt) _ c.note.ensures.past becomes (cut_step c.args.len (image_at old c.args.f))
