use Rattle.std.proofs.Common.{◌≡◌, ◌<◌, ◌∙◌, inl, inr, ℕ, length, set, ap, sym, arith}
use Rattle.std.proofs.lemmas.Bool.{cases_eq}
use Rattle.std.proofs.lemmas.List.{get_or-set_same, get_or-set_other, get_or_read}
use Rattle.cs_store.specs.MemFile.{Content, nothing}
use Rattle.cs_store.specs.Past.{file_at, image_at}
use Rattle.cs_store.proofs.Calls.{same_passes}
use Rattle.cs_store.proofs.mem.MemStoreStore.reserve.Goals as goal

pub returns-clause-crash : goal.returns-clause-crash
returns-clause-crash c honest =
    let old = c.args.self.now.files.items in
    let place = c.from.result in
    let item = c.index_mut-file.result.now in
    let x = c.reserve.new.self in
    let within : place < length old = omega (arith, c.number.ensures.within, c.from.ensures, c.args.self.now.whole, c.args.self.now.files.ok.0) in
    let was : item ≡ file_at old place = get_or_read old place item within c.index_mut-file.ensures.value nothing in
    same_passes c.args.f _ c.args.self.now.past.items old (set old place x) (λ k. elim (cases_eq k place) [
      | inl at ↦
          ap (λ (j : ℕ). image_at (set old place x) j) at ∙ ap (λ (y : Content). y.images) (get_or-set_same old place x nothing within) ∙ c.reserve.ensures.images
          ∙ ap (λ (y : Content). y.images) was ∙ ap (λ (j : ℕ). image_at old j) (sym at)
      | inr other ↦ ap (λ (y : Content). y.images) (get_or-set_other old place k x nothing other)
    ])
