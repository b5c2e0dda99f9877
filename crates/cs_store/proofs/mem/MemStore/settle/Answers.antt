use Rattle.std.proofs.Common.{◌≡◌, ℕ, List, ◌∙◌, ap}
use Rattle.std.proofs.lemmas.List.{with_items_is}
use Rattle.cs_store.specs.Images.{outcome_of, settled}
use Rattle.cs_store.specs.MemFile.{Content}
use Rattle.cs_store.specs.Past.{image_at}
use Rattle.cs_store.proofs.Calls.{all_settled_at}
use Rattle.cs_store.proofs.Pasts.{settled_left, settle_passes, named}
use Rattle.cs_store.proofs.mem.MemStore.settle.Goals as goal

pub returns-clause-crash : goal.returns-clause-crash
returns-clause-crash c f =
    let now = c.settle_each.new.files in
    let old = c.args.self.now.files.items in
    let were : c.deref_mut.result.now ≡ old = c.deref_mut.ensures.value ∙ ap (λ v. v.items) c.note.ensures.files in
    let each : (k : ℕ) → image_at now k ≡ settled c.args.outcome (image_at old k) = λ k. c.settle_each.ensures.images k ∙ ap (λ (files : List Content). settled c.args.outcome (image_at files k)) were in
    named f _ _ _ _ _ _ c.note.ensures.past (with_items_is c.note.new.self.files now (c.settle_each.auto.files ∙ c.deref_mut.ensures.len))
    (settle_passes f c.args.outcome c.args.self.now.past.items (c.args.self.now.files, tt) now each)

pub returns-clause-settled : goal.returns-clause-settled
returns-clause-settled c =
    let now = c.settle_each.new.files in
    let is = with_items_is c.note.new.self.files now (c.settle_each.auto.files ∙ c.deref_mut.ensures.len) in
    all_settled_at c.note.new.self.past.items _ (λ k. outcome_of c.args.outcome (image_at c.deref_mut.result.now k)) (λ k.
    ap (λ (files : List Content). image_at files k) is ∙ c.settle_each.ensures.images k)

pub returns-clause-left : goal.returns-clause-left
returns-clause-left c k =
    let old = c.args.self.now.files.items in
    let past = c.args.self.now.past.items in
    let now = c.settle_each.new.files in
    let were : c.deref_mut.result.now ≡ old = c.deref_mut.ensures.value ∙ ap (λ v. v.items) c.note.ensures.files in
    let is = with_items_is c.note.new.self.files now (c.settle_each.auto.files ∙ c.deref_mut.ensures.len) in
    let each = ap (λ (files : List Content). image_at files k) is ∙ c.settle_each.ensures.images k ∙ ap (λ (files : List Content). settled c.args.outcome (image_at files k)) were in
    settled_left c.args.outcome past old _ k each
