use Rattle.std.proofs.Common.{rules}
use Rattle.std.specs.Ordering.{is_eq, is_lt}
use Rattle.std.proofs.lemmas.Fn.{dedup_same}
use Rattle.std.proofs.lemmas.List.Sorted.{answers_always, ranks_by}
use Rattle.changes.specs.declared.Draft.{Draft}
use Rattle.mutation_drafts.specs.Kept.{draft_order, sorting_cmp}
use Rattle.mutation_drafts.proofs.KeptLaws.{kept_is, sorting_total}
use Rattle.mutation_drafts.proofs.keeping.sorted_best.Goals as goal

pub returns : goal.returns
returns c =
    let up = c.sort_unstable_by.ensures.sorted (λ x y. is_lt (sorting_cmp x y)) (ranks_by sorting_total (λ (d : Draft). d)) (answers_always _ _ _ (λ f a r g h. search rules)) in
    let firsts = dedup_same _ (λ x y. is_eq (draft_order x y)) _ (λ x y b f x' y' h. search rules) _ _ c.dedup_by.ensures.filtered in
    kept_is c.args.drafts.items c.sort_unstable_by.new.self.items c.dedup_by.new.self.items c.sort_unstable_by.ensures.permutation up firsts
