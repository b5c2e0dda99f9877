use Rattle.std.proofs.Common.{rules, subst, List}
use Rattle.std.specs.List.Sorted.{IsPermutation}
use Rattle.std.specs.Ordering.{is_lt}
use Rattle.std.proofs.lemmas.Fn.{dedup_same}
use Rattle.std.proofs.lemmas.List.Sorted.{answers_always, ranks_by}
use Rattle.changes.specs.declared.Held.{Held}
use Rattle.changes.specs.Places.{stored_cmp}
use Rattle.changes.proofs.Places.{stored_total}
use Rattle.cell_merge.proofs.MergeLaws.{is_beside, one_ordered, one_has_all}
use Rattle.cell_merge.proofs.lists.in_one.Goals as goal

pub returns-clause-ordered : goal.returns-clause-ordered
returns-clause-ordered c =
    let up = c.in_ok-sort_by.ensures.sorted (λ x y. is_lt (stored_cmp x y)) (ranks_by stored_total (λ (x : Held). x)) (answers_always _ _ _ (λ f a r g h. search rules)) in
    one_ordered c.sort_by.new.self.items c.dedup_by.new.self.items up (dedup_same _ is_beside _ (λ x y b f x' y' h. search rules) _ _ c.dedup_by.ensures.filtered)

pub returns-clause-all : goal.returns-clause-all
returns-clause-all c =
    let moved = subst (λ (l : List Held). IsPermutation l c.sort_by.new.self.items) c.in_ok-append.ensures.items c.sort_by.ensures.permutation in
    one_has_all c.args.first.items c.args.second.items c.sort_by.new.self.items c.dedup_by.new.self.items c.requires moved (dedup_same _ is_beside _ (λ x y b f x' y' h. search rules) _ _ c.dedup_by.ensures.filtered)
