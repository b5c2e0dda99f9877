use Rattle.std.proofs.Common.{rules}
use Rattle.std.specs.Ordering.{is_eq, is_lt}
use Rattle.std.proofs.lemmas.Fn.{dedup_same}
use Rattle.std.proofs.lemmas.List.Sorted.{answers_always, ranks_by}
use Rattle.changes.specs.declared.Held.{Held}
use Rattle.changes.specs.Places.{stored_cmp}
use Rattle.changes.specs.Tests.{storing_cmp}
use Rattle.changes.proofs.Best.{storing_total, sorted_is_best}
use Rattle.changes.proofs.storing.sorted_best.Goals as goal

pub returns : goal.returns
returns c =
    let up = c.sort_unstable_by.ensures.sorted (λ x y. is_lt (storing_cmp x y)) (ranks_by storing_total (λ (x : Held). x)) (answers_always _ _ _ (λ f a r g h. search rules)) in
    let firsts = dedup_same _ (λ x y. is_eq (stored_cmp x y)) _ (λ x y b f x' y' h. search rules) _ _ c.dedup_by.ensures.filtered in
    sorted_is_best c.args.changes.items c.sort_unstable_by.new.self.items c.dedup_by.new.self.items c.sort_unstable_by.ensures.permutation up firsts
