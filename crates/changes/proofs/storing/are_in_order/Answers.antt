use Rattle.std.proofs.Common.{rules}
use Rattle.std.specs.Ordering.{is_lt}
use Rattle.std.proofs.lemmas.List.Sorted.{answers_always}
use Rattle.changes.specs.Places.{stored_cmp}
use Rattle.changes.proofs.Places.{stored_total}
use Rattle.changes.proofs.Sorted.{sorted_by_steps}
use Rattle.changes.proofs.storing.are_in_order.Goals as goal

pub returns : goal.returns
returns c = sorted_by_steps stored_total c.args.changes.now c.is_sorted_by.result (c.is_sorted_by.ensures.cases (λ x y. is_lt (stored_cmp x y)) (answers_always _ _ _ (λ f a r g h. search rules)))
