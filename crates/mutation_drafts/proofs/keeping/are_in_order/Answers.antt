use Rattle.std.proofs.Common.{rules}
use Rattle.std.specs.Ordering.{is_lt}
use Rattle.std.proofs.lemmas.List.Sorted.{answers_always}
use Rattle.changes.proofs.Sorted.{sorted_by_steps}
use Rattle.mutation_drafts.specs.Kept.{draft_order}
use Rattle.mutation_drafts.proofs.KeptLaws.{order_total}
use Rattle.mutation_drafts.proofs.keeping.are_in_order.Goals as goal

pub returns : goal.returns
returns c = sorted_by_steps order_total c.args.drafts.now c.is_sorted_by.result (c.is_sorted_by.ensures.cases (λ x y. is_lt (draft_order x y)) (answers_always _ _ _ (λ f a r g h. search rules)))
