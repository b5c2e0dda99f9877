use Rattle.std.proofs.Common.{List, subst}
use Rattle.std.specs.List.Sorted.{IsStrictlySortedBy}
use Rattle.changes.specs.declared.Draft.{Draft}
use Rattle.mutation_drafts.specs.Kept.{draft_order}
use Rattle.mutation_drafts.proofs.KeptLaws.{ordered_is_kept}
use Rattle.mutation_drafts.proofs.keeping.kept.Goals as goal

pub returns-then-are_in_order : goal.returns-then-are_in_order
returns-then-are_in_order c =
    ordered_is_kept c.args.drafts (subst (λ (l : List Draft). IsStrictlySortedBy draft_order l) c.as_slice.ensures (c.are_in_order.ensures.0 c.if-are_in_order.true))
