use Rattle.std.proofs.Common.{sym, ◌∙◌}
use Rattle.mutation_drafts.proofs.CountedLaws.{few_are_not_long}
use Rattle.mutation_drafts.proofs.length.is_long_at_last.Goals as goal

pub returns-else-are_many : goal.returns-else-are_many
returns-else-are_many c = c.if-are_many.false ∙ sym (few_are_not_long c.args.mutation.now (sym c.are_many.ensures ∙ c.if-are_many.false))
