use Rattle.std.proofs.Common.{sym, ◌∙◌}
use Rattle.partition_content.proofs.MemoryLemmas.{all_narrow}
use Rattle.partition_content.proofs.lengths.length_with.Goals as goal

pub length_with_cells-requires-clause-narrow : goal.length_with_cells-requires-clause-narrow
length_with_cells-requires-clause-narrow c = all_narrow c.args.changes.now (sym c.are_narrow.ensures ∙ c.if-are_narrow.true)
