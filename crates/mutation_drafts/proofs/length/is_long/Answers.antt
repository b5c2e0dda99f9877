use Rattle.std.proofs.Common.{sym, ◌∙◌}
use Rattle.std.proofs.lemmas.Bool.{OnFalse_from, ltb-false}
use Rattle.mutation_drafts.specs.Counted.{counted_length, most_mutation_bytes}
use Rattle.mutation_drafts.proofs.CountedLaws.{fits_always}
use Rattle.mutation_drafts.proofs.length.is_long.Goals as goal

pub returns-clause-fits : goal.returns-clause-fits
returns-clause-fits c =
    OnFalse_from _ _ (λ short. fits_always c.args.mutation.now (ltb-false most_mutation_bytes (counted_length c.args.mutation.now) (sym c.is_long_at_last.ensures ∙ short)))
