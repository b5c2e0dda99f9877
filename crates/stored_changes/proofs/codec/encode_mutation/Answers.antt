use Rattle.std.proofs.Common.{◌∙◌, ap, length}
use Rattle.stored_fields.proofs.Laws.{is_whole_word}
use Rattle.stored_changes.specs.Grammar.{IsMutation}
use Rattle.stored_changes.specs.Spelling.{mutation, MutationHasWord}
use Rattle.stored_changes.proofs.Spelled.{mutation_spells}
use Rattle.stored_changes.proofs.Lengths.{length-mutation}
use Rattle.stored_changes.proofs.codec.encode_mutation.Goals as goal

pub returns-clause-word : goal.returns-clause-word
returns-clause-word c =
    is_whole_word IsMutation mutation MutationHasWord mutation_spells _ c.args.mutation.now c.in_ok-spelled.ensures.written (c.requires, c.in_ok-spelled.ensures.in_range)

pub returns-clause-long : goal.returns-clause-long
returns-clause-long c = ap length c.in_ok-spelled.ensures.written ∙ length-mutation c.args.mutation.now
