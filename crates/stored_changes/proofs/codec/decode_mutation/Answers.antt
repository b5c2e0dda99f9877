use Rattle.std.proofs.Common.{arith}
use Rattle.stored_fields.proofs.Laws.{found, found_fits, only}
use Rattle.stored_changes.specs.Grammar.{IsMutation}
use Rattle.stored_changes.specs.Reading.{mutation_at}
use Rattle.stored_changes.specs.Spelling.{mutation, MutationFits, MutationHasWord}
use Rattle.stored_changes.proofs.Spelled.{mutation_spells}
use Rattle.stored_changes.proofs.Words.{mutation_agrees}
use Rattle.stored_changes.proofs.codec.decode_mutation.Goals as goal

pub returns-clause-found : goal.returns-clause-found
returns-clause-found c = found mutation_at IsMutation mutation_agrees c.args.bytes.now c.mutation_of.result c.mutation_of.ensures

pub returns-clause-only : goal.returns-clause-only
returns-clause-only c = only mutation_at IsMutation mutation_agrees c.args.bytes.now c.mutation_of.result c.mutation_of.ensures

pub returns-clause-fits : goal.returns-clause-fits
returns-clause-fits c =
    found_fits mutation_at IsMutation mutation MutationHasWord MutationFits mutation_agrees mutation_spells (λ x has. has.0) c.args.bytes.now c.mutation_of.result (λ i. omega (arith, c.type_inv.bytes i)) c.mutation_of.ensures
