use Rattle.stored_fields.proofs.Laws.{encoding_undoes_decoding}
use Rattle.stored_changes.specs.Grammar.{AreChanges, IsMutation}
use Rattle.stored_changes.specs.Reading.{changes_at, mutation_at}
use Rattle.stored_changes.specs.Spelling.{changes, mutation, ChangesHaveWord, MutationHasWord}
use Rattle.stored_changes.proofs.Words.{changes_agree, mutation_agrees}
use Rattle.stored_changes.proofs.Spelled.{changes_spell, mutation_spells}
use Rattle.row_change.specs.Grammar.{IsEntry}
use Rattle.row_change.specs.Reading.{entry_at}
use Rattle.row_change.specs.Spelling.{entry, EntryHasWord}
use Rattle.row_change.proofs.Words.{entry_agrees}
use Rattle.row_change.proofs.Spelled.{entry_spells}
use Rattle.row_change.proofs.laws.encoding_undoes_decoding.Goals as goal

pub returns-clause-changes : goal.returns-clause-changes
returns-clause-changes c = encoding_undoes_decoding changes_at AreChanges changes ChangesHaveWord changes_agree changes_spell

pub returns-clause-mutation : goal.returns-clause-mutation
returns-clause-mutation c = encoding_undoes_decoding mutation_at IsMutation mutation MutationHasWord mutation_agrees mutation_spells

pub returns-clause-entry : goal.returns-clause-entry
returns-clause-entry c = encoding_undoes_decoding entry_at IsEntry entry EntryHasWord entry_agrees entry_spells
