use Rattle.stored_fields.proofs.Laws.{one_reading}
use Rattle.stored_changes.specs.Grammar.{AreChanges, IsMutation}
use Rattle.stored_changes.specs.Reading.{changes_at, mutation_at}
use Rattle.stored_changes.proofs.Words.{changes_agree, mutation_agrees}
use Rattle.row_change.specs.Grammar.{IsEntry}
use Rattle.row_change.specs.Reading.{entry_at}
use Rattle.row_change.proofs.Words.{entry_agrees}
use Rattle.row_change.proofs.laws.one_reading.Goals as goal

pub returns-clause-changes : goal.returns-clause-changes
returns-clause-changes c = one_reading changes_at AreChanges changes_agree

pub returns-clause-mutation : goal.returns-clause-mutation
returns-clause-mutation c = one_reading mutation_at IsMutation mutation_agrees

pub returns-clause-entry : goal.returns-clause-entry
returns-clause-entry c = one_reading entry_at IsEntry entry_agrees
