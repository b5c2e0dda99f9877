use Rattle.stored_changes.proofs.Lengths.{length-changes, length-mutation}
use Rattle.row_change.proofs.Lengths.{length-entry}
use Rattle.row_change.proofs.laws.encoding_has_its_length.Goals as goal

pub returns-clause-changes : goal.returns-clause-changes
returns-clause-changes c = length-changes

pub returns-clause-mutation : goal.returns-clause-mutation
returns-clause-mutation c = length-mutation

pub returns-clause-entry : goal.returns-clause-entry
returns-clause-entry c = length-entry
