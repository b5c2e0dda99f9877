use Rattle.std.proofs.Common.{arith}
use Rattle.stored_fields.proofs.Laws.{found, found_fits, only}
use Rattle.stored_changes.specs.Grammar.{AreChanges}
use Rattle.stored_changes.specs.Reading.{changes_at}
use Rattle.stored_changes.specs.Spelling.{changes, ChangesFit, ChangesHaveWord}
use Rattle.stored_changes.proofs.Spelled.{changes_spell}
use Rattle.stored_changes.proofs.Words.{changes_agree}
use Rattle.stored_changes.proofs.codec.decode_changes.Goals as goal

pub returns-clause-found : goal.returns-clause-found
returns-clause-found c = found changes_at AreChanges changes_agree c.args.bytes.now c.changes_of.result c.changes_of.ensures

pub returns-clause-only : goal.returns-clause-only
returns-clause-only c = only changes_at AreChanges changes_agree c.args.bytes.now c.changes_of.result c.changes_of.ensures

pub returns-clause-fits : goal.returns-clause-fits
returns-clause-fits c =
    found_fits changes_at AreChanges changes ChangesHaveWord ChangesFit changes_agree changes_spell (λ x has. has.0) c.args.bytes.now c.changes_of.result (λ i. omega (arith, c.type_inv.bytes i)) c.changes_of.ensures
