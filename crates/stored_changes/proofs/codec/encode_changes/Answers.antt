use Rattle.std.proofs.Common.{◌∙◌, ap, length}
use Rattle.stored_fields.proofs.Laws.{is_whole_word}
use Rattle.stored_changes.specs.Grammar.{AreChanges}
use Rattle.stored_changes.specs.Spelling.{changes, ChangesHaveWord}
use Rattle.stored_changes.proofs.Spelled.{changes_spell}
use Rattle.stored_changes.proofs.Lengths.{length-changes}
use Rattle.stored_changes.proofs.codec.encode_changes.Goals as goal

pub returns-clause-word : goal.returns-clause-word
returns-clause-word c =
    is_whole_word AreChanges changes ChangesHaveWord changes_spell _ c.args.changes.now c.in_ok-spelled.ensures.written (c.requires, c.in_ok-spelled.ensures.in_range)

pub returns-clause-long : goal.returns-clause-long
returns-clause-long c = ap length c.in_ok-spelled.ensures.written ∙ length-changes c.args.changes.now
