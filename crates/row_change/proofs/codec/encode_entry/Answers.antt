use Rattle.std.proofs.Common.{◌∙◌, ap, length}
use Rattle.stored_fields.proofs.Laws.{is_whole_word}
use Rattle.row_change.specs.Grammar.{IsEntry}
use Rattle.row_change.specs.Spelling.{entry, EntryHasWord}
use Rattle.row_change.proofs.Spelled.{entry_spells}
use Rattle.row_change.proofs.Lengths.{length-entry}
use Rattle.row_change.proofs.codec.encode_entry.Goals as goal

pub returns-clause-word : goal.returns-clause-word
returns-clause-word c =
    is_whole_word IsEntry entry EntryHasWord entry_spells _ c.args.entry.now c.in_ok-spelled.ensures.written (c.requires, c.in_ok-spelled.ensures.in_range)

pub returns-clause-long : goal.returns-clause-long
returns-clause-long c = ap length c.in_ok-spelled.ensures.written ∙ length-entry c.args.entry.now c.in_ok-spelled.ensures.in_range
