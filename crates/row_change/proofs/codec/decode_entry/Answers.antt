use Rattle.std.proofs.Common.{arith}
use Rattle.stored_fields.proofs.Laws.{found, found_fits, only}
use Rattle.row_change.specs.Grammar.{IsEntry}
use Rattle.row_change.specs.Reading.{entry_at}
use Rattle.row_change.specs.Spelling.{entry, EntryFits, EntryHasWord}
use Rattle.row_change.proofs.Spelled.{entry_spells}
use Rattle.row_change.proofs.Words.{entry_agrees}
use Rattle.row_change.proofs.codec.decode_entry.Goals as goal

pub returns-clause-found : goal.returns-clause-found
returns-clause-found c = found entry_at IsEntry entry_agrees c.args.bytes.now c.entry_of.result c.entry_of.ensures

pub returns-clause-only : goal.returns-clause-only
returns-clause-only c = only entry_at IsEntry entry_agrees c.args.bytes.now c.entry_of.result c.entry_of.ensures

pub returns-clause-fits : goal.returns-clause-fits
returns-clause-fits c =
    found_fits entry_at IsEntry entry EntryHasWord EntryFits entry_agrees entry_spells (λ x has. has.0) c.args.bytes.now c.entry_of.result (λ i. omega (arith, c.type_inv.bytes i)) c.entry_of.ensures
