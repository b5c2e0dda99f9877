use Rattle.std.proofs.Common.{◌≡◌, ◌<◌, ◌++◌, length, sym, subst, ap, ◌∙◌, take, reverse, List, arith, refl}
use Rattle.std.proofs.lemmas.List.{take_all}
use Rattle.std.proofs.lemmas.Option.{slice_get_read}
use Rattle.std.specs.Prelude.{slice_get, Some}
use Rattle.peer_messages.specs.declared.chronicle.Entry.{Entry}
use Rattle.chronicle_print.specs.declared.requests.Place.{Place}
use Rattle.chronicle_print.specs.Printing.{entry_at, HasPrinted, TakesAll}
use Rattle.chronicle_print.proofs.PrinterLaws.{has_printed_on}
use Rattle.chronicle_print.proofs.Lists.{front_reversed}
use Rattle.chronicle_print.proofs.printer.Printer.take_own.Goals as goal

pub loop-entry-init : goal.loop-entry-init
loop-entry-init c = record { taken = λ earlier h. h; index = refl }

pub loop-entry-preserved : goal.loop-entry-preserved
loop-entry-preserved c =
    let tables = c.args.tables.now in
    let pieces = c.args.pieces.now in
    let entries = c.args.entries.now in
    let inv = c.loop-entry.invariant in
    let index = c.loop-entry.entry-index in
    let item = c.entry-item.result in
    let place : Place = record { piece = c.args.piece; index = c.loop-entry.index } in
    let within : index < length entries = omega (arith) in
    let here : slice_get entries index ≡ Some item = slice_get_read entries (length entries) index item refl within c.entry-item.is in
    let there : entry_at pieces place ≡ Some item = c.requires c.loop-entry.index ∙ ap (slice_get entries) inv.index ∙ here in
    record {
      taken = λ earlier h.
          subst (λ (es : List Entry). HasPrinted tables pieces es c.take.new.self) (sym (ap (λ (es : List Entry). es ++ earlier) (front_reversed entries index item within c.entry-item.is)))
          (has_printed_on tables pieces place (reverse (take index entries) ++ earlier) item c.loop-entry.self c.take.new.self there c.in_ok-take.ensures (inv.taken earlier h));
      index = let same = inv.index in omega (arith, same);
    }

pub returns : goal.returns
returns c =
    subst (λ (es : List Entry). TakesAll c.args.tables.now c.args.pieces.now es c.args.self.now c.loop-entry.self) (take_all c.loop-entry.entry-index c.args.entries.now c.loop-entry-test.false) c.loop-entry.invariant.taken
