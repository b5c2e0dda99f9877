use Rattle.std.proofs.Common.{ap, sym, ◌∙◌, subst, List}
use Rattle.std.specs.Prelude.{slice_get, Option}
use Rattle.peer_messages.specs.declared.chronicle.Entry.{Entry}
use Rattle.chronicle_pieces.specs.declared.piece.Piece.{Piece}
use Rattle.chronicle_print.specs.Printing.{own_at, TakesAll}
use Rattle.chronicle_print.proofs.PrinterLaws.{takes_stepped}
use Rattle.chronicle_print.proofs.printer.Printer.take_stepped.Goals as goal

pub take_own-requires : goal.take_own-requires
take_own-requires c = λ index. ap (λ (o : Option Piece). own_at o index) c.requires ∙ ap (λ (es : List Entry). slice_get es index) (sym c.as_slice.ensures)

pub returns : goal.returns
returns c =
    takes_stepped c.args.tables.now c.args.pieces.now c.args.step.now c.args.self.now c.start.new.self c.take_own.new.self c.end_step.new.self c.in_ok-start.ensures
    (subst (λ (es : List Entry). TakesAll c.args.tables.now c.args.pieces.now es c.start.new.self c.take_own.new.self) c.as_slice.ensures c.in_ok-take_own.ensures) c.in_ok-end_step.ensures
