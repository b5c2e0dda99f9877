use Rattle.std.proofs.Common.{◌<◌, length, sym, subst, ap, ◌∙◌, take, reverse, List, arith, refl}
use Rattle.std.specs.Prelude.{slice_get}
use Rattle.std.proofs.lemmas.Option.{slice_get_read}
use Rattle.peer_messages.specs.declared.chronicle.Entry.{Entry}
use Rattle.chronicle_pieces.specs.Pieces.{entries_of, joined}
use Rattle.chronicle_print.specs.Printing.{HasPrinted}
use Rattle.chronicle_print.proofs.PrinterLaws.{has_begun}
use Rattle.chronicle_print.proofs.Lists.{joined_reversed}
use Rattle.chronicle_print.proofs.printer.print_chronicle.Goals as goal

pub loop-piece-init : goal.loop-piece-init
loop-piece-init c = record { printed = has_begun c.args.tables.now c.args.pieces.now c.new-printer.result c.new-printer.ensures.requests c.new-printer.ensures.out; number = refl }

pub take_piece-requires : goal.take_piece-requires
take_piece-requires c =
    let pieces = c.args.pieces.now in
    let index = c.loop-piece.piece-index in
    let within : index < length pieces = omega (arith) in
    ap (slice_get pieces) c.loop-piece.invariant.number ∙ slice_get_read pieces (length pieces) index c.piece-item.result refl within c.piece-item.is

pub loop-piece-preserved : goal.loop-piece-preserved
loop-piece-preserved c =
    let pieces = c.args.pieces.now in
    let index = c.loop-piece.piece-index in
    let inv = c.loop-piece.invariant in
    let within : index < length pieces = omega (arith) in
    let before : List Entry = reverse (joined (take index pieces)) in
    record {
      printed =
          subst (λ (es : List Entry). HasPrinted c.args.tables.now pieces es c.take_piece.new.self) (sym (joined_reversed entries_of pieces index c.piece-item.result within c.piece-item.is))
          (c.in_ok-take_piece.ensures before inv.printed);
      number = let same = inv.number in omega (arith, same);
    }
