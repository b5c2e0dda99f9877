use Rattle.std.proofs.Common.{◌≡◌, take, reverse}
use Rattle.chronicle_pieces.specs.Pieces.{joined}
use Rattle.chronicle_print.specs.Printing.{HasPrinted}
use Rattle.chronicle_print.proofs.printer.print_chronicle.Given as goal

abbrev pub invariant-loop-piece : goal.invariant-loop-piece
invariant-loop-piece l = record {
  printed : HasPrinted l.tables l.pieces (reverse (joined (take l.piece-index l.pieces))) l.printer;
  number : l.number ≡ l.piece-index;
}
