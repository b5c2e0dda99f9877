use Rattle.std.proofs.Common.{◌≡◌, take}
use Rattle.chronicle_print.specs.Printing.{TakesAll}
use Rattle.chronicle_print.proofs.printer.Printer.take_own.Given as goal

abbrev pub invariant-loop-entry : goal.invariant-loop-entry
invariant-loop-entry l = record {
  taken : TakesAll l.tables l.pieces (take l.entry-index l.entries) l.fn.self l.self;
  index : l.index ≡ l.entry-index;
}
