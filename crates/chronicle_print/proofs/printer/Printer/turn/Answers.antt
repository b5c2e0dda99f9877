use Rattle.chronicle_print.proofs.printer.Printer.turn.Goals as goal

pub returns : goal.returns
returns c = (c.ask.new.self, c.in_ok-ask.ensures, c.in_ok-refuse_last.ensures)
