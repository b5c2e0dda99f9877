use Rattle.std.proofs.Common.{codes, decimal, ◌++◌}
use Rattle.served_console.proofs.WriteLaws.{on_err, on_err_more, part_of_first, part_of_second}
use Rattle.served_console.proofs.writing.write_tables.Goals as goal

pub returns-in_err-write_all-clause-err : goal.returns-in_err-write_all-clause-err
returns-in_err-write_all-clause-err g c =
    on_err c.from_residual.result _ (part_of_first (g.T.Sink.contents c.args.sink.now) (g.T.Sink.contents c.write_all.new.sink) (codes "tables ") (decimal c.args.tables ++ codes "\n") c.in_err-write_all.ensures.err)

pub returns-in_err-write_number-clause-err : goal.returns-in_err-write_number-clause-err
returns-in_err-write_number-clause-err g c =
    on_err c.from_residual-in_err-write_number.result _
    (part_of_second (g.T.Sink.contents c.args.sink.now) (g.T.Sink.contents c.write_all.new.sink) (g.T.Sink.contents c.write_number.new.sink) (codes "tables ") (decimal c.args.tables ++ codes "\n")
    c.in_ok-write_all.ensures.ok
    (part_of_first (g.T.Sink.contents c.write_all.new.sink) (g.T.Sink.contents c.write_number.new.sink) (decimal c.args.tables) (codes "\n") c.in_err-write_number.ensures.err))

pub returns-clause-err : goal.returns-clause-err
returns-clause-err g c =
    on_err_more c.write_all-2.result _ _
    (λ part.
    part_of_second (g.T.Sink.contents c.args.sink.now) (g.T.Sink.contents c.write_all.new.sink) (g.T.Sink.contents c.write_all-2.new.sink) (codes "tables ") (decimal c.args.tables ++ codes "\n")
    c.in_ok-write_all.ensures.ok
    (part_of_second (g.T.Sink.contents c.write_all.new.sink) (g.T.Sink.contents c.write_number.new.sink) (g.T.Sink.contents c.write_all-2.new.sink) (decimal c.args.tables) (codes "\n") c.in_ok-write_number.ensures.ok part))
    c.write_all-2.ensures.err
