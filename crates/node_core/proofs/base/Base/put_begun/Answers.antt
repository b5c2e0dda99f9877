use Rattle.node_core.proofs.Requests.{write_undone}
use Rattle.node_core.proofs.base.Base.put_begun.Goals as goal

pub returns-in-Err-clause-err : goal.returns-in-Err-clause-err
returns-in-Err-clause-err c =
    write_undone c.args.self.now c.begin_write.new.self c.undo_write.new.self c.begin.new.requests.entries c.args.request c.args.write.now c.begin_write.new.slot c.in_ok-began.began c.requires.write c.in_ok-began.ensures.rest c.in_ok-began.ensures.known
    c.in-Err.ensures.err c.undo_write.ensures.known
