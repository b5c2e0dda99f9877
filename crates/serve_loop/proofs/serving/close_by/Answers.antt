use Rattle.std.proofs.Common.{ap, Err}
use Rattle.serve_loop.proofs.ResponseLaws.{closed_untold}
use Rattle.serve_loop.proofs.serving.close_by.Goals as goal

pub returns-in-Err-Memory-clause-closes : goal.returns-in-Err-Memory-clause-closes
returns-in-Err-Memory-clause-closes g c =
    closed_untold c.args.fault.now (g.L.Link.written c.args.link.now) (g.L.Link.written c.send.new.link)
    (c.in-Err-Memory.ensures.memory (ap Err c.in-Err-Memory.field-0-is))
