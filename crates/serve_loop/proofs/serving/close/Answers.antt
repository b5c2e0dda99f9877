use Rattle.std.proofs.Common.{refl}
use Rattle.serve_loop.proofs.ResponseLaws.{closed_untold}
use Rattle.serve_loop.proofs.serving.close.Goals as goal

pub returns-in-Err-clause-closes : goal.returns-in-Err-clause-closes
returns-in-Err-clause-closes g c = closed_untold c.args.fault.now (g.L.Link.written c.args.link.now) (g.L.Link.written c.args.link.now) refl
