use Rattle.std.proofs.Common.{List, Some, sym, subst}
use Rattle.client_desk.specs.Asks.{Asked, IsAwaited, Collects}
use Rattle.serve_loop.proofs.asking.collect.Goals as goal

pub look-requires : goal.look-requires
look-requires g c = subst (λ (asks : List Asked). IsAwaited asks c.args.request) (sym c.loop.invariant.asks) c.requires.request

pub returns-in-Some-look-clause-collects : goal.returns-in-Some-look-clause-collects
returns-in-Some-look-clause-collects g c =
    subst (λ (asks : List Asked). Collects asks c.args.request (Some c.in-Some-look.answer) (g.D.Desk.asks c.look.new.desk)) c.loop.invariant.asks c.in-Some-look.ensures.collects
