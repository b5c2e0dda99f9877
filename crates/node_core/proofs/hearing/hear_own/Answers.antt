use Rattle.std.proofs.Common.{refl}
use Rattle.node_core.specs.Hinting.{at}
use Rattle.node_core.proofs.hearing.hear_own.Goals as goal

pub returns-clause-ok : goal.returns-clause-ok
returns-clause-ok g c = record {
  given = c.in_ok-given.given;
  mid = at c.hear.new.work c.hear.new.hints.now;
  heard = c.in_ok-given.ensures.ok;
  sent = c.in_ok-give.ensures;
  hints = refl;
}
