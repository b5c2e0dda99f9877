use Rattle.std.proofs.Common.{sym, subst, Option, IsTrue, ◌↔◌}
use Rattle.partition_content.specs.declared.Arrived.{Arrived}
use Rattle.partition_content.specs.Slots.{held_in, IsOutrankedAt}
use Rattle.partition_content.proofs.taking.is_outranked_in.Goals as goal

pub returns-in-Some : goal.returns-in-Some
returns-in-Some c = subst (λ (o : Option Arrived). IsTrue c.outranks.result ↔ IsOutrankedAt (held_in o) c.args.x.now) (sym c.in-Some.is) c.outranks.ensures
