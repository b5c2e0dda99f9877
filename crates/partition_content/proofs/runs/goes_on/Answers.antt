use Rattle.std.proofs.Common.{sym, map}
use Rattle.partition_content.specs.Arrivals.{held_of}
use Rattle.partition_content.proofs.RunLemmas.{in_order_behind, in_order_before_none}
use Rattle.partition_content.proofs.runs.goes_on.Goals as goal

pub returns-in-Some : goal.returns-in-Some
returns-in-Some c t =
    in_order_behind (map held_of c.args.run.now) c.args.changes.now c.in-Some.first.now c.requires.run c.requires.changes (sym c.in-Some.ensures.value) (c.is_before.ensures t)

pub returns-in-None : goal.returns-in-None
returns-in-None c t = in_order_before_none (map held_of c.args.run.now) c.args.changes.now c.requires.run (sym c.in-None.ensures.value)
