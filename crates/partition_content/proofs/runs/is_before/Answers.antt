use Rattle.std.proofs.Common.{◌∙◌, sym, map}
use Rattle.changes.proofs.Orderings.{less_is}
use Rattle.partition_content.specs.Arrivals.{held_of}
use Rattle.partition_content.proofs.RunLemmas.{all_before, last_of}
use Rattle.partition_content.proofs.runs.is_before.Goals as goal

pub returns-in-Some : goal.returns-in-Some
returns-in-Some c t =
    all_before (map held_of c.args.run.now) c.in-Some.last.now.held c.args.first.now c.requires (last_of c.args.run.now c.in-Some.last.now (sym c.in-Some.ensures.value)) (sym c.cmp.ensures ∙ less_is c.cmp.result (sym c.is_lt.ensures ∙ t))
