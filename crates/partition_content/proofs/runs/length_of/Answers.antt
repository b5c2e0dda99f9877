use Rattle.std.proofs.Common.{◌<◌, ◌∙◌, ap, arith, length, map, List}
use Rattle.std.proofs.lemmas.List.{take_all}
use Rattle.changes.specs.Lengths.{changes_length}
use Rattle.partition_content.specs.declared.Arrived.{Arrived}
use Rattle.partition_content.specs.Arrivals.{held_of}
use Rattle.partition_content.proofs.RunLemmas.{sum_more}
use Rattle.partition_content.proofs.runs.length_of.Goals as goal

pub loop-x-preserved : goal.loop-x-preserved
loop-x-preserved c =
    let below : c.loop-x.x-index < length c.args.run.now = omega arith in
    let more = sum_more c.args.run.now c.loop-x.x-index c.x-item.result below c.x-item.is in
    let was = c.loop-x.invariant in
    let now = c.in_ok-length.ensures in omega (arith, more, was, now)

pub returns : goal.returns
returns c = c.loop-x.invariant ∙ ap (λ (l : List Arrived). changes_length (map held_of l)) (take_all c.loop-x.x-index c.args.run.now (omega arith))
