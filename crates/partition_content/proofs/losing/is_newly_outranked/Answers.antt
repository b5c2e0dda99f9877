use Rattle.std.proofs.lemmas.Bool.{both_ways}
use Rattle.changes.specs.Order.{Outranks}
use Rattle.cell_merge.specs.Parts.{IsOutrankedBy}
use Rattle.partition_content.proofs.LossLemmas.{newly_told}
use Rattle.partition_content.proofs.losing.is_newly_outranked.Goals as goal

pub returns-then-outranks : goal.returns-then-outranks
returns-then-outranks c =
    newly_told (Outranks c.args.x.now c.args.there.now) (IsOutrankedBy c.args.others.now c.args.there.now) c.outrank.result (c.outranks.ensures.0 c.if-outranks.true) c.outrank.ensures

pub returns-else-outranks : goal.returns-else-outranks
returns-else-outranks c = (λ t. absurd (both_ways c.outranks.result c.if-outranks.false t), λ k. c.outranks.ensures.1 k.0)
