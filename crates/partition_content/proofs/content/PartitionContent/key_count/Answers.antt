use Rattle.std.proofs.Common.{◌≤◌, length, subst, arith}
use Rattle.partition_content.specs.Partition.{Partition}
use Rattle.partition_content.specs.Slots.{stored_of}
use Rattle.partition_content.proofs.HeldLemmas.{stored_most}
use Rattle.partition_content.proofs.content.PartitionContent.key_count.Goals as goal

pub returns : goal.returns
returns c =
    let count = c.len.ensures.len in
    let most = stored_most c.self.inside.slots.entries in
    subst (λ (p : Partition). length p.stored ≤ c.len.result) c.self.view_is (let e : length (stored_of c.self.inside.slots.entries) ≤ c.len.result = omega (arith, count, most) in e)
