use Rattle.std.proofs.Common.{ap, arith}
use Rattle.changes.specs.Lengths.{changes_length}
use Rattle.partition_content.specs.Partition.{changes_in}
use Rattle.list_replica.proofs.Bounds.{merged_most}
use Rattle.list_replica.proofs.contents.stays_within.Goals as goal

pub returns-then-most-le-MAX_CONTENT-clause-within : goal.returns-then-most-le-MAX_CONTENT-clause-within
returns-then-most-le-MAX_CONTENT-clause-within c told merged content ordered =
    let most = merged_most merged (changes_in c.args.content.now) c.args.changes.now content ordered in
    let held = c.encoded_length.ensures.length in
    let come = c.encoded_length-2.ensures in
    let same = ap changes_length c.as_slice.ensures.value in
    let sum = c.saturating_add-most.ensures in
    let small = c.if-most-le-MAX_CONTENT.true in omega (arith, most, held, come, same, sum, small)
