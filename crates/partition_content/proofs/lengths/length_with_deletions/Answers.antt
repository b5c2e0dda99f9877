use Rattle.std.proofs.Common.{arith}
use Rattle.partition_content.specs.Slots.{changes_of, helds_in}
use Rattle.partition_content.proofs.PartLemmas.{parts_length}
use Rattle.partition_content.proofs.lengths.length_with_deletions.Goals as goal

pub kept_length-kept-requires-clause-keys : goal.kept_length-kept-requires-clause-keys
kept_length-kept-requires-clause-keys c = (c.args.bare, c.requires.keys)

pub returns : goal.returns
returns c =
    let empty = c.encoded_length.ensures in
    parts_length (changes_of (helds_in c.args.slots.now.entries)) c.args.changes.now c.kept_length-kept.result c.gained_length-gained.result _ c.requires.good.apart c.requires.apart c.kept_length-kept.ensures c.gained_length-gained.ensures (omega (arith, empty))
