use Rattle.std.proofs.Common.{take, map}
use Rattle.partition_content.specs.Inside.{AreInside}
use Rattle.partition_content.specs.Partition.{place_of_keys}
use Rattle.partition_content.specs.Slots.{helds_of, spots_in}
use Rattle.partition_content.proofs.inside.inside_each.Given as goal

abbrev pub invariant-loop-own : goal.invariant-loop-own
invariant-loop-own l = AreInside (spots_in (helds_of l.slots)) (map place_of_keys (take l.own-index l.keys)) l.all.items
