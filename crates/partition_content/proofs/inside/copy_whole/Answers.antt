use Rattle.std.proofs.Common.{◌∙◌, ◌++◌, ap, List, Option}
use Rattle.std.specs.Map.{keys_of}
use Rattle.changes.specs.declared.Held.{Held}
use Rattle.partition_content.specs.declared.spots.Spot.{Spot}
use Rattle.partition_content.specs.Partition.{place_of_keys}
use Rattle.partition_content.specs.Slots.{helds_in, helds_of, spots_in}
use Rattle.partition_content.proofs.SweepLemmas.{inside_whole}
use Rattle.partition_content.proofs.inside.copy_whole.Goals as goal

pub returns : goal.returns
returns c =
    inside_whole (place_of_keys c.args.own.now) (spots_in (helds_of c.args.slots.now)) c.args.onto.now.items c.copy_keys.new.onto.items
    (c.in_ok-copy_keys.ensures ∙ ap (λ (l : List (Spot × Option Held)). c.args.onto.now.items ++ keys_of l) (ap helds_in c.whole.ensures))
