use Rattle.std.proofs.Common.{◌∙◌, ◌++◌, ap, List, Option}
use Rattle.std.specs.Map.{keys_of}
use Rattle.std.specs.BTreeMap.Range.{entries_between}
use Rattle.std.specs.declared.ops.Bound.TheVariants.{Excluded}
use Rattle.changes.specs.declared.Held.{Held}
use Rattle.partition_content.specs.declared.spots.Spot.{Spot}
use Rattle.partition_content.specs.Spots.{spot_cmp}
use Rattle.partition_content.specs.Slots.{helds_in}
use Rattle.partition_content.proofs.SweepLemmas.{added_keys}
use Rattle.partition_content.proofs.inside.copy_ahead.Goals as goal

pub returns : goal.returns
returns c =
    added_keys c.args.onto.now.items (keys_of (entries_between spot_cmp (Excluded c.args.from.now) (Excluded c.args.upto.now) (helds_in c.args.slots.now.entries))) c.copy_keys.new.onto.items
    (c.in_ok-copy_keys.ensures ∙ ap (λ (l : List (Spot × Option Held)). c.args.onto.now.items ++ keys_of l) c.between.ensures)
