use Rattle.std.proofs.Common.{◌∙◌, ◌++◌, ap, List, Option}
use Rattle.std.specs.Map.{keys_of}
use Rattle.changes.specs.declared.Held.{Held}
use Rattle.partition_content.specs.declared.spots.Spot.{Spot}
use Rattle.partition_content.specs.Partition.{place_of_keys}
use Rattle.partition_content.specs.Slots.{helds_in}
use Rattle.partition_content.proofs.SweepLemmas.{inside_row, row_goes_on}
use Rattle.partition_content.proofs.inside.copy_row.Goals as goal

pub in_row-requires : goal.in_row-requires
in_row-requires c = row_goes_on c.args.own.now (place_of_keys c.args.own.now) c.args.end.now c.requires.keys c.requires.span

pub returns : goal.returns
returns c =
    inside_row c.args.own.now (place_of_keys c.args.own.now) c.args.end.now (helds_in c.args.slots.now.entries) c.args.onto.now.items c.copy_keys.new.onto.items c.requires.keys c.requires.span
    (c.in_ok-copy_keys.ensures ∙ ap (λ (l : List (Spot × Option Held)). c.args.onto.now.items ++ keys_of l) c.in_row.ensures)
