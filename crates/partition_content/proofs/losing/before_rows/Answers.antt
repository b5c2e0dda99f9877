use Rattle.std.proofs.Common.{◌∙◌, ap, rules}
use Rattle.std.specs.BTreeMap.Range.{range_contains, entries_between}
use Rattle.std.specs.declared.ops.Bound.TheVariants.{Excluded, Unbounded}
use Rattle.partition_content.specs.declared.spots.Spot.{Spot}
use Rattle.partition_content.specs.Spots.{spot_cmp}
use Rattle.partition_content.specs.Slots.{helds_in}
use Rattle.partition_content.proofs.HeldLemmas.{helds-filter}
use Rattle.partition_content.proofs.losing.before_rows.Goals as goal

pub returns : goal.returns
returns c =
    ap helds_in (c.range-walk.ensures.between (search rules)) ∙ helds-filter (λ s. range_contains spot_cmp Unbounded (Excluded c.first_row-rows.result) s) c.args.slots.now.entries
    ∙ ap (λ (s : Spot). entries_between spot_cmp Unbounded (Excluded s) (helds_in c.args.slots.now.entries)) c.first_row-rows.ensures
