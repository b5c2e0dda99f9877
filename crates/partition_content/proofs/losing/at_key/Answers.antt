use Rattle.std.proofs.Common.{◌∙◌, ap, rules}
use Rattle.std.specs.Ordering.{is_gt}
use Rattle.std.proofs.lemmas.Cmp.{tied_itself}
use Rattle.partition_content.specs.SpotLaws.{spot_total}
use Rattle.std.specs.BTreeMap.Range.{range_contains}
use Rattle.std.specs.declared.ops.Bound.TheVariants.{Included}
use Rattle.partition_content.specs.Spots.{spot_cmp}
use Rattle.partition_content.specs.Slots.{helds_in}
use Rattle.partition_content.proofs.HeldLemmas.{helds-filter}
use Rattle.partition_content.proofs.losing.at_key.Goals as goal

pub returns : goal.returns
returns c = ap helds_in (c.range.ensures.between (search rules)) ∙ helds-filter (λ s. range_contains spot_cmp (Included c.args.at.now) (Included c.args.at.now) s) c.args.slots.now.entries

pub range-requires : goal.range-requires
range-requires c = ap is_gt (tied_itself spot_total c.args.at.now)
